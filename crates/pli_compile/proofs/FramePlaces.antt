-- What stands in a frame is apart.
use Rattle.std.proofs.Common.{◌≡◌, ◌<◌, ◌≤◌, ◌+◌, ◌*◌, ◌-◌, ℕ, zero, suc, min, pos, List, [], ◌∷◌, Some}
use Rattle.std.proofs.Common.{refl, sym, ap, ◌∙◌, subst, arith}
use Rattle.std.proofs.Math.IntN.{neg_ℤ-+ℤ, neg_ℤ-neg_ℤ, +ℤ-neg_ℤ_cancel}
use Rattle.std.specs.Prelude.{slice_get, neg_ℤ, ◌+ℤ◌}
use Rattle.pli_typing.specs.TypedTree as Y
use Rattle.pli_coding.specs.Expressions.{argument_words}
use Rattle.pli_coding.specs.Frames.{MemoryParts, argument_bytes, frame_bytes, last_place, variable_place}
use Rattle.pli_frames.specs.Parts.{parts}
use Rattle.pli_compile.specs.Stacks.{ListsMet, ParametersApart, PlacesApart}

-- (for any parts of memory: what areas take needn't be known)

-- a place that is counted is none before the first
behind : (p : MemoryParts) (ds : List Y.DeclaredVariable) (at j : ℕ) → variable_place p at ds j < last_place → at ≤ variable_place p at ds j
behind p [] at j below = omega arith
behind p (d ∷ ds) at zero below = omega arith
behind p (d ∷ ds) at (suc j) below =
    let further = behind p ds (min last_place (at + frame_bytes p d)) j below in
    grind (arith, further, below)

apart : (p : MemoryParts) (ds : List Y.DeclaredVariable) (at i j : ℕ) (d : Y.DeclaredVariable) → slice_get ds i ≡ Some d → i < j → variable_place p at ds j < last_place
    → variable_place p at ds i + frame_bytes p d ≤ variable_place p at ds j
apart p [] at i j d found before below = absurd (cc found)
apart p (e ∷ ds) at zero zero d found before below = absurd (omega (arith, before))
apart p (e ∷ ds) at (suc i) zero d found before below = absurd (omega (arith, before))
apart p (e ∷ ds) at zero (suc j) d found before below =
    let further = behind p ds (min last_place (at + frame_bytes p e)) j below in
    let own : at + frame_bytes p e ≤ variable_place p (min last_place (at + frame_bytes p e)) ds j = grind (arith, further, below) in
    let same : e ≡ d = cc found in
    subst (λ v. at + frame_bytes p v ≤ variable_place p (min last_place (at + frame_bytes p e)) ds j) same own
apart p (e ∷ ds) at (suc i) (suc j) d found before below =
    apart p ds (min last_place (at + frame_bytes p e)) i j d found (omega (arith, before)) below

pub places_apart : PlacesApart
places_apart = apart parts

pub parameters_apart : ParametersApart
parameters_apart level parameters n before = ((refl, omega (arith, before)), omega arith)

-- so many words further in the list
word_met : (place words n bytes : ℕ) → n < words → bytes ≡ 4 * n
    → neg_ℤ (pos (4 * (place + words))) +ℤ pos bytes ≡ neg_ℤ (pos (4 * (place + words - n)))
word_met place words n bytes within is =
    let left : ℕ = 4 * (place + words - n) in
    let whole : 4 * (place + words) ≡ left + bytes = omega (arith, within, is) in
    ap (λ m. neg_ℤ (pos m) +ℤ pos bytes) whole
    ∙ ap (λ z. z +ℤ pos bytes) (neg_ℤ-+ℤ (pos left) (pos bytes))
    ∙ ap (λ z. (neg_ℤ (pos left) +ℤ neg_ℤ (pos bytes)) +ℤ z) (sym (neg_ℤ-neg_ℤ (pos bytes)))
    ∙ +ℤ-neg_ℤ_cancel (neg_ℤ (pos left)) (neg_ℤ (pos bytes))

pub lists_met : ListsMet
lists_met l n word within =
    word_met l.place l.words (argument_words * n + word) (argument_bytes * n + 4 * word) within (omega arith)
