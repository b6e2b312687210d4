-- Drains only take more: where a write fails, they took all that was written before it.
use Rattle.std.proofs.Common.{◌≡◌, ◌<◌, ℕ, Bool, true, false, List, [], ◌∷◌, ◌++◌, length, drop, refl, sym, ap, subst}
use Rattle.std.proofs.Common.{◌∙◌, append-nil, append_assoc, lt_irrefl}
use Rattle.std.proofs.lemmas.List.{drop_at}
use Rattle.pli_edit.specs.Drained.{taken_since, output_of, Grows}
use Rattle.pli_edit.specs.Histories.{History}
use Rattle.pli_edit.specs.OutputStreams.{IsCut}

pub grows_none : (a : History) → Grows a a
grows_none a = ([], sym (append-nil a.bytes))

pub grows_then : (a b c : History) → Grows a b → Grows b c → Grows a c
grows_then a b c h k = (
  h.0 ++ k.0,
  k.1 ∙ (ap (λ l. l ++ k.0) h.1 ∙ append_assoc a.bytes h.0 k.0),
)

taken_more : (before a b : History) (more : List ℕ) → before.bytes ++ taken_since before a ≡ a.bytes →
    b.bytes ≡ a.bytes ++ more → taken_since before b ≡ taken_since before a ++ more
taken_more before a b more grown h =
    let taken = taken_since before a in
    ap (drop (length before.bytes))
    (h ∙ (ap (λ l. l ++ more) (sym grown) ∙ append_assoc before.bytes taken more))
    ∙ drop_at before.bytes (taken ++ more) (length before.bytes) refl

some_left : (left : List ℕ) → 0 < length left → (first : ℕ) × (rest : List ℕ) × (left ≡ first ∷ rest)
some_left [] h = absurd (lt_irrefl 0 h)
some_left (x ∷ xs) h = (x, xs, refl)

pub cut_drain : (before a b : History) (left left' : List ℕ) → before.bytes ++ taken_since before a ≡ a.bytes →
    left ≡ [] → Grows a b → 0 < length left' →
    IsCut (output_of before a left) (output_of before b left') (taken_since before b)
cut_drain before a b left left' grown none h some =
    let whole : taken_since before a ≡ output_of before a left =
    sym (ap (λ l. taken_since before a ++ l) none ∙ append-nil (taken_since before a)) in
    let behind = some_left left' some in (
      (h.0, taken_more before a b h.0 grown h.1 ∙ ap (λ l. l ++ h.0) whole),
      (behind.0, behind.1, ap (λ l. taken_since before b ++ l) behind.2),
    )

abbrev IsNot : Bool → Type 0
IsNot false = Unit {0}
IsNot true = ⊥

-- no write fails
pub never_cut : (old new taken : List ℕ) → false ≡ true → IsCut old new taken
never_cut old new taken e = absurd (subst IsNot e tt)
