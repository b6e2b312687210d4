-- The numbers of parts inside, put in from the last part on.
use Rattle.std.proofs.Common.{◌≡◌, ℕ, zero, suc, ◌+◌, ◌-◌, ◌≤◌, ◌<◌, List, [], ◌∷◌, length, drop, Some, None, slice_get, refl, sym, ap, subst, ◌∙◌, arith}
use Rattle.std.proofs.lemmas.List.{drop-drop, length-drop}
use Rattle.pli_shapes.specs.declared.part.Part.{Part}
use Rattle.pli_shapes.specs.Sizes.{parts_in, with_sizes, AreWithin}

-- ---- none goes on behind the end

within_drop : (ps : List Part) (k : ℕ) → AreWithin ps → AreWithin (drop k ps)
within_drop ps zero w = w
within_drop [] (suc k) w = tt
within_drop (p ∷ ps) (suc k) w = within_drop ps k w.1

pub inside : (k : ℕ) (ps : List Part) → AreWithin ps → parts_in k ps ≤ length ps
inside zero ps w = omega arith
inside (suc k) [] w = omega arith
inside (suc k) (p ∷ ps) w =
    let l = length-drop p.inside ps in
    let r = inside k (drop p.inside ps) (within_drop ps p.inside w.1) in
    let h = w.0 in
    omega (arith, l, r, h)

pub even : (ps : List Part) → length (with_sizes ps) ≡ length ps
even [] = refl
even (p ∷ ps) = ap suc (even ps)

pub are_within : (ps : List Part) → AreWithin (with_sizes ps)
are_within [] = tt
are_within (p ∷ ps) = (inside p.inside (with_sizes ps) (are_within ps), are_within ps)

-- ---- parts, one after the other

drop_there : (ps : List Part) (i : ℕ) (p : Part) → slice_get ps i ≡ Some p → drop i ps ≡ p ∷ drop (suc i) ps
drop_there [] i p e = absurd (cc)
drop_there (q ∷ ps) zero p e = let same : q ≡ p = cc in ap (λ x. x ∷ ps) same
drop_there (q ∷ ps) (suc i) p e = drop_there ps i p e

drop_past : (ps : List Part) (i : ℕ) → slice_get ps i ≡ None → drop i ps ≡ []
drop_past [] zero e = refl
drop_past [] (suc i) e = refl
drop_past (q ∷ ps) zero e = absurd (cc)
drop_past (q ∷ ps) (suc i) e = drop_past ps i e

behind : (ps : List Part) (i size : ℕ) → drop (i + (1 + size)) ps ≡ drop size (drop (suc i) ps)
behind ps i size = let next : i + (1 + size) ≡ suc i + size = omega arith in ap (λ k. drop k ps) next ∙ sym (drop-drop size (suc i) ps)

pub further_high : (ps : List Part) (i : ℕ) (p : Part) → slice_get ps i ≡ Some p → AreWithin (drop i ps) → i ≤ length ps → i + (1 + p.inside) ≤ length ps
further_high ps i p e w low =
    let there = drop_there ps i p e in
    let h = (subst (λ l. AreWithin l) there w).0 in
    let l = length-drop i ps in
    let k = ap length there in
    omega (arith, h, l, k, low)

pub further_within : (ps : List Part) (i : ℕ) (p : Part) → slice_get ps i ≡ Some p → AreWithin (drop i ps) → AreWithin (drop (i + (1 + p.inside)) ps)
further_within ps i p e w =
    let rest = (subst (λ l. AreWithin l) (drop_there ps i p e) w).1 in
    rw (behind ps i p.inside) (within_drop (drop (suc i) ps) p.inside rest)

next_counted : (k : ℕ) (p : Part) (ps all : List Part) → all ≡ p ∷ ps → parts_in (suc k) all ≡ suc p.inside + parts_in k (drop p.inside ps)
next_counted k p ps all e = rw e refl

pub further_counted : (ps : List Part) (i left start total : ℕ) (p : Part) → slice_get ps i ≡ Some p → 0 < left → start ≤ i → (i - start) + parts_in left (drop i ps) ≡ total → (i + (1 + p.inside) - start) + parts_in (left - 1) (drop (i + (1 + p.inside)) ps) ≡ total
further_counted ps i zero start total p e some low h = absurd (omega arith)
further_counted ps i (suc left) start total p e some low h =
    let next = next_counted left p (drop (suc i) ps) (drop i ps) (drop_there ps i p e) in
    let one : suc left - 1 ≡ left = omega arith in
    let rest : parts_in (suc left - 1) (drop (i + (1 + p.inside)) ps) ≡ parts_in left (drop p.inside (drop (suc i) ps)) = ap (λ k. parts_in k (drop (i + (1 + p.inside)) ps)) one ∙ ap (parts_in left) (behind ps i p.inside) in
    omega (arith, next, rest, low, h)

none_left : (left : ℕ) (ps : List Part) → ps ≡ [] → parts_in left ps ≡ 0
none_left zero ps e = refl
none_left (suc left) ps e = rw e refl

pub ended_past : (ps : List Part) (i left start total : ℕ) → slice_get ps i ≡ None → (i - start) + parts_in left (drop i ps) ≡ total → i - start ≡ total
ended_past ps i left start total e h = let none = none_left left (drop i ps) (drop_past ps i e) in omega (arith, none, h)

-- ---- sizes put in

pub within_behind : (i : ℕ) (parts old : List Part) → 0 < i → drop i parts ≡ with_sizes (drop i old) → AreWithin (drop (i - 1 + 1) parts)
within_behind i parts old some e = let same : i - 1 + 1 ≡ i = omega arith in rw (same, e) (are_within (drop i old))
