-- A list that is gone through from its end, where what fails a test is removed.
use Rattle.std.proofs.Common.{◌≡◌, ℕ, zero, suc, ◌+◌, ◌<◌, ◌≤◌, List, [], ◌∷◌, ◌++◌, length, take, drop, slice_get, Option, Some, None, Bool, true, false, refl, sym, ap, ◌∙◌, subst, arith}
use Rattle.std.specs.Prelude.{cond, not, filter}
use Rattle.std.specs.List.{remove}

-- those behind a place have been tested
abbrev pub trimmed : {X : Type 0} → (X → Bool) → ℕ → List X → List X
trimmed p i xs = take i xs ++ filter p (drop i xs)

-- the one in front of these is tested, and is removed where it fails
pub trim_step :
    {X : Type 0} → (p : X → Bool) (i : ℕ) (xs : List X) (fails : Bool) →
    ((x : X) → slice_get (trimmed p (suc i) xs) i ≡ Some x → fails ≡ not (p x)) → i < length xs →
    cond fails (remove (trimmed p (suc i) xs) i) (trimmed p (suc i) xs) ≡ trimmed p i xs
trim_step p i [] fails f h = absurd (omega (arith, h))
trim_step p zero (y ∷ ys) fails f h = subst (λ t. cond t (filter p ys) (y ∷ filter p ys) ≡ cond (p y) (y ∷ filter p ys) (filter p ys)) (sym (f y refl)) (by_test (p y))
  where
    by_test : (t : Bool) → cond (not t) (filter p ys) (y ∷ filter p ys) ≡ cond t (y ∷ filter p ys) (filter p ys)
    by_test true = refl
    by_test false = refl
trim_step p (suc i) (y ∷ ys) fails f h =
    spread fails ∙ ap (λ z. y ∷ z) (trim_step p i ys fails f (omega (arith, h)))
  where
    spread :
        (t : Bool) →
        cond t (y ∷ remove (trimmed p (suc i) ys) i) (y ∷ trimmed p (suc i) ys)
        ≡ y ∷ cond t (remove (trimmed p (suc i) ys) i) (trimmed p (suc i) ys)
    spread true = refl
    spread false = refl

pub trim_kept :
    {X : Type 0} → (p : X → Bool) (i j : ℕ) (xs now : List X) (fails : Bool) → i ≡ suc j → now ≡ trimmed p i xs → i ≤ length xs →
    fails ≡ false → ((x : X) → slice_get now j ≡ Some x → fails ≡ not (p x)) → now ≡ trimmed p j xs
trim_kept {X} p i j xs now fails e n h t f =
    let m : now ≡ trimmed p (suc j) xs = n ∙ ap (λ k. trimmed p k xs) e in
    let s = trim_step p j xs fails (subst (λ (ys : List X). (x : X) → slice_get ys j ≡ Some x → fails ≡ not (p x)) m f) (omega (arith, e, h)) in
    m ∙ (sym (ap (λ b. cond b (remove (trimmed p (suc j) xs) j) (trimmed p (suc j) xs)) t) ∙ s)

pub trim_removed :
    {X : Type 0} → (p : X → Bool) (i j : ℕ) (xs now new : List X) (fails : Bool) → i ≡ suc j → now ≡ trimmed p i xs → i ≤ length xs →
    fails ≡ true → ((x : X) → slice_get now j ≡ Some x → fails ≡ not (p x)) → new ≡ remove now j → new ≡ trimmed p j xs
trim_removed {X} p i j xs now new fails e n h t f r =
    let m : now ≡ trimmed p (suc j) xs = n ∙ ap (λ k. trimmed p k xs) e in
    let s = trim_step p j xs fails (subst (λ (ys : List X). (x : X) → slice_get ys j ≡ Some x → fails ≡ not (p x)) m f) (omega (arith, e, h)) in
    r ∙ (ap (λ ys. remove ys j) m ∙ (sym (ap (λ b. cond b (remove (trimmed p (suc j) xs) j) (trimmed p (suc j) xs)) t) ∙ s))
