-- Lists that stand in longer ones from a place on.
use Rattle.std.proofs.Common.{◌≡◌, ℕ, zero, suc, ◌+◌, List, [], ◌∷◌, ◌++◌, length, Some, refl, sym, ap, ◌∙◌, subst}
use Rattle.std.proofs.Common.{arith}
use Rattle.well_formed_trees.specs.Every.{Every}
use Rattle.std.specs.Prelude.{slice_get, ⊤}
use Rattle.std.proofs.lemmas.List.{append_assoc, length-append}

pub same_some : {X : Type 0} (x y : X) → Some x ≡ Some y → x ≡ y
same_some x y e = cc

abbrev pub HasAt : {X : Type 0} → List X → ℕ → List X → Type 0
HasAt all at [] = ⊤
HasAt all at (x ∷ xs) = (slice_get all at ≡ Some x) × HasAt all (at + 1) xs

pub has_from : {X : Type 0} (all : List X) (m n : ℕ) (xs : List X) → m ≡ n → HasAt all m xs → HasAt all n xs
has_from all m n xs e h = subst (λ n. HasAt all n xs) e h

pub has_first : {X : Type 0} (all : List X) (at : ℕ) (xs ys : List X) → HasAt all at (xs ++ ys) → HasAt all at xs
has_first all at [] ys h = tt
has_first all at (x ∷ xs) ys h = (h.0, has_first all (at + 1) xs ys h.1)

pub has_second : {X : Type 0} (all : List X) (at : ℕ) (xs ys : List X) → HasAt all at (xs ++ ys)
    → HasAt all (at + length xs) ys
has_second all at [] ys h =
    let e : at ≡ at + 0 = omega arith in
    has_from all at (at + 0) ys e h
has_second all at (x ∷ xs) ys h =
    let e : (at + 1) + length xs ≡ at + suc (length xs) = omega arith in
    has_from all ((at + 1) + length xs) (at + suc (length xs)) ys e (has_second all (at + 1) xs ys h.1)

found_at : {X : Type 0} (before : List X) (x : X) (xs : List X) → slice_get (before ++ x ∷ xs) (length before) ≡ Some x
found_at [] x xs = refl
found_at (b ∷ bs) x xs = found_at bs x xs

-- a list has its own end
pub has_end : {X : Type 0} (all before xs : List X) → all ≡ before ++ xs → HasAt all (length before) xs
has_end all before [] e = tt
has_end all before (x ∷ xs) e =
    let f : all ≡ (before ++ x ∷ []) ++ xs = e ∙ sym (append_assoc before (x ∷ []) xs) in
    let m = has_end all (before ++ x ∷ []) xs f in (
      ap (λ l. slice_get l (length before)) e ∙ found_at before x xs,
      has_from all (length (before ++ x ∷ [])) (length before + 1) xs (length-append before (x ∷ [])) m,
    )

-- what all of a list have, one of them has
pub every_at : {X : Type 0} (P : X → Type 0) (xs : List X) (n : ℕ) (x : X) → Every P xs → slice_get xs n ≡ Some x → P x
every_at P [] n x h e = absurd (cc e)
every_at P (y ∷ ys) zero x h e = subst P (same_some y x e) h.0
every_at P (y ∷ ys) (suc n) x h e = every_at P ys n x h.1 e
