-- Letters that are the same.
use Rattle.std.proofs.Common.{◌≡◌, ℕ, ◌==◌, Bool, true, false, ◌&&◌, List, [], ◌∷◌, refl, sym, ap, ◌∙◌, subst}
use Rattle.std.proofs.lemmas.Bool.{eqb-true, eq-eqb}
use Rattle.pli_language.specs.Keywords.{same_bytes}

pub first_true : (a b : Bool) → (a && b) ≡ true → a ≡ true
first_true true b e = refl
first_true false b e = absurd (cc e)

pub second_true : (a b : Bool) → (a && b) ≡ true → b ≡ true
second_true true b e = e
second_true false b e = absurd (cc e)

pub both_true : (a b : Bool) → a ≡ true → b ≡ true → (a && b) ≡ true
both_true a b e f = ap (λ a. a && b) e ∙ f

pub same_equal : (a b : List ℕ) → same_bytes a b ≡ true → a ≡ b
same_equal [] [] e = refl
same_equal [] (y ∷ ys) e = absurd (cc e)
same_equal (x ∷ xs) [] e = absurd (cc e)
same_equal (x ∷ xs) (y ∷ ys) e =
    let f = eqb-true x y (first_true (x == y) (same_bytes xs ys) e) in
    let g = same_equal xs ys (second_true (x == y) (same_bytes xs ys) e) in
    ap (λ z. z ∷ xs) f ∙ ap (λ zs. y ∷ zs) g

pub same_self : (a : List ℕ) → same_bytes a a ≡ true
same_self [] = refl
same_self (x ∷ xs) = both_true (x == x) (same_bytes xs xs) (eq-eqb x x refl) (same_self xs)

pub same_turned : (a b : List ℕ) → same_bytes a b ≡ true → same_bytes b a ≡ true
same_turned a b e = subst (λ c. same_bytes b c ≡ true) (sym (same_equal a b e)) (same_self b)
