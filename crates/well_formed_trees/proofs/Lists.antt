-- Empty lists in two parts, properties of all of a list, and tests that are false.
use Rattle.std.proofs.Common.{◌≡◌, Bool, true, false, ◌&&◌, ◌||◌, List, [], ◌∷◌, ◌++◌, Option, Some, None, refl, ap}
use Rattle.std.proofs.Common.{◌∙◌}
use Rattle.std.specs.Prelude.{⊤}
use Rattle.std.specs.List.{flat_map}
use Rattle.well_formed_trees.specs.Every.{Every}

pub first_empty : {X : Type 0} (xs ys : List X) → xs ++ ys ≡ [] → xs ≡ []
first_empty [] ys e = refl
first_empty (x ∷ xs) ys e = absurd (cc e)

pub second_empty : {X : Type 0} (xs ys : List X) → xs ++ ys ≡ [] → ys ≡ []
second_empty [] ys e = e
second_empty (x ∷ xs) ys e = absurd (cc e)

pub every_first : {X : Type 0} (P : X → Type 0) (xs ys : List X) → Every P (xs ++ ys) → Every P xs
every_first P [] ys h = tt
every_first P (x ∷ xs) ys h = (h.0, every_first P xs ys h.1)

pub every_second : {X : Type 0} (P : X → Type 0) (xs ys : List X) → Every P (xs ++ ys) → Every P ys
every_second P [] ys h = h
every_second P (x ∷ xs) ys h = every_second P xs ys h.1

pub every_both : {X : Type 0} (P : X → Type 0) (xs ys : List X) → Every P xs → Every P ys → Every P (xs ++ ys)
every_both P [] ys h l = l
every_both P (x ∷ xs) ys h l = (h.0, every_both P xs ys h.1 l)

-- where all parts together are empty, each of them is
pub all_empty : {X Z : Type 0} (f : X → List Z) (xs : List X) → flat_map f xs ≡ [] → Every (λ x. f x ≡ []) xs
all_empty f [] e = tt
all_empty f (x ∷ xs) e = (first_empty (f x) (flat_map f xs) e, all_empty f xs (second_empty (f x) (flat_map f xs) e))

pub every_map : {X : Type 0} (P Q : X → Type 0) → ((x : X) → P x → Q x) → (xs : List X) → Every P xs → Every Q xs
every_map P Q f [] h = tt
every_map P Q f (x ∷ xs) h = (f x h.0, every_map P Q f xs h.1)

pub every_pair : {X : Type 0} (P Q : X → Type 0) (xs : List X) → Every P xs → Every Q xs → Every (λ x. P x × Q x) xs
every_pair P Q [] h k = tt
every_pair P Q (x ∷ xs) h k = ((h.0, k.0), every_pair P Q xs h.1 k.1)

-- what is so of what an option has
abbrev pub HoldsIf : {X : Type 0} → (X → Type 0) → Option X → Type 0
HoldsIf P None = ⊤
HoldsIf P (Some x) = P x

-- ---- tests

pub first_false : (a b : Bool) → (a || b) ≡ false → a ≡ false
first_false false b e = refl
first_false true b e = e

pub second_false : (a b : Bool) → (a || b) ≡ false → b ≡ false
second_false false b e = e
second_false true b e = absurd (cc e)

pub both_false : (a b : Bool) → a ≡ false → b ≡ false → (a || b) ≡ false
both_false a b e f = ap (λ a. a || b) e ∙ f

pub and_true : (a : Bool) → (a && true) ≡ false → a ≡ false
and_true false e = refl
and_true true e = e
