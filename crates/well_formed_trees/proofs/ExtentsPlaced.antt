-- An extent that isn't constant is among the evaluations of its variable.
use Rattle.std.proofs.Common.{◌≡◌, ℕ, suc, ◌+◌, ◌<◌, ◌==◌, Bool, true, false, not, ◌||◌, List, [], ◌∷◌}
use Rattle.std.proofs.Common.{◌++◌, length, Some, refl, ap, ◌∙◌, if◌then◌else◌, arith}
use Rattle.std.specs.Prelude.{is_some}
use Rattle.std.specs.List.{list_any, flat_map}
use Rattle.std.proofs.lemmas.Bool.Decides.{nat_tests}
use Rattle.pli_language.specs.declared.expr.Place.{Place}
use Rattle.pli_language.specs.Tree as T
use Rattle.pli_language.specs.Declarations.{dimensions_of, Held}
use Rattle.pli_language.specs.Declaring.{own_attributes, place_of_expr, same_place}
use Rattle.pli_typing.specs.Variables.{WrittenExtent, WrittenCheck, if_open, open_in_bound}
use Rattle.pli_typing.specs.Variables.{open_in_attribute, open_in, with_extent, in_order, written_extents}
use Rattle.pli_typing.specs.Variables.{stands_before, index_where}
use Rattle.well_formed_trees.specs.Every.{Every}
use Rattle.well_formed_trees.proofs.Lists.{every_map}
use Rattle.well_formed_trees.proofs.Letters.{first_true, second_true, both_true}
use Rattle.well_formed_trees.proofs.DeclaredOnce.{same_place_self}
use Rattle.well_formed_trees.proofs.ExtentsSound.{IsPlaced, BoundPlaced, AttributePlaced}

abbrev is_at : Place → WrittenExtent → Bool
is_at p w = same_place (place_of_expr w.value) p

-- what stands at a place in one list does in the other
abbrev StandsIn : List WrittenExtent → List WrittenExtent → Type 0
StandsIn ws vs = (p : Place) → list_any (is_at p) ws ≡ true → list_any (is_at p) vs ≡ true

any_first : {X : Type 0} (t : X → Bool) (xs ys : List X) → list_any t xs ≡ true → list_any t (xs ++ ys) ≡ true
any_first t [] ys e = absurd (cc e)
any_first t (x ∷ xs) ys e = by (t x) e (any_first t xs ys) where
  by : (b : Bool) → (b || list_any t xs) ≡ true → (list_any t xs ≡ true → list_any t (xs ++ ys) ≡ true)
      → (b || list_any t (xs ++ ys)) ≡ true
  by true e k = refl
  by false e k = k e

any_second : {X : Type 0} (t : X → Bool) (xs ys : List X) → list_any t ys ≡ true → list_any t (xs ++ ys) ≡ true
any_second t [] ys e = e
any_second t (x ∷ xs) ys e = by (t x) (any_second t xs ys e) where
  by : (b : Bool) → list_any t (xs ++ ys) ≡ true → (b || list_any t (xs ++ ys)) ≡ true
  by true k = refl
  by false k = k

all_stand : {X : Type 0} (f : X → List WrittenExtent) (xs : List X) → Every (λ x. StandsIn (f x) (flat_map f xs)) xs
all_stand f [] = tt
all_stand f (x ∷ xs) = (
  λ p e. any_first (is_at p) (f x) (flat_map f xs) e,
  every_map (λ y. StandsIn (f y) (flat_map f xs)) (λ y. StandsIn (f y) (flat_map f (x ∷ xs)))
      (λ y k p e. any_second (is_at p) (f x) (flat_map f xs) (k p e)) xs (all_stand f xs),
)

-- ---- each place stays

same_moved : (p q r : Place) → same_place p q ≡ true → same_place p r ≡ true → same_place q r ≡ true
same_moved p q r e f =
    both_true (q.line == r.line) (q.column == r.column)
    (moved p.line q.line r.line (first_true _ _ e) (first_true _ _ f))
    (moved p.column q.column r.column (second_true _ _ e) (second_true _ _ f)) where
      moved : (a b c : ℕ) → (a == b) ≡ true → (a == c) ≡ true → (b == c) ≡ true
      moved a b c e f = grind (arith, nat_tests)

with_stands : (p : Place) (w : WrittenExtent) (vs : List WrittenExtent)
    → (is_at p w || list_any (is_at p) vs) ≡ true → list_any (is_at p) (with_extent w vs) ≡ true
with_stands p w [] e = e
with_stands p w (v ∷ vs) e =
    by (stands_before (place_of_expr w.value) (place_of_expr v.value))
    (same_place (place_of_expr w.value) (place_of_expr v.value)) refl (is_at p w) (is_at p v) refl refl e
    (with_stands p w vs) where
      by : (b c : Bool) → same_place (place_of_expr w.value) (place_of_expr v.value) ≡ c → (a d : Bool)
          → is_at p w ≡ a → is_at p v ≡ d → (a || (d || list_any (is_at p) vs)) ≡ true
          → ((is_at p w || list_any (is_at p) vs) ≡ true → list_any (is_at p) (with_extent w vs) ≡ true)
          → list_any (is_at p) (if b then w ∷ v ∷ vs else (if c then v ∷ vs else v ∷ with_extent w vs)) ≡ true
      by true c s a d f g e k =
          ap (λ a. a || (is_at p v || list_any (is_at p) vs)) f ∙ (ap (λ d. a || (d || list_any (is_at p) vs)) g ∙ e)
      by false true s true d f g e k =
          ap (λ d. d || list_any (is_at p) vs) (same_moved (place_of_expr w.value) (place_of_expr v.value) p s f)
      by false true s false d f g e k = ap (λ d. d || list_any (is_at p) vs) g ∙ e
      by false false s a true f g e k = ap (λ d. d || list_any (is_at p) (with_extent w vs)) g
      by false false s a false f g e k =
          ap (λ d. d || list_any (is_at p) (with_extent w vs)) g
          ∙ k (ap (λ a. a || list_any (is_at p) vs) f ∙ e)

order_stands : (ws : List WrittenExtent) → StandsIn ws (in_order ws)
order_stands [] p e = e
order_stands (w ∷ ws) p e = with_stands p w (in_order ws) (by (is_at p w) e (order_stands ws p)) where
  by : (b : Bool) → (b || list_any (is_at p) ws) ≡ true
      → (list_any (is_at p) ws ≡ true → list_any (is_at p) (in_order ws) ≡ true)
      → (b || list_any (is_at p) (in_order ws)) ≡ true
  by true e k = refl
  by false e k = k e

-- the first that passes a test is found
found_before : {X : Type 0} (t : X → Bool) (xs : List X) → list_any t xs ≡ true → index_where t xs < length xs
found_before t [] e = absurd (cc e)
found_before t (x ∷ xs) e = by (t x) e (found_before t xs) where
  by : (b : Bool) → (b || list_any t xs) ≡ true → (list_any t xs ≡ true → index_where t xs < length xs)
      → (if b then 0 else index_where t xs + 1) < suc (length xs)
  by true e k = omega arith
  by false e k = let h = k e in omega (arith, h)

-- ---- what is open is placed

open_placed : (written : List WrittenExtent) (e : T.Expr) (check : WrittenCheck) → StandsIn (if_open e check) written
    → IsPlaced written e
open_placed written e check s k =
    found_before (is_at (place_of_expr e)) written
    (s (place_of_expr e) (ap (λ c. list_any (is_at (place_of_expr e))
    (if not (is_some c) then record { value = e; check = check } ∷ [] else [])) k
    ∙ ap (λ b. b || false) (same_place_self (place_of_expr e))))

pub bound_placed : (written : List WrittenExtent) (b : T.Bound) → StandsIn (open_in_bound b) written
    → BoundPlaced written b
bound_placed written (T.StarBound place) s = tt
bound_placed written (T.Upper u) s = open_placed written u.value _ s
bound_placed written (T.Both l u) s = (
  open_placed written l.value _ (λ p e. s p (any_first (is_at p) (if_open l.value _) (if_open u.value _) e)),
  open_placed written u.value _ (λ p e. s p (any_second (is_at p) (if_open l.value _) (if_open u.value _) e)),
)

attribute_placed : (written : List WrittenExtent) (a : T.Attribute) → StandsIn (open_in_attribute a) written
    → AttributePlaced written a
attribute_placed written (T.Character (Some (T.Given e))) s = open_placed written e.value _ s
attribute_placed written (T.Area (Some (T.Given e))) s = open_placed written e.value _ s
attribute_placed written _ s = tt

abbrev pub HeldPlaced : List WrittenExtent → Held → Type 0
HeldPlaced written h =
    Every (BoundPlaced written) (dimensions_of h.variable) × Every (AttributePlaced written) (own_attributes h)

held_placed : (written : List WrittenExtent) (h : Held) → StandsIn (open_in h) written → HeldPlaced written h
held_placed written h s =
    let bs = flat_map open_in_bound (dimensions_of h.variable) in
    let cs = flat_map open_in_attribute (own_attributes h) in (
      every_map (λ b. StandsIn (open_in_bound b) bs) (BoundPlaced written)
          (λ b k. bound_placed written b (λ p e. s p (any_first (is_at p) bs cs (k p e)))) (dimensions_of h.variable)
          (all_stand open_in_bound (dimensions_of h.variable)),
      every_map (λ a. StandsIn (open_in_attribute a) cs) (AttributePlaced written)
          (λ a k. attribute_placed written a (λ p e. s p (any_second (is_at p) bs cs (k p e)))) (own_attributes h)
          (all_stand open_in_attribute (own_attributes h)),
    )

pub all_placed : (all : List Held) → Every (HeldPlaced (written_extents all)) all
all_placed all =
    every_map (λ h. StandsIn (open_in h) (flat_map open_in all)) (HeldPlaced (written_extents all))
    (λ h k. held_placed (written_extents all) h (λ p e. order_stands (flat_map open_in all) p (k p e))) all
    (all_stand open_in all)
