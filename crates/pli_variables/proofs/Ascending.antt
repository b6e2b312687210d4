-- A member of a variable of level 1 is found by its place, where they stand in source order.
use Rattle.std.proofs.Common.{◌≡◌, ℕ, zero, suc, ◌<◌, Bool, true, false, List, [], ◌∷◌, map, length, drop, get_or, sym, ap, ◌∙◌, refl, arith}
use Rattle.std.specs.Prelude.{◌&&◌, if◌then◌else◌, slice_get, unwrap_or}
use Rattle.std.specs.List.{list_all}
use Rattle.std.proofs.lemmas.Bool.{and_parts}
use Rattle.std.proofs.lemmas.List.{drop_all}
use Rattle.pli_declare.proofs.Chains.{drop_here}
use Rattle.pli_language.specs.declared.expr.Place.{Place}
use Rattle.pli_language.specs.Declarations.{Held}
use Rattle.pli_declare.specs.declared.scope.Held.{Held as HeldHere}
use Rattle.pli_declare.specs.Shown.{held_of}
use Rattle.pli_typing.specs.Variables.{from_place, is_at, stands_before}
use Rattle.pli_variables.specs.Order.{ahead_of_rest, all_ascend, ascend}
use Rattle.pli_variables.proofs.Ordered.{before_on, not_before}

abbrev place_of : HeldHere → Place
place_of h = (held_of h).variable.declared.name.place

-- the first stands before each of the others
ahead_of : (y : HeldHere) (ys : List HeldHere) (i : ℕ) (x : HeldHere) → i < length ys → x ≡ get_or ys i x → ascend (map held_of (y ∷ ys)) ≡ true → stands_before (place_of y) (place_of x) ≡ true
ahead_of y [] i x h e o = absurd (omega (arith, h))
ahead_of y (z ∷ zs) zero x h e o =
    ap (λ (k : HeldHere). stands_before (place_of y) (place_of k)) e ∙ (and_parts (stands_before (place_of y) (place_of z)) (ascend (map held_of (z ∷ zs))) o).0
ahead_of y (z ∷ zs) (suc i) x h e o =
    let both = and_parts (stands_before (place_of y) (place_of z)) (ascend (map held_of (z ∷ zs))) o in
    before_on (place_of y) (place_of z) (place_of x) both.0 (ahead_of z zs i x (omega (arith, h)) e both.1)

pub found_ascending : (place : Place) (xs : List HeldHere) (i : ℕ) (x : HeldHere) → ascend (map held_of xs) ≡ true → i < length xs → x ≡ get_or xs i x → is_at place (held_of x) ≡ true → map held_of (drop i xs) ≡ from_place place (map held_of xs)
found_ascending place [] i x o h e a = absurd (omega (arith, h))
found_ascending place (y ∷ ys) zero x o h e a =
    sym (ap (λ t. if t then map held_of (y ∷ ys) else from_place place (map held_of ys)) (ap (λ (k : HeldHere). is_at place (held_of k)) (sym e) ∙ a))
found_ascending place (y ∷ ys) (suc i) x o h e a =
    let rest = and_parts (ahead_of_rest (held_of y) (map held_of ys)) (ascend (map held_of ys)) o in
    let other : is_at place (held_of y) ≡ false = not_before (place_of y) (place_of x) place (ahead_of y ys i x (omega (arith, h)) e o) a in
    found_ascending place ys i x rest.1 (omega (arith, h)) e a
    ∙ sym (ap (λ t. if t then map held_of (y ∷ ys) else from_place place (map held_of ys)) other)

pub all_mapped : {X Z : Type 0} (test : Z → Bool) (f : X → Z) (xs : List X) → list_all (λ x. test (f x)) xs ≡ list_all test (map f xs)
all_mapped test f [] = refl
all_mapped test f (x ∷ xs) = ap (λ t. test (f x) && t) (all_mapped test f xs)

-- so do the members of each variable
pub group_ascends : (groups : List (List Held)) (i : ℕ) → all_ascend groups ≡ true → ascend (unwrap_or (slice_get groups i) []) ≡ true
group_ascends [] i o = refl
group_ascends (g ∷ groups) zero o = (and_parts (ascend g) (list_all ascend groups) o).0
group_ascends (g ∷ groups) (suc i) o = group_ascends groups i (and_parts (ascend g) (list_all ascend groups) o).1

-- ---- the loop that looks whether they do

pub ascend_on : (h : Held) (members : List Held) → ahead_of_rest h members ≡ true → ascend (h ∷ members) ≡ ascend members
ascend_on h members e = ap (λ t. t && ascend members) e

pub not_ascending : (h : Held) (members : List Held) → ahead_of_rest h members ≡ false → ascend (h ∷ members) ≡ false
not_ascending h members e = ap (λ t. t && ascend members) e

pub ruleset order = (drop_here, drop_all, ascend_on, not_ascending)
