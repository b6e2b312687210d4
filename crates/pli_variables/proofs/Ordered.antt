-- A variable of level 1 is found by its place, where they stand in source order.
use Rattle.std.proofs.Common.{◌≡◌, ℕ, zero, suc, true, false, List, [], ◌∷◌, refl, sym, ap, ◌∙◌, arith, true≢false, add-one, ◌+◌}
use Rattle.std.specs.Prelude.{◌&&◌, slice_get, unwrap_or}
use Rattle.std.proofs.lemmas.Bool.{and_parts}
use Rattle.std.proofs.lemmas.Bool.Decides.{nat_tests}
use Rattle.std.proofs.lemmas.List.{drop_all}
use Rattle.pli_declare.proofs.Chains.{drop_here}
use Rattle.pli_language.specs.declared.expr.Place.{Place}
use Rattle.pli_language.specs.Declarations.{Held}
use Rattle.pli_language.specs.Declaring.{same_place}
use Rattle.pli_typing.specs.Variables.{begins_at, index_where, stands_before}
use Rattle.pli_variables.specs.Order.{ahead_of_next, are_in_order, begins_ahead}
use Rattle.pli_variables.proofs.Amounts.{index_here, index_on}

-- ---- places

pub before_on : (p q r : Place) → stands_before p q ≡ true → stands_before q r ≡ true → stands_before p r ≡ true
before_on p q r e g = grind (arith, nat_tests, e, g)

pub not_before : (p q x : Place) → stands_before p q ≡ true → same_place x q ≡ true → same_place x p ≡ false
not_before p q x e g = grind (arith, nat_tests, e, g)

-- ---- variables of level 1

ahead_on : (a b c : List Held) → begins_ahead a b ≡ true → begins_ahead b c ≡ true → begins_ahead a c ≡ true
ahead_on [] b c e g = absurd (true≢false (sym e))
ahead_on (h ∷ hs) [] c e g = absurd (true≢false (sym e))
ahead_on (h ∷ hs) (k ∷ ks) [] e g = absurd (true≢false (sym g))
ahead_on (h ∷ hs) (k ∷ ks) (l ∷ ls) e g = before_on h.variable.declared.name.place k.variable.declared.name.place l.variable.declared.name.place e g

other_place : (place : Place) (a b : List Held) → begins_ahead a b ≡ true → begins_at place b ≡ true → begins_at place a ≡ false
other_place place [] b e g = refl
other_place place (h ∷ hs) [] e g = absurd (true≢false (sym e))
other_place place (h ∷ hs) (k ∷ ks) e g = not_before h.variable.declared.name.place k.variable.declared.name.place place e g

abbrev group_at : List (List Held) → ℕ → List Held
group_at groups i = unwrap_or (slice_get groups i) []

-- the first stands before each of the others
ahead_of : (place : Place) (g : List Held) (groups : List (List Held)) (i : ℕ) → are_in_order (g ∷ groups) ≡ true → begins_at place (group_at groups i) ≡ true → begins_ahead g (group_at groups i) ≡ true
ahead_of place g [] i o b = absurd (true≢false (sym b))
ahead_of place g (n ∷ groups) zero o b = (and_parts (begins_ahead g n) (are_in_order (n ∷ groups)) o).0
ahead_of place g (n ∷ groups) (suc i) o b =
    let both = and_parts (begins_ahead g n) (are_in_order (n ∷ groups)) o in
    ahead_on g n (group_at groups i) both.0 (ahead_of place n groups i both.1 b)

pub found_in_order : (place : Place) (groups : List (List Held)) (i : ℕ) → are_in_order groups ≡ true → begins_at place (group_at groups i) ≡ true → i ≡ index_where (begins_at place) groups
found_in_order place [] i o b = absurd (true≢false (sym b))
found_in_order place (g ∷ groups) zero o b = sym (index_here (begins_at place) g groups b)
found_in_order place (g ∷ groups) (suc i) o b =
    let rest = and_parts (ahead_of_next g groups) (are_in_order groups) o in
    let other : begins_at place g ≡ false = other_place place g (group_at groups i) (ahead_of place g groups i o b) b in
    sym (index_on (begins_at place) g groups other ∙ ap (λ n. n + 1) (sym (found_in_order place groups i rest.1 b)) ∙ add-one i)

-- ---- the loop that looks whether they do

pub in_order_on : (g : List Held) (groups : List (List Held)) → ahead_of_next g groups ≡ true → are_in_order (g ∷ groups) ≡ are_in_order groups
in_order_on g groups e = ap (λ t. t && are_in_order groups) e

pub not_in_order : (g : List Held) (groups : List (List Held)) → ahead_of_next g groups ≡ false → are_in_order (g ∷ groups) ≡ false
not_in_order g groups e = ap (λ t. t && are_in_order groups) e

pub ruleset order = (drop_here, drop_all, in_order_on, not_in_order)
