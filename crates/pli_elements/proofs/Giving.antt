-- The subscripts that are given.
use Rattle.std.proofs.Common.{◌≡◌, ℕ, zero, suc, ◌≤◌, ◌<◌, ℤ, Bool, true, false, List, [], length, map, take, Option, Some, None, refl, sym, ap, ◌∙◌, arith}
use Rattle.std.specs.Prelude.{nat_le, slice_get, unwrap_or, if◌then◌else◌}
use Rattle.std.proofs.lemmas.Bool.Decides.{nat_tests}
use Rattle.std.proofs.lemmas.List.{length-map, take-map}
use Rattle.pli_typing.specs.Signatures.{Bounds}
use Rattle.pli_types.specs.View.{pair_of}
use Rattle.pli_types.specs.declared.signature.Bounds.{Bounds as BoundsHeld}
use Rattle.pli_meaning.specs.Contents.{Shape}
use Rattle.pli_meaning.specs.Unreachable.{unreachable_leaf}
use Rattle.pli_serving.specs.Aggregates.{subscripts_given, subscripts_of}
use Rattle.pli_serving.specs.Values.{all_subscripts}
use Rattle.pli_signatures.specs.View.{leaf_in_force}
use Rattle.pli_signatures.specs.Whole.{leaf_in}
use Rattle.pli_signatures.specs.declared.element.LeafInForce.{LeafInForce}
use Rattle.pli_aggregates.specs.Records.{record_shown}
use Rattle.pli_aggregates.specs.declared.record.Aggregate.{Aggregate}
use Rattle.pli_elements.specs.Items.{given_by}

all_have : (n : ℕ) → true ≡ nat_le 0 n
all_have n = grind (arith, nat_tests)

pub given_known : (a : Aggregate) (s : Shape) (shape : Option Shape) (first given : ℕ) (l : LeafInForce) → shape ≡ Some s → Some (leaf_in_force l) ≡ leaf_in shape first a.extent
    → given_by (map pair_of l.bounds.items) a.place given ≡ subscripts_given (record_shown a s) first given
given_known a s shape first given l e h =
    let there : Some (leaf_in_force l) ≡ leaf_in (Some s) first a.extent = h ∙ ap (λ o. leaf_in o first a.extent) e in
    ap (λ o. given_by (unwrap_or o unreachable_leaf).bounds a.place given) there

pub given_unknown : (a : Aggregate) (s : Shape) (shape : Option Shape) (first given : ℕ) → shape ≡ Some s → None ≡ leaf_in shape first a.extent → given_by (map pair_of []) a.place given ≡ subscripts_given (record_shown a s) first given
given_unknown a s shape first given e h =
    let none : None ≡ leaf_in (Some s) first a.extent = h ∙ ap (λ o. leaf_in o first a.extent) e in
    ap (λ o. given_by (unwrap_or o unreachable_leaf).bounds a.place given) none

abbrev given_if : List Bounds → (place given : ℕ) → Bool → Option (List ℤ)
given_if bounds place given holds = if holds then subscripts_of place given bounds else None

pub none_given : (bounds : List BoundsHeld) (place given : ℕ) → length bounds < given → None ≡ given_by (map pair_of bounds) place given
none_given bounds place given h =
    let many = length-map bounds pair_of in
    let less : nat_le given (length (map pair_of bounds)) ≡ false = grind (arith, nat_tests, h, many) in
    sym (ap (given_if (map pair_of bounds) place given) less)

pub given_none : (bounds : List BoundsHeld) (place given : ℕ) → given ≡ 0 → Some [] ≡ given_by (map pair_of bounds) place given
given_none bounds place given e = sym (ap (given_by (map pair_of bounds) place) e ∙ ap (given_if (map pair_of bounds) place 0) (sym (all_have (length (map pair_of bounds)))))

pub given_nothing : (a : Aggregate) (s : Shape) (first given : ℕ) → given ≡ 0 → Some [] ≡ subscripts_given (record_shown a s) first given
given_nothing a s first given e =
    let bounds = (unwrap_or (leaf_in (Some s) first a.extent) unreachable_leaf).bounds in
    sym (ap (given_by bounds a.place) e ∙ ap (given_if bounds a.place 0) (sym (all_have (length bounds))))

pub given_some : (bounds : List BoundsHeld) (place given : ℕ) → given ≤ length bounds → (given ≡ 0 → ⊥) → slice_get (all_subscripts (map pair_of (take given bounds))) place ≡ given_by (map pair_of bounds) place given
given_some bounds place zero h n = absurd (n refl)
given_some bounds place (suc given) h n =
    let many = length-map bounds pair_of in
    let low : nat_le (suc given) (length (map pair_of bounds)) ≡ true = grind (arith, nat_tests, h, many) in
    ap (λ bs. slice_get (all_subscripts bs) place) (sym (take-map pair_of (suc given) bounds)) ∙ sym (ap (given_if (map pair_of bounds) place (suc given)) low)
