-- The elements of a shape that is one leaf.
use Rattle.std.proofs.Common.{◌≡◌, ◌∙◌, ◌+◌, ◌<◌, ◌≤◌, ℕ, ℤ, Bool, true, false, List, [], ◌∷◌, ◌++◌, length, map, Option, Some, None, refl, sym, ap, ap₂, arith, append-nil}
use Rattle.std.specs.Prelude.{nat_le, option_map, slice_get, unwrap_or, if◌then◌else◌}
use Rattle.std.proofs.lemmas.Bool.Decides.{nat_tests}
use Rattle.std.proofs.lemmas.Option.{slice_get-map}
use Rattle.pli_typing.specs.Signatures.{Bounds, Leaf}
use Rattle.pli_types.specs.View.{pair_of}
use Rattle.pli_meaning.specs.Contents.{Shape, leaves_with}
use Rattle.pli_meaning.specs.StreamOrder.{Element, bounds_of_leaf, with_more}
use Rattle.pli_serving.specs.Aggregates.{Aggregate, subscripts_given}
use Rattle.pli_serving.specs.ElementService.{elements_by}
use Rattle.pli_serving.specs.Finding.{Call}
use Rattle.pli_serving.specs.Outcomes.{then_found}
use Rattle.pli_signatures.specs.View.{leaf_in_force}
use Rattle.pli_signatures.specs.Whole.{leaf_in}
use Rattle.pli_signatures.specs.declared.element.LeafInForce.{LeafInForce}
use Rattle.pli_shapes.specs.Members.{one_leaf}
use Rattle.pli_shapes.specs.declared.shape.LeafShape.{LeafShape}
use Rattle.pli_aggregates.proofs.Parting.{as_many, got_past}
use Rattle.pli_elements.specs.Items.{row_elements}
use Rattle.pli_elements.proofs.Kept.{got_bounds, got_low}

abbrev rows_if : Bool → Option (List ℤ) → LeafShape → List Leaf → Option (List Element)
rows_if holds o shape leaves =
    if holds then then_found o (λ is. Some (map (λ js. (shape.leaf, js)) (with_more shape.dimensions (bounds_of_leaf leaves shape.leaf) is) ++ [])) else None

pub no_row : (c : Call) (a : Aggregate) (shape : LeafShape) (s : Option Shape) → s ≡ Some a.shape → None ≡ leaf_in s shape.leaf a.extent → elements_by c a (one_leaf shape) ≡ None
no_row c a shape s e h =
    let many = as_many a.extent a.shape in
    let past = got_past (leaves_with a.extent a.shape) shape.leaf (ap (λ o. leaf_in o shape.leaf a.extent) (sym e) ∙ sym h) in
    let outside : nat_le (shape.leaf + 1) (length a.shape.signature.leaves) ≡ false = out (shape.leaf + 1) (length a.shape.signature.leaves) (omega (arith, past, many)) in
    ap (λ b. rows_if b (subscripts_given a shape.leaf shape.given) shape (leaves_with a.extent a.shape)) outside
  where
    out : (k l : ℕ) → l < k → nat_le k l ≡ false
    out k l h = grind (arith, nat_tests)

row_there : (c : Call) (a : Aggregate) (shape : LeafShape) (s : Option Shape) (l : LeafInForce) → s ≡ Some a.shape → Some (leaf_in_force l) ≡ leaf_in s shape.leaf a.extent
    → elements_by c a (one_leaf shape) ≡ then_found (subscripts_given a shape.leaf shape.given) (λ is. Some (row_elements shape l is))
row_there c a shape s l e h =
    let all = leaves_with a.extent a.shape in
    let many = as_many a.extent a.shape in
    let got : Some (leaf_in_force l) ≡ slice_get all shape.leaf = h ∙ ap (λ o. leaf_in o shape.leaf a.extent) e in
    let low = got_low all shape.leaf (leaf_in_force l) got in
    let inside : nat_le (shape.leaf + 1) (length a.shape.signature.leaves) ≡ true = within (shape.leaf + 1) (length a.shape.signature.leaves) (omega (arith, low, many)) in
    ap (λ b. rows_if b (subscripts_given a shape.leaf shape.given) shape all) inside
    ∙ ap (λ bs. then_found (subscripts_given a shape.leaf shape.given) (λ is. Some (map (λ js. (shape.leaf, js)) (with_more shape.dimensions bs is) ++ []))) (got_bounds all shape.leaf (leaf_in_force l) got)
    ∙ each (subscripts_given a shape.leaf shape.given)
  where
    within : (k l : ℕ) → k ≤ l → nat_le k l ≡ true
    within k l h = grind (arith, nat_tests)

    each : (o : Option (List ℤ)) → then_found o (λ is. Some (row_elements shape l is ++ [])) ≡ then_found o (λ is. Some (row_elements shape l is))
    each None = refl
    each (Some is) = ap (λ es. Some es) (append-nil (row_elements shape l is))

pub row_not_given : (c : Call) (a : Aggregate) (shape : LeafShape) (s : Option Shape) (l : LeafInForce) → s ≡ Some a.shape → Some (leaf_in_force l) ≡ leaf_in s shape.leaf a.extent → None ≡ subscripts_given a shape.leaf shape.given
    → elements_by c a (one_leaf shape) ≡ None
row_not_given c a shape s l e h g =
    row_there c a shape s l e h ∙ ap (λ o. then_found o (λ is. Some (row_elements shape l is))) (sym g)

pub row_given : (c : Call) (a : Aggregate) (shape : LeafShape) (s : Option Shape) (l : LeafInForce) (is : List ℤ) → s ≡ Some a.shape → Some (leaf_in_force l) ≡ leaf_in s shape.leaf a.extent → Some is ≡ subscripts_given a shape.leaf shape.given
    → elements_by c a (one_leaf shape) ≡ Some (row_elements shape l is)
row_given c a shape s l is e h g =
    row_there c a shape s l e h ∙ ap (λ o. then_found o (λ js. Some (row_elements shape l js))) (sym g)

-- ---- the element of a number

pub row_got : (shape : LeafShape) (l : LeafInForce) (is : List ℤ) (number : ℕ) (o : Option (List ℤ)) → o ≡ slice_get (with_more shape.dimensions (leaf_in_force l).bounds is) number
    → slice_get (row_elements shape l is) number ≡ option_map (λ js. (shape.leaf, js)) o
row_got shape l is number o e =
    slice_get-map {B = Element} (λ js. (shape.leaf, js)) (with_more shape.dimensions (leaf_in_force l).bounds is) number
    ∙ ap {A = Option (List ℤ)} {B = Option Element} (option_map (λ js. (shape.leaf, js))) (sym e)
