use Rattle.std.proofs.Common.{◌∙◌, ap, map, sym, List}
use Rattle.pli_types.specs.View.{pair_of}
use Rattle.pli_types.specs.declared.signature.Bounds.{Bounds}
use Rattle.pli_meaning.specs.Contents.{element_place}
use Rattle.pli_signatures.specs.Elements.{place_within}
use Rattle.pli_elements.proofs.Placing.{both_hold, kind_fails, place_inside, place_is, place_outside, within_fails}
use Rattle.pli_elements.proofs.standing.standing.Goals as goal

pub returns-then-not-kind_holds : goal.returns-then-not-kind_holds
returns-then-not-kind_holds c = kind_fails _ _ (sym c.kind_holds.ensures ∙ c.if-not-kind_holds.true)

pub returns-in-Some-address : goal.returns-in-Some-address
returns-in-Some-address c =
    let bounds = map pair_of c.args.allocated.now.bounds.items in
    let is = c.args.subscripts.now in
    let place = c.in-Some.ensures ∙ ap (λ (bs : List Bounds). place_within (map pair_of bs) is) c.as_slice.ensures in
    (both_hold _ _ (sym c.kind_holds.ensures ∙ c.if-not-kind_holds.false) (place_inside bounds is c.in-Some.place place), c.in-Some-address.ensures (element_place bounds is) (place_is bounds is c.in-Some.place place))

pub returns-in-None : goal.returns-in-None
returns-in-None c =
    let bounds = map pair_of c.args.allocated.now.bounds.items in
    let is = c.args.subscripts.now in
    within_fails _ _ (place_outside bounds is (c.in-None.ensures ∙ ap (λ (bs : List Bounds). place_within (map pair_of bs) is) c.as_slice.ensures))
