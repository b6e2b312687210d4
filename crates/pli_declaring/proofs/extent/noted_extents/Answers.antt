use Rattle.std.proofs.Common.{map, ap, ◌∙◌, List}
use Rattle.std.specs.List.{flat_map}
use Rattle.pli_language.specs.declared.declaration.Bound.{Bound as BoundHeld}
use Rattle.pli_language.specs.declared.fault.SourceFault.{SourceFault}
use Rattle.pli_language.specs.Tree.{Attribute}
use Rattle.pli_language.specs.View.{attribute_of, bound_of, name_of}
use Rattle.pli_language.specs.Refusals.{soonest}
use Rattle.pli_language.specs.Declaring.{Use, use_of, bound_faults, attribute_extent_faults}
use Rattle.pli_declare.specs.Shown.{held_of}
use Rattle.pli_declaring.proofs.Faults.{found_in_parts}
use Rattle.pli_declaring.proofs.extent.noted_extents.Goals as goal

pub returns : goal.returns
returns c =
    let v = c.args.held.now.variable in
    let way : Use = use_of (map name_of c.args.parameters.now) (held_of c.args.held.now) in
    let bounds : List BoundHeld → List SourceFault = λ u. flat_map (bound_faults way) (map bound_of u) in
    let first = c.noted_bounds-found.ensures ∙ ap (λ (w : Use). soonest c.args.found (flat_map (bound_faults w) (map bound_of c.deref.result.now))) c.use_of-way.ensures ∙ ap (λ u. soonest c.args.found (bounds u)) c.deref.ensures.value in
    let second = c.noted_bounds-found-2.ensures ∙ ap (λ (w : Use). soonest c.noted_bounds-found.result (flat_map (bound_faults w) (map bound_of c.deref-2.result.now))) c.use_of-way.ensures ∙ ap (λ u. soonest c.noted_bounds-found.result (bounds u)) c.deref-2.ensures.value in
    let last = c.noted_attributes.ensures ∙ ap (λ (w : Use). soonest c.noted_bounds-found-2.result (flat_map (attribute_extent_faults w) (map attribute_of c.own_attributes.result.now))) c.use_of-way.ensures ∙ ap (λ (u : List Attribute). soonest c.noted_bounds-found-2.result (flat_map (attribute_extent_faults way) u)) c.own_attributes.ensures in
    found_in_parts c.args.found _ _ _ (bound_faults way) (map bound_of v.declared.now.dimensions.items) (map bound_of v.item.now.dimensions.items) _ first second last
