use Rattle.std.proofs.Common.{◌≡◌, ◌∙◌, ap, length, sym, Some, arith}
use Rattle.std.specs.Prelude.{reverse}
use Rattle.std.proofs.lemmas.List.{length-reverse}
use Rattle.pli_serving.specs.OnUnits.{established}
use Rattle.pli_activations.specs.Entered.{activations_of, unit_shown}
use Rattle.pli_activations.proofs.Zipped.{established-zipped, length-zipped}
use Rattle.pli_activations.proofs.activations.Activations.establish.Goals as goal

pub establish-requires : goal.establish-requires
establish-requires c =
    let bs = reverse c.self.inside.blocks.items in
    let as_many : length c.self.inside.units ≡ length bs = c.self.invariant ∙ sym (length-reverse c.self.inside.blocks.items) in
    let whole : length c.args.self.now ≡ length c.self.inside.units = ap length (sym c.self.view_is) ∙ length-zipped bs c.self.inside.units as_many ∙ sym as_many in
    omega (arith, c.requires, whole)

pub returns-clause-done : goal.returns-clause-done
returns-clause-done c =
    let bs = reverse c.self.inside.blocks.items in
    let as_many : length c.self.inside.units ≡ length bs = c.self.invariant ∙ sym (length-reverse c.self.inside.blocks.items) in
    let whole : length c.args.self.now ≡ length c.self.inside.units = ap length (sym c.self.view_is) ∙ length-zipped bs c.self.inside.units as_many ∙ sym as_many in
    ap (established c.args.condition (unit_shown c.args.unit)) (sym c.self.view_is)
    ∙ established-zipped c.args.condition c.args.unit bs c.self.inside.units as_many (omega (arith, c.requires, whole))
    ∙ ap (λ us. Some (activations_of bs us)) (sym c.in_ok-establish.ensures.done)
