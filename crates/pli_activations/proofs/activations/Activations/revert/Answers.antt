use Rattle.std.proofs.Common.{◌≡◌, ◌∙◌, ap, length, sym, Some, arith}
use Rattle.std.specs.Prelude.{reverse}
use Rattle.std.proofs.lemmas.List.{length-reverse}
use Rattle.pli_serving.specs.OnUnits.{reverted}
use Rattle.pli_activations.specs.Entered.{activations_of}
use Rattle.pli_activations.proofs.Zipped.{length-zipped, reverted-zipped}
use Rattle.pli_activations.proofs.activations.Activations.revert.Goals as goal

pub revert-requires : goal.revert-requires
revert-requires c =
    let bs = reverse c.self.inside.blocks.items in
    let as_many : length c.self.inside.units ≡ length bs = c.self.invariant ∙ sym (length-reverse c.self.inside.blocks.items) in
    let whole : length c.args.self.now ≡ length c.self.inside.units = ap length (sym c.self.view_is) ∙ length-zipped bs c.self.inside.units as_many ∙ sym as_many in
    omega (arith, c.requires, whole)

pub returns : goal.returns
returns c =
    let bs = reverse c.self.inside.blocks.items in
    let as_many : length c.self.inside.units ≡ length bs = c.self.invariant ∙ sym (length-reverse c.self.inside.blocks.items) in
    let whole : length c.args.self.now ≡ length c.self.inside.units = ap length (sym c.self.view_is) ∙ length-zipped bs c.self.inside.units as_many ∙ sym as_many in
    ap (reverted c.args.condition) (sym c.self.view_is)
    ∙ reverted-zipped c.args.condition bs c.self.inside.units as_many (omega (arith, c.requires, whole))
    ∙ ap (λ us. Some (activations_of bs us)) (sym c.revert.ensures)
