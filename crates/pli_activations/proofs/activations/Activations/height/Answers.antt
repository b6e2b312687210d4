use Rattle.std.proofs.Common.{◌≡◌, ◌∙◌, ap, length, sym}
use Rattle.std.specs.Prelude.{reverse}
use Rattle.std.proofs.lemmas.List.{length-reverse}
use Rattle.pli_activations.proofs.Zipped.{length-zipped}
use Rattle.pli_activations.proofs.activations.Activations.height.Goals as goal

pub returns : goal.returns
returns c =
    let bs = reverse c.self.inside.blocks.items in
    let as_many : length c.self.inside.units ≡ length bs = c.self.invariant ∙ sym (length-reverse c.self.inside.blocks.items) in
    let whole : length c.args.self.now ≡ length c.self.inside.units = ap length (sym c.self.view_is) ∙ length-zipped bs c.self.inside.units as_many ∙ sym as_many in
    c.depth.ensures ∙ sym whole
