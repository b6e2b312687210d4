use Rattle.std.proofs.Common.{◌≡◌, ◌∙◌, ap, length, sym, take, arith}
use Rattle.std.specs.Prelude.{reverse}
use Rattle.std.proofs.lemmas.List.{length-reverse}
use Rattle.pli_serving.specs.ActsAndEnds.{oncode_of}
use Rattle.pli_activations.proofs.Zipped.{unit_code, length-zipped, oncode-zipped, oncode_in}
use Rattle.pli_activations.proofs.activations.Activations.oncode.Goals as goal

pub returns-in-OnUnit : goal.returns-in-OnUnit
returns-in-OnUnit c =
    let items = c.self.inside.blocks.items in
    let bs = reverse c.self.inside.blocks.items in
    let as_many : length c.self.inside.units ≡ length bs = c.self.invariant ∙ sym (length-reverse c.self.inside.blocks.items) in
    let whole : length c.args.self.now ≡ length c.self.inside.units = ap length (sym c.self.view_is) ∙ length-zipped bs c.self.inside.units as_many ∙ sym as_many in
    sym (unit_code items c.entered.height c.index.result.now c.in-OnUnit.code c.in-OnUnit.resume c.entered-test.true c.entered.invariant.within c.index.ensures c.in-OnUnit.is)
    ∙ c.entered.invariant.above
    ∙ sym (oncode-zipped bs c.self.inside.units as_many)
    ∙ ap oncode_of c.self.view_is

pub returns : goal.returns
returns c =
    let items = c.self.inside.blocks.items in
    let bs = reverse c.self.inside.blocks.items in
    let as_many : length c.self.inside.units ≡ length bs = c.self.invariant ∙ sym (length-reverse c.self.inside.blocks.items) in
    let whole : length c.args.self.now ≡ length c.self.inside.units = ap length (sym c.self.view_is) ∙ length-zipped bs c.self.inside.units as_many ∙ sym as_many in
    let none : c.entered.height ≡ 0 = omega (arith, c.entered-test.false) in
    sym (ap (λ h. oncode_in (reverse (take h items))) none)
    ∙ c.entered.invariant.above
    ∙ sym (oncode-zipped bs c.self.inside.units as_many)
    ∙ ap oncode_of c.self.view_is
