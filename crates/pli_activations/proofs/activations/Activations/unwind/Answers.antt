use Rattle.std.proofs.Common.{◌≡◌, ◌∙◌, ◌-◌, ap, ap₂, drop, length, sym, arith}
use Rattle.std.specs.Prelude.{reverse}
use Rattle.std.proofs.lemmas.List.{length-reverse}
use Rattle.pli_activations.specs.Entered.{activations_of}
use Rattle.pli_activations.proofs.Zipped.{drop-zipped, length-zipped, reverse-take}
use Rattle.pli_activations.proofs.activations.Activations.unwind.Goals as goal

pub unwind-requires : goal.unwind-requires
unwind-requires c =
    let items = c.self.inside.blocks.items in
    let bs = reverse c.self.inside.blocks.items in
    let as_many : length c.self.inside.units ≡ length bs = c.self.invariant ∙ sym (length-reverse c.self.inside.blocks.items) in
    let whole : length c.args.self.now ≡ length c.self.inside.units = ap length (sym c.self.view_is) ∙ length-zipped bs c.self.inside.units as_many ∙ sym as_many in
    omega (arith, c.requires, whole)

pub returns : goal.returns
returns c =
    let items = c.self.inside.blocks.items in
    let bs = reverse c.self.inside.blocks.items in
    let as_many : length c.self.inside.units ≡ length bs = c.self.invariant ∙ sym (length-reverse c.self.inside.blocks.items) in
    let whole : length c.args.self.now ≡ length c.self.inside.units = ap length (sym c.self.view_is) ∙ length-zipped bs c.self.inside.units as_many ∙ sym as_many in
    let n = length items - c.args.height in
    let as_deep : length c.self.inside.units - c.args.height ≡ n = ap (λ k. k - c.args.height) c.self.invariant in
    ap₂ activations_of (ap reverse c.truncate.ensures.items ∙ reverse-take c.args.height items (omega (arith, c.requires, whole, c.self.invariant))) (c.unwind.ensures ∙ ap (λ k. drop k c.self.inside.units) as_deep)
    ∙ drop-zipped n bs c.self.inside.units as_many
    ∙ ap₂ drop (ap (λ k. k - c.args.height) (sym (whole ∙ c.self.invariant))) c.self.view_is
