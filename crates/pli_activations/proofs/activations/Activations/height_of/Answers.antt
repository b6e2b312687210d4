use Rattle.std.proofs.Common.{◌≡◌, ◌∙◌, ◌-◌, ap, ap₂, drop, length, sym, arith}
use Rattle.std.specs.Prelude.{reverse}
use Rattle.std.proofs.lemmas.List.{length-reverse}
use Rattle.pli_serving.specs.Blocks.{from_frame}
use Rattle.pli_activations.proofs.Zipped.{at_frame, not_at_frame, length-zipped}
use Rattle.pli_activations.proofs.activations.Activations.height_of.Goals as goal

pub returns-then-index-frame : goal.returns-then-index-frame
returns-then-index-frame c =
    let items = c.self.inside.blocks.items in
    let bs = reverse c.self.inside.blocks.items in
    let as_many : length c.self.inside.units ≡ length bs = c.self.invariant ∙ sym (length-reverse c.self.inside.blocks.items) in
    let whole : length c.args.self.now ≡ length c.self.inside.units = ap length (sym c.self.view_is) ∙ length-zipped bs c.self.inside.units as_many ∙ sym as_many in
    ap₂ drop (ap (λ k. k - c.entered.height) (whole ∙ c.self.invariant)) (sym c.self.view_is)
    ∙ sym (at_frame items c.self.inside.units c.entered.height c.args.frame c.index.result.now c.self.invariant c.entered-test.true c.entered.invariant.within c.index.ensures c.if-index-frame.true)
    ∙ c.entered.invariant.above
    ∙ ap (from_frame c.args.frame) c.self.view_is

pub entered-preserved : goal.entered-preserved
entered-preserved c =
    record {
      within = omega (arith, c.entered.invariant.within);
      above = sym (not_at_frame c.self.inside.blocks.items c.self.inside.units c.entered.height c.args.frame c.index.result.now c.self.invariant c.entered-test.true c.entered.invariant.within c.index.ensures c.if-index-frame.false) ∙ c.entered.invariant.above;
    }
