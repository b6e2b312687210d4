use Rattle.std.proofs.Common.{◌≡◌, ◌∙◌, ap, length, sym, take, arith}
use Rattle.std.specs.Prelude.{option_map, reverse, slice_get}
use Rattle.std.proofs.lemmas.List.{length-reverse}
use Rattle.pli_serving.specs.Blocks.{from_frame}
use Rattle.pli_activations.specs.Entered.{block_shown, without_units}
use Rattle.pli_activations.proofs.Zipped.{block_further, block_here, block_in, block-zipped}
use Rattle.pli_activations.proofs.activations.Activations.block_of.Goals as goal

pub entered-preserved : goal.entered-preserved
entered-preserved c =
    let items = c.self.inside.blocks.items in
    record {
      within = omega (arith, c.entered.invariant.within);
      above = sym (block_further items c.entered.height c.args.frame c.index-block.result.now c.entered-test.true c.entered.invariant.within c.index-block.ensures c.if-block-frame.false) ∙ c.entered.invariant.above;
    }

pub returns-then-block-frame : goal.returns-then-block-frame
returns-then-block-frame c =
    let items = c.self.inside.blocks.items in
    let as_many : length c.self.inside.units ≡ length (reverse items) = c.self.invariant ∙ sym (length-reverse items) in
    ap (option_map block_shown) (sym (block_here items c.entered.height c.args.frame c.index-block.result.now c.entered-test.true c.entered.invariant.within c.index-block.ensures c.if-block-frame.true) ∙ c.entered.invariant.above)
    ∙ sym (block-zipped c.args.frame (reverse items) c.self.inside.units as_many)
    ∙ ap (λ a. option_map without_units (slice_get (from_frame c.args.frame a) 0)) c.self.view_is

pub returns : goal.returns
returns c =
    let items = c.self.inside.blocks.items in
    let as_many : length c.self.inside.units ≡ length (reverse items) = c.self.invariant ∙ sym (length-reverse items) in
    let none : c.entered.height ≡ 0 = omega (arith, c.entered-test.false) in
    ap (option_map block_shown) (sym (ap (λ h. block_in c.args.frame (reverse (take h items))) none) ∙ c.entered.invariant.above)
    ∙ sym (block-zipped c.args.frame (reverse items) c.self.inside.units as_many)
    ∙ ap (λ a. option_map without_units (slice_get (from_frame c.args.frame a) 0)) c.self.view_is
