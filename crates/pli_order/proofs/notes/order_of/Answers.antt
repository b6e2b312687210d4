use Rattle.std.proofs.Common.{◌≡◌, ◌∙◌, ap, arith, get_or, length}
use Rattle.std.proofs.lemmas.Bool.Decides.{nat_tests}
use Rattle.std.proofs.lemmas.List.{take_all}
use Rattle.pli_order.specs.Notes.{parts_of}
use Rattle.pli_order.proofs.Noting.{comes_first, comes_last, comes_next, leaf_low, parts_more}
use Rattle.pli_order.proofs.notes.order_of.Goals as goal

pub loop-part-init : goal.loop-part-init
loop-part-init c = record {
  low = omega arith;
  same = ap parts_of c.new-notes.ensures.items;
  comes = comes_first c.new-notes.result.items c.new-ranges.result.items c.open.new.ranges.items _ (length c.args.parts.now) c.args.given c.new-notes.ensures.items c.new-ranges.ensures.items (omega arith) c.in_ok-open.ensures;
}

pub loop-part-preserved : goal.loop-part-preserved
loop-part-preserved c =
    let v = c.loop-part.invariant in
    let part = get_or c.args.parts.now c.loop-part.part-index (record { dimensions = 0; inside = 0 }) in
    let low = leaf_low part.inside c.loop-part.leaves c.leaf_behind-leaves.result c.leaf_behind-leaves.ensures in
    record {
      low = omega (arith, low, v.low);
      same = parts_more c.loop-part.notes.items c.push.new.self.items _ c.args.parts.now c.loop-part.part-index _ c.in_ok-push.ensures.items v.same c.in_ok-note.ensures.part_is (omega arith);
      comes = comes_next c.loop-part.notes.items c.push.new.self.items _ _ _ _ _ _ _ _ v.comes c.in_ok-push.ensures.items c.in_ok-note.ensures c.leaf_behind-leaves.ensures;
    }

pub returns : goal.returns
returns c =
    let v = c.loop-part.invariant in
    let empty : length c.loop-part.ranges.items ≡ 0 = grind (arith, nat_tests, c.is_empty.ensures, c.if-not-is_empty.false) in
    let last = comes_last c.loop-part.notes.items c.loop-part.ranges.items c.loop-part.leaves (length c.args.parts.now) c.args.given v.comes empty in
    record {
      same = v.same ∙ take_all c.loop-part.part-index c.args.parts.now (omega arith);
      are = last.0;
      leaves = last.1;
    }
