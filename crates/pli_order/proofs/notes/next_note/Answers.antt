use Rattle.std.proofs.Common.{◌<◌, arith, refl}
use Rattle.pli_order.proofs.Noting.{is_next}
use Rattle.pli_order.proofs.notes.next_note.Goals as goal

pub returns : goal.returns
returns c =
    let range = c.in-Some.range in
    let low : c.args.part.inside < range.size = omega arith in
    is_next c.args.part c.args.leaf range.size range.before _ c.args.ranges.now.items c.pop.new.self.items c.open.new.ranges.items c.open-2.new.ranges.items _ c.in-Some.ensures.items low c.in_ok-own.ensures c.in_ok-open.ensures c.in_ok-open-2.ensures refl refl refl refl
