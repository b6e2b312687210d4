use Rattle.std.proofs.Common.{map}
use Rattle.pli_signatures.specs.View.{leaf_in_force}
use Rattle.pli_order.proofs.Counting.{count_so}
use Rattle.pli_order.proofs.counts.count.Goals as goal

pub returns : goal.returns
returns c =
    count_so c.args.note (map leaf_in_force c.args.leaves.now) c.args.behind.now c.rows.result c.each.result c.beside.result c.saturating_mul-own.result _ c.rows.ensures c.each.ensures c.beside.ensures c.saturating_mul-own.ensures c.saturating_add.ensures
