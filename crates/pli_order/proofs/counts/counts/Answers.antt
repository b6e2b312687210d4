use Rattle.std.proofs.Common.{◌≡◌, length, map, rules}
use Rattle.pli_signatures.specs.View.{leaf_in_force}
use Rattle.pli_order.proofs.Counting.{put_back}
use Rattle.pli_order.proofs.counts.counts.Goals as goal

pub put_counts-requires : goal.put_counts-requires
put_counts-requires c =
    let many : length c.in_ok-counts.counts.items ≡ length c.args.notes.now = search (rules, c.in_ok-counts.ensures) in
    rw c.deref_mut.ensures.value many

pub returns : goal.returns
returns c =
    let many : length c.in_ok-counts.counts.items ≡ length c.args.notes.now = search (rules, c.in_ok-counts.ensures) in
    let even : length c.deref_mut.result.now ≡ length c.args.notes.now = rw c.deref_mut.ensures.value many in
    put_back c.put_counts.new.counts c.deref_mut.result.now c.in_ok-counts.counts.items c.in_ok-counts.counts.len c.args.notes.now (map leaf_in_force c.args.leaves.now) c.put_counts.ensures c.deref_mut.ensures.value even c.in_ok-counts.counts.ok.0
