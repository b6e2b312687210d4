use Rattle.std.proofs.Common.{◌<◌, ◌≤◌, ◌+◌, arith, length}
use Rattle.pli_serving.specs.Values.{leaf_data}
use Rattle.pli_values.specs.Beginnings.{generation_of, leaf_of, leaves_of}
use Rattle.pli_values.proofs.Beginnings.{all_written, leaf_first, leaf_known, leaf_written, no_leaf, room_for, room_left}
use Rattle.pli_values.proofs.begun.put_generation.Goals as goal

pub put_begun-here-requires-clause-inside : goal.put_begun-here-requires-clause-inside
put_begun-here-requires-clause-inside c =
    let b = c.args.begun.now in
    let k = c.loop-leaf.leaf in
    let there : k < length b.signature.now.leaves.items = grind (arith, c.len-leaf-end.ensures, c.loop-leaf-test.true) in
    let first = leaf_first (leaves_of b) k (leaf_of b k) (leaf_known b k there) in
    room_for (leaves_of b) k c.loop-leaf.here (length c.loop-leaf.memory) (leaf_of b k) first c.loop-leaf.invariant.inside

pub loop-leaf-preserved : goal.loop-leaf-preserved
loop-leaf-preserved c =
    let b = c.args.begun.now in
    let values = (generation_of b).values in
    let k = c.loop-leaf.leaf in
    let here = c.loop-leaf.here in
    let next = c.put_begun-here.result in
    let done = c.put_begun-here.ensures in
    let same = c.put_begun-here.auto.memory in
    let there : k < length b.signature.now.leaves.items = grind (arith, c.len-leaf-end.ensures, c.loop-leaf-test.true) in
    let first = leaf_first (leaves_of b) k (leaf_of b k) (leaf_known b k there) in
    let room = room_for (leaves_of b) k here (length c.loop-leaf.memory) (leaf_of b k) first c.loop-leaf.invariant.inside in
    let left = room_left (leaves_of b) k here next (length c.loop-leaf.memory) (leaf_of b k) first done.within c.loop-leaf.invariant.inside in
    let inside : here + length (leaf_data (leaf_of b k) (values k)) ≤ length c.loop-leaf.memory = omega (arith, done.behind, done.within, room) in
    record {
      inside = omega (arith, same, left);
      written = leaf_written (leaves_of b) values k here next (leaf_of b k) c.loop-leaf.memory c.put_begun-here.new.memory _ first done.written done.behind inside c.loop-leaf.invariant.written;
    }

pub returns : goal.returns
returns c =
    let b = c.args.begun.now in
    let k = c.loop-leaf.leaf in
    let out : length b.signature.now.leaves.items ≤ k = grind (arith, c.len-leaf-end.ensures, c.loop-leaf-test.false) in
    all_written (leaves_of b) (generation_of b).values k c.loop-leaf.here c.loop-leaf.memory _ (no_leaf b k out) c.loop-leaf.invariant.written
