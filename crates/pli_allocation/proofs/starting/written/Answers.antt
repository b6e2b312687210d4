use Rattle.std.proofs.Common.{◌≡◌, ◌<◌, ◌≤◌, ◌+◌, ap, arith, drop, length}
use Rattle.pli_typing.specs.Signatures.{leaf_size, leaves_size}
use Rattle.pli_values.specs.Beginnings.{leaf_of, leaves_of}
use Rattle.pli_values.proofs.Beginnings.{leaf_first, leaf_known, no_leaf}
use Rattle.pli_allocation.specs.Beginnings.{written_leaf, written_leaves}
use Rattle.pli_allocation.proofs.Starts.{written_leaves_within, written_out}
use Rattle.pli_allocation.proofs.starting.written.Goals as goal

pub written_of-bytes-requires-clause-inside : goal.written_of-bytes-requires-clause-inside
written_of-bytes-requires-clause-inside c =
    let b = c.args.begun.now in
    let k = c.loop-leaf.leaf in
    let there : k < length b.signature.now.leaves.items = grind (arith, c.len-leaf-end.ensures, c.loop-leaf-test.true) in
    let first = ap leaves_size (leaf_first (leaves_of b) k (leaf_of b k) (leaf_known b k there)) in
    omega (arith, first, c.loop-leaf.invariant.inside)

pub overflow_add-bytes : goal.overflow_add-bytes
overflow_add-bytes c =
    let b = c.args.begun.now in
    let k = c.loop-leaf.leaf in
    let there : k < length b.signature.now.leaves.items = grind (arith, c.len-leaf-end.ensures, c.loop-leaf-test.true) in
    let first = ap written_leaves (leaf_first (leaves_of b) k (leaf_of b k) (leaf_known b k there)) in
    let within = written_leaves_within (leaves_of b) in
    omega (arith, first, within, c.requires, c.written_of-bytes.ensures, c.loop-leaf.invariant.counted)

pub loop-leaf-preserved : goal.loop-leaf-preserved
loop-leaf-preserved c =
    let b = c.args.begun.now in
    let k = c.loop-leaf.leaf in
    let there : k < length b.signature.now.leaves.items = grind (arith, c.len-leaf-end.ensures, c.loop-leaf-test.true) in
    let first = leaf_first (leaves_of b) k (leaf_of b k) (leaf_known b k there) in
    let sizes = ap leaves_size first in
    let counts = ap written_leaves first in
    record {
      inside = omega (arith, sizes, c.loop-leaf.invariant.inside);
      counted = omega (arith, counts, c.written_of-bytes.ensures, c.loop-leaf.invariant.counted);
    }

pub returns : goal.returns
returns c =
    let b = c.args.begun.now in
    let k = c.loop-leaf.leaf in
    let out : length b.signature.now.leaves.items ≤ k = grind (arith, c.len-leaf-end.ensures, c.loop-leaf-test.false) in
    written_out (leaves_of b) k c.loop-leaf.bytes (no_leaf b k out) c.loop-leaf.invariant.counted
