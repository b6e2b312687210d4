use Rattle.std.proofs.Common.{◌≡◌, ◌<◌, ◌≤◌, ◌∙◌, ℕ, arith, length, min, subst, sym}
use Rattle.pli_parts.specs.Leaves.{IsReadable}
use Rattle.pli_parts.proofs.Puts.{no_more_put, whole_at}
use Rattle.pli_parts.proofs.Takes.{readable_at}
use Rattle.pli_parts.proofs.storing.put_leaves.Goals as goal

pub put_leaf-requires-clause-readable : goal.put_leaf-requires-clause-readable
put_leaf-requires-clause-readable c =
    let l = c.index-leaves-number.result in
    let there : c.loop-number.number < length c.args.leaves.now = grind (arith, c.min-both.ensures, c.loop-number-test.true) in
    let same : length c.args.memory.now ≡ length c.loop-number.memory = omega (arith, c.loop-number.auto.memory) in
    subst (λ (n : ℕ). IsReadable n l) same
    (readable_at (length c.args.memory.now) c.args.leaves.now c.loop-number.number l c.requires.readable there
    c.index-leaves-number.is)

pub put_leaf-requires-clause-whole : goal.put_leaf-requires-clause-whole
put_leaf-requires-clause-whole c =
    let there : c.loop-number.number < length c.args.leaves.now = grind (arith, c.min-both.ensures, c.loop-number-test.true) in
    let taken : c.loop-number.number < length c.args.taken.now = grind (arith, c.min-both.ensures, c.loop-number-test.true) in
    whole_at c.args.leaves.now c.args.taken.now c.loop-number.number c.index-leaves-number.result c.index-taken-number.result c.requires.whole there taken c.index-leaves-number.is c.index-taken-number.is

pub returns : goal.returns
returns c =
    let past : min (length c.args.leaves.now) (length c.args.taken.now) ≤ c.loop-number.number = omega (arith, c.min-both.ensures, c.loop-number-test.false) in
    sym (no_more_put c.args.leaves.now c.args.taken.now c.loop-number.number c.loop-number.memory past) ∙ c.loop-number.invariant
