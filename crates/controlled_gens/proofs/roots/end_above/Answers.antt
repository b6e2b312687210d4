use Rattle.std.proofs.Common.{◌≡◌, ◌-◌, ◌≤◌, arith}
use Rattle.std.specs.Prelude.{nat_le}
use Rattle.controlled_gens.proofs.Trimming.{trim_kept, trim_removed}
use Rattle.controlled_gens.proofs.roots.end_above.Goals as goal

pub loop-index-preserved : goal.loop-index-preserved
loop-index-preserved c = (
  trim_kept (λ e. nat_le e.1.owner c.args.owner) c.loop-index.index (c.loop-index.index - 1) c.args.roots.now.entries c.loop-index.roots.entries c.is_above-ends.result (omega arith) c.loop-index.invariant.0 c.loop-index.invariant.1 c.if-ends.false c.is_above-ends.ensures,
  omega (arith, c.loop-index.invariant.1),
)

pub loop-index-preserved-then-ends : goal.loop-index-preserved-then-ends
loop-index-preserved-then-ends c = (
  trim_removed (λ e. nat_le e.1.owner c.args.owner) c.loop-index.index (c.loop-index.index - 1) c.args.roots.now.entries c.loop-index.roots.entries c.shift_remove_index.new.self.entries c.is_above-ends.result (omega arith) c.loop-index.invariant.0 c.loop-index.invariant.1 c.if-ends.true c.is_above-ends.ensures c.shift_remove_index.ensures.entries,
  omega (arith, c.loop-index.invariant.1),
)
