use Rattle.std.proofs.Common.{◌+◌, ◌-◌, ◌≤◌, length, map, max}
use Rattle.controlled_gens.specs.Stacks.{IsFilled}
use Rattle.controlled_gens.proofs.controlled.reach.Given as goal

abbrev pub invariant-stacks : goal.invariant-stacks
invariant-stacks l = record {
  grown : IsFilled (map (λ generations. generations.items) l.fn.stacks.items) (map (λ generations. generations.items) l.stacks.items);
  most : length l.stacks.items ≤ max (l.index + 1) (length l.fn.stacks.items);
}

abbrev pub decreases-stacks : goal.decreases-stacks
decreases-stacks l = (l.index + 1) - length l.stacks.items
