use Rattle.std.proofs.Common.{◌≡◌, ◌≤◌, map, drop, length}
use Rattle.pli_typing.specs.TypedStatementView.{procedure_of}
use Rattle.rv_address.specs.Around.{block_place_of}
use Rattle.rv_start.specs.Gathered.{gathered}
use Rattle.rv_start.proofs.blocks.gathered.Given as goal

abbrev pub invariant-loop-left : goal.invariant-loop-left
invariant-loop-left l = record {
  within : l.left ≤ length l.procedures;
  blocks : map block_place_of l.blocks.items ≡ gathered (map procedure_of (drop l.left l.procedures));
}

abbrev pub decreases-loop-left : goal.decreases-loop-left
decreases-loop-left l = l.left
