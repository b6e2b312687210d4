use Rattle.std.proofs.Common.{◌≡◌, ◌++◌, map, drop}
use Rattle.pli_typing.specs.Calls.{parameters_at}
use Rattle.pli_declare.specs.ShownBlocks.{block_of}
use Rattle.pli_operand.specs.Shown.{designated_of}
use Rattle.pli_reference.proofs.call.parameters_at.Given as goal

abbrev pub invariant-loop-index : goal.invariant-loop-index
invariant-loop-index l = map designated_of l.out.items ++ parameters_at (map block_of l.tables.scopes.now.blocks.items) l.block (drop l.index-index l.indices) ≡ parameters_at (map block_of l.tables.scopes.now.blocks.items) l.block l.indices
