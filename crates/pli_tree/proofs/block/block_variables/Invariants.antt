use Rattle.std.proofs.Common.{◌≡◌, ◌++◌, map, drop}
use Rattle.pli_language.specs.Refusals.{soonest}
use Rattle.pli_typing.specs.Resolving.{block_variables}
use Rattle.pli_typing.specs.TypedStatementView.{declared_variable_of}
use Rattle.pli_declare.specs.ShownBlocks.{block_of}
use Rattle.pli_variables.specs.Rows.{blocks_shown}
use Rattle.pli_tree.proofs.block.block_variables.Given as goal

abbrev pub invariant-loop-block : goal.invariant-loop-block
invariant-loop-block l = record {
  faults : soonest l.found (block_variables (blocks_shown l.tables.scopes.now) l.block (map block_of (drop l.block l.tables.scopes.now.blocks.items))).faults ≡ soonest l.initial.found (block_variables (blocks_shown l.tables.scopes.now) 0 (blocks_shown l.tables.scopes.now)).faults;
  value : map (λ b. map declared_variable_of b.items) l.out.items ++ (block_variables (blocks_shown l.tables.scopes.now) l.block (map block_of (drop l.block l.tables.scopes.now.blocks.items))).value ≡ (block_variables (blocks_shown l.tables.scopes.now) 0 (blocks_shown l.tables.scopes.now)).value;
}
