use Rattle.std.proofs.Common.{◌≡◌, map}
use Rattle.pli_variables.specs.BlockTables.{block_table, table_of}
use Rattle.pli_variables.specs.Rows.{blocks_shown, rows_before}
use Rattle.pli_variables.proofs.block_table.block_tables.Given as goal

abbrev pub invariant-loop-number : goal.invariant-loop-number
invariant-loop-number l = map table_of l.out.items ≡ rows_before (block_table (blocks_shown l.meant.scopes.now)) l.number
