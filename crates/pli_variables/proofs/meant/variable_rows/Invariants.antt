use Rattle.std.proofs.Common.{◌≡◌, map}
use Rattle.pli_declare.specs.ShownBlocks.{block_of}
use Rattle.pli_variables.specs.Rows.{rows_before, rows_shown, variable_row}
use Rattle.pli_variables.proofs.meant.variable_rows.Given as goal

abbrev pub invariant-loop-number : goal.invariant-loop-number
invariant-loop-number l = rows_shown l.out.items ≡ rows_before (variable_row (map block_of l.blocks)) l.number
