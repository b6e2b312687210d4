use Rattle.std.proofs.Common.{◌≡◌, ◌++◌, map, drop}
use Rattle.rv_address.specs.Rows.{items_of, rows_of, sum_rows}
use Rattle.rv_address.proofs.known.sum_rows.Given as goal

abbrev pub invariant-loop-variables : goal.invariant-loop-variables
invariant-loop-variables l = map items_of l.rows.items ++ sum_rows (rows_of (drop l.variables-index l.blocks)) ≡ sum_rows (rows_of l.blocks)
