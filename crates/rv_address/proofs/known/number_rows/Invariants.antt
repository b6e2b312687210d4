use Rattle.std.proofs.Common.{◌≡◌, ◌++◌, map, drop}
use Rattle.rv_address.specs.Rows.{items_of, number_rows, rows_of}
use Rattle.rv_address.proofs.known.number_rows.Given as goal

abbrev pub invariant-loop-variables : goal.invariant-loop-variables
invariant-loop-variables l = map items_of l.rows.items ++ number_rows (map items_of l.table) (rows_of (drop l.variables-index l.blocks)) ≡ number_rows (map items_of l.table) (rows_of l.blocks)
