use Rattle.std.proofs.Common.{◌≡◌, [], map, drop}
use Rattle.rv_address.specs.Rows.{items_of, rows_of, with_rows}
use Rattle.rv_address.proofs.known.table_of.Given as goal

abbrev pub invariant-loop-variables : goal.invariant-loop-variables
invariant-loop-variables l = with_rows (rows_of (drop l.variables-index l.blocks)) (map items_of l.table.items) ≡ with_rows (rows_of l.blocks) []
