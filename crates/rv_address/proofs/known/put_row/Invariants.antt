use Rattle.std.proofs.Common.{◌≡◌, map, drop}
use Rattle.pli_typing.specs.TypedStatementView.{declared_variable_of}
use Rattle.rv_address.specs.Rows.{items_of, with_row}
use Rattle.rv_address.proofs.known.put_row.Given as goal

abbrev pub invariant-loop-variable : goal.invariant-loop-variable
invariant-loop-variable l = with_row (map declared_variable_of (drop l.variable-index l.variables)) (map items_of l.table.items) ≡ with_row (map declared_variable_of l.variables) (map items_of l.fn.table.items)
