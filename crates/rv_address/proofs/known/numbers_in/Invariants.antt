use Rattle.std.proofs.Common.{◌≡◌, ◌++◌, map, drop}
use Rattle.pli_typing.specs.TypedStatementView.{declared_variable_of}
use Rattle.rv_address.specs.Rows.{items_of, numbers_in_words}
use Rattle.rv_address.proofs.known.numbers_in.Given as goal

abbrev pub invariant-loop-variable : goal.invariant-loop-variable
invariant-loop-variable l = l.numbers.items ++ numbers_in_words (map items_of l.table) (map declared_variable_of (drop l.variable-index l.variables)) ≡ numbers_in_words (map items_of l.table) (map declared_variable_of l.variables)
