use Rattle.std.proofs.Common.{◌≡◌, ◌<◌, ◌^◌, ◌++◌, map, drop}
use Rattle.pli_typing.specs.TypedStatementView.{declared_variable_of}
use Rattle.rv_address.specs.Rows.{sums_from}
use Rattle.rv_address.proofs.known.sums_in.Given as goal

abbrev pub invariant-loop-variable : goal.invariant-loop-variable
invariant-loop-variable l = record {
  fits : l.sum < 2 ^ 32;
  sums : l.sums.items ++ sums_from l.sum (map declared_variable_of (drop l.variable-index l.variables)) ≡ sums_from 0 (map declared_variable_of l.variables);
}
