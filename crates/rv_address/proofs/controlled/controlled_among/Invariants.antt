use Rattle.std.proofs.Common.{◌≡◌, ◌≤◌, ◌+◌, map, drop}
use Rattle.pli_typing.specs.TypedStatementView.{declared_variable_of}
use Rattle.pli_coding.specs.Locating.{controlled_among}
use Rattle.rv_address.proofs.controlled.controlled_among.Given as goal

abbrev pub invariant-loop-variable : goal.invariant-loop-variable
invariant-loop-variable l = record {
  few : l.number ≤ l.variable-index;
  sum : l.number + controlled_among (map declared_variable_of (drop l.variable-index l.variables)) ≡ controlled_among (map declared_variable_of l.variables);
}
