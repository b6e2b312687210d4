use Rattle.std.proofs.Common.{◌≡◌, ◌++◌, map, drop}
use Rattle.pli_typing.specs.Generations.{declared_variable}
use Rattle.pli_typing.specs.Judging.{each}
use Rattle.pli_language.specs.Refusals.{soonest}
use Rattle.pli_typing.specs.TypedStatementView.{declared_variable_of}
use Rattle.pli_reference.specs.Shown.{scope_of}
use Rattle.pli_variables.specs.Held.{groups_held}
use Rattle.pli_generation.proofs.variable.all_declared.Given as goal

abbrev pub invariant-loop-index : goal.invariant-loop-index
invariant-loop-index l = record {
  faults : soonest l.found (each (declared_variable (scope_of l.scope)) (groups_held (drop l.index l.groups))).faults ≡ soonest l.initial.found (each (declared_variable (scope_of l.scope)) (groups_held l.groups)).faults;
  value : map declared_variable_of l.out.items ++ (each (declared_variable (scope_of l.scope)) (groups_held (drop l.index l.groups))).value ≡ (each (declared_variable (scope_of l.scope)) (groups_held l.groups)).value;
}
