use Rattle.std.proofs.Common.{◌≡◌, ◌++◌, map, drop}
use Rattle.pli_typing.specs.Generations.{evaluation}
use Rattle.pli_typing.specs.Judging.{each}
use Rattle.pli_language.specs.Refusals.{soonest}
use Rattle.pli_typing.specs.TypedStatementView.{evaluation_of}
use Rattle.pli_typing.specs.TypedView.{variable_of}
use Rattle.pli_reference.specs.Shown.{scope_of}
use Rattle.pli_variables.specs.Written.{all_shown}
use Rattle.pli_generation.proofs.extent.evaluations.Given as goal

abbrev pub invariant-loop-extent : goal.invariant-loop-extent
invariant-loop-extent l = record {
  faults : soonest l.found (each (evaluation (scope_of l.scope) (variable_of l.own) (all_shown l.written)) (all_shown (drop l.extent-index l.written))).faults ≡ soonest l.initial.found (each (evaluation (scope_of l.scope) (variable_of l.own) (all_shown l.written)) (all_shown l.written)).faults;
  value : map evaluation_of l.out.items ++ (each (evaluation (scope_of l.scope) (variable_of l.own) (all_shown l.written)) (all_shown (drop l.extent-index l.written))).value ≡ (each (evaluation (scope_of l.scope) (variable_of l.own) (all_shown l.written)) (all_shown l.written)).value;
}
