use Rattle.std.proofs.Common.{◌≡◌, ◌<◌, ◌^◌, ◌++◌, map, drop, length}
use Rattle.pli_typing.specs.TypedStatementView.{declared_variable_of}
use Rattle.pli_coding.specs.Frames.{variable_place}
use Rattle.pli_frames.specs.Parts.{parts}
use Rattle.pli_frames.specs.Plans.{places_from}
use Rattle.pli_frames.proofs.frame.places_from.Given as goal

abbrev pub invariant-loop-variable : goal.invariant-loop-variable
invariant-loop-variable l = record {
  fits : l.at < 2 ^ 32;
  places : l.places.items ++ places_from l.at (map declared_variable_of (drop l.variable-index l.variables)) ≡ places_from l.start (map declared_variable_of l.variables);
  end : variable_place parts l.at (map declared_variable_of (drop l.variable-index l.variables)) (length (map declared_variable_of (drop l.variable-index l.variables))) ≡ variable_place parts l.start (map declared_variable_of l.variables) (length l.variables);
}
