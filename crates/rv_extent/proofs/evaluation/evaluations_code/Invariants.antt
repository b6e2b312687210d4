use Rattle.std.proofs.Common.{◌≡◌, ◌++◌, map, drop}
use Rattle.pli_typing.specs.TypedStatementView.{declared_variable_of, evaluation_of}
use Rattle.pli_coding.specs.Extents.{evaluations_code}
use Rattle.pli_frames.specs.TakenView.{taken_of}
use Rattle.rv_address.specs.Around.{environment_of}
use Rattle.rv_extent.proofs.evaluation.evaluations_code.Given as goal

abbrev pub invariant-loop-place : goal.invariant-loop-place
invariant-loop-place l = l.code ++ evaluations_code (environment_of l.environment) (taken_of l.taken) (declared_variable_of l.variable) l.place (map evaluation_of (drop l.place l.evaluations)) ≡ l.fn.code ++ evaluations_code (environment_of l.environment) (taken_of l.taken) (declared_variable_of l.variable) 0 (map evaluation_of l.evaluations)
