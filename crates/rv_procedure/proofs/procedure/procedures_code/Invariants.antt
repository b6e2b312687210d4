use Rattle.std.proofs.Common.{◌≡◌, ◌++◌, map, drop}
use Rattle.pli_typing.specs.TypedStatementView.{procedure_of}
use Rattle.pli_coding.specs.Procedures.{procedures_code}
use Rattle.rv_address.specs.Around.{environment_of}
use Rattle.rv_procedure.proofs.procedure.procedures_code.Given as goal

abbrev pub invariant-loop-procedure : goal.invariant-loop-procedure
invariant-loop-procedure l = l.code ++ procedures_code (environment_of l.environment) (map procedure_of (drop l.procedure-index l.procedures)) ≡ l.fn.code ++ procedures_code (environment_of l.environment) (map procedure_of l.procedures)
