use Rattle.std.proofs.Common.{◌≡◌, map, drop}
use Rattle.pli_typing.specs.TypedStatementView.{procedure_of}
use Rattle.pli_meaning.specs.DeclaredShapes.{procedure_numbered}
use Rattle.pli_coding.specs.Frames.{parameters_in}
use Rattle.rv_address.proofs.frame.parameters_of_block.Given as goal

abbrev pub invariant-loop-procedure : goal.invariant-loop-procedure
invariant-loop-procedure l = parameters_in (procedure_numbered l.block (map procedure_of (drop l.procedure-index l.procedures))) ≡ parameters_in (procedure_numbered l.block (map procedure_of l.procedures))
