use Rattle.std.proofs.Common.{◌≡◌, ◌+◌, drop, map}
use Rattle.pli_typing.specs.Calls.{is_block_of}
use Rattle.pli_language.specs.Declarations.{Block}
use Rattle.pli_typing.specs.Variables.{index_where}
use Rattle.pli_language.specs.View.{procedure_head_of}
use Rattle.pli_declare.specs.ShownBlocks.{block_of}
use Rattle.pli_variables.proofs.procedure.block_of_procedure.Given as goal

abbrev pub invariant-loop-i : goal.invariant-loop-i
invariant-loop-i l = l.i + index_where (λ (b : Block). is_block_of (procedure_head_of l.head) b.head) (map block_of (drop l.i l.blocks)) ≡ index_where (λ (b : Block). is_block_of (procedure_head_of l.head) b.head) (map block_of l.blocks)
