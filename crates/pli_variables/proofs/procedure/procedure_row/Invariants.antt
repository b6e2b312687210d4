use Rattle.std.proofs.Common.{◌≡◌, ◌++◌, drop, map}
use Rattle.pli_declare.specs.Shown.{declaration_of}
use Rattle.pli_declare.specs.ShownBlocks.{block_of}
use Rattle.pli_variables.specs.Procedures.{procedure_row}
use Rattle.pli_variables.proofs.procedure.procedure_row.Given as goal

abbrev pub invariant-loop-declaration : goal.invariant-loop-declaration
invariant-loop-declaration l = l.out.items ++ procedure_row (map block_of l.blocks) (map declaration_of (drop l.declaration-index l.declarations)) ≡ procedure_row (map block_of l.blocks) (map declaration_of l.declarations)
