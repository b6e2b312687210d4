use Rattle.std.proofs.Common.{◌≡◌, map, drop}
use Rattle.pli_language.specs.Declaring.{own_attributes}
use Rattle.pli_typing.specs.Generations.{names_demanded}
use Rattle.pli_typing.specs.Judging.{each}
use Rattle.pli_declare.specs.Shown.{held_of}
use Rattle.pli_operand.specs.Notes.{noted}
use Rattle.pli_operand.specs.Shown.{notes_of}
use Rattle.pli_variables.specs.Rows.{blocks_shown}
use Rattle.pli_generation.proofs.variable.all_demanded.Given as goal

abbrev pub invariant-loop-held : goal.invariant-loop-held
invariant-loop-held l = noted (notes_of l.notes) (each (λ h. names_demanded (blocks_shown l.tables.scopes.now) l.block (own_attributes h)) (map held_of (drop l.held-index l.all))) ≡ noted (notes_of l.initial.notes) (each (λ h. names_demanded (blocks_shown l.tables.scopes.now) l.block (own_attributes h)) (map held_of l.all))
