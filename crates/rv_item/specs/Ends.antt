-- The jump of code that awaits a field, for the end of the input, and its place.
use Rattle.std.specs.Prelude.{◌∷◌, ◌++◌}
use Rattle.pli_language.specs.declared.condition.Condition.TheVariants as C
use Rattle.pli_meaning.specs.Codes.{endfile_code}
use Rattle.pli_coding.specs.Registers.{u1}
use Rattle.pli_coding.specs.Assembly.{Code}
use Rattle.pli_coding.specs.Instructions.{small}
use Rattle.pli_coding.specs.Arithmetic.{raised}
use Rattle.pli_coding.specs.Streams.{controls_carried_out}
use Rattle.rv_assembly.specs.declared.place.Place.{Place}
use Rattle.rv_assembly.specs.Places.{branch_kept, jump_place}

-- what stands before the jump, from the test on
abbrev pub end_first : Code
end_first = branch_kept ∷ raised C.Endfile endfile_code

-- its place where such code stands behind other code
unfoldable pub exit_behind : Code → Place
exit_behind before = jump_place (before ++ (controls_carried_out ++ (small u1 3 ∷ end_first)))
