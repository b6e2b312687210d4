-- Turns over elements, by their start and their end.
use Rattle.std.specs.Prelude.{ℕ, ◌-◌, [], ◌∷◌, ◌++◌}
use Rattle.rv_meaning.specs.declared.instr.BranchTest.TheVariants as Test
use Rattle.pli_coding.specs.Registers.{a0, u1}
use Rattle.pli_coding.specs.Assembly.{JumpBack, Code, size_of}
use Rattle.pli_coding.specs.Streams.{Elements, next_counted}
use Rattle.rv_assembly.specs.declared.place.Place.{Place}
use Rattle.rv_assembly.specs.Places.{branch, jump_kept, jumped_over}

unfoldable pub turn_tested : (asked : Code) → Code
turn_tested asked = asked ++ branch Test.NotEqual a0 u1 2 ∷ []

unfoldable pub turn_begun : (asked : Code) → Code
turn_begun asked = asked ++ (branch Test.NotEqual a0 u1 2 ∷ jump_kept ∷ [])

unfoldable pub turn_ended : (start : ℕ) → Place → Elements → Code → Code
turn_ended start p l code =
    jumped_over ((code ++ next_counted l) ++ JumpBack (size_of (code ++ next_counted l) - start) ∷ []) p
