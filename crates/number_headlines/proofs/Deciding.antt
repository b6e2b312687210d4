-- Ways by a test, and where procedures stand.
use Rattle.std.proofs.Common.{◌≡◌, ℕ, ◌+◌, ◌≤◌, List, [], ◌∷◌, Bool, true, false, refl, arith}
use Rattle.std.specs.Prelude.{cond, ◌==◌}
use Rattle.pli_typing.specs.TypedTree as Y
use Rattle.pli_meaning.specs.DeclaredShapes.{head_of}
use Rattle.pli_coding.specs.Assembly.{size_of}
use Rattle.pli_coding.specs.Environments.{Environment}
use Rattle.pli_coding.specs.Procedures.{procedure_of_block}
use Rattle.program_places.specs.Programs.{entry_among}

pub by_decision : (q : Bool) {P : Type 0} → (q ≡ true → P) → (q ≡ false → P) → P
by_decision true one other = one refl
by_decision false one other = other refl

-- procedures stand behind the start and the routines of raises
pub entry_low :
    (e : Environment) (number : ℕ) (ps : List Y.Procedure) (index : ℕ) → index ≤ entry_among e number ps index
entry_low e number [] index = omega arith
entry_low e number (p ∷ ps) index =
    by ((head_of p.block).number == number)
    (entry_low e number ps (index + size_of (procedure_of_block e p.block p.parameters p.result)))
  where
    by :
        (q : Bool) →
        index + size_of (procedure_of_block e p.block p.parameters p.result)
        ≤ entry_among e number ps (index + size_of (procedure_of_block e p.block p.parameters p.result)) →
        index
        ≤ cond q index
        (entry_among e number ps (index + size_of (procedure_of_block e p.block p.parameters p.result)))
    by true more = omega arith
    by false more = omega (arith, more)
