-- How many words the code of a procedure and of a whole program has at most.
use Rattle.std.specs.Prelude.{ℕ, ◌+◌, ◌*◌, ◌≤◌, List, [], ◌∷◌, length}
use Rattle.pli_typing.specs.TypedTree as Y
use Rattle.pli_coding.specs.Environments.{Environment, BlockPlace}
use Rattle.pli_coding.specs.Frames.{MemoryParts}
use Rattle.pli_coding.specs.Assembly.{size_of}
use Rattle.pli_coding.specs.Procedures.{procedures_code}
use Rattle.pli_coding.specs.Images.{blocks_of, picture_of}
use Rattle.code_sizes.specs.StatementSizes.{block_size, stmts_size, saved_size}
use Rattle.code_sizes.specs.StartSizes.{routines_size, start_size, raise_size}

-- each may stand for a copy, which is made, filled, and may be a text
abbrev pub parameters_size : List ℕ → ℕ
parameters_size [] = 0
parameters_size (n ∷ ns) = 61 * length (n ∷ ns) + 8

abbrev pub body_size : Y.Program → Y.Block → ℕ
body_size p (Y.BlockOf head body) = block_size p head + (stmts_size p body + (saved_size + 27))

abbrev pub procedure_size : Y.Program → Y.Procedure → ℕ
procedure_size p procedure = body_size p procedure.block + parameters_size procedure.parameters

abbrev pub procedures_size : Y.Program → List Y.Procedure → ℕ
procedures_size p [] = 0
procedures_size p (procedure ∷ more) = procedure_size p procedure + procedures_size p more

abbrev pub program_size : Y.Program → ℕ
program_size p =
    start_size p + (raise_size + (routines_size p (blocks_of p.procedures) + procedures_size p p.procedures))

-- ---- the law: neither is longer, and an image has as many words

abbrev pub ProceduresSized : Type 0
ProceduresSized =
    (e : Environment) (ps : List Y.Procedure) → size_of (procedures_code e ps) ≤ procedures_size e.program ps

abbrev pub ProgramsSized : Type 0
ProgramsSized = (parts : MemoryParts) (p : Y.Program) → length (picture_of parts p).code ≤ program_size p

abbrev pub AllProgramsSized : Type 0
AllProgramsSized = ProceduresSized × ProgramsSized
