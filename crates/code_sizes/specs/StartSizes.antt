-- How many words the code beside procedures has at most: the start of a run, the routines of raises, and those that
-- evaluate the extents of variables which ALLOCATE makes.
use Rattle.std.specs.Prelude.{ℕ, suc, ◌+◌, ◌≤◌, List, [], ◌∷◌, if◌then◌else◌}
use Rattle.pli_typing.specs.TypedTree as Y
use Rattle.pli_meaning.specs.DeclaredShapes.{variables_of_block}
use Rattle.pli_coding.specs.Assembly.{size_of}
use Rattle.pli_coding.specs.Environments.{Environment, BlockPlace}
use Rattle.pli_coding.specs.Locating.{needs_number_word}
use Rattle.pli_coding.specs.Procedures.{has_routine, routines_code}
use Rattle.pli_coding.specs.Images.{start_code, raise_code}
use Rattle.code_sizes.specs.StatementSizes.{display_size, extents_size}

-- ---- routines of extents, each in a frame one level further in than the block of its variable

abbrev pub routine_size : (level : ℕ) → Y.DeclaredVariable → List Y.Evaluation → ℕ
routine_size level d [] = 0
routine_size level d (x ∷ xs) = if has_routine d.class then extents_size d + (display_size level + 75) else 0

abbrev pub block_routines_size : (level : ℕ) → List Y.DeclaredVariable → ℕ
block_routines_size level [] = 0
block_routines_size level (d ∷ ds) = routine_size level d d.evaluations + block_routines_size level ds

abbrev pub routines_size : Y.Program → List BlockPlace → ℕ
routines_size p [] = 0
routines_size p (b ∷ bs) = block_routines_size (suc b.level) (variables_of_block p b.number) + routines_size p bs

-- ---- the start: a STATIC variable is made, and a signature's number is kept where its lower bound beside REFER isn't
-- 1

abbrev pub class_size : Y.StorageClass → ℕ
class_size Y.StaticClass = 10
class_size _ = 0

abbrev pub static_size : Y.DeclaredVariable → ℕ
static_size d = class_size d.class + (if needs_number_word d then 16 else 0)

abbrev pub block_statics_size : List Y.DeclaredVariable → ℕ
block_statics_size [] = 0
block_statics_size (d ∷ ds) = static_size d + block_statics_size ds

abbrev pub statics_size : List (List Y.DeclaredVariable) → ℕ
statics_size [] = 0
statics_size (ds ∷ rest) = block_statics_size ds + statics_size rest

abbrev pub start_size : Y.Program → ℕ
start_size p = statics_size p.variables + 19

-- of all programs
abbrev pub raise_size : ℕ
raise_size = 24

-- ---- the law: none is longer

abbrev pub RoutinesSized : Type 0
RoutinesSized =
    (e : Environment) (bs : List BlockPlace) → size_of (routines_code e bs) ≤ routines_size e.program bs

abbrev pub StartsSized : Type 0
StartsSized = (e : Environment) → size_of (start_code e) ≤ start_size e.program

abbrev pub RaisesSized : Type 0
RaisesSized = size_of raise_code ≤ raise_size

abbrev pub BesideProceduresSized : Type 0
BesideProceduresSized = RoutinesSized × (StartsSized × RaisesSized)
