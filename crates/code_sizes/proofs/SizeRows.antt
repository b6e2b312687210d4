-- Worked sizes of expressions by their nodes.
use Rattle.std.proofs.Common.{◌≡◌, ℕ, List, [], ◌∷◌, map, Some, None, true, refl}
use Rattle.pli_language.specs.Tree as T
use Rattle.pli_typing.specs.TypedTree as Y
use Rattle.code_sizes.specs.ExpressionSizes.{number_size, pointer_size, call_size}
use Rattle.code_sizes.specs.StoringSizes.{allocation_size, freeing_size}
use Rattle.code_sizes.specs.StreamSizes.{put_size, get_size}
use Rattle.code_sizes.specs.StatementSizes.{stmt_size}
use Rattle.code_sizes.specs.StartSizes.{start_size, routine_size}
use Rattle.code_sizes.specs.ProgramSizes.{procedure_size, program_size}

abbrev constant : Y.Number
constant = Y.NumberConstant 5

abbrev variable : Y.Variable
variable = record { class = Y.BasedClass; block = 1; level = 0; index = 0 }

abbrev locator : Y.Variable
locator = record { class = Y.ControlledClass; block = 1; level = 0; index = 1 }

abbrev scalar : Y.Variable → Y.Locator → Y.Numbers → Y.Reference
scalar v l xs = Y.Referring v l (record { first = 0; count = 1 }) xs

-- 5, 5 + 5, and a variable without and with a subscript
numbers :
    map number_size (
    constant
    ∷ Y.Calculated Y.Sum constant constant
    ∷ Y.NumberIn (scalar locator Y.NotLocated Y.NoNumber)
    ∷ Y.NumberIn (scalar locator Y.NotLocated (Y.NumberThen constant Y.NoNumber))
    ∷ [])
    ≡ (2 ∷ 35 ∷ 65 ∷ 104 ∷ [])
numbers = refl

abbrev pointer : Y.Pointer
pointer = Y.PointerIn (scalar locator Y.NotLocated Y.NoNumber)

-- a POINTER variable, and a number that it locates
located :
    (pointer_size pointer ∷ number_size (Y.NumberIn (scalar variable (Y.LocatedBy pointer) Y.NoNumber)) ∷ [])
    ≡ (78 ∷ 143 ∷ [])
located = refl

-- no argument, and a copy of a constant
calls :
    map call_size (
    Y.Calling 2 0 Y.NoArgument
    ∷ Y.Calling 2 0 (Y.ArgumentThen (Y.ByCopy (Y.FixedLeaf 15) (Y.StoredNumber 15 constant)) Y.NoArgument)
    ∷ [])
    ≡ (11 ∷ 55 ∷ [])
calls = refl

-- ---- statements

abbrev nothing : Y.Program
nothing = record { variables = []; procedures = [] }

abbrev line : ℕ
line = 2

abbrev target : Y.Reference
target = scalar locator Y.NotLocated Y.NoNumber

abbrev assignment : Y.Stmt
assignment = Y.Assign target (Y.StoredNumber 31 constant) line

abbrev list : Y.Stmts
list = Y.StmtThen [] assignment (Y.EndOfList [])

-- I = 5; and the same behind THEN, in a DO, and in DO I = 5 TO 5;
statements :
    map (stmt_size nothing) (
    assignment
    ∷ Y.If (Y.BitConstant true) assignment line
    ∷ Y.Do list line
    ∷ Y.DoCount (Y.NumberCounter 31 target) (Y.NumberValue 31 constant) (Some constant) constant None list line
    ∷ [])
    ≡ (92 ∷ 101 ∷ 97 ∷ 423 ∷ [])
statements = refl

-- ALLOCATE X SET(P), ALLOCATE C, FREE P->X and FREE C
storage :
    (allocation_size (Y.AllocateBased variable None (Y.SetPointer target))
    ∷ allocation_size (Y.AllocateControlled locator)
    ∷ freeing_size (Y.FreeBased variable pointer None)
    ∷ freeing_size (Y.FreeControlled locator)
    ∷ [])
    ≡ (142 ∷ 35 ∷ 103 ∷ 4 ∷ [])
storage = refl

-- PUT EDIT (5, I) (F(5)), PUT EDIT (A) (F(5)) and GET EDIT (I) (F(5))
streams :
    (put_size (record {
      items = Y.PutValue (Y.NumberValue 31 constant) ∷ Y.PutValue (Y.NumberValue 31 (Y.NumberIn target)) ∷ [];
      formats = T.NoFormat;
    } ∷ [])
    ∷ put_size (record { items = Y.PutAggregate target ∷ []; formats = T.NoFormat } ∷ [])
    ∷ get_size (record { items = Y.GetScalar target ∷ []; formats = T.NoFormat } ∷ [])
    ∷ [])
    ≡ (143 ∷ 206 ∷ 131 ∷ [])
streams = refl

-- ---- beside procedures

abbrev declared : Y.StorageClass → List Y.Evaluation → Y.DeclaredVariable
declared class xs = record { class = class; members = []; leaves = []; refer = None; evaluations = xs }

abbrev extent : Y.Evaluation
extent = record { value = constant; check = Y.LengthCheck }

-- the start with a STATIC and an AUTOMATIC variable, and routines of BASED variables with one extent and with none
starts :
    (start_size (record {
      variables = (declared Y.StaticClass [] ∷ declared Y.AutomaticClass [] ∷ []) ∷ [];
      procedures = [];
    })
    ∷ routine_size 1 (declared Y.BasedClass (extent ∷ [])) (extent ∷ [])
    ∷ routine_size 1 (declared Y.BasedClass []) []
    ∷ [])
    ≡ (29 ∷ 126 ∷ 0 ∷ [])
starts = refl

-- ---- a program

abbrev main : (parameters : List ℕ) → Y.Procedure
main parameters = record {
  block = Y.BlockOf (record { kind = Y.ProcedureBlock; number = 0; level = 1; line = 1 }) list;
  parameters = parameters;
  result = None;
}

-- T: PROC OPTIONS(MAIN); I = 5; END; and its procedure with two parameters
programs :
    (program_size (record { variables = [] ∷ []; procedures = main [] ∷ [] })
    ∷ procedure_size nothing (main [])
    ∷ procedure_size nothing (main (0 ∷ 1 ∷ []))
    ∷ [])
    ≡ (229 ∷ 186 ∷ 316 ∷ [])
programs = refl
