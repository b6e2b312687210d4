-- The laws: what stands where in the image of a typed program.
use Rattle.std.specs.Prelude.{ℕ, ◌+◌, ◌-◌, ◌*◌, ◌^◌, ◌<◌, ◌≤◌, ◌≡◌, List, [], ◌∷◌, ◌++◌, length, Option}
use Rattle.std.specs.Prelude.{Some, None, true}
use Rattle.rv_meaning.specs.declared.instr.Instr.{Instr}
use Rattle.rv_meaning.specs.Machine.{memory_size}
use Rattle.pli_typing.specs.TypedTree as Y
use Rattle.pli_meaning.specs.Control.{Label, is_among}
use Rattle.pli_meaning.specs.Executing.{labels_in}
use Rattle.pli_meaning.specs.Pictures.{Picture, first_bytes}
use Rattle.pli_coding.specs.Assembly.{CallTo, Code, ErrorEnd, LabelPlace, ProcedureEntry, RaiseCondition, RaiseError}
use Rattle.pli_coding.specs.Assembly.{ReturnPlace, size_of}
use Rattle.pli_coding.specs.Environments.{Environment, Taken, block_around, none_taken}
use Rattle.pli_coding.specs.Images.{blocks_of, linked_code}
use Rattle.pli_coding.specs.Linking.{Links, place_of}
use Rattle.pli_coding.specs.Procedures.{no_value}
use Rattle.pli_coding.specs.Statements.{stmt_code, stmts_code}
use Rattle.activation_relation.specs.Layers.{Point}
use Rattle.run_steps.specs.Engine.{most_code}
use Rattle.run_steps.specs.Items.{Linked}
use Rattle.program_runs.specs.Calls.{AreMade, IsCallee}
use Rattle.program_runs.specs.Procedures.{HasRoom}
use Rattle.program_runs.specs.Programs.{IsWhole, main_of}
use Rattle.program_runs.specs.Starts.{IsStart, no_numbers, start_point, surroundings_of}
use Rattle.program_runs.specs.Statements.{AreMarkedWith, set_aside}
use Rattle.expression_runs.specs.Raises.{Routines}
use Rattle.function_runs.specs.Functions.{IsFunction}
use Rattle.program_places.specs.Placed.{Placed}
use Rattle.program_places.specs.Programs.{HasStart, HasStaticData, IsLoadable, IsMain, IsProcedure, Main, Run, Site}
use Rattle.program_places.specs.Programs.{behind_body, body_for}
use Rattle.program_places.specs.Programs.{callee_for, code_for, environment_for, function_for, image_for}
use Rattle.program_places.specs.Programs.{links_for, procedure_for, raises_index, whole_for}

-- ---- placed code

pub record CodePlaced : Type 0 where
  -- the whole code of a program
  pub whole :
      (program : Y.Program) → IsLoadable program →
      Placed (links_for program) (linked_code (code_for program)) 0 (code_for program)
  -- and so its parts
  pub front :
      (links : Links) (code : List Instr) (i : ℕ) (xs ys : Code) → Placed links code i (xs ++ ys) →
      Placed links code i xs
  pub back :
      (links : Links) (code : List Instr) (i : ℕ) (xs ys : Code) → Placed links code i (xs ++ ys) →
      Placed links code (i + size_of xs) ys

-- a label of a block stands at an index of the code
pub record IsLabel (links : Links) (block : ℕ) (label : Label) : Type 0 where
  pub at : ℕ
  pub place : place_of links (LabelPlace block label) ≡ 4 * at
  pub near : at ≤ most_code

pub record ListsPlaced : Type 0 where
  -- a list of statements, a group's, too, has its labels where its statements stand, whatever words are set aside
  pub marked :
      (words : ℕ) (links : Links) (code : List Instr) (i : ℕ) (e : Environment) (body : Y.Stmts) →
      Placed links code i (stmts_code e (set_aside words) body) → AreMarkedWith words links e body i
  pub labels :
      (links : Links) (code : List Instr) (i : ℕ) (e : Environment) (t : Taken) (body : Y.Stmts) →
      Placed links code i (stmts_code e t body) → (label : Label) → is_among label (labels_in body) ≡ true →
      IsLabel links e.block label

-- ---- raises, and the blocks of procedures

pub record RoutinesStand : Type 0 where
  pub routines :
      (program : Y.Program) → IsLoadable program →
      Routines (links_for program) (linked_code (code_for program))
  pub at : (program : Y.Program) (h : IsLoadable program) → (routines program h).at ≡ raises_index program
  pub condition :
      (program : Y.Program) → IsLoadable program →
      place_of (links_for program) RaiseCondition ≡ 4 * raises_index program
  pub error :
      (program : Y.Program) → IsLoadable program →
      place_of (links_for program) RaiseError ≡ 4 * (raises_index program + 8)
  pub end :
      (program : Y.Program) → IsLoadable program →
      place_of (links_for program) ErrorEnd ≡ 4 * (raises_index program + 16)

-- ---- procedures and functions without parameters

-- whatever they return
pub record BodiesStand : Type 0 where
  pub placed :
      (program : Y.Program) (head : Y.BlockHead) (body : Y.Stmts) (result : Option Y.LeafType) → IsLoadable program →
      IsProcedure program head body result →
      Placed (links_for program) (linked_code (code_for program)) (body_for program head body)
      (stmts_code (environment_for program head) none_taken body)
  -- the block around at its own level is the block itself
  pub around :
      (program : Y.Program) (head : Y.BlockHead) (body : Y.Stmts) (result : Option Y.LeafType) →
      IsProcedure program head body result →
      block_around (environment_for program head) head.level ≡ head.number
  -- and at level 0 that of the main procedure
  pub outermost :
      (program : Y.Program) (m : Main) (e : Environment) → IsLoadable program → IsMain program m →
      e.blocks ≡ blocks_of program.procedures → m.head.number ≤ e.block → block_around e 0 ≡ m.head.number

-- where a RETURN goes
pub record IsEnd (links : Links) (number end : ℕ) : Type 0 where
  pub place : place_of links (ReturnPlace number) ≡ 4 * end
  pub near : end ≤ most_code

-- the statement CALL of a procedure without parameters ends with its call
abbrev pub CallsStand : Type 0
CallsStand =
    (links : Links) (code : List Instr) (i : ℕ) (e : Environment) (number level line : ℕ) →
    Linked links code i (stmt_code e none_taken (Y.CallProcedure (Y.Calling number level Y.NoArgument) line)) →
    Linked links code
    (i + size_of (stmt_code e none_taken (Y.CallProcedure (Y.Calling number level Y.NoArgument) line)) - 2)
    (CallTo (ProcedureEntry number) ∷ [])

pub record CalleesStand : Type 0 where
  -- a procedure, wherever its call stands
  pub callee :
      (program : Y.Program) (head : Y.BlockHead) (body : Y.Stmts) (r : Run) (s : Site) → IsLoadable program →
      IsProcedure program head body None →
      Linked (links_for program) (linked_code (code_for program)) s.call (CallTo (ProcedureEntry head.number) ∷ []) →
      r.acts + 1 < 2 ^ 64 →
      IsCallee (surroundings_of (image_for program r)) (linked_code (code_for program)) (callee_for program head body s)
  pub end :
      (program : Y.Program) (head : Y.BlockHead) (body : Y.Stmts) → IsLoadable program →
      IsProcedure program head body None → IsEnd (links_for program) head.number (behind_body program head body)

pub record FunctionsStand : Type 0 where
  -- a function that returns FIXED BINARY, and isn't the main procedure
  pub function :
      (program : Y.Program) (head : Y.BlockHead) (body : Y.Stmts) (precision : ℕ) (r : Run) (s : Site) →
      IsLoadable program → IsProcedure program head body (Some (Y.FixedLeaf precision)) → 1 ≤ head.level →
      r.acts + 1 < 2 ^ 64 →
      IsFunction (surroundings_of (image_for program r)) (linked_code (code_for program))
      (function_for program head body s)
  pub end :
      (program : Y.Program) (head : Y.BlockHead) (body : Y.Stmts) (precision : ℕ) → IsLoadable program →
      IsProcedure program head body (Some (Y.FixedLeaf precision)) → 1 ≤ head.level →
      IsEnd (links_for program) head.number (behind_body program head body + size_of (no_value head.line))

-- ---- whole programs

abbrev pub StartsStand : Type 0
StartsStand =
    (program : Y.Program) (m : Main) (r : Run) (first : List ℕ) → IsLoadable program → HasStart program →
    IsMain program m → length first ≡ memory_size → HasStaticData program first →
    IsStart (image_for program r) m.head.number first

-- so a program is whole if its main procedure's variables are made as they are meant and there is room for its frame
abbrev pub WholesStand : Type 0
WholesStand =
    (program : Y.Program) (m : Main) (r : Run) (made : Point → Point) (first : List ℕ) → IsLoadable program →
    HasStart program → IsMain program m → length first ≡ memory_size → HasStaticData program first →
    r.acts + 1 < 2 ^ 64 →
    AreMade (surroundings_of (image_for program r)) (linked_code (code_for program))
    (main_of (whole_for program m r made)) (start_point (image_for program r)) no_numbers →
    HasRoom (surroundings_of (image_for program r)) (start_point (image_for program r))
    (procedure_for program m.head m.body) (main_of (whole_for program m r made)).calling →
    IsWhole (whole_for program m r made) first

-- memory at first is as long as it has to be
abbrev pub MemoryFits : Type 0
MemoryFits =
    (image : Picture) → length image.code ≤ most_code → length image.statics ≤ 3 * 2 ^ 20 →
    length (first_bytes image) ≡ memory_size
