-- The statement CALL of a procedure with a parameter by reference, in the block that declares it and the variable that
-- is passed; and what the procedure's statements know.
use Rattle.std.specs.Prelude.{ℕ, suc, ◌+◌, ◌<◌, ◌≡◌, ◌==◌, List, [], ◌∷◌, ◌++◌, length, true, None, Some}
use Rattle.pli_typing.specs.TypedTree as Y
use Rattle.pli_meaning.specs.Control.{Label}
use Rattle.pli_meaning.specs.DeclaredShapes.{declared_variable, procedure_numbered}
use Rattle.pli_meaning.specs.Executing.{entered, labels_in}
use Rattle.pli_coding.specs.Environments.{none_taken}
use Rattle.pli_coding.specs.Frames.{automatic_place}
use Rattle.pli_coding.specs.Locating.{number_of_parameter, table_number}
use Rattle.pli_coding.specs.Statements.{stmt_code}
use Rattle.activation_relation.specs.Layers.{Layer, Point}
use Rattle.run_steps.specs.Items.{Linked}
use Rattle.program_runs.specs.Calls.{left_over}
use Rattle.program_runs.specs.Procedures.{block_of}
use Rattle.program_runs.specs.Statements.{Block, Does, EachDoes, HasAct, IsAmong, IsBegun, size_in}
use Rattle.expression_runs.specs.Variables.{IsNumber, Spot, number_declared, whole}
use Rattle.argument_runs.specs.Parameters.{IsParameter, parameter_declared, parameter_of}
use Rattle.reference_runs.specs.Receivers.{HasRoomFor, IsReceiver, MadeFor, Receiver, ReferenceCall, body_index}
use Rattle.reference_runs.specs.Receivers.{reference_block}
use Rattle.reference_runs.specs.References.{IsReferred, Reference}

-- ---- a variable that may be passed

-- it is a number of the block itself, whose name is told of the block's frame
pub record IsNamed (k : Block) (x : Spot) (φ : Layer) (φs : List Layer) (r : Reference) : Type 0 where
  pub number : IsNumber k x
  pub own : (x.level == k.environment.level) ≡ true
  pub serial : number.serial ≡ r.serial
  pub place : automatic_place k.environment.parts k.environment.program x.block x.level x.index ≡ r.place
  pub table : table_number k.environment (number_declared number.initial) ≡ r.signature
  pub referred : IsReferred k.first φ φs r

-- ---- CALL P(X), in the block that declares P and X

abbrev pub call_with : Block → Receiver → Spot → (line : ℕ) → Y.Stmt
call_with k c x line =
    Y.CallProcedure
    (Y.Calling c.procedure.head.number k.environment.level
    (Y.ArgumentThen (Y.ByReference (whole x)) Y.NoArgument)) line

-- a call at a point of the block
abbrev pub call_at : Block → Receiver → Reference → Layer → List Layer → Point → (numbers : ℕ → ℕ) → ReferenceCall
call_at k c r φ φs p numbers =
    record {
      surroundings = k.call.surroundings;
      code = k.call.code;
      callee = c;
      point = p;
      numbers = numbers;
      reference = r;
      layer = φ;
      others = φs;
    }

pub record IsReferenceCall (k : Block) (c : Receiver) (x : Spot) (r : Reference) (φ : Layer) (φs : List Layer)
    (line index more : ℕ) : Type 0 where
  pub act : HasAct k line
  pub begun : IsBegun k
  pub callee : IsReceiver k.call.surroundings k.call.code c
  pub room : HasRoomFor k.call.surroundings k.first c φ φs
  pub named : IsNamed k x φ φs r
  pub statement :
      Linked k.call.surroundings.links k.call.code index (stmt_code k.environment none_taken (call_with k c x line))
  pub call : c.calling.call + 2 ≡ index + size_in k (call_with k c x line)
  -- its static parent is the running block
  pub level : k.environment.level ≡ k.call.beginning.layer.level
  pub parent : c.calling.parent ≡ length k.call.point.state.activations + 1
  -- and the program has it
  pub found :
      procedure_numbered c.procedure.head.number k.around.program.procedures
      ≡ Some (record { block = block_of c.procedure; parameters = 0 ∷ []; result = None })
  pub enter : k.around.enter ≡ entered k.around.program (suc more)
  pub around :
      c.around
      ≡ record { program = k.around.program; enter = entered k.around.program more; turns = suc more; line = 0 }
  pub enough : k.call.surroundings.acts < suc more + k.first.state.world.acts

-- its variables are made wherever it is called
abbrev pub MadeWhere : Block → Receiver → Reference → Layer → List Layer → Type 0
MadeWhere k c r φ φs =
    (p : Point) (numbers : ℕ → ℕ) → IsAmong k numbers p → MadeFor (call_at k c r φ φs p numbers)

-- it does what it means if the procedure's statements do, wherever it is called
abbrev pub ReferenceCallsDo : Type 0
ReferenceCallsDo =
    (k : Block) (c : Receiver) (labels : List Label) (x : Spot) (r : Reference) (φ : Layer) (φs : List Layer)
    (line index left' more : ℕ) → IsReferenceCall k c x r φ φs line index more → MadeWhere k c r φ φs →
    ((p : Point) (numbers : ℕ → ℕ) → IsAmong k numbers p → IsBegun (reference_block (call_at k c r φ φs p numbers)) →
    EachDoes (reference_block (call_at k c r φ φs p numbers)) (labels_in c.procedure.body ++ []) c.procedure.body
    (body_index c) left_over) →
    Does k labels (call_with k c x line) index left'

-- ---- what its statements know

-- the program declares its parameter so
pub record IsOwnParameter (c : Receiver) (n : Spot) : Type 0 where
  pub declared : declared_variable c.environment.program (parameter_of n) ≡ Some parameter_declared
  pub first : number_of_parameter c.environment (parameter_of n) ≡ 0
  pub index : n.index ≡ 0
  pub level : n.level ≡ c.procedure.head.level
  pub own : c.environment.level ≡ c.procedure.head.level

-- its code is further in than a variable of the block that calls it, in the same program
pub record IsFurther (k : Block) (c : Receiver) (z : Spot) : Type 0 where
  pub inner : c.environment.level ≡ c.procedure.head.level
  pub further : z.level < c.procedure.head.level
  pub program : c.environment.program ≡ k.environment.program
  pub parts : c.environment.parts ≡ k.environment.parts

pub record ReferencesKnown : Type 0 where
  -- its parameter stands for the variable that was passed
  pub own :
      (k : Block) (c : Receiver) (x : Spot) (r : Reference) (φ : Layer) (φs : List Layer) (line index more : ℕ)
      (p : Point) (numbers : ℕ → ℕ) (n : Spot) → IsReferenceCall k c x r φ φs line index more → MadeWhere k c r φ φs →
      IsAmong k numbers p → IsOwnParameter c n → IsBegun (reference_block (call_at k c r φ φs p numbers)) →
      IsParameter (reference_block (call_at k c r φ φs p numbers)) n
  -- and the variables of the block that calls it, and of those around that, are variables in it
  pub outer :
      (k : Block) (c : Receiver) (x : Spot) (r : Reference) (φ : Layer) (φs : List Layer) (line index more : ℕ)
      (p : Point) (numbers : ℕ → ℕ) (z : Spot) → IsReferenceCall k c x r φ φs line index more → MadeWhere k c r φ φs →
      IsAmong k numbers p → IsFurther k c z → IsNumber k z →
      IsBegun (reference_block (call_at k c r φ φs p numbers)) →
      IsNumber (reference_block (call_at k c r φ φs p numbers)) z
