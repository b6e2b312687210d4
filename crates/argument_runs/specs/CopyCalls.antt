-- A procedure whose one variable is a parameter that is copied: its call, the block in which its statements run, and
-- the statement CALL of it.
use Rattle.std.specs.Prelude.{ℕ, ℤ, suc, ◌+◌, ◌*◌, ◌%◌, ◌^◌, ◌<◌, ◌≤◌, ◌≡◌, List, [], ◌∷◌, ◌++◌, length, true, nat_le}
use Rattle.std.specs.Prelude.{nat_lt, pos, Bool, false, Option, None, Some}
use Rattle.rv_meaning.specs.declared.instr.Instr.{Instr}
use Rattle.rv_meaning.specs.Words.{word}
use Rattle.pli_typing.specs.Signatures.{Fixed}
use Rattle.pli_typing.specs.TypedTree as Y
use Rattle.pli_meaning.specs.BasicValues.{BasicNumber}
use Rattle.pli_meaning.specs.Contents.{footprint_of}
use Rattle.pli_meaning.specs.Control.{Label, Normal}
use Rattle.pli_meaning.specs.DeclaredShapes.{declared_variable, procedure_numbered}
use Rattle.pli_meaning.specs.Executing.{begun, block_variables_made, entered, labels_in}
use Rattle.pli_meaning.specs.Making.{plain}
use Rattle.pli_meaning.specs.Raising.{PassedValue}
use Rattle.pli_meaning.specs.Numbers.{is_of_precision}
use Rattle.pli_meaning.specs.Raising.{Around, Entry, at_line}
use Rattle.pli_meaning.specs.StorageState.{State, automatic_in_use, most_activations, most_automatic}
use Rattle.pli_serving.specs.Templates.{shape_at}
use Rattle.pli_coding.specs.Allocating.{act_code}
use Rattle.pli_coding.specs.Assembly.{CallTo, Code, Mark, ProcedureEntry, ReturnPlace, size_of}
use Rattle.pli_coding.specs.Entries.{arguments_copied, block_entered, frame_begun, list_kept}
use Rattle.pli_coding.specs.Environments.{Environment, none_taken}
use Rattle.pli_coding.specs.Frames.{fixed_size}
use Rattle.pli_coding.specs.Instructions.{move}
use Rattle.pli_coding.specs.Linking.{place_of}
use Rattle.pli_coding.specs.Locating.{number_of_parameter}
use Rattle.pli_coding.specs.Registers.{a1, a2, a3, held_registers, u5}
use Rattle.pli_coding.specs.Statements.{stmt_code, stmts_code}
use Rattle.activation_relation.specs.Chains.{HasParent}
use Rattle.activation_relation.specs.FrameLaws.{listed, with_waits}
use Rattle.activation_relation.specs.Frames.{lower_end}
use Rattle.activation_relation.specs.Layers.{Layer, Point}
use Rattle.activation_relation.specs.Points.{Surroundings}
use Rattle.activation_relation.specs.Variables.{grown}
use Rattle.run_steps.specs.Items.{Linked}
use Rattle.run_steps.specs.Reach.{cost}
use Rattle.block_runs.specs.Beginnings.{Beginning}
use Rattle.block_runs.specs.Bodies.{Called, Function}
use Rattle.block_runs.specs.Machines.{acted}
use Rattle.program_runs.specs.Calls.{left_over}
use Rattle.program_runs.specs.Procedures.{Calling, IsCoded, Procedure, block_of, end_of, frame_for, layer_for}
use Rattle.program_runs.specs.Statements.{AreMarked, Block, Does, EachDoes, HasAct, IsAmong, IsBegun, size_in}
use Rattle.expression_runs.specs.Laws as L
use Rattle.expression_runs.specs.Values.{Setting}
use Rattle.expression_runs.specs.Variables.{IsNumber, Spot}
use Rattle.argument_runs.specs.Copies.{Copy, IsCopied, copied, copy_generation, copy_made_of}
use Rattle.argument_runs.specs.ListCalls.{Giving, entered_point}
use Rattle.argument_runs.specs.Lists.{given_waits, list_under, named_waits, with_list}
use Rattle.argument_runs.specs.Parameters.{IsParameter, parameter_declared, parameter_of}

-- ---- the procedure

-- where its code stands and with what; its parameter's declaration, and the number of the signature of that
pub record Copying : Type 0 where
  pub procedure : Procedure
  pub calling : Calling
  pub environment : Environment
  pub around : Around
  pub declared : Y.DeclaredVariable
  pub number : ℕ

abbrev pub copy_for : Copying → ℤ → Copy
copy_for c z = record { index = 0; number = c.number; value = z }

-- its code: its beginning, which keeps the list, the copy, the act of its entry, its statements and its end
abbrev pub listing_of : Procedure → Code
listing_of x =
    frame_begun x.words x.head.level 1 (Some x.saved)
    ++ (move u5 a1 ∷ (list_kept x.head.level (0 ∷ []) ++ (move a3 a2 ∷ block_entered 0 x.head.line)))

abbrev pub copying_code : Environment → Procedure → Code
copying_code e x =
    listing_of x
    ++ (arguments_copied e (0 ∷ [])
    ++ (act_code x.head.line
    ++ (stmts_code e none_taken x.body ++ (Mark (ReturnPlace x.head.number) ∷ end_of x))))

abbrev pub copies_index : Copying → ℕ
copies_index c = c.calling.entry + size_of (listing_of c.procedure)

abbrev pub act_index : Copying → ℕ
act_index c = copies_index c + size_of (arguments_copied c.environment (0 ∷ []))

abbrev pub body_index : Copying → ℕ
body_index c = act_index c + size_of (act_code c.procedure.head.line)

pub record IsCopying (w : Surroundings) (code : List Instr) (c : Copying) : Type 0 where
  pub coded : IsCoded c.procedure c.calling
  pub calls : Linked w.links code c.calling.call (CallTo (ProcedureEntry c.procedure.head.number) ∷ [])
  pub place : place_of w.links (ProcedureEntry c.procedure.head.number) ≡ 4 * c.calling.entry
  pub stands : Linked w.links code c.calling.entry (copying_code c.environment c.procedure)
  pub end : c.calling.end ≡ body_index c + size_of (stmts_code c.environment none_taken c.procedure.body)
  pub kind : c.procedure.head.kind ≡ Y.ProcedureBlock
  pub labels : AreMarked w.links c.environment c.procedure.body (body_index c)
  pub acts : w.acts + 1 < 2 ^ 64
  pub copied : (z : ℤ) → IsCopied c.environment (0 ∷ []) c.declared (copy_for c z)
  -- beside its parameter it declares nothing
  pub variables :
      (k : ℕ) (s : State) →
      block_variables_made (at_line c.around c.procedure.head.line) c.procedure.head c.procedure.head.kind k s
      ≡ Normal tt s

-- ---- a call of it

-- with a value, at a point whose newest layer is the caller's
pub record CopyCall : Type 0 where
  pub surroundings : Surroundings
  pub code : List Instr
  pub callee : Copying
  pub point : Point
  pub numbers : ℕ → ℕ
  pub value : ℤ
  pub layer : Layer
  pub others : List Layer

abbrev pub copy_in : CopyCall → Copy
copy_in y = copy_for y.callee y.value

-- what it is entered with; it may be a function
abbrev pub is_value : Option Function → Bool
is_value None = false
is_value (Some x) = true

abbrev pub entry_of : Option Function → CopyCall → Entry
entry_of g y =
    record (begun (block_of y.callee.procedure) y.callee.calling.parent) {
      parameters = 0 ∷ [];
      arguments = PassedValue (Fixed 31) (BasicNumber y.value) ∷ [];
      is_function = is_value g;
    }

-- where the list has been given, and its layer, which has one parameter
abbrev pub given_point : CopyCall → Point
given_point y = with_list (given_waits (word y.value)) y.layer y.others y.point

abbrev pub layer_of : CopyCall → Layer
layer_of y =
    record (layer_for y.surroundings (given_point y) y.numbers y.callee.procedure y.callee.calling) {
      parameters = 1;
      top = frame_for y.surroundings.parts (given_point y).control.layers y.callee.procedure
          + fixed_size y.callee.procedure.head.level 1;
    }

abbrev pub beginning_of : Option Function → CopyCall → Beginning
beginning_of g y =
    record {
      head = y.callee.procedure.head;
      entry = entry_of g y;
      layer = layer_of y;
      texts = 0;
    }

abbrev pub giving_of : Option Function → CopyCall → Giving
giving_of g y =
    record {
      point = given_point y;
      beginning = beginning_of g y;
      list = list_under y.layer.at;
      parameters = 0 ∷ [];
    }

-- where the copy has been made
abbrev pub listed_layer : CopyCall → Layer
listed_layer y = listed (list_under y.layer.at) (layer_of y)

abbrev pub copied_point : Option Function → CopyCall → Point
copied_point g y = copied (listed_layer y) y.layer y.others (copy_in y) (entered_point (giving_of g y))

-- the caller's words have its name then, and the procedure's part of the lower stack has its data
abbrev pub named_point : CopyCall → Point
named_point y = with_list (named_waits (y.point.state.serials + 1) y.callee.number) y.layer y.others y.point

abbrev pub called_of : Option Function → CopyCall → Called
called_of g y =
    record {
      surroundings = y.surroundings;
      code = y.code;
      point = named_point y;
      numbers = y.numbers;
      beginning = record (beginning_of g y) {
        layer = grown (copy_made_of (listed_layer y) (copy_in y)) (listed_layer y);
      };
      call = y.callee.calling.call;
      entry = y.callee.calling.entry;
      end = y.callee.calling.end;
      function = g;
    }

-- its block
abbrev pub copy_block : Option Function → CopyCall → Block
copy_block g y =
    record {
      call = called_of g y;
      first = acted y.callee.procedure.head.line (copied_point g y);
      environment = y.callee.environment;
      around = at_line y.callee.around y.callee.procedure.head.line;
      registers = y.callee.procedure.saved;
      outers = [];
    }

-- what is asked of the point: six words in which nothing waits, room for the frame and the copy, between the stacks and
-- among what is AUTOMATIC
pub record HasRoomFor (w : Surroundings) (p : Point) (c : Copying) (φ : Layer) (φs : List Layer) : Type 0 where
  pub newest : p.control.layers ≡ φ ∷ φs
  pub words : 6 ≤ φ.words
  pub waits : with_waits (λ n. None) φ ≡ φ
  pub room :
      frame_for w.parts p.control.layers c.procedure + fixed_size c.procedure.head.level 1 + 16
      ≤ lower_end w.parts p.control.layers
  pub even : lower_end w.parts p.control.layers % 16 ≡ 0
  pub shallow : nat_lt (length p.state.activations) most_activations ≡ true
  pub parent : HasParent c.procedure.head.level c.calling.parent p.state.activations
  pub idle : p.control.waiting ≡ None
  pub low : p.places.low ≤ w.parts.stack_start
  pub shape : shape_at p.places.signatures c.number ≡ Some (plain (Fixed 31))
  pub number : c.number < 2 ^ 31
  pub limit :
      nat_le (automatic_in_use p.state.living + footprint_of (copy_generation (copy_for c (pos 0)))) most_automatic
      ≡ true

-- ---- CALL P(e), in the block that declares P

abbrev pub call_with : Block → Copying → Y.Number → (line : ℕ) → Y.Stmt
call_with k c source line =
    Y.CallProcedure
    (Y.Calling c.procedure.head.number k.environment.level
    (Y.ArgumentThen (Y.ByCopy (Y.FixedLeaf 31) (Y.StoredNumber 31 source)) Y.NoArgument)) line

-- six words are set aside around the expression
abbrev pub setting_for : Block → List Label → (line most : ℕ) → Setting
setting_for k labels line most =
    record { block = k; labels = labels; around = at_line k.around line; most = most; words = 6 }

-- a call at a point of the block
abbrev pub call_at : Block → Copying → Layer → List Layer → Point → (numbers : ℕ → ℕ) → ℤ → CopyCall
call_at k c φ φs p numbers z =
    record {
      surroundings = k.call.surroundings;
      code = k.call.code;
      callee = c;
      point = p;
      numbers = numbers;
      value = z;
      layer = φ;
      others = φs;
    }

pub record IsCopyCall (k : Block) (c : Copying) (source : Y.Number) (φ : Layer) (φs : List Layer)
    (line index need most more : ℕ) : Type 0 where
  pub act : HasAct k line
  pub begun : IsBegun k
  pub callee : IsCopying k.call.surroundings k.call.code c
  pub room : HasRoomFor k.call.surroundings k.first c φ φs
  pub registers : need ≤ k.registers
  pub held : k.registers ≤ held_registers
  pub statement :
      Linked k.call.surroundings.links k.call.code index
      (stmt_code k.environment none_taken (call_with k c source line))
  pub call : c.calling.call + 2 ≡ index + size_in k (call_with k c source line)
  pub paid : size_in k (call_with k c source line) + most ≤ cost k.call.code
  -- the copy's serial number is among those that may come, and all of them have 8 bytes
  pub few : 1 ≤ k.call.surroundings.serials
  pub small : k.call.surroundings.serials + 1 < 2 ^ 40
  -- its static parent is the running block
  pub level : k.environment.level ≡ k.call.beginning.layer.level
  pub parent : c.calling.parent ≡ length k.call.point.state.activations + 1
  -- and the program has it
  pub found :
      procedure_numbered c.procedure.head.number k.around.program.procedures
      ≡ Some (record { block = block_of c.procedure; parameters = 0 ∷ []; result = None })
  pub enter : k.around.enter ≡ entered k.around.program (suc more)
  pub around :
      c.around
      ≡ record { program = k.around.program; enter = entered k.around.program more; turns = suc more; line = 0 }
  pub enough : k.call.surroundings.acts < suc more + k.first.state.world.acts

-- it does what it means if its expression and the procedure's statements do, wherever it is called
abbrev pub CopyCallsDo : Type 0
CopyCallsDo =
    (k : Block) (c : Copying) (labels : List Label) (source : Y.Number) (φ : Layer) (φs : List Layer)
    (line index left' need most more : ℕ) → IsCopyCall k c source φ φs line index need most more →
    L.Does (setting_for k labels line most) need source →
    ((p : Point) (numbers : ℕ → ℕ) (z : ℤ) → IsAmong k numbers p → is_of_precision 31 z ≡ true →
    IsBegun (copy_block None (call_at k c φ φs p numbers z)) →
    EachDoes (copy_block None (call_at k c φ φs p numbers z)) (labels_in c.procedure.body ++ []) c.procedure.body
    (body_index c) left_over) →
    Does k labels (call_with k c source line) index left'

-- ---- what its statements know

-- the program declares its parameter so
pub record IsOwnParameter (c : Copying) (x : Spot) : Type 0 where
  pub declared : declared_variable c.environment.program (parameter_of x) ≡ Some parameter_declared
  pub first : number_of_parameter c.environment (parameter_of x) ≡ 0
  pub index : x.index ≡ 0
  pub level : x.level ≡ c.procedure.head.level
  pub own : c.environment.level ≡ c.procedure.head.level

-- its code is further in than a variable of the block that calls it, in the same program
pub record IsFurther (k : Block) (c : Copying) (x : Spot) : Type 0 where
  pub inner : c.environment.level ≡ c.procedure.head.level
  pub further : x.level < c.procedure.head.level
  pub program : c.environment.program ≡ k.environment.program
  pub parts : c.environment.parts ≡ k.environment.parts

pub record CopiesKnown : Type 0 where
  -- its parameter stands for the copy
  pub own :
      (k : Block) (c : Copying) (source : Y.Number) (φ : Layer) (φs : List Layer) (line index need most more : ℕ)
      (p : Point) (numbers : ℕ → ℕ) (z : ℤ) (x : Spot) → IsCopyCall k c source φ φs line index need most more →
      IsAmong k numbers p → is_of_precision 31 z ≡ true → IsOwnParameter c x →
      IsBegun (copy_block None (call_at k c φ φs p numbers z)) →
      IsParameter (copy_block None (call_at k c φ φs p numbers z)) x
  -- and the variables of the block that calls it, and of those around that, are variables in it
  pub outer :
      (k : Block) (c : Copying) (source : Y.Number) (φ : Layer) (φs : List Layer) (line index need most more : ℕ)
      (p : Point) (numbers : ℕ → ℕ) (z : ℤ) (x : Spot) → IsCopyCall k c source φ φs line index need most more →
      IsAmong k numbers p → is_of_precision 31 z ≡ true → IsFurther k c x → IsNumber k x →
      IsBegun (copy_block None (call_at k c φ φs p numbers z)) →
      IsNumber (copy_block None (call_at k c φ φs p numbers z)) x
