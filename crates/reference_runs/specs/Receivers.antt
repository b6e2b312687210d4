-- A procedure with one parameter that is passed by reference: its code, the block in which its statements run, and the
-- variables that it makes beside.
use Rattle.std.specs.Prelude.{ℕ, ◌+◌, ◌*◌, ◌^◌, ◌<◌, ◌≤◌, ◌≡◌, List, [], ◌∷◌, ◌++◌, length, true, nat_lt, None, pos}
use Rattle.rv_meaning.specs.declared.instr.Instr.{Instr}
use Rattle.pli_language.specs.declared.condition.Condition.{Condition}
use Rattle.pli_typing.specs.TypedTree as Y
use Rattle.pli_meaning.specs.BasicValues.{VariableName}
use Rattle.pli_meaning.specs.Control.{Normal}
use Rattle.pli_meaning.specs.Executing.{activation_of, begun, block_variables_made}
use Rattle.pli_meaning.specs.Making.{bound}
use Rattle.pli_meaning.specs.Raising.{Around, Entry, PassedName, at_line}
use Rattle.pli_meaning.specs.StorageState.{Activation, OnUnit, State, binding_of, most_activations, newest_height}
use Rattle.pli_coding.specs.Allocating.{act_code}
use Rattle.pli_coding.specs.Assembly.{CallTo, Code, Mark, ProcedureEntry, ReturnPlace, size_of}
use Rattle.pli_coding.specs.Entries.{arguments_copied}
use Rattle.pli_coding.specs.Environments.{Environment, none_taken}
use Rattle.pli_coding.specs.Frames.{fixed_size}
use Rattle.pli_coding.specs.Linking.{place_of}
use Rattle.pli_coding.specs.Statements.{stmts_code}
use Rattle.activation_relation.specs.Chains.{HasParent}
use Rattle.activation_relation.specs.FrameLaws.{listed, with_waits}
use Rattle.activation_relation.specs.Frames.{lower_end}
use Rattle.activation_relation.specs.Landing.{Changed, resumed, with_units}
use Rattle.activation_relation.specs.Layers.{Layer, Point, services_of}
use Rattle.activation_relation.specs.Points.{Stands, Surroundings}
use Rattle.activation_relation.specs.Remaining.{Remains}
use Rattle.run_steps.specs.Items.{Linked}
use Rattle.run_steps.specs.Reach.{Family, Reach}
use Rattle.block_runs.specs.Beginnings.{Beginning}
use Rattle.block_runs.specs.Bodies.{Called}
use Rattle.block_runs.specs.Machines.{AreIn, IsImage, IsIn, acted}
use Rattle.program_runs.specs.Procedures.{Calling, IsCoded, Procedure, block_of, end_of, frame_for, layer_for}
use Rattle.program_runs.specs.Statements.{AreMarked, Block}
use Rattle.argument_runs.specs.Copies.{IsCopied}
use Rattle.argument_runs.specs.CopyCalls.{listing_of}
use Rattle.argument_runs.specs.ListCalls.{Giving, entered_point}
use Rattle.argument_runs.specs.Lists.{list_under, with_list}
use Rattle.argument_runs.specs.Parameters.{parameter_shape}
use Rattle.reference_runs.specs.References.{Reference, referred_waits}

-- ---- the procedure

-- where its code stands and with what; its parameter's declaration, the number of the signature of that, and what
-- becomes of the point where its variables are made
pub record Receiver : Type 0 where
  pub procedure : Procedure
  pub calling : Calling
  pub environment : Environment
  pub around : Around
  pub declared : Y.DeclaredVariable
  pub number : ℕ
  pub made : Point → Point

-- its code: its beginning, which keeps the list, what would copy the argument, its variables, the act of its entry, its
-- statements and its end
abbrev pub receiving_code : Environment → Procedure → Code
receiving_code e x =
    listing_of x
    ++ (arguments_copied e (0 ∷ [])
    ++ (x.variables
    ++ (act_code x.head.line
    ++ (stmts_code e none_taken x.body ++ (Mark (ReturnPlace x.head.number) ∷ end_of x)))))

abbrev pub copies_index : Receiver → ℕ
copies_index c = c.calling.entry + size_of (listing_of c.procedure)

abbrev pub variables_index : Receiver → ℕ
variables_index c = copies_index c + size_of (arguments_copied c.environment (0 ∷ []))

abbrev pub act_index : Receiver → ℕ
act_index c = variables_index c + size_of c.procedure.variables

abbrev pub body_index : Receiver → ℕ
body_index c = act_index c + size_of (act_code c.procedure.head.line)

pub record IsReceiver (w : Surroundings) (code : List Instr) (c : Receiver) : Type 0 where
  pub coded : IsCoded c.procedure c.calling
  pub calls : Linked w.links code c.calling.call (CallTo (ProcedureEntry c.procedure.head.number) ∷ [])
  pub place : place_of w.links (ProcedureEntry c.procedure.head.number) ≡ 4 * c.calling.entry
  pub stands : Linked w.links code c.calling.entry (receiving_code c.environment c.procedure)
  pub end : c.calling.end ≡ body_index c + size_of (stmts_code c.environment none_taken c.procedure.body)
  pub kind : c.procedure.head.kind ≡ Y.ProcedureBlock
  pub labels : AreMarked w.links c.environment c.procedure.body (body_index c)
  pub acts : w.acts + 1 < 2 ^ 64
  pub copied : IsCopied c.environment (0 ∷ []) c.declared (record { index = 0; number = c.number; value = pos 0 })

-- ---- a call of it

-- with a reference, at a point whose newest layer is the caller's
pub record ReferenceCall : Type 0 where
  pub surroundings : Surroundings
  pub code : List Instr
  pub callee : Receiver
  pub point : Point
  pub numbers : ℕ → ℕ
  pub reference : Reference
  pub layer : Layer
  pub others : List Layer

abbrev pub entry_of : ReferenceCall → Entry
entry_of y =
    record (begun (block_of y.callee.procedure) y.callee.calling.parent) {
      parameters = 0 ∷ [];
      arguments = PassedName (VariableName y.reference.serial) parameter_shape ∷ [];
    }

-- where the list has been given, and the layer of what is called, which has one parameter
abbrev pub given_point : ReferenceCall → Point
given_point y = with_list (referred_waits y.reference) y.layer y.others y.point

abbrev pub layer_of : ReferenceCall → Layer
layer_of y =
    record (layer_for y.surroundings (given_point y) y.numbers y.callee.procedure y.callee.calling) {
      parameters = 1;
      top = frame_for y.surroundings.parts (given_point y).control.layers y.callee.procedure
          + fixed_size y.callee.procedure.head.level 1;
    }

abbrev pub listed_layer : ReferenceCall → Layer
listed_layer y = listed (list_under y.layer.at) (layer_of y)

abbrev pub beginning_of : ReferenceCall → Beginning
beginning_of y = record { head = y.callee.procedure.head; entry = entry_of y; layer = layer_of y; texts = 0 }

abbrev pub giving_of : ReferenceCall → Giving
giving_of y =
    record {
      point = given_point y;
      beginning = beginning_of y;
      list = list_under y.layer.at;
      parameters = 0 ∷ [];
    }

-- the parameter stands for the generation then
abbrev pub bound_point : ReferenceCall → Point
bound_point y =
    record (entered_point (giving_of y)) {
      state = bound 0 (VariableName y.reference.serial) parameter_shape (entered_point (giving_of y)).state;
    }

abbrev pub called_of : ReferenceCall → Called
called_of y =
    record {
      surroundings = y.surroundings;
      code = y.code;
      point = given_point y;
      numbers = y.numbers;
      beginning = record (beginning_of y) { layer = listed_layer y };
      call = y.callee.calling.call;
      entry = y.callee.calling.entry;
      end = y.callee.calling.end;
      function = None;
    }

-- its block
abbrev pub reference_block : ReferenceCall → Block
reference_block y =
    record {
      call = called_of y;
      first = acted y.callee.procedure.head.line (y.callee.made (bound_point y));
      environment = y.callee.environment;
      around = at_line y.callee.around y.callee.procedure.head.line;
      registers = y.callee.procedure.saved;
      outers = [];
    }

-- what is asked of the point: six words in which nothing waits, and room for the frame
pub record HasRoomFor (w : Surroundings) (p : Point) (c : Receiver) (φ : Layer) (φs : List Layer) : Type 0 where
  pub newest : p.control.layers ≡ φ ∷ φs
  pub words : 6 ≤ φ.words
  pub waits : with_waits (λ n. None) φ ≡ φ
  pub room :
      frame_for w.parts p.control.layers c.procedure + fixed_size c.procedure.head.level 1
      ≤ lower_end w.parts p.control.layers
  pub shallow : nat_lt (length p.state.activations) most_activations ≡ true
  pub parent : HasParent c.procedure.head.level c.calling.parent p.state.activations
  pub idle : p.control.waiting ≡ None

-- ---- its variables

-- they are made as they are meant, where the parameter has been bound; it stands for what it stood for, and nothing
-- else changes
pub record AreMadeAt (w : Surroundings) (code : List Instr) (c : Receiver) (numbers : ℕ → ℕ) (φ : Layer)
    (φs : List Layer) (a : Activation) (as' : List Activation) (p : Point) : Type 0 where
  pub stands : Stands w p × IsImage w code p → Stands w (c.made p) × IsImage w code (c.made p)
  pub comes :
      (credits : ℕ) (f : Family) → Stands w p × IsImage w code p →
      Linked w.links code (variables_index c) c.procedure.variables → AreIn w p numbers (variables_index c) f →
      Reach code credits f (services_of p) (credits + size_of c.procedure.variables) (services_of (c.made p))
      (λ b y. IsIn w (c.made p) numbers (act_index c) b y)
  pub means :
      block_variables_made (at_line c.around c.procedure.head.line) c.procedure.head c.procedure.head.kind w.acts
      p.state
      ≡ Normal tt (c.made p).state
  pub changed : Changed
  pub layers : (c.made p).control.layers ≡ resumed changed φ ∷ φs
  pub activation : Activation
  pub own : List (Condition × OnUnit)
  pub activations : (c.made p).state.activations ≡ with_units own activation ∷ as'
  pub same : (activation.height ≡ a.height) × (activation.level ≡ a.level) × (activation.parent ≡ a.parent)
  pub bindings : binding_of activation.bindings 0 ≡ binding_of a.bindings 0
  pub idle : (c.made p).control.waiting ≡ p.control.waiting
  pub entries : (c.made p).control.entries ≡ p.control.entries
  pub world : (c.made p).state.world ≡ p.state.world
  pub remains :
      (q : Point) → Remains q p → Stands w p → length q.state.activations < newest_height p.state.activations →
      Remains q (c.made p)
  pub few : (c.made p).state.serials ≤ p.state.serials + w.serials

-- where a call has bound it
abbrev pub activation_in : ReferenceCall → Activation
activation_in y =
    record (activation_of y.callee.procedure.head (entry_of y) (length y.point.state.activations + 1)) {
      bindings = record { variable = 0; name = VariableName y.reference.serial; shape = parameter_shape } ∷ [];
    }

abbrev pub given_layer : ReferenceCall → Layer
given_layer y = with_waits (referred_waits y.reference) y.layer

abbrev pub MadeFor : ReferenceCall → Type 0
MadeFor y =
    AreMadeAt y.surroundings y.code y.callee y.numbers (listed_layer y) (given_layer y ∷ y.others) (activation_in y)
    y.point.state.activations (bound_point y)

-- a procedure that declares its parameter alone makes none
abbrev pub NoneMadeAt : Type 0
NoneMadeAt =
    (w : Surroundings) (code : List Instr) (c : Receiver) (numbers : ℕ → ℕ) (φ : Layer) (φs : List Layer)
    (a : Activation) (as' : List Activation) (p : Point) →
    (p.control.layers ≡ φ ∷ φs) × (p.state.activations ≡ a ∷ as') →
    ((k : ℕ) (s : State) →
    block_variables_made (at_line c.around c.procedure.head.line) c.procedure.head c.procedure.head.kind k s
    ≡ Normal tt s) →
    (c.procedure.variables ≡ []) × (c.made ≡ (λ q. q)) → AreMadeAt w code c numbers φ φs a as' p
