-- A procedure or a function with a list of parameters, and variables of its own beside them: its code, its call, and the
-- block in which its statements run.
use Rattle.std.specs.Prelude.{ℕ, ◌+◌, ◌-◌, ◌*◌, ◌^◌, ◌<◌, ◌≤◌, ◌≡◌, List, [], ◌∷◌, ◌++◌, length, Option, None, Some, ⊤}
use Rattle.std.specs.Prelude.{slice_get}
use Rattle.rv_meaning.specs.declared.instr.Instr.{Instr}
use Rattle.pli_language.specs.declared.condition.Condition.{Condition}
use Rattle.pli_typing.specs.TypedTree as Y
use Rattle.pli_meaning.specs.Control.{Normal, finish}
use Rattle.pli_meaning.specs.Executing.{begun, block_variables_made}
use Rattle.pli_meaning.specs.Raising.{Around, Entry, at_line}
use Rattle.pli_meaning.specs.StorageState.{Activation, Living, OnUnit, State, binding_of, living_of}
use Rattle.pli_meaning.specs.declared.outcome.End.TheVariants as E
use Rattle.pli_meaning.specs.declared.outcome.Limit.TheVariants as L
use Rattle.pli_coding.specs.Allocating.{act_code}
use Rattle.pli_coding.specs.Assembly.{CallTo, Code, ProcedureEntry, size_of}
use Rattle.pli_coding.specs.Entries.{arguments_copied, block_entered, frame_begun, list_kept}
use Rattle.pli_coding.specs.Environments.{Environment, none_taken}
use Rattle.pli_coding.specs.Frames.{fixed_size}
use Rattle.pli_coding.specs.Instructions.{move}
use Rattle.pli_coding.specs.Linking.{place_of}
use Rattle.pli_coding.specs.Registers.{a1, a2, a3, u5}
use Rattle.pli_coding.specs.Statements.{stmts_code}
use Rattle.activation_relation.specs.FrameLaws.{listed, with_waits}
use Rattle.activation_relation.specs.Landing.{Changed, resumed, with_units}
use Rattle.activation_relation.specs.Layers.{Layer, Point, services_of}
use Rattle.activation_relation.specs.Points.{Stands, Surroundings}
use Rattle.storage_relation.specs.Stored.{Extends}
use Rattle.activation_relation.specs.Remaining.{LivesOn, Remains}
use Rattle.run_steps.specs.Items.{Linked}
use Rattle.run_steps.specs.Reach.{Family, Reach, cost}
use Rattle.block_runs.specs.Beginnings.{Beginning}
use Rattle.block_runs.specs.Bodies.{Called, Function}
use Rattle.block_runs.specs.Machines.{AreIn, IsImage, IsIn, acted}
use Rattle.program_runs.specs.Procedures.{Calling, IsCoded, Procedure, block_of, frame_for, layer_for}
use Rattle.program_runs.specs.Statements.{AreMarked, Block}
use Rattle.argument_runs.specs.CopyCalls.{is_value}
use Rattle.argument_runs.specs.ListCalls.{Giving, entered_point}
use Rattle.argument_runs.specs.Lists.{with_list}
use Rattle.argument_runs.specs.Parameters.{most_parameters}
use Rattle.given_calls.specs.Given.{procedure_tail}
use Rattle.nested_calls.specs.FullVariables.{Over}
use Rattle.list_calls.specs.Lists.{AreTaken, Parameter, Passing, all_passed, bindings_with, bound_all, bound_layer}
use Rattle.list_calls.specs.Lists.{bound_told, copies_in, indices_of, list_told}

-- ---- the procedure: where its code stands and with what, and its parameters

pub record Taking : Type 0 where
  pub procedure : Procedure
  pub calling : Calling
  pub environment : Environment
  pub around : Around
  pub parameters : List Parameter

-- its code: its beginning, which keeps the list; the copies, its variables, the act of its entry, its statements, and
-- what ends it
abbrev pub listing_of : Taking → Code
listing_of c =
    frame_begun c.procedure.words c.procedure.head.level (length c.parameters) (Some c.procedure.saved)
    ++ (move u5 a1
    ∷ (list_kept c.procedure.head.level (indices_of c.parameters)
    ++ (move a3 a2 ∷ block_entered 0 c.procedure.head.line)))

abbrev pub copies_code : Taking → Code
copies_code c = arguments_copied c.environment (indices_of c.parameters)

abbrev pub taking_code : Taking → (tail : Code) → Code
taking_code c tail =
    listing_of c
    ++ (copies_code c
    ++ (c.procedure.variables
    ++ (act_code c.procedure.head.line ++ (stmts_code c.environment none_taken c.procedure.body ++ tail))))

abbrev pub copies_index : Taking → ℕ
copies_index c = c.calling.entry + size_of (listing_of c)

abbrev pub variables_index : Taking → ℕ
variables_index c = copies_index c + size_of (copies_code c)

abbrev pub act_index : Taking → ℕ
act_index c = variables_index c + size_of c.procedure.variables

abbrev pub body_index : Taking → ℕ
body_index c = act_index c + size_of (act_code c.procedure.head.line)

-- it has some parameters, each at another place among its variables
abbrev pub IsElsewhere : (index : ℕ) → List Parameter → Type 0
IsElsewhere index [] = ⊤
IsElsewhere index (x ∷ xs) = ((x.index ≡ index) → ⊥) × IsElsewhere index xs

abbrev pub AreApart : List Parameter → Type 0
AreApart [] = ⊤
AreApart (x ∷ xs) = IsElsewhere x.index xs × AreApart xs

pub record HasParameters (c : Taking) : Type 0 where
  pub taken : AreTaken c.environment c.parameters
  pub some : 0 < length c.parameters
  pub few : length c.parameters ≤ most_parameters
  pub apart : AreApart c.parameters

-- a procedure's code stands where it is called
pub record IsTaking (w : Surroundings) (code : List Instr) (c : Taking) : Type 0 where
  pub coded : IsCoded c.procedure c.calling
  pub calls : Linked w.links code c.calling.call (CallTo (ProcedureEntry c.procedure.head.number) ∷ [])
  pub place : place_of w.links (ProcedureEntry c.procedure.head.number) ≡ 4 * c.calling.entry
  pub stands : Linked w.links code c.calling.entry (taking_code c (procedure_tail c.procedure))
  pub end : c.calling.end ≡ body_index c + size_of (stmts_code c.environment none_taken c.procedure.body)
  pub kind : c.procedure.head.kind ≡ Y.ProcedureBlock
  pub labels : AreMarked w.links c.environment c.procedure.body (body_index c)
  pub acts : w.acts + 1 < 2 ^ 64
  pub parameters : HasParameters c

-- ---- a call of it, with what is passed, at a point whose newest layer is the caller's, which has so many words set
-- aside already

pub record ListCall : Type 0 where
  pub surroundings : Surroundings
  pub code : List Instr
  pub callee : Taking
  pub point : Point
  pub numbers : ℕ → ℕ
  pub words : ℕ
  pub passed : List Passing
  pub layer : Layer
  pub others : List Layer

abbrev pub entry_of : Option Function → ListCall → Entry
entry_of g y =
    record (begun (block_of y.callee.procedure) y.callee.calling.parent) {
      parameters = indices_of y.callee.parameters;
      arguments = all_passed y.passed;
      is_function = is_value g;
    }

-- where the list stands, and what the caller's words tell once it has been given
abbrev pub list_of : ListCall → ℕ
list_of y = y.layer.at - 4 * (y.words + 6 * length y.passed)

abbrev pub given_waits : ListCall → ℕ → Option ℕ
given_waits y = list_told y.words y.passed y.layer.waits

abbrev pub given_point : ListCall → Point
given_point y = with_list (given_waits y) y.layer y.others y.point

abbrev pub layer_of : ListCall → Layer
layer_of y =
    record (layer_for y.surroundings (given_point y) y.numbers y.callee.procedure y.callee.calling) {
      parameters = length y.callee.parameters;
      top = frame_for y.surroundings.parts (given_point y).control.layers y.callee.procedure
          + fixed_size y.callee.procedure.head.level (length y.callee.parameters);
    }

abbrev pub beginning_of : Option Function → ListCall → Beginning
beginning_of g y =
    record { head = y.callee.procedure.head; entry = entry_of g y; layer = layer_of y; texts = 0 }

abbrev pub giving_of : Option Function → ListCall → Giving
giving_of g y =
    record {
      point = given_point y;
      beginning = beginning_of g y;
      list = list_of y;
      parameters = indices_of y.callee.parameters;
    }

abbrev pub listed_layer : ListCall → Layer
listed_layer y = listed (list_of y) (layer_of y)

-- where the parameters have been bound
abbrev pub bound_point : Option Function → ListCall → Point
bound_point g y =
    bound_all y.words y.callee.parameters y.passed (listed_layer y) (with_waits (given_waits y) y.layer) y.others
    (entered_point (giving_of g y))

abbrev pub bound_waits : ListCall → ℕ → Option ℕ
bound_waits y = bound_told y.words y.point.state.serials y.callee.parameters y.passed (given_waits y)

abbrev pub named_point : ListCall → Point
named_point y = with_list (bound_waits y) y.layer y.others y.point

abbrev pub called_of : Option Function → ListCall → Called
called_of g y =
    record {
      surroundings = y.surroundings;
      code = y.code;
      point = named_point y;
      numbers = y.numbers;
      beginning = record (beginning_of g y) {
        layer = bound_layer y.callee.parameters y.passed (listed_layer y);
      };
      call = y.callee.calling.call;
      entry = y.callee.calling.entry;
      end = y.callee.calling.end;
      function = g;
    }

-- its block: the first statement begins behind what becomes of the point where its variables are made, and an act
abbrev pub list_block : Option Function → ListCall → (made : Point → Point) → Block
list_block g y made =
    record {
      call = called_of g y;
      first = acted y.callee.procedure.head.line (made (bound_point g y));
      environment = y.callee.environment;
      around = at_line y.callee.around y.callee.procedure.head.line;
      registers = y.callee.procedure.saved;
      outers = [];
    }

-- ---- its variables

-- they are made behind the parameters as they are meant, and nothing else changes: these stand for what they stood for
pub record AreBeside (g : Option Function) (y : ListCall) (made : Point → Point) : Type 0 where
  pub stands :
      Stands y.surroundings (bound_point g y) × IsImage y.surroundings y.code (bound_point g y) →
      Stands y.surroundings (made (bound_point g y)) × IsImage y.surroundings y.code (made (bound_point g y))
  pub comes :
      (credits : ℕ) (f : Family) →
      Stands y.surroundings (bound_point g y) × IsImage y.surroundings y.code (bound_point g y) →
      Linked y.surroundings.links y.code (variables_index y.callee) y.callee.procedure.variables →
      AreIn y.surroundings (bound_point g y) y.numbers (variables_index y.callee) f →
      Reach y.code credits f (services_of (bound_point g y)) (credits + size_of y.callee.procedure.variables)
      (services_of (made (bound_point g y)))
      (λ b y'. IsIn y.surroundings (made (bound_point g y)) y.numbers (act_index y.callee) b y')
  pub means :
      block_variables_made (at_line y.callee.around y.callee.procedure.head.line) y.callee.procedure.head
      y.callee.procedure.head.kind y.surroundings.acts (bound_point g y).state
      ≡ Normal tt (made (bound_point g y)).state
  pub activation : Activation
  pub parent : activation.parent ≡ y.callee.calling.parent
  pub bound :
      (n : ℕ) (x : Parameter) → slice_get y.callee.parameters n ≡ Some x →
      binding_of activation.bindings x.index
      ≡ binding_of (bindings_with y.point.state.serials y.callee.parameters y.passed []) x.index
  pub changed : Changed
  pub layers :
      (made (bound_point g y)).control.layers
      ≡ resumed changed (called_of g y).beginning.layer ∷ (named_point y).control.layers
  pub own : List (Condition × OnUnit)
  pub activations :
      (made (bound_point g y)).state.activations ≡ with_units own activation ∷ y.point.state.activations
  pub idle : (made (bound_point g y)).control.waiting ≡ None
  pub world : (made (bound_point g y)).state.world ≡ y.point.state.world
  -- what remained of a point below the block remains; what lived where they have been bound lives on where it stands,
  -- and the table has what it had; an act pays for the serials, those of copies too
  pub remains :
      (p : Point) → length p.state.activations ≤ length y.point.state.activations →
      Stands y.surroundings (bound_point g y) → Remains p (bound_point g y) → Remains p (made (bound_point g y))
  pub living :
      (n : ℕ) (l : Living) → Stands y.surroundings (bound_point g y) →
      living_of (bound_point g y).state.living n ≡ Some l →
      LivesOn l (living_of (made (bound_point g y)).state.living n)
  pub at :
      (n : ℕ) → n ≤ (bound_point g y).state.serials →
      (made (bound_point g y)).places.at n ≡ (bound_point g y).places.at n
  pub table : Extends (bound_point g y).places.signatures (made (bound_point g y)).places.signatures
  pub few : (made (bound_point g y)).state.serials ≤ y.point.state.serials + y.surroundings.serials

-- or they pass the limit on what is AUTOMATIC: the run ends where the first of them that does would be made
pub record AreFullBeside (g : Option Function) (y : ListCall) : Type 0 where
  pub state : State
  pub means :
      block_variables_made (at_line y.callee.around y.callee.procedure.head.line) y.callee.procedure.head
      y.callee.procedure.head.kind y.surroundings.acts (bound_point g y).state
      ≡ finish (E.Limit L.Automatic) y.surroundings.acts state
  pub ends :
      (credits : ℕ) (f : Family) →
      Stands y.surroundings (bound_point g y) × IsImage y.surroundings y.code (bound_point g y) →
      credits + size_of y.callee.procedure.variables ≤ cost y.code →
      Linked y.surroundings.links y.code (variables_index y.callee) y.callee.procedure.variables →
      AreIn y.surroundings (bound_point g y) y.numbers (variables_index y.callee) f →
      Over y.code credits f (services_of (bound_point g y)) (E.Limit L.Automatic) state

-- one that declares nothing beside its parameters makes nothing
abbrev pub NoneBeside : Type 0
NoneBeside =
    (g : Option Function) (y : ListCall) → y.callee.procedure.variables ≡ [] →
    length y.callee.parameters ≡ length y.passed → copies_in y.passed ≤ y.surroundings.serials →
    block_variables_made (at_line y.callee.around y.callee.procedure.head.line) y.callee.procedure.head
    y.callee.procedure.head.kind y.surroundings.acts (bound_point g y).state
    ≡ Normal tt (bound_point g y).state → AreBeside g y (λ q. q)
