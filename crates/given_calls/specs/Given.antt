-- A procedure or a function with one parameter, which is copied, and variables of its own beside it: its code, and the
-- block in which its statements run.
use Rattle.std.specs.Prelude.{ℕ, ℤ, ◌+◌, ◌*◌, ◌^◌, ◌<◌, ◌≤◌, ◌≡◌, List, [], ◌∷◌, ◌++◌, length, Option, None, Some}
use Rattle.rv_meaning.specs.declared.instr.Instr.{Instr}
use Rattle.pli_language.specs.declared.condition.Condition.{Condition}
use Rattle.pli_typing.specs.TypedTree as Y
use Rattle.pli_meaning.specs.Control.{Normal, finish}
use Rattle.pli_meaning.specs.Executing.{block_variables_made}
use Rattle.pli_meaning.specs.Raising.{at_line}
use Rattle.pli_meaning.specs.Making.{living_at}
use Rattle.pli_meaning.specs.StorageState.{Activation, Living, OnUnit, State, binding_in, living_of}
use Rattle.pli_meaning.specs.declared.outcome.End.TheVariants as E
use Rattle.pli_meaning.specs.declared.outcome.Limit.TheVariants as L
use Rattle.pli_coding.specs.Allocating.{act_code}
use Rattle.pli_coding.specs.Assembly.{CallTo, Code, Mark, ProcedureEntry, ReturnPlace, size_of}
use Rattle.pli_coding.specs.Entries.{arguments_copied}
use Rattle.pli_coding.specs.Environments.{Environment, none_taken}
use Rattle.pli_coding.specs.Linking.{place_of}
use Rattle.pli_coding.specs.Statements.{stmts_code}
use Rattle.activation_relation.specs.Landing.{Changed, resumed, with_units}
use Rattle.activation_relation.specs.Layers.{Point, services_of}
use Rattle.activation_relation.specs.Points.{Stands, Surroundings}
use Rattle.activation_relation.specs.Remaining.{LivesOn, Remains}
use Rattle.run_steps.specs.Items.{Linked}
use Rattle.run_steps.specs.Reach.{Family, Reach, cost}
use Rattle.block_runs.specs.Bodies.{Function}
use Rattle.block_runs.specs.Machines.{AreIn, IsImage, IsIn, acted}
use Rattle.program_runs.specs.Procedures.{IsCoded, Procedure, end_of}
use Rattle.program_runs.specs.Statements.{AreMarked, Block}
use Rattle.expression_runs.specs.Variables.{Spot}
use Rattle.argument_runs.specs.Copies.{IsCopied, copy_generation}
use Rattle.argument_runs.specs.CopyCalls.{CopyCall, Copying, called_of, copied_point, copies_index, copy_for, copy_in}
use Rattle.argument_runs.specs.CopyCalls.{listing_of, named_point}
use Rattle.argument_runs.specs.Parameters.{parameter_binding}
use Rattle.nested_calls.specs.FullVariables.{Over}

-- ---- its code

-- the copy comes before its variables; behind its statements stands what ends it
abbrev pub given_code : Environment → Procedure → (tail : Code) → Code
given_code e x tail =
    listing_of x
    ++ (arguments_copied e (0 ∷ [])
    ++ (x.variables ++ (act_code x.head.line ++ (stmts_code e none_taken x.body ++ tail))))

abbrev pub procedure_tail : Procedure → Code
procedure_tail x = Mark (ReturnPlace x.head.number) ∷ end_of x

abbrev pub variables_index : Copying → ℕ
variables_index c = copies_index c + size_of (arguments_copied c.environment (0 ∷ []))

abbrev pub act_index : Copying → ℕ
act_index c = variables_index c + size_of c.procedure.variables

abbrev pub body_index : Copying → ℕ
body_index c = act_index c + size_of (act_code c.procedure.head.line)

-- a procedure's code stands where it is called
pub record IsGiven (w : Surroundings) (code : List Instr) (c : Copying) : Type 0 where
  pub coded : IsCoded c.procedure c.calling
  pub calls : Linked w.links code c.calling.call (CallTo (ProcedureEntry c.procedure.head.number) ∷ [])
  pub place : place_of w.links (ProcedureEntry c.procedure.head.number) ≡ 4 * c.calling.entry
  pub stands :
      Linked w.links code c.calling.entry (given_code c.environment c.procedure (procedure_tail c.procedure))
  pub end : c.calling.end ≡ body_index c + size_of (stmts_code c.environment none_taken c.procedure.body)
  pub kind : c.procedure.head.kind ≡ Y.ProcedureBlock
  pub labels : AreMarked w.links c.environment c.procedure.body (body_index c)
  pub acts : w.acts + 1 < 2 ^ 64
  pub copied : (z : ℤ) → IsCopied c.environment (0 ∷ []) c.declared (copy_for c z)

-- ---- its block

-- its first statement begins behind the copy, what becomes of the point where its variables are made, and an act
abbrev pub given_block : Option Function → CopyCall → (made : Point → Point) → Block
given_block g y made =
    record {
      call = called_of g y;
      first = acted y.callee.procedure.head.line (made (copied_point g y));
      environment = y.callee.environment;
      around = at_line y.callee.around y.callee.procedure.head.line;
      registers = y.callee.procedure.saved;
      outers = [];
    }

-- the copy as it lives there
abbrev pub copy_living : CopyCall → Living
copy_living y =
    living_at (y.point.state.serials + 1) (length y.point.state.activations + 1) (copy_generation (copy_in y))

abbrev pub first_spot : Spot
first_spot = record { block = 0; level = 0; index = 0 }

-- its variables are made behind the copy as they are meant, and nothing else changes: its parameter stands for the copy
pub record AreBeside (g : Option Function) (y : CopyCall) (made : Point → Point) : Type 0 where
  pub stands :
      Stands y.surroundings (copied_point g y) × IsImage y.surroundings y.code (copied_point g y) →
      Stands y.surroundings (made (copied_point g y)) × IsImage y.surroundings y.code (made (copied_point g y))
  pub comes :
      (credits : ℕ) (f : Family) →
      Stands y.surroundings (copied_point g y) × IsImage y.surroundings y.code (copied_point g y) →
      Linked y.surroundings.links y.code (variables_index y.callee) y.callee.procedure.variables →
      AreIn y.surroundings (copied_point g y) y.numbers (variables_index y.callee) f →
      Reach y.code credits f (services_of (copied_point g y)) (credits + size_of y.callee.procedure.variables)
      (services_of (made (copied_point g y)))
      (λ b y'. IsIn y.surroundings (made (copied_point g y)) y.numbers (act_index y.callee) b y')
  pub means :
      block_variables_made (at_line y.callee.around y.callee.procedure.head.line) y.callee.procedure.head
      y.callee.procedure.head.kind y.surroundings.acts (copied_point g y).state
      ≡ Normal tt (made (copied_point g y)).state
  pub activation : Activation
  pub parent : activation.parent ≡ y.callee.calling.parent
  pub bound :
      binding_in (Some activation) 0 ≡ Some (parameter_binding first_spot (y.point.state.serials + 1))
  pub changed : Changed
  pub layers :
      (made (copied_point g y)).control.layers
      ≡ resumed changed (called_of g y).beginning.layer ∷ (named_point y).control.layers
  pub own : List (Condition × OnUnit)
  pub activations :
      (made (copied_point g y)).state.activations ≡ with_units own activation ∷ y.point.state.activations
  pub idle : (made (copied_point g y)).control.waiting ≡ None
  pub world : (made (copied_point g y)).state.world ≡ y.point.state.world
  -- what remained of a point below the block remains, the copy lives on where it stands, and an act pays for the
  -- serials
  pub remains :
      (p : Point) → length p.state.activations ≤ length y.point.state.activations →
      Stands y.surroundings (copied_point g y) → Remains p (copied_point g y) → Remains p (made (copied_point g y))
  pub copy :
      LivesOn (copy_living y) (living_of (made (copied_point g y)).state.living (y.point.state.serials + 1))
  pub placed :
      (made (copied_point g y)).places.at (y.point.state.serials + 1)
      ≡ (copied_point g y).places.at (y.point.state.serials + 1)
  pub few : (made (copied_point g y)).state.serials ≤ y.point.state.serials + y.surroundings.serials

-- or they pass the limit on what is AUTOMATIC: the run ends where the first of them that does would be made
pub record AreFullBeside (g : Option Function) (y : CopyCall) : Type 0 where
  pub state : State
  pub means :
      block_variables_made (at_line y.callee.around y.callee.procedure.head.line) y.callee.procedure.head
      y.callee.procedure.head.kind y.surroundings.acts (copied_point g y).state
      ≡ finish (E.Limit L.Automatic) y.surroundings.acts state
  pub ends :
      (credits : ℕ) (f : Family) →
      Stands y.surroundings (copied_point g y) × IsImage y.surroundings y.code (copied_point g y) →
      credits + size_of y.callee.procedure.variables ≤ cost y.code →
      Linked y.surroundings.links y.code (variables_index y.callee) y.callee.procedure.variables →
      AreIn y.surroundings (copied_point g y) y.numbers (variables_index y.callee) f →
      Over y.code credits f (services_of (copied_point g y)) (E.Limit L.Automatic) state

-- one that declares nothing beside its parameter makes nothing
abbrev pub NoneBeside : Type 0
NoneBeside =
    (g : Option Function) (y : CopyCall) → y.callee.procedure.variables ≡ [] → 1 ≤ y.surroundings.serials →
    block_variables_made (at_line y.callee.around y.callee.procedure.head.line) y.callee.procedure.head
    y.callee.procedure.head.kind y.surroundings.acts (copied_point g y).state
    ≡ Normal tt (copied_point g y).state → AreBeside g y (λ q. q)
