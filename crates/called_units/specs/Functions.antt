-- Functions whose lists go on at their own labels where a unit jumps there, also out of ERROR behind the list.
use Rattle.std.specs.Prelude.{ℕ, List, [], ◌++◌}
use Rattle.pli_typing.specs.TypedTree as Y
use Rattle.pli_meaning.specs.Codes.{no_value_code}
use Rattle.pli_meaning.specs.Control.{Label}
use Rattle.pli_meaning.specs.Executing.{labels_in}
use Rattle.pli_meaning.specs.Raising.{error}
use Rattle.activation_relation.specs.Layers.{Point, services_of}
use Rattle.run_steps.specs.Reach.{Aims, Comes, Family}
use Rattle.block_runs.specs.Machines.{AreIn, limits_of}
use Rattle.program_runs.specs.Calls.{left_over}
use Rattle.program_runs.specs.Statements.{Block, IsAmong, JumpsTo, ReturnsTo}
use Rattle.unit_runs.specs.Establishing.{OnUnit}
use Rattle.jump_runs.specs.Functions.{FunctionDoes, IsFunctionList, behind_list}
use Rattle.phase_runs.specs.Forms.{IsInside}
use Rattle.phase_runs.specs.Phases.{EachThrough, in_phase}
use Rattle.phase_runs.specs.Units.{phases_of}

-- at a label, or at the end of the block by RETURN: a turn of the list doesn't come behind it
abbrev pub turn_aims : Block → List Label → (acts left' : ℕ) → Aims (Unit {0})
turn_aims k labels acts left' =
    record {
      limits = limits_of k.call.surroundings;
      done = λ c f v r s. ⊥;
      jumped = λ c f v height label s. JumpsTo k labels acts c f v height label s;
      returned = λ c f v r s. ReturnsTo k left' c f v r s;
    }

-- from any point of the block the raise behind the list does what it means
abbrev pub EndGoes : Block → List Label → (index : ℕ) → Type 0
EndGoes k labels index =
    (p : Point) (numbers : ℕ → ℕ) (f : Family) → IsAmong k numbers p → AreIn k.call.surroundings p numbers index f →
    Comes k.call.code 0 f (services_of p) (turn_aims k labels p.state.world.acts left_over)
    (error {R = Unit {0}} k.around no_value_code k.call.surroundings.acts p.state)

-- the function comes to its end or jumps out, if ERROR behind its list does what it means in each phase, be it that it
-- goes back to a label of the list
abbrev pub FunctionsTurn : Type 0
FunctionsTurn =
    (k : Block) (ons : List (OnUnit × ℕ)) (body : Y.Stmts) (index : ℕ) → IsFunctionList k body index →
    IsInside 0 k (phases_of k ons) body index →
    EachThrough 0 k (phases_of k ons) (labels_in body ++ []) body index left_over →
    ((first : Point) → phases_of k ons first →
    EndGoes (in_phase k first) (labels_in body ++ []) (behind_list k body index)) → FunctionDoes k body index
