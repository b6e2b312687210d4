-- The smallest call: of a procedure without parameters and variables, whose body is empty.
use Rattle.std.specs.Prelude.{ℕ, suc, List, ◌+◌, ◌^◌, ◌<◌, ◌≤◌, ◌≡◌, ◌++◌, [], ◌∷◌, nat_lt, true, length, Option, None}
use Rattle.rv_meaning.specs.declared.instr.Instr.{Instr}
use Rattle.pli_typing.specs.TypedTree as Y
use Rattle.pli_meaning.specs.BasicValues.{BasicValue}
use Rattle.pli_meaning.specs.Control.{act, left}
use Rattle.pli_meaning.specs.DeclaredShapes.{variables_of_block}
use Rattle.pli_meaning.specs.Executing.{block_run, begun, with_activation}
use Rattle.pli_meaning.specs.Raising.{Around}
use Rattle.pli_meaning.specs.StorageState.{State, newest_ended, most_activations}
use Rattle.pli_meaning.specs.World.{counted}
use Rattle.pli_coding.specs.Allocating.{act_code}
use Rattle.pli_coding.specs.Assembly.{Code, Mark, ProcedureEntry, ReturnPlace, size_of}
use Rattle.pli_coding.specs.Environments.{Environment}
use Rattle.pli_coding.specs.Procedures.{procedure_with}
use Rattle.run_steps.specs.Engine.{Base}
use Rattle.run_steps.specs.Items.{Linked}
use Rattle.run_steps.specs.Reach.{Family, Reach, Aims, Comes, cost}
use Rattle.activation_relation.specs.Changes.{popped}
use Rattle.activation_relation.specs.Layers.{Point, services_of}
use Rattle.activation_relation.specs.Points.{Surroundings, Stands}
use Rattle.block_runs.specs.Beginnings.{Beginning, IsBeginning, IsCalling, CallStands, begun_point, beginning_code}
use Rattle.block_runs.specs.Endings.{ending_code}
use Rattle.block_runs.specs.Machines.{IsImage, IsIn, AreIn, acted, limits_of}

-- its beginning, the act of its entry, and its end
abbrev pub empty_code : Beginning → Code
empty_code x =
    beginning_code x ++ (act_code x.head.line ++ (Mark (ReturnPlace x.head.number) ∷ ending_code x.layer None))

-- the point behind the call
abbrev pub called_point : Beginning → Point → Point
called_point x p = popped [] (acted x.head.line (begun_point x p))

-- where the call goes on: with as many credits as are wanted, and the numbers in registers as they were
abbrev pub call_aims :
    Surroundings → List Instr → Point → (numbers : ℕ → ℕ) → Beginning → (wanted : ℕ) → Aims (Option BasicValue)
call_aims w code p numbers x wanted =
    record {
      limits = limits_of w;
      done = λ c f v r s.
          (r ≡ None) × (s ≡ (called_point x p).state)
          × Reach code c f v wanted (services_of (called_point x p))
          (λ b y. IsIn w (called_point x p) numbers x.layer.back b y);
      jumped = λ c f v height label s. ⊥;
      returned = λ c f v r s. ⊥;
    }

pub record EmptyCalls : Type 0 where
  -- from the instruction that calls it to the one behind, or to a pause before the act of its entry
  pub comes :
      (w : Surroundings) (code : List Instr) (p : Point) (numbers : ℕ → ℕ) (x : Beginning)
      (credits wanted call entry : ℕ) (f : Family) → Stands w p × IsImage w code p × IsBeginning w p numbers x →
      CallStands w code x call entry × Linked w.links code entry (empty_code x) →
      (w.acts + 1 < 2 ^ 64) × (credits + 2 + size_of (empty_code x) ≤ cost code) →
      AreIn w p numbers call f × ((b : Base) → IsCalling p x b (f b)) →
      Comes code credits f (services_of p) (call_aims w code p numbers x wanted)
      (left true newest_ended (act counted w.acts (begun_point x p).state))
  -- that is what its block means
  pub means :
      (around : Around) (head : Y.BlockHead) (parent turns acts : ℕ) (s : State) → around.turns ≡ suc turns →
      head.kind ≡ Y.ProcedureBlock →
      variables_of_block around.program head.number ≡ [] →
      nat_lt (length s.activations) most_activations ≡ true →
      block_run around (Y.BlockOf head (Y.EndOfList [])) (begun (Y.BlockOf head (Y.EndOfList [])) parent) acts s
      ≡ left true newest_ended
      (act counted acts (with_activation head (begun (Y.BlockOf head (Y.EndOfList [])) parent) s))
  -- and what its code is
  pub coded :
      (e : Environment) (x : Beginning) → e.block ≡ x.head.number → x.layer.level ≡ x.head.level →
      x.layer.parameters ≡ 0 → variables_of_block e.program e.block ≡ [] →
      procedure_with e x.head (Y.EndOfList []) x.layer.words x.layer.saved [] None
      ≡ Mark (ProcedureEntry x.head.number) ∷ empty_code x
