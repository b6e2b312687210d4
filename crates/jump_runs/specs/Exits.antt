-- Blocks that a jump may leave for one further out: what is aimed at from their first statement, and by their call.
use Rattle.std.specs.Prelude.{ℕ, ◌+◌, Option, None, true}
use Rattle.pli_meaning.specs.BasicValues.{BasicValue}
use Rattle.pli_meaning.specs.Control.{Meaning, left}
use Rattle.pli_meaning.specs.StorageState.{newest_ended}
use Rattle.pli_coding.specs.Assembly.{size_of}
use Rattle.activation_relation.specs.Landing.{closed}
use Rattle.activation_relation.specs.Layers.{services_of}
use Rattle.run_steps.specs.Engine.{Base}
use Rattle.run_steps.specs.Reach.{Aims, Comes, Family}
use Rattle.block_runs.specs.Beginnings.{IsCalling, beginning_code, begun_point}
use Rattle.block_runs.specs.Bodies.{AtEnd, IsBehind, IsCall, place_in}
use Rattle.block_runs.specs.Endings.{ending_code}
use Rattle.block_runs.specs.Machines.{AreIn, limits_of}
use Rattle.program_runs.specs.Statements.{Block, JumpsOut}

-- its body comes to its end, or to a label of a block further out, once the block has ended
abbrev pub exit_aims : Block → (acts left' : ℕ) → Aims (Unit {0})
exit_aims k acts left' =
    record {
      limits = limits_of k.call.surroundings;
      done = λ c f v r s. AtEnd k.call left' c f v None s;
      jumped = λ c f v height label s.
          JumpsOut k.call.surroundings k.call.code k.outers acts c f v height label (closed s);
      returned = λ c f v r s. AtEnd k.call left' c f v r s;
    }

-- its call comes behind it, or to that label
abbrev pub hand_aims : Block → (acts wanted : ℕ) → Aims (Option BasicValue)
hand_aims k acts wanted =
    record {
      limits = limits_of k.call.surroundings;
      done = λ c f v r s. IsBehind k.call wanted c f v r s;
      jumped = λ c f v height label s. JumpsOut k.call.surroundings k.call.code k.outers acts c f v height label s;
      returned = λ c f v r s. ⊥;
    }

-- a call hands a jump on. The credits that its end would have cost aren't needed at the label.
abbrev pub CallsHand : Type 0
CallsHand =
    (k : Block) (part : Meaning (Unit {0})) (acts credits left' wanted : ℕ) (f : Family) → IsCall k.call →
    ((g : Family) →
    AreIn k.call.surroundings (begun_point k.call.beginning k.call.point) k.call.numbers
    (k.call.entry + size_of (beginning_code k.call.beginning)) g →
    Comes k.call.code
    (credits + (left' + size_of (ending_code k.call.beginning.layer (place_in k.call.function))) + 2
    + size_of (beginning_code k.call.beginning)) g
    (services_of (begun_point k.call.beginning k.call.point)) (exit_aims k acts left')
    (part k.call.surroundings.acts (begun_point k.call.beginning k.call.point).state)) →
    AreIn k.call.surroundings k.call.point k.call.numbers k.call.call f →
    ((b : Base) → IsCalling k.call.point k.call.beginning b (f b)) →
    Comes k.call.code credits f (services_of k.call.point) (hand_aims k acts wanted)
    (left true newest_ended (part k.call.surroundings.acts (begun_point k.call.beginning k.call.point).state))
