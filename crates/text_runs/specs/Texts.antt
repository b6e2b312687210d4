-- Texts at the points of a block: what the code of an expression leaves on the stack while others wait, and where it
-- goes on.
use Rattle.std.specs.Prelude.{ℕ, ℤ, ◌+◌, ◌*◌, ◌^◌, ◌<◌, ◌≤◌, ◌≡◌, List, ◌∷◌, [], length}
use Rattle.rv_meaning.specs.Machine.{value}
use Rattle.rv_meaning.specs.Words.{word}
use Rattle.pli_language.specs.declared.condition.Condition.TheVariants as C
use Rattle.pli_meaning.specs.Control.{Meaning}
use Rattle.pli_meaning.specs.Raising.{error}
use Rattle.pli_meaning.specs.StorageState.{State, force}
use Rattle.pli_meaning.specs.Texts.{most_text}
use Rattle.pli_serving.specs.ServiceState.{Entry, Services, TextEntry}
use Rattle.pli_coding.specs.Assembly.{Code, JumpTo, RaiseError, size_of}
use Rattle.pli_coding.specs.Environments.{Taken}
use Rattle.pli_coding.specs.Linking.{place_of}
use Rattle.pli_coding.specs.Registers.{a1}
use Rattle.activation_relation.specs.Layers.{Point, services_of}
use Rattle.activation_relation.specs.ServiceLaws.{IsSystem}
use Rattle.run_steps.specs.Engine.{Base}
use Rattle.run_steps.specs.Items.{Linked}
use Rattle.run_steps.specs.Numbers.{IsWide}
use Rattle.run_steps.specs.Reach.{Aims, Comes, Family, Reach, cost}
use Rattle.block_runs.specs.Machines.{AreIn, IsIn, limits_of}
use Rattle.program_runs.specs.Statements.{Block, IsAmong, JumpsTo, waiting}
use Rattle.expression_runs.specs.Raises.{Routines}
use Rattle.expression_runs.specs.Values.{HasRegisters, HasWord, Setting, Stretch, behind, in_registers}

-- ---- a number while texts wait

-- its word, with what waits as it was; or it is left by a jump, to a label of the block as it is without
abbrev pub value_aims : List Entry → Setting → Stretch → Aims ℤ
value_aims entries k x =
    record {
      limits = limits_of k.block.call.surroundings;
      done = λ c f v z s. IsWide z × HasWord (waiting entries k.block) x (word z) c f v s;
      jumped = λ c f v height label s. JumpsTo k.block k.labels x.acts c f v height label s;
      returned = λ c f v r s. ⊥;
    }

-- what Evaluates of expression_runs says where none waits
abbrev pub Evaluates : List Entry → Setting → (need : ℕ) → (part : Taken → Code) → Meaning ℤ → Type 0
Evaluates entries k need part meaning =
    (p : Point) (numbers : ℕ → ℕ) (taken credits index : ℕ) (f : Family) →
    IsAmong (waiting entries k.block) numbers p → p.control.line ≡ k.around.line → HasRegisters k taken need →
    Linked k.block.call.surroundings.links k.block.call.code index (part (in_registers k.words taken)) →
    credits + size_of (part (in_registers k.words taken)) + k.most ≤ cost k.block.call.code →
    AreIn k.block.call.surroundings p numbers index f →
    Comes k.block.call.code credits f (services_of p)
    (value_aims entries k (behind p numbers taken credits index (part (in_registers k.words taken))))
    (meaning k.block.call.surroundings.acts p.state)

-- ---- a text

abbrev pub IsShort : List ℕ → Type 0
IsShort text = length text ≤ most_text

-- it is on top of the stack, above what waits, with the temporaries as they were; no fewer acts have been made
pub record HasText (entries : List Entry) (k : Block) (x : Stretch) (text : List ℕ) (credits : ℕ) (f : Family)
    (v : Services) (s : State) : Type 0
  where
    pub short : IsShort text
    pub point : Point
    pub numbers : ℕ → ℕ
    pub among : IsAmong (waiting (TextEntry text ∷ entries) k) numbers point
    pub since : x.acts ≤ point.state.world.acts
    pub line : point.control.line ≡ x.line
    pub stays : (n : ℕ) → n < x.taken → numbers n ≡ x.numbers n
    pub state : s ≡ point.state
    pub reach :
        Reach k.call.code credits f v x.wanted (services_of point)
        (λ b y. IsIn k.call.surroundings point numbers x.index b y)

abbrev pub text_aims : List Entry → Setting → Stretch → Aims (List ℕ)
text_aims entries k x =
    record {
      limits = limits_of k.block.call.surroundings;
      done = λ c f v text s. HasText entries k.block x text c f v s;
      jumped = λ c f v height label s. JumpsTo k.block k.labels x.acts c f v height label s;
      returned = λ c f v r s. ⊥;
    }

-- the code of a part, with the registers that it needs beside those in use, leaves the text that is meant
abbrev pub Pushes : List Entry → Setting → (need : ℕ) → (part : Taken → Code) → Meaning (List ℕ) → Type 0
Pushes entries k need part meaning =
    (p : Point) (numbers : ℕ → ℕ) (taken credits index : ℕ) (f : Family) →
    IsAmong (waiting entries k.block) numbers p → p.control.line ≡ k.around.line → HasRegisters k taken need →
    Linked k.block.call.surroundings.links k.block.call.code index (part (in_registers k.words taken)) →
    credits + size_of (part (in_registers k.words taken)) + k.most ≤ cost k.block.call.code →
    AreIn k.block.call.surroundings p numbers index f →
    Comes k.block.call.code credits f (services_of p)
    (text_aims entries k (behind p numbers taken credits index (part (in_registers k.words taken))))
    (meaning k.block.call.surroundings.acts p.state)

-- ---- ERROR by a service's status

-- nothing goes on behind it
abbrev pub error_aims : (X : Type 0) → Setting → (acts : ℕ) → Aims X
error_aims X k acts =
    record {
      limits = limits_of k.block.call.surroundings;
      done = λ c f v r s. ⊥;
      jumped = λ c f v height label s. JumpsTo k.block k.labels acts c f v height label s;
      returned = λ c f v r s. ⊥;
    }

-- from the jump to its routine, with a code in a1, whatever waits, the run comes to what ERROR means
abbrev pub ErrorComes : Type 0 → Setting → Type 0
ErrorComes X k =
    (entries : List Entry) (p : Point) (numbers : ℕ → ℕ) (credits index code : ℕ) (f : Family) →
    IsAmong (waiting entries k.block) numbers p → p.control.line ≡ k.around.line → (0 < code) × (code < 2 ^ 16) →
    Linked k.block.call.surroundings.links k.block.call.code index (JumpTo RaiseError ∷ []) →
    credits + k.most ≤ cost k.block.call.code →
    ((b : Base) → IsIn k.block.call.surroundings p numbers index b (f b) × (value (f b).machine a1 ≡ code)) →
    Comes k.block.call.code credits f (services_of p) (error_aims X k p.state.world.acts)
    (error {R = X} k.around code k.block.call.surroundings.acts p.state)

-- where the block's first statement begins no unit is in force for it
pub record IsErrorless (k : Setting) : Type 0 where
  pub routines : Routines k.block.call.surroundings.links k.block.call.code
  pub raises : place_of k.block.call.surroundings.links RaiseError ≡ 4 * (routines.at + 8)
  pub error : IsSystem (force k.block.first.state.activations C.Error)
  pub acts : k.block.call.surroundings.acts + 1 < 2 ^ 64
  pub most : 6 < k.most

-- then the run ends, whatever was to come of the service
pub record ErrorEnds : Type 0 where
  pub text : (k : Setting) → IsErrorless k → ErrorComes (List ℕ) k
  pub number : (k : Setting) → IsErrorless k → ErrorComes ℤ k
