-- The arguments of a call: values that are copied and names that are passed, and what is asked of each while the words
-- of the frame tell those before it.
use Rattle.std.specs.Prelude.{ℕ, ℤ, suc, ◌+◌, ◌*◌, ◌≤◌, ◌≡◌, List, [], ◌∷◌, length, ⊤, true}
use Rattle.rv_meaning.specs.Words.{word}
use Rattle.pli_typing.specs.TypedTree as Y
use Rattle.pli_meaning.specs.BasicValues.{VariableName}
use Rattle.pli_meaning.specs.Control.{Normal}
use Rattle.pli_meaning.specs.Evaluating.{EvaluatedArgument, argument}
use Rattle.pli_meaning.specs.Numbers.{is_of_precision}
use Rattle.pli_meaning.specs.Raising.{PassedName}
use Rattle.pli_coding.specs.Assembly.{Code, size_of}
use Rattle.pli_coding.specs.Environments.{Environment}
use Rattle.pli_coding.specs.Expressions.{argument_code}
use Rattle.activation_relation.specs.Layers.{Layer, Point, services_of}
use Rattle.run_steps.specs.Items.{Linked}
use Rattle.run_steps.specs.Reach.{Family, Reach}
use Rattle.block_runs.specs.Machines.{AreIn, IsIn}
use Rattle.program_runs.specs.Statements.{IsAmong}
use Rattle.expression_runs.specs.Laws as L
use Rattle.expression_runs.specs.Values.{Setting, in_registers}
use Rattle.expression_runs.specs.Variables.{whole_part}
use Rattle.argument_runs.specs.Lists.{with_list}
use Rattle.argument_runs.specs.Parameters.{parameter_shape}
use Rattle.word_runs.specs.Words.{telling}
use Rattle.list_calls.specs.Lists.{Passing, PassesCopy, PassesName, Told, name_told, value_told}

-- ---- an argument: an expression whose value is copied, or a variable whose name is passed, with the serial number of
-- what it stands for and the number of its signature

pub data Way : Type 0 where
  ByValue : Y.Number → Way
  ByName : Y.Variable → (serial signature : ℕ) → Way

abbrev pub whole_of : Y.Variable → Y.Reference
whole_of v = Y.Referring v Y.NotLocated whole_part Y.NoNumber

abbrev pub argument_of : Way → Y.Argument
argument_of (ByValue source) = Y.ByCopy (Y.FixedLeaf 31) (Y.StoredNumber 31 source)
argument_of (ByName v serial signature) = Y.ByReference (whole_of v)

abbrev pub arguments_of : List Way → Y.Arguments
arguments_of [] = Y.NoArgument
arguments_of (u ∷ us) = Y.ArgumentThen (argument_of u) (arguments_of us)

-- what is passed then
abbrev pub ComesTo : Way → Passing → Type 0
ComesTo (ByValue source) (PassesCopy z) = is_of_precision 31 z ≡ true
ComesTo (ByValue source) (PassesName serial signature) = ⊥
ComesTo (ByName v serial signature) (PassesCopy z) = ⊥
ComesTo (ByName v serial signature) (PassesName serial' signature') = (serial' ≡ serial) × (signature' ≡ signature)

abbrev pub ComeTo : List Way → List Passing → Type 0
ComeTo [] [] = ⊤
ComeTo [] (y ∷ ys) = ⊥
ComeTo (u ∷ us) [] = ⊥
ComeTo (u ∷ us) (y ∷ ys) = ComesTo u y × ComeTo us ys

abbrev pub copies_among : List Way → ℕ
copies_among [] = 0
copies_among (ByValue source ∷ us) = suc (copies_among us)
copies_among (ByName v serial signature ∷ us) = copies_among us

-- ---- an expression among them is evaluated while so many words are set aside, which tell what is before it

abbrev pub setting_told : Setting → (all : ℕ) → Told → Layer → List Layer → Setting
setting_told k all told φ φs =
    record { block = telling told φ φs k.block; labels = k.labels; around = k.around; most = k.most; words = all }

-- ---- a name: from any point of the block, whatever its words tell, code brings it into a part of the list

abbrev pub name_code : Environment → (taken all place count n : ℕ) → Y.Variable → Code
name_code e taken all place count n v =
    argument_code e (in_registers all taken) (record { place = place; words = count }) n (Y.ByReference (whole_of v))

-- the nth part of a list of so many words ends with a word
pub record IsPart (place count n last : ℕ) (φ : Layer) : Type 0 where
  pub ends : last + 6 + 6 * n ≡ place + count
  pub inside : place + count ≤ φ.words

pub record Passes (k : Setting) (φ : Layer) (φs : List Layer) (v : Y.Variable) (serial signature : ℕ) : Type 0 where
  pub comes :
      (told : Told) (p : Point) (numbers : ℕ → ℕ) (taken all place count n last credits index : ℕ) (f : Family) →
      IsAmong (telling told φ φs k.block) numbers p → IsPart place count n last φ →
      Linked k.block.call.surroundings.links k.block.call.code index
      (name_code k.block.environment taken all place count n v) →
      AreIn k.block.call.surroundings p numbers index f →
      Reach k.block.call.code credits f (services_of p)
      (credits + size_of (name_code k.block.environment taken all place count n v))
      (services_of (with_list (name_told last serial signature 0 told) φ φs p))
      (λ b y. IsIn k.block.call.surroundings (with_list (name_told last serial signature 0 told) φ φs p) numbers
      (index + size_of (name_code k.block.environment taken all place count n v)) b y)
  -- and so it means
  pub means :
      (told : Told) (p : Point) (numbers : ℕ → ℕ) → IsAmong (telling told φ φs k.block) numbers p →
      argument k.around (Y.ByReference (whole_of v)) k.block.call.surroundings.acts p.state
      ≡ Normal (EvaluatedArgument (PassedName (VariableName serial) parameter_shape)) p.state

-- ---- each argument does what it means, whatever values those before it have

abbrev pub EachGives : Setting → (need : ℕ) → Layer → List Layer → (words all : ℕ) → Told → List Way → Type 0
EachGives k need φ φs words all told [] = ⊤
EachGives k need φ φs words all told (ByValue source ∷ us) =
    L.Does (setting_told k all told φ φs) need source
    × ((z : ℤ) → is_of_precision 31 z ≡ true →
    EachGives k need φ φs words all (value_told (words + 6 * length us) (word z) told) us)
EachGives k need φ φs words all told (ByName v serial signature ∷ us) =
    Passes k φ φs v serial signature
    × EachGives k need φ φs words all (name_told (words + 6 * length us) serial signature 0 told) us
