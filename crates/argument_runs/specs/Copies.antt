-- The copy of an argument, FIXED BINARY(31): a variable of the procedure's own whose data stand on the lower stack, and
-- whose name and signature's number take the place of the value in the list.
use Rattle.std.specs.Prelude.{ℕ, ℤ, ◌+◌, ◌-◌, ◌%◌, ◌^◌, ◌<◌, ◌≤◌, ◌≡◌, List, [], ◌∷◌, nat_le, true, Some}
use Rattle.rv_meaning.specs.declared.instr.Instr.{Instr}
use Rattle.rv_meaning.specs.Words.{word}
use Rattle.pli_typing.specs.Signatures.{Fixed}
use Rattle.pli_typing.specs.TypedTree as Y
use Rattle.pli_meaning.specs.BasicValues.{BasicNumber}
use Rattle.pli_meaning.specs.Contents.{Generation, footprint_of}
use Rattle.pli_meaning.specs.Control.{Normal}
use Rattle.pli_meaning.specs.Making.{copy_of, plain, variable_made}
use Rattle.pli_meaning.specs.Numbers.{is_of_precision}
use Rattle.pli_meaning.specs.StorageState.{automatic_in_use, most_automatic}
use Rattle.pli_serving.specs.Templates.{shape_at}
use Rattle.pli_coding.specs.Assembly.{size_of}
use Rattle.pli_coding.specs.Entries.{arguments_copied, copies_of}
use Rattle.pli_coding.specs.Environments.{Environment}
use Rattle.pli_coding.specs.Locating.{table_number}
use Rattle.activation_relation.specs.FrameLaws.{with_waits}
use Rattle.activation_relation.specs.Layers.{Layer, Point, services_of}
use Rattle.activation_relation.specs.Points.{Stands, Surroundings}
use Rattle.activation_relation.specs.Variables.{Made, with_made}
use Rattle.run_steps.specs.Items.{Linked}
use Rattle.run_steps.specs.Reach.{Family, Reach}
use Rattle.run_steps.specs.Engine.{Base}
use Rattle.block_runs.specs.Machines.{IsImage, IsIn}
use Rattle.argument_runs.specs.ListBeginnings.{KeepsList}
use Rattle.argument_runs.specs.Lists.{given_waits, layered, list_under, named_waits}

-- its place among the procedure's variables, the number of its signature, and the value
pub record Copy : Type 0 where
  pub index : ℕ
  pub number : ℕ
  pub value : ℤ

abbrev pub copy_generation : Copy → Generation
copy_generation x = copy_of (Fixed 31) (BasicNumber x.value)

-- at the top of the lower stack, which grows by 16 bytes
abbrev pub copy_made_of : Layer → Copy → Made
copy_made_of ψ x =
    record {
      variable = x.index;
      generation = copy_generation x;
      place = ψ.lower - 16;
      number = x.number;
      top = ψ.top;
      lower = ψ.lower - 16;
      told = ψ.told;
    }

-- the procedure's layer and the caller's, and those below
abbrev pub copied : Layer → Layer → List Layer → Copy → Point → Point
copied ψ φ φs x p =
    with_made (copy_made_of ψ x)
    (layered (ψ ∷ with_waits (named_waits (p.state.serials + 1) x.number) φ ∷ φs) p)

-- the procedure has been entered with this value in the caller's list; there is room between the stacks and among what
-- is AUTOMATIC; and its serial number has 8 bytes
pub record IsCopy (w : Surroundings) (p : Point) (ψ φ : Layer) (φs : List Layer) (x : Copy) : Type 0 where
  pub newest : p.control.layers ≡ ψ ∷ with_waits (given_waits (word x.value)) φ ∷ φs
  pub list : ψ.list ≡ Some (list_under φ.at)
  pub words : 6 ≤ φ.words
  pub wide : is_of_precision 31 x.value ≡ true
  pub fits : ψ.top + 16 ≤ ψ.lower
  pub even : ψ.lower % 16 ≡ 0
  pub low : p.places.low ≤ w.parts.stack_start
  pub shape : shape_at p.places.signatures x.number ≡ Some (plain (Fixed 31))
  pub number : x.number < 2 ^ 31
  pub serial : p.state.serials + 1 < 2 ^ 64
  pub limit :
      nat_le (automatic_in_use p.state.living + footprint_of (copy_generation x)) most_automatic ≡ true

-- its procedure has this parameter alone
pub record IsCopied (e : Environment) (parameters : List ℕ) (d : Y.DeclaredVariable) (x : Copy) : Type 0 where
  pub copies : copies_of e parameters ≡ record { n = 0; declared = d; type = Y.FixedLeaf 31 } ∷ []
  pub number : table_number e d ≡ x.number
  pub leaves : d.leaves ≡ record { type = Y.FixedLeaf 31; bounds = []; initial = [] } ∷ []

pub record CopiesMade : Type 0 where
  pub comes :
      {w : Surroundings} {code : List Instr} {p : Point} {numbers : ℕ → ℕ} {ψ φ : Layer} {φs : List Layer} {x : Copy}
      {e : Environment} {parameters : List ℕ} {d : Y.DeclaredVariable} (credits index : ℕ) (f : Family) →
      Stands w p × IsImage w code p → IsCopy w p ψ φ φs x → IsCopied e parameters d x →
      Linked w.links code index (arguments_copied e parameters) →
      ((b : Base) → IsIn w p numbers index b (f b) × KeepsList (list_under φ.at) b (f b)) →
      Reach code credits f (services_of p) (credits + size_of (arguments_copied e parameters))
      (services_of (copied ψ φ φs x p))
      (λ b y. IsIn w (copied ψ φ φs x p) numbers (index + size_of (arguments_copied e parameters)) b y)
  pub stands :
      (w : Surroundings) (code : List Instr) (p : Point) (ψ φ : Layer) (φs : List Layer) (x : Copy) →
      Stands w p × IsImage w code p → IsCopy w p ψ φ φs x →
      Stands w (copied ψ φ φs x p) × IsImage w code (copied ψ φ φs x p)
  -- that is what binding the parameter means
  pub means :
      (w : Surroundings) (p : Point) (ψ φ : Layer) (φs : List Layer) (x : Copy) (acts : ℕ) → IsCopy w p ψ φ φs x →
      variable_made x.index (copy_generation x) acts p.state ≡ Normal tt (copied ψ φ φs x p).state
