-- A procedure that has a list of arguments: its code up to where its block is entered, and how it is called.
use Rattle.std.specs.Prelude.{ℕ, ◌+◌, ◌*◌, ◌<◌, ◌≤◌, ◌≡◌, List, [], ◌∷◌, ◌++◌, Some, ⊤}
use Rattle.rv_meaning.specs.declared.instr.Instr.{Instr}
use Rattle.rv_meaning.specs.Machine.{value}
use Rattle.image_runs.specs.Runs.{Whole}
use Rattle.pli_coding.specs.Assembly.{CallTo, Code, ProcedureEntry, size_of}
use Rattle.pli_coding.specs.Entries.{block_entered, frame_begun, list_kept}
use Rattle.pli_coding.specs.Instructions.{move}
use Rattle.pli_coding.specs.Linking.{place_of}
use Rattle.pli_coding.specs.Registers.{a1, a2, a3, u5}
use Rattle.activation_relation.specs.FrameLaws.{listed}
use Rattle.activation_relation.specs.Layers.{Point, services_of}
use Rattle.activation_relation.specs.Points.{Stands, Surroundings}
use Rattle.run_steps.specs.Engine.{Base}
use Rattle.run_steps.specs.Items.{Linked}
use Rattle.run_steps.specs.Reach.{Family, Reach}
use Rattle.block_runs.specs.Beginnings.{Beginning, IsBeginning, IsCalling, begun_point}
use Rattle.block_runs.specs.Machines.{AreIn, IsImage, IsIn}

-- its parameters, by their places among its variables
abbrev pub listed_code : Beginning → (parameters : List ℕ) → Code
listed_code x parameters =
    frame_begun x.layer.words x.layer.level x.layer.parameters (Some x.layer.saved)
    ++ (move u5 a1 ∷ (list_kept x.layer.level parameters ++ (move a3 a2 ∷ block_entered 0 x.head.line)))

-- the same with the list known
abbrev pub beginning_listed : (at : ℕ) → Beginning → Beginning
beginning_listed at x = record x { layer = listed at x.layer }

abbrev pub HasSome : List ℕ → Type 0
HasSome [] = ⊥
HasSome (p ∷ ps) = ⊤

-- where it is called the list's address is in a1
pub record IsListing (p : Point) (x : Beginning) (list : ℕ) (b : Base) (y : Whole) : Type 0 where
  pub calling : IsCalling p x b y
  pub address : value y.machine a1 ≡ b.at + list

-- and still in u5 where its block has been entered
abbrev pub KeepsList : (list : ℕ) → Base → Whole → Type 0
KeepsList list b y = value y.machine u5 ≡ b.at + list

-- the list stands below its frame
pub record Listing (w : Surroundings) (code : List Instr) (p : Point) (numbers : ℕ → ℕ) (x : Beginning)
    (list : ℕ) : Type 0 where
  pub stands : Stands w p
  pub image : IsImage w code p
  pub beginning : IsBeginning w p numbers x
  pub some : 0 < x.layer.parameters
  pub below : list ≤ x.layer.at

-- its code stands at an index, and so does the call, behind which the layer goes back
pub record IsListCall (w : Surroundings) (code : List Instr) (x : Beginning) (parameters : List ℕ)
    (call entry : ℕ) : Type 0 where
  pub calls : Linked w.links code call (CallTo (ProcedureEntry x.head.number) ∷ [])
  pub place : place_of w.links (ProcedureEntry x.head.number) ≡ 4 * entry
  pub begins : Linked w.links code entry (listed_code x parameters)
  pub back : x.layer.back ≡ call + 2
  pub some : HasSome parameters

pub record ListsBegin : Type 0 where
  -- from the call to the first instruction of its block, each word for one credit
  pub comes :
      {w : Surroundings} {code : List Instr} {p : Point} {numbers : ℕ → ℕ} {x : Beginning}
      {list call entry : ℕ} {parameters : List ℕ} (credits : ℕ) (f : Family) → Listing w code p numbers x list →
      IsListCall w code x parameters call entry → AreIn w p numbers call f →
      ((b : Base) → IsListing p x list b (f b)) →
      Reach code credits f (services_of p) (credits + 2 + size_of (listed_code x parameters))
      (services_of (begun_point (beginning_listed list x) p))
      (λ b y. IsIn w (begun_point (beginning_listed list x) p) numbers (entry + size_of (listed_code x parameters)) b y
      × KeepsList list b y)
  pub stands :
      {w : Surroundings} {code : List Instr} {p : Point} {numbers : ℕ → ℕ} {x : Beginning} {list : ℕ} →
      Listing w code p numbers x list →
      Stands w (begun_point (beginning_listed list x) p) × IsImage w code (begun_point (beginning_listed list x) p)
