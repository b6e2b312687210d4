-- Arrays of the main procedure by their names: the name stands before the data, and services know by its serial number where the data stands, and
-- its signature.
use Rattle.std.proofs.Common.{◌≡◌, ℕ, ◌+◌, ◌%◌, ◌^◌, ◌≤◌, List, ◌∷◌, Some}
use Rattle.std.specs.Prelude.{slice_get}
use Rattle.rv_meaning.specs.Memory.{load}
use Rattle.rv_meaning.specs.Machine.{memory_size}
use Rattle.pli_typing.specs.Signatures.{Bounds}
use Rattle.pli_typing.specs.TypedTree as Y
use Rattle.pli_serving.specs.ServiceState as S
use Rattle.pli_coding.specs.Environments.{Environment}
use Rattle.pli_coding.specs.Frames.{automatic_place}
use Rattle.pli_coding.specs.SignatureTable.{table_of}
use Rattle.pli_headline.specs.ProvedSoFar.{Names, Types, Kind}
use Rattle.run_steps.specs.Engine.{Base}
use Rattle.pli_headline.proofs.Scalars.{Values}
use Rattle.run_steps.specs.Bodies.{Ground}
use Rattle.pli_headline.proofs.Storages.{Serials}
use Rattle.pli_headline.proofs.Variables.{data_place, level_of}
use Rattle.pli_headline.proofs.PlainNumbers.{number_for}
use Rattle.pli_headline.proofs.NamesStand.{NameThere}

-- where the name of a variable stands, from its frame
abbrev pub place_of_name : Environment → (block : Names) (j : ℕ) → ℕ
place_of_name e block j = automatic_place e.parts e.program (block.at j).number (block.at j).level (block.at j).index

-- an array on a block's ground, in the frame at a place, which has its own offset
pub record ArrayNamed (e : Environment) (block : Names) (base : ℕ) (ground : Values → Ground) (serials : Serials) (j : ℕ) (kind : Kind) : Type 0 where
  pub living : S.Living
  pub lives : serials.first (serials.of j) ≡ Some living
  pub signature : living.signature ≡ number_for (table_of e.program) kind
  pub at : living.at ≡ base + data_place e block j
  pub aligned : base % 4 ≡ 0
  pub high : 2 ^ 22 ≤ base
  pub room : base + 40 ≤ memory_size
  pub own : (n : Values) (t : ℕ → ℕ) (b : Base) (m : List ℕ) → (ground n).memory t b m → load 4 m (base + 36) ≡ base
  pub names : (n : Values) (t : ℕ → ℕ) (b : Base) (m : List ℕ) → (ground n).memory t b m → NameThere m (base + place_of_name e block j) (serials.of j)

abbrev pub ArraysNamed : Environment → (block : Names) → Types → (bases : ℕ → ℕ) → (Values → Ground) → Serials → Type 0
ArraysNamed e block types bases ground serials =
    (j : ℕ) (type : Y.LeafType) (b : Bounds) (bs : List Bounds) → slice_get types j ≡ Some (record { type = type; bounds = b ∷ bs }) → level_of block j ≡ 0 → ArrayNamed e block (bases j) ground serials j (record { type = type; bounds = b ∷ bs })
