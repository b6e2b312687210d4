-- Static data at the points of a block: what is told of them where its first statement begins stands at each of its
-- points.
use Rattle.std.specs.Prelude.{ℕ, ◌+◌, ◌*◌, ◌^◌, ◌<◌, ◌≤◌, ◌≡◌, List, length, Some, slice_index}
use Rattle.storage_relation.specs.Served.{Holds}
use Rattle.activation_relation.specs.Layers.{Point, now}
use Rattle.run_steps.specs.DataNamed.{BytesStand}
use Rattle.program_runs.specs.Statements.{Block, IsAmong, IsBegun}

-- the block has bytes from a place on, behind the code and before the stacks: each of them is told
pub record HasConstants (k : Block) (at : ℕ) (bytes : List ℕ) : Type 0 where
  pub behind_code : 4 * length k.call.code ≤ at
  pub inside : at + length bytes ≤ 7 * 2 ^ 20
  pub told : (n : ℕ) → n < length bytes → k.first.places.constants (at + n) ≡ Some (slice_index bytes n)

-- ---- the law

pub record ConstantsStand : Type 0 where
  pub byte :
      (k : Block) (numbers : ℕ → ℕ) (p : Point) (m : List ℕ) (n v : ℕ) → IsAmong k numbers p → Holds (now p m) →
      k.first.places.constants n ≡ Some v → (n < length m) × (slice_index m n ≡ v)
  pub bytes :
      (k : Block) (numbers : ℕ → ℕ) (p : Point) (m : List ℕ) (at : ℕ) (bytes : List ℕ) → IsAmong k numbers p →
      Holds (now p m) → HasConstants k at bytes → BytesStand k.call.code m at bytes
  -- what is told where a block is called is told in it, and as much at each of its points
  pub begun : (k : Block) → IsBegun k → k.first.places.constants ≡ k.call.point.places.constants
  pub among :
      (k : Block) (numbers : ℕ → ℕ) (p : Point) → IsAmong k numbers p →
      p.places.constants ≡ k.first.places.constants
