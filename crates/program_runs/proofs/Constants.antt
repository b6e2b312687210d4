-- Bytes that are told of static data stand at each point of a block.
use Rattle.std.proofs.Common.{◌≡◌, ℕ, ◌+◌, ◌<◌, List, length, Option, Some, ap, ◌∙◌}
use Rattle.std.specs.Prelude.{slice_index}
use Rattle.storage_relation.specs.Served.{Holds}
use Rattle.activation_relation.specs.Layers.{Point, now}
use Rattle.run_steps.specs.DataNamed.{BytesStand}
use Rattle.program_runs.specs.Constants.{HasConstants}
use Rattle.program_runs.specs.Statements.{Block, IsAmong, IsBegun}

pub constants_begun : (k : Block) → IsBegun k → k.first.places.constants ≡ k.call.point.places.constants
constants_begun k b = b.remains.constants

pub constants_among :
    (k : Block) (numbers : ℕ → ℕ) (p : Point) → IsAmong k numbers p → p.places.constants ≡ k.first.places.constants
constants_among k numbers p o = o.later.remains.constants

pub byte_stands :
    (k : Block) (numbers : ℕ → ℕ) (p : Point) (m : List ℕ) (n v : ℕ) → IsAmong k numbers p → Holds (now p m) →
    k.first.places.constants n ≡ Some v → (n < length m) × (slice_index m n ≡ v)
byte_stands k numbers p m n v o h e =
    let t = h.stored.told n v (ap (λ (f : ℕ → Option ℕ). f n) (constants_among k numbers p o) ∙ e) in (t.1, t.2)

pub bytes_stand :
    (k : Block) (numbers : ℕ → ℕ) (p : Point) (m : List ℕ) (at : ℕ) (bytes : List ℕ) → IsAmong k numbers p →
    Holds (now p m) → HasConstants k at bytes → BytesStand k.call.code m at bytes
bytes_stand k numbers p m at bytes o h has =
    record {
      behind_code = has.behind_code;
      inside = has.inside;
      bytes_are = λ n few. (byte_stands k numbers p m (at + n) (slice_index bytes n) o h (has.told n few)).1;
    }
