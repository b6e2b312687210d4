-- The first moment of a run, and the worked row.
use Rattle.std.proofs.Common.{ℕ, ◌+◌, ◌^◌, ◌<◌, ◌≤◌, ◌≡◌, List, [], ◌∷◌, length, refl, arith, inl, Some}
use Rattle.pli_meaning.specs.StorageState.{heap_serial}
use Rattle.area_keeper.specs.Keeper.{Keeper}
use Rattle.pli_serving.specs.Bytes.{Layout}
use Rattle.pli_coding.specs.Frames.{MemoryParts}
use Rattle.pli_coding.specs.Images.{first_frame_bytes}
use Rattle.storage_relation.specs.Stored.{Places}
use Rattle.activation_relation.specs.Chains.{AreActive}
use Rattle.activation_relation.specs.Frames.{FramesStand, AreLaid, stored}
use Rattle.activation_relation.specs.Points.{Surroundings, Stands}
use Rattle.activation_relation.specs.Rows.{first_point, first_stores, row_units, row_activations, row_layers, row_parts}
use Rattle.activation_relation.proofs.StoredWords.{Writes, writes_first, writes_later}

pub first_stands :
    (w : Surroundings) (k : Keeper) (y : Layout) (π : Places) (input : List ℕ) →
    w.parts.stack_start + first_frame_bytes ≤ w.parts.stack_end → w.parts.stack_end ≤ π.at heap_serial →
    ((n v : ℕ) → π.constants n ≡ Some v → n < w.parts.stack_start) → Stands w (first_point k y π input)
first_stands w k y π input room heap constants =
    record {
      active = tt;
      laid = room;
      low = tt;
      lives = record { falling = tt; numbered = λ n l e. absurd (cc e); extents = λ n l e. absurd (cc e) };
      owned = record { living = λ n l e. absurd (cc e); heap = heap; constants = constants };
      over = tt;
      running = refl;
      allowed = omega arith;
    }

pub first_frame :
    (parts : MemoryParts) (base : ℕ) (m : List ℕ) → parts.stack_start + first_frame_bytes ≤ parts.stack_end →
    (parts.stack_end < 2 ^ 32) × (parts.stack_end ≤ length m) →
    FramesStand parts base (stored (first_stores parts) m) [] []
first_frame parts base m room fits =
    let start = parts.stack_start in
    let small = fits.0 in
    let long = fits.1 in
    let own : Writes (first_stores parts) (start + 36) start =
    writes_first (start + 36) start ((start + 40, parts.stack_end) ∷ []) (omega (arith, small, room))
    (inl (omega arith), tt) in
    let lower : Writes (first_stores parts) (start + 40) parts.stack_end =
    writes_later (start + 36, start) ((start + 40, parts.stack_end) ∷ []) (start + 40) parts.stack_end
    (writes_first (start + 40) parts.stack_end [] (omega (arith, small)) tt) in
    record { own = own.does m (omega (arith, room, long)); lower = lower.does m (omega (arith, room, long)) }

pub row_active : AreActive row_units row_activations row_layers
row_active = (
  record {
    height = refl;
    level = refl;
    runs = (refl, omega arith);
    units = tt;
    parent = (omega arith, refl);
  },
  (
    record { height = refl; level = refl; runs = refl; units = tt; parent = (omega arith, refl) },
    (
      record {
        height = refl;
        level = refl;
        runs = refl;
        units = ((refl, (0, refl)), tt);
        parent = tt;
      },
      tt,
    ),
  ),
)

pub row_laid : AreLaid row_parts row_layers
row_laid = (
  record {
    above = refl;
    fixed = omega arith;
    falls = omega arith;
    free = omega arith;
    saved = omega arith;
    told = λ n v e. absurd (cc e);
  },
  (
    record {
      above = refl;
      fixed = omega arith;
      falls = omega arith;
      free = omega arith;
      saved = omega arith;
      told = λ n v e. absurd (cc e);
    },
    (
      record {
        above = refl;
        fixed = omega arith;
        falls = omega arith;
        free = omega arith;
        saved = omega arith;
        told = λ n v e. absurd (cc e);
      },
      omega arith,
    ),
  ),
)
