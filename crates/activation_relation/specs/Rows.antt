-- Where a run begins, and a worked row: a procedure that is called by the main one, and an on-unit of the main
-- procedure that runs above it.
use Rattle.std.specs.Prelude.{ℕ, ◌+◌, ◌^◌, ◌<◌, ◌≤◌, ◌≡◌, List, [], ◌∷◌, None, Some, length}
use Rattle.pli_language.specs.declared.condition.Condition.TheVariants as C
use Rattle.pli_typing.specs.TypedTree as Y
use Rattle.pli_meaning.specs.StorageState as M
use Rattle.pli_meaning.specs.StorageState.{Activation, State, first_state, heap_serial}
use Rattle.area_keeper.specs.Keeper.{Keeper}
use Rattle.pli_serving.specs.Bytes.{Layout}
use Rattle.pli_serving.specs.ServiceState as S
use Rattle.pli_coding.specs.Frames.{MemoryParts, own_offset, lower_top}
use Rattle.pli_coding.specs.Images.{first_frame_bytes}
use Rattle.storage_relation.specs.Stored.{Places}
use Rattle.activation_relation.specs.Layers.{Layer, Control, Point}
use Rattle.activation_relation.specs.Chains.{UnitPlaces, AreActive}
use Rattle.activation_relation.specs.Frames.{FramesStand, AreLaid, Stores, stored, frame_stores, place_from}
use Rattle.activation_relation.specs.Points.{Surroundings, Stands}

-- ---- the first moment

abbrev pub first_control : Control
first_control =
    record {
      layers = [];
      controlled = λ variable. [];
      waiting = None;
      entries = [];
      edits = [];
      line = 0;
    }

abbrev pub first_point : Keeper → Layout → Places → (input : List ℕ) → Point
first_point k y π input =
    record { keeper = k; layout = y; places = π; state = first_state input; control = first_control }

-- what the start stores in its frame
abbrev pub first_stores : MemoryParts → Stores
first_stores parts =
    (place_from parts.stack_start own_offset, parts.stack_start)
    ∷ (place_from parts.stack_start lower_top, parts.stack_end)
    ∷ []

pub record RunsBegin : Type 0 where
  pub stands :
      (w : Surroundings) (k : Keeper) (y : Layout) (π : Places) (input : List ℕ) →
      w.parts.stack_start + first_frame_bytes ≤ w.parts.stack_end → w.parts.stack_end ≤ π.at heap_serial →
      ((n v : ℕ) → π.constants n ≡ Some v → n < w.parts.stack_start) → Stands w (first_point k y π input)
  pub frame :
      (parts : MemoryParts) (base : ℕ) (m : List ℕ) → parts.stack_start + first_frame_bytes ≤ parts.stack_end →
      (parts.stack_end < 2 ^ 32) × (parts.stack_end ≤ length m) →
      FramesStand parts base (stored (first_stores parts) m) [] []

-- ---- a worked row

abbrev pub row_parts : MemoryParts
row_parts = record { stack_start = 1024; stack_end = 4096; area_bytes = λ capacity. capacity }

abbrev pub row_layer : (block level : ℕ) → S.BlockKind → (at words saved top : ℕ) → Layer
row_layer block level kind at words saved top =
    record {
      block = block;
      level = level;
      kind = kind;
      units = [];
      at = at;
      words = words;
      parameters = 0;
      back = 7;
      saved = saved;
      held = λ n. 40 + n;
      waits = λ n. None;
      told = λ n. None;
      list = None;
      top = top;
      lower = 4096;
      entries = [];
      edits = [];
      line = 3;
      carried = λ label. None;
    }

-- its unit stands at instruction 90
abbrev pub row_unit : Y.Block
row_unit =
    Y.BlockOf (record { kind = Y.SimpleUnit; number = 0; level = 1; line = 2 }) (Y.EndOfList [])

abbrev pub row_units : UnitPlaces
row_units = record { unit = row_unit; at = 360 } ∷ []

abbrev pub main_layer : Layer
main_layer = record (row_layer 0 0 S.ProcedureBlock 1072 0 0 1216) { units = (C.Area, S.CodeUnit 360) ∷ [] }

-- it has two words for temporaries
abbrev pub function_layer : Layer
function_layer = row_layer 1 1 S.ProcedureBlock 1232 2 1 1392

abbrev pub unit_layer : Layer
unit_layer = row_layer 0 1 (S.OnUnitBlock 360 120) 1392 0 1 1552

abbrev pub row_layers : List Layer
row_layers = unit_layer ∷ function_layer ∷ main_layer ∷ []

abbrev pub row_activation : (height level parent oncode : ℕ) → Activation
row_activation height level parent oncode =
    record { height = height; level = level; parent = parent; oncode = oncode; bindings = []; units = [] }

abbrev pub main_activation : Activation
main_activation = record (row_activation 1 0 0 0) { units = (C.Area, M.BlockUnit row_unit) ∷ [] }

abbrev pub row_activations : List Activation
row_activations = row_activation 3 1 1 360 ∷ row_activation 2 1 1 0 ∷ main_activation ∷ []

pub record UnitRuns : Type 0 where
  pub active : AreActive row_units row_activations row_layers
  pub laid : AreLaid row_parts row_layers
  -- the unit's frame lies above the function's, and its display has the main procedure's
  pub words :
      (base : ℕ) →
      frame_stores row_parts base 1 (row_activation 2 1 1 0 ∷ main_activation ∷ []) unit_layer
      (function_layer ∷ main_layer ∷ [])
      ≡ (1392, base + 28)
      ∷ (1400, 40)
      ∷ (1396, base + 1232)
      ∷ (1432, 4096)
      ∷ (1536, base + 1072)
      ∷ (1428, 1392)
      ∷ []
