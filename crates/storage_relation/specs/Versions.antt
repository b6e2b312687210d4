-- Where an image of a version has its code, the heap and its end.
use Rattle.std.specs.Prelude.{◌≡◌, ℕ, ◌+◌, ◌≤◌, List, length, ◌^◌, false, ◌%◌, ◌*◌, Option, None}
use Rattle.rv_meaning.specs.Machine.{memory_size}
use Rattle.pli_meaning.specs.StorageState.{heap_serial, heap_capacity, first_state}
use Rattle.pli_types.specs.Templates.{Template}
use Rattle.area_keeper.specs.Keeper.{Keeper}
use Rattle.pli_serving.specs.Bytes.{Layout}
use Rattle.pli_serving.specs.ServiceState as S
use Rattle.storage_relation.specs.Fills.{Fills}
use Rattle.storage_relation.specs.Served.{Now}
use Rattle.storage_relation.specs.Stored.{Places}

-- ---- versions

-- where a version of images has what: the bytes of code, where the heap stands, and the end of memory
pub record Version : Type 0 where
  pub code_bytes : ℕ
  pub heap_at : ℕ
  pub end : ℕ

abbrev pub layout_in : Version → Layout
layout_in f =
    record { code_bytes = f.code_bytes; heap_at = f.heap_at; heap_capacity = heap_capacity; end = f.end }

-- version 1: the heap in the last 2 of 16 MiB
abbrev pub first_version : (code_bytes : ℕ) → Version
first_version code_bytes = record { code_bytes = code_bytes; heap_at = 14 * 2 ^ 20; end = memory_size }

-- the heap fits behind its place, and its place is a multiple of 4 behind the code
pub record IsSoundVersion (f : Version) : Type 0 where
  pub room : 4 * f.heap_at + (5 * heap_capacity + 4 * 32) ≤ 4 * f.end
  pub aligned : f.heap_at % 4 ≡ 0
  pub behind : f.code_bytes ≤ f.heap_at

-- ---- at a call

pub record IsLaidOut (f : Version) (w : Now) : Type 0 where
  pub layout_same : w.layout ≡ layout_in f
  pub heap : w.places.at heap_serial ≡ f.heap_at
  pub low : f.code_bytes ≤ w.places.low
  pub size : length w.memory ≡ f.end

-- ---- the first moment of a run

-- where memory and services begin: nothing lives, the heap isn't made, the signatures are the table's, and bytes of
-- static data are told
abbrev pub first_places : Version → List Template → (constants : ℕ → Option ℕ) → List Fills → Places
first_places f t constants fills =
    record {
      at = λ n. f.heap_at;
      number = λ n. 0;
      low = f.code_bytes;
      signatures = t;
      heap_made = false;
      constants = constants;
      fills = fills;
    }

-- of a program without static data none is told
abbrev pub no_constants : (place : ℕ) → Option ℕ
no_constants place = None

abbrev pub first_now :
    Version → Keeper → List Template → (constants : ℕ → Option ℕ) → List Fills → S.Services →
    (input memory : List ℕ) → Now
first_now f k t constants fills v input m =
    record {
      keeper = k;
      layout = layout_in f;
      places = first_places f t constants fills;
      state = first_state input;
      services = v;
      memory = m;
    }
