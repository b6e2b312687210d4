-- Calls for rows: a keeper that keeps nothing, a small layout, and what an answer shows.
use Rattle.std.proofs.Common.{ℕ, pos, ◌-◌, List, [], ◌∷◌, ◌++◌, Option, Some, None, replicate, length}
use Rattle.rv_meaning.specs.Memory.{bytes_of_words}
use Rattle.area_keeper.specs.Keeper.{Keeper}
use Rattle.pli_meaning.specs.World.{World}
use Rattle.pli_serving.specs.Bytes.{Layout, bytes_at}
use Rattle.pli_serving.specs.ServiceState.{Services, first_services, Entry, TextEntry, AggregateEntry}
use Rattle.pli_serving.specs.Answers.{Answer, Done, Ends, Bad}
use Rattle.pli_serving.specs.Finding.{Call}

abbrev pub no_keeper : Keeper
no_keeper =
    record {
      bytes_for = λ capacity. capacity;
      made = λ capacity bytes. bytes;
      area_of = λ bytes. None;
      data_at = λ offset bytes. 0;
      emptied = λ bytes. bytes;
      allocated = λ size signature extent bytes. None;
      freed = λ offset signature bytes. None;
      copied = λ from bytes. None;
    }

-- 16 bytes of code, then data up to 512, of which the heap is the last half
abbrev pub layout : Layout
layout = record { code_bytes = 16; heap_at = 256; heap_capacity = 64; end = 512 }

-- a keeper in whose areas a generation of a signature stands at offset 0, with a REFER extent of 4 and its data at 16
abbrev pub one_kept : (signature : ℕ) → Keeper
one_kept signature =
    record no_keeper {
      area_of = λ bytes.
          Some (record { capacity = 64; placed = record { offset = 0; size = 8; signature = signature; extent = pos 4 } ∷ [] });
      data_at = λ offset bytes. 16;
    }

abbrev pub call_by : Keeper → Services → List ℕ → Call
call_by keeper v m = record { keeper = keeper; layout = layout; services = v; memory = m }

abbrev pub call : Services → List ℕ → Call
call v m = call_by no_keeper v m

abbrev pub code : List ℕ
code = replicate 16 0

-- memory whose data begins with these bytes, or words, and goes on with zeros
abbrev pub with_data : List ℕ → List ℕ
with_data bytes = code ++ bytes ++ replicate (64 - length bytes) 0

abbrev pub with_words : List ℕ → List ℕ
with_words words = with_data (bytes_of_words words)

-- words from an address on, behind zeros
abbrev pub words_at : (at : ℕ) → List ℕ → List ℕ
words_at at words = replicate at 0 ++ bytes_of_words words

abbrev pub idle : Services
idle = first_services [] []

abbrev pub waiting : List Entry → Services
waiting entries = record idle { entries = entries }

abbrev pub texts : List (List ℕ) → Services
texts [] = idle
texts (t ∷ ts) = record idle { entries = TextEntry t ∷ (texts ts).entries }

-- an entry of an aggregate, without leaves
abbrev pub aggregate : Entry
aggregate = AggregateEntry []

-- ---- what an answer shows

pub data Shown : Type 0 where
  BadService Ended : Shown
  Registers : (a0 a1 : ℕ) → Shown
  Entries : List Entry → (a0 a1 : ℕ) → Shown
  Bytes : List ℕ → (entries a0 a1 : ℕ) → Shown

abbrev pub registers_of : Answer → Shown
registers_of (Done v m x y) = Registers x y
registers_of (Ends v) = Ended
registers_of Bad = BadService

-- the entries, a0 and a1
abbrev pub entries_of : Answer → Shown
entries_of (Done v m x y) = Entries v.entries x y
entries_of (Ends v) = Ended
entries_of Bad = BadService

-- so many bytes from an address on, how many entries are left, a0 and a1
abbrev pub bytes_of : (count at : ℕ) → Answer → Shown
bytes_of count at (Done v m x y) = Bytes (bytes_at count at m) (length v.entries) x y
bytes_of count at (Ends v) = Ended
bytes_of count at Bad = BadService

abbrev pub world_of : Answer → Option World
world_of (Done v m x y) = Some v.world
world_of (Ends v) = Some v.world
world_of Bad = None
