-- What worked calls are made of, and what is looked at behind them.
use Rattle.std.proofs.Common.{ℕ, ◌-◌, ◌^◌, List, [], ◌∷◌, Option, Some, None, replicate}
use Rattle.rv_meaning.specs.declared.image.TableKind.{TableKind}
use Rattle.rv_meaning.specs.declared.image.TableKind.TheVariants as K
use Rattle.rv_meaning.specs.Tables.{TableSignature, TableLeaf, Pair, run_time_size}
use Rattle.pli_meaning.specs.World.{World}
use Rattle.area_keeper.specs.Keeper.{KeptArea}
use Rattle.area_keeper.specs.Chain.{chain}
use Rattle.pli_serving.specs.Bytes.{Layout, bytes_at}
use Rattle.pli_serving.specs.ServiceState.{Services, Activation, BlockKind, ProcedureBlock, first_services}
use Rattle.pli_serving.specs.Answers.{Answer, Done, Ends, Bad}
use Rattle.pli_serving.specs.Finding.{Call}

-- ---- the signatures of a small image

abbrev leaf : TableKind → ℕ → List Pair → TableLeaf
leaf kind size pairs = record { kind = kind; size = size; pairs = pairs }

abbrev open_pair : Pair
open_pair = record { lower = 1; upper = 0 }

abbrev pub signature : (class refer : ℕ) → List TableLeaf → TableSignature
signature class refer leaves = record { class = class; refer = refer; leaves = leaves }

-- FIXED(15); (1:2) FIXED(31) and CHARACTER(3); CHARACTER(*); AREA(32); N FIXED(15), T CHARACTER(N REFER); N FIXED(15), A(1:N REFER)
-- FIXED(31); AREA(1 MiB); CONTROLLED FIXED(15); (*) VARYING(*); AREA(*)
abbrev pub table : List TableSignature
table =
    signature 0 0 (leaf K.Fixed 15 [] ∷ [])
    ∷ signature 0 0 (leaf K.Fixed 31 (record { lower = 1; upper = 2 } ∷ []) ∷ leaf K.Character 3 [] ∷ [])
    ∷ signature 0 0 (leaf K.Character run_time_size [] ∷ [])
    ∷ signature 0 0 (leaf K.Area 32 [] ∷ [])
    ∷ signature 0 1 (leaf K.Fixed 15 [] ∷ leaf K.Character run_time_size [] ∷ [])
    ∷ signature 0 1 (leaf K.Fixed 15 [] ∷ leaf K.Fixed 31 (open_pair ∷ []) ∷ [])
    ∷ signature 0 0 (leaf K.Area (2 ^ 20) [] ∷ [])
    ∷ signature 1 0 (leaf K.Fixed 15 [] ∷ [])
    ∷ signature 0 0 (leaf K.Varying run_time_size (open_pair ∷ []) ∷ [])
    ∷ signature 0 0 (leaf K.Area run_time_size [] ∷ [])
    ∷ []

-- ---- calls

-- 512 bytes, the first 16 of them code; the heap at 384 takes 64 bytes and 16 of its keeper
abbrev pub layout : Layout
layout = record { code_bytes = 16; heap_at = 384; heap_capacity = 64; end = 512 }

abbrev pub memory : List ℕ
memory = replicate 512 0

abbrev pub start : Services
start = first_services table []

abbrev pub call : Services → List ℕ → Call
call v m = record { keeper = chain; layout = layout; services = v; memory = m }

abbrev pub activation : BlockKind → (frame texts edits line : ℕ) → Activation
activation kind frame texts edits line =
    record { kind = kind; frame = frame; texts = texts; edits = edits; line = line; units = [] }

-- one active procedure
abbrev pub in_main : Services
in_main = record start { activations = activation ProcedureBlock 64 0 0 0 ∷ [] }

-- a run that has made so many acts
abbrev pub with_acts : ℕ → Services → Services
with_acts n v = record v { world = record v.world { acts = n } }

abbrev pub last_act : Services → Services
last_act = with_acts (2 ^ 64 - 1)

-- ---- what is looked at

abbrev pub registers : Answer → Option (ℕ × ℕ)
registers (Done v m a0 a1) = Some (a0, a1)
registers _ = None

abbrev pub after : {A : Type 0} → (Services → A) → Answer → Option A
after look (Done v m a0 a1) = Some (look v)
after look _ = None

abbrev pub bytes_after : (count at : ℕ) → Answer → Option (List ℕ)
bytes_after count at (Done v m a0 a1) = Some (bytes_at count at m)
bytes_after count at _ = None

-- what these bytes stand for, where they are an area
abbrev pub area_after : (count at : ℕ) → Answer → Option KeptArea
area_after count at (Done v m a0 a1) = chain.area_of (bytes_at count at m)
area_after count at _ = None

-- the world of a run that has ended
abbrev pub world_at_end : Answer → Option World
world_at_end (Ends v) = Some v.world
world_at_end _ = None

-- a call that goes on behind another
abbrev pub then' : Answer → (Call → Answer) → Answer
then' (Done v m a0 a1) next = next (call v m)
then' (Ends v) next = Bad
then' Bad next = Bad
