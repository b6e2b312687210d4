-- The generations of CONTROLLED variables, from the oldest on, and what is done with them and with the heap in which they stand.
use Rattle.std.specs.Prelude.{◌≡◌, ◌≤◌, ℕ, ◌-◌, List, [], ◌∷◌, ◌++◌, length, take, map, replicate, reverse, slice_get, slice_index_or, slice_set, Option, Some, None, Result, Ok, Err, ⊤}
use Rattle.area_keeper.specs.Keeper.{Keeper}
use Rattle.pli_serving.specs.ServiceState.{Controlled}
use Rattle.controlled_gens.specs.declared.fault.GenFault.{GenFault}
use Rattle.controlled_gens.specs.declared.fault.GenFault.TheVariants.{NoGeneration, HeapFull, Memory}
use Rattle.controlled_gens.specs.declared.controlled.Generation.{Generation}

-- those of one variable
abbrev pub generations_of : List (List Generation) → (variable : ℕ) → List Generation
generations_of stacks variable = slice_index_or stacks variable []

abbrev pub with_generations : (variable : ℕ) → List Generation → List (List Generation) → List (List Generation)
with_generations variable generations stacks = slice_set stacks variable generations

-- so many variables, of which only the first ones may have generations
abbrev pub filled_up : (variables : ℕ) → List (List Generation) → List (List Generation)
filled_up variables stacks = stacks ++ replicate (variables - length stacks) []

-- some more variables without generations
abbrev pub IsFilled : (old new : List (List Generation)) → Type 0
IsFilled old new = (length old ≤ length new) × (new ≡ filled_up (length new) old)

abbrev pub newest : List Generation → Option Generation
newest generations = slice_get generations (length generations - 1)

-- its offset and its signature
abbrev pub named_or_fault : Option Generation → Result (ℕ × ℕ) GenFault
named_or_fault None = Err NoGeneration
named_or_fault (Some g) = Ok (g.offset, g.signature)

-- ---- push

abbrev pub generation_at : (offset signature : ℕ) → Generation
generation_at offset signature = record { offset = offset; signature = signature }

-- the heap has no gap, or memory ran out
abbrev pub KeepsOut : Option (ℕ × List ℕ) → GenFault → Type 0
KeepsOut placed HeapFull = placed ≡ None
KeepsOut placed Memory = ⊤
KeepsOut placed _ = ⊥

-- what is placed in the heap is the newest; else nothing changes
abbrev pub IsPushed :
    (placed : Option (ℕ × List ℕ)) → (signature : ℕ) → (old new : List Generation) → (heap heap_after : List ℕ) →
    Result ℕ GenFault → Type 0
IsPushed placed signature old new heap heap_after (Ok offset) =
    (placed ≡ Some (offset, heap_after)) × (new ≡ old ++ generation_at offset signature ∷ [])
IsPushed placed signature old new heap heap_after (Err fault) = KeepsOut placed fault × (new ≡ old) × (heap_after ≡ heap)

-- ---- pop

-- the heap without the newest; none where there is none, or the heap lacks it
abbrev pub freed_newest : Keeper → (heap : List ℕ) → Option Generation → Option (List ℕ)
freed_newest k heap None = None
freed_newest k heap (Some g) = k.freed g.offset g.signature heap

abbrev pub IsPopped :
    (freed : Option (List ℕ)) → (old new : List Generation) → (heap heap_after : List ℕ) → Result (Unit {0}) GenFault → Type 0
IsPopped None old new heap heap_after result = (result ≡ Err NoGeneration) × (new ≡ old) × (heap_after ≡ heap)
IsPopped (Some freed) old new heap heap_after result =
    (result ≡ Ok tt) × (new ≡ take (length old - 1) old) × (heap_after ≡ freed)

-- ---- as the services see it

abbrev pub controlled : Generation → Controlled
controlled g = record { offset = g.offset; signature = g.signature }

-- the newest first
abbrev pub controlled_of : List (List Generation) → (variable : ℕ) → List Controlled
controlled_of stacks variable = map controlled (reverse (generations_of stacks variable))
