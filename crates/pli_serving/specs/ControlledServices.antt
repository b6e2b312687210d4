-- Services 16 to 19: the generations of CONTROLLED variables, which are placed in the heap. Variables are numbered from 0.
use Rattle.std.specs.Prelude.{ℕ, ◌^◌, Bool, ◌&&◌, ◌==◌, nat_lt, List, [], ◌∷◌, length, Option, Some, None, if◌then◌else◌}
use Rattle.pli_meaning.specs.Codes.{no_generation_code, heap_full_code}
use Rattle.pli_meaning.specs.BasicValues.{BasedName}
use Rattle.pli_meaning.specs.StorageState.{heap_serial}
use Rattle.pli_serving.specs.Bytes.{is_data, with_bytes, name_size, name_bytes}
use Rattle.pli_serving.specs.ServiceState.{Services, Controlled}
use Rattle.pli_serving.specs.Answers.{Answer, Done}
use Rattle.pli_serving.specs.Finding.{Call, AreaBytes, heap_bytes}
use Rattle.pli_serving.specs.Arguments.{AreaArgument, is_area}
use Rattle.pli_serving.specs.Outcomes.{or_bad, bad_unless}
use Rattle.pli_serving.specs.AreaServices.{begun, PlacedData, placed_in, with_heap}

-- no variable has a greater number
abbrev pub is_controlled : (variable : ℕ) → Bool
is_controlled variable = nat_lt variable (2 ^ 16)

abbrev pub heap_of : Call → AreaArgument
heap_of c = record { serial = heap_serial; area = heap_bytes c }

-- the generations of one variable, replaced
abbrev pub with_controlled : (variable : ℕ) → List Controlled → Services → Services
with_controlled variable generations v =
    record v { controlled = λ n. if n == variable then generations else v.controlled n }

-- ---- 16: push

abbrev pub with_newest : (variable : ℕ) → Controlled → Services → Services
with_newest variable k v = with_controlled variable (k ∷ v.controlled variable) v

abbrev pub push_answered : Call → (variable signature : ℕ) → Option PlacedData → Answer
push_answered c variable signature None = Done c.services c.memory variable heap_full_code
push_answered c variable signature (Some p) =
    Done
    (with_newest variable (record { offset = p.offset; signature = signature }) (with_heap heap_serial c.services))
    p.memory
    variable
    0

-- a new newest generation
abbrev pub push_served : Call → (variable signature initial : ℕ) → Answer
push_served c variable signature initial =
    or_bad (begun c signature 0 initial) (λ g.
    bad_unless (is_controlled variable && is_area c (heap_of c))
    (push_answered c variable signature (placed_in c (heap_bytes c) signature g)))

-- ---- 17: pop

abbrev pub popped : Call → (variable a1 : ℕ) → AreaBytes → List Controlled → Answer
popped c variable a1 heap [] = Done c.services c.memory variable a1
popped c variable a1 heap (k ∷ ks) =
    bad_unless (is_area c (heap_of c))
    (or_bad (c.keeper.freed k.offset k.signature heap.bytes) (λ bytes.
    Done (with_controlled variable ks c.services) (with_bytes bytes heap.at c.memory) variable a1))

-- the newest generation is removed, if there is one
abbrev pub pop_served : Call → (variable a1 : ℕ) → Answer
pop_served c variable a1 =
    bad_unless (is_controlled variable) (popped c variable a1 (heap_bytes c) (c.services.controlled variable))

-- ---- 18: newest

abbrev pub newest_answered : Call → (destination : ℕ) → List Controlled → Answer
newest_answered c destination [] = Done c.services c.memory no_generation_code destination
newest_answered c destination (k ∷ ks) =
    Done c.services (with_bytes (name_bytes (BasedName heap_serial k.offset)) destination c.memory) 0 k.signature

-- the name of the newest generation, and its signature's number
abbrev pub newest_served : Call → (variable destination : ℕ) → Answer
newest_served c variable destination =
    bad_unless (is_controlled variable && is_data c.layout destination name_size)
    (newest_answered c destination (c.services.controlled variable))

-- ---- 19: count

-- how many generations there are
abbrev pub count_served : Call → (variable a1 : ℕ) → Answer
count_served c variable a1 =
    bad_unless (is_controlled variable) (Done c.services c.memory (length (c.services.controlled variable)) a1)
