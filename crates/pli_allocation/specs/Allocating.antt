-- Services that place generations, from the place on where an argument is known.
use Rattle.std.specs.Prelude.{ℕ, ◌&&◌, ◌==◌, true, Option, if◌then◌else◌}
use Rattle.pli_meaning.specs.Codes.{area_code, heap_full_code}
use Rattle.pli_meaning.specs.Contents.{Generation}
use Rattle.pli_serving.specs.Answers.{Answer}
use Rattle.pli_serving.specs.Arguments.{AreaArgument, is_area}
use Rattle.pli_serving.specs.AreaServices.{allocation_answered, begun, is_heap, placed_in}
use Rattle.pli_serving.specs.Bytes.{is_data, name_size}
use Rattle.pli_serving.specs.ControlledServices.{heap_of, is_controlled, push_answered}
use Rattle.pli_serving.specs.Finding.{Call, heap_bytes}
use Rattle.pli_serving.specs.Outcomes.{bad_unless, or_bad}
use Rattle.pli_storage.specs.declared.held.Held.{Held}
use Rattle.pli_allocation.specs.declared.allocating.Allocation.{Allocation}

-- the code where an area has no gap
abbrev pub full_code : (area : ℕ) → ℕ
full_code area = if is_heap area then heap_full_code else area_code

-- where something was placed in the heap, that is made
abbrev pub held_with : (area : ℕ) → Held → Held
held_with area h = if is_heap area then record h { heap_made = true } else h

-- ---- 10: allocate

-- a generation is placed in an area
abbrev pub begun_answered : Call → Allocation → AreaArgument → Generation → Answer
begun_answered c w a g = allocation_answered c w.area w.destination a.serial (placed_in c a.area w.signature g)

abbrev pub begun_placed : Call → Allocation → AreaArgument → Generation → Answer
begun_placed c w a g = bad_unless (is_area c a && is_data c.layout w.destination name_size) (begun_answered c w a g)

abbrev pub option_placed : Call → Allocation → AreaArgument → Option Generation → Answer
option_placed c w a o = or_bad o (begun_placed c w a)

abbrev pub allocated_in : Call → Allocation → AreaArgument → Answer
allocated_in c w a = option_placed c w a (begun c w.signature w.extent w.initial)

abbrev pub allocated_for : Call → Allocation → Option AreaArgument → Answer
allocated_for c w o = or_bad o (allocated_in c w)

-- ---- 16: push

abbrev pub begun_pushed : Call → (variable signature : ℕ) → Generation → Answer
begun_pushed c variable signature g =
    bad_unless (is_controlled variable && is_area c (heap_of c))
    (push_answered c variable signature (placed_in c (heap_bytes c) signature g))

abbrev pub option_pushed : Call → (variable signature : ℕ) → Option Generation → Answer
option_pushed c variable signature o = or_bad o (begun_pushed c variable signature)
