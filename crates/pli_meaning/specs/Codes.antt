-- The codes of conditions, and of errors that the machine finds itself.
use Rattle.std.specs.Prelude.{ℕ}
use Rattle.pli_language.specs.declared.condition.Condition.{Condition}
use Rattle.pli_language.specs.declared.condition.Condition.TheVariants as C

-- a result or a stored number that its precision doesn't hold
abbrev pub fixed_overflow_code : ℕ
fixed_overflow_code = 20

-- a reference without a live generation
abbrev pub no_generation_code : ℕ
no_generation_code = 101

-- a field that is too narrow for its number
abbrev pub too_wide_code : ℕ
too_wide_code = 105

-- an area without a gap, or too small for what is assigned to it
abbrev pub area_code : ℕ
area_code = 10

abbrev pub zero_divide_code : ℕ
zero_divide_code = 30

abbrev pub endfile_code : ℕ
endfile_code = 40

abbrev pub subscript_code : ℕ
subscript_code = 102

-- SUBSTR past its text
abbrev pub substring_code : ℕ
substring_code = 103

-- a text that is no number, or no bit
abbrev pub conversion_code : ℕ
conversion_code = 104

-- no gap in the heap
abbrev pub heap_full_code : ℕ
heap_full_code = 106

abbrev pub extent_code : ℕ
extent_code = 107

-- a text that became too long
abbrev pub too_long_code : ℕ
too_long_code = 108

-- aggregates whose bounds differ
abbrev pub shape_code : ℕ
shape_code = 109

-- a name that is none in the area
abbrev pub not_in_area_code : ℕ
not_in_area_code = 110

-- a function that ends without a value
abbrev pub no_value_code : ℕ
no_value_code = 112

abbrev pub signalled_code : ℕ
signalled_code = 199

-- the code that SIGNAL raises a condition with
abbrev pub code_signalled : Condition → ℕ
code_signalled C.Area = area_code
code_signalled C.FixedOverflow = fixed_overflow_code
code_signalled C.ZeroDivide = zero_divide_code
code_signalled C.Endfile = endfile_code
code_signalled C.Error = signalled_code
