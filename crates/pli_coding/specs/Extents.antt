-- Extents that are evaluated: each is checked, and filled in at all places that share it. The number of the signature
-- so far, the bytes to reserve, a lower bound and the extent for REFER wait in four words behind the temporaries in
-- use.
use Rattle.std.specs.Prelude.{ℕ, suc, ◌+◌, ◌-◌, ◌==◌, ℤ, pos, nat_lt, max, Bool, true, false, List, [], ◌∷◌, ◌++◌}
use Rattle.std.specs.Prelude.{Option, Some, None, slice_get, if◌then◌else◌}
use Rattle.rv_meaning.specs.declared.instr.Register.{Register}
use Rattle.rv_meaning.specs.declared.instr.ImmediateOp.TheVariants as Imm
use Rattle.rv_meaning.specs.declared.instr.ShiftOp.TheVariants as Shift
use Rattle.rv_meaning.specs.declared.instr.BranchTest.TheVariants as Test
use Rattle.pli_typing.specs.TypedTree as Y
use Rattle.pli_meaning.specs.Codes.{extent_code}
use Rattle.pli_meaning.specs.Numbers.{operator_precision}
use Rattle.pli_meaning.specs.Texts.{most_text}
use Rattle.pli_coding.specs.Registers.{zero_register, frame_register, a0, a1, a2, a3, u1}
use Rattle.pli_coding.specs.Assembly.{Datum, DataPlace, OffsetOf, Code}
use Rattle.pli_coding.specs.Instructions.{immediate, shift, move, small, constant, number, load_word, store_word}
use Rattle.pli_coding.specs.Instructions.{skip_where, service, error_raised}
use Rattle.pli_coding.specs.Frames.{greatest_area, capacity_of, words_place}
use Rattle.pli_coding.specs.StaticForms.{size_datum, bounds_datum, same_extent, initial_datum}
use Rattle.pli_coding.specs.Environments.{Environment, Taken, with_words, most_taken}
use Rattle.pli_coding.specs.Locating.{table_number}
use Rattle.pli_coding.specs.Expressions.{number_code}
use Rattle.pli_coding.specs.Temporaries.{number_takes}

-- ---- the four words

abbrev pub extent_words : ℕ
extent_words = 4

abbrev pub number_word : Taken → ℤ
number_word t = words_place t.words 1

abbrev pub bytes_word : Taken → ℤ
bytes_word t = words_place (t.words + 1) 1

abbrev pub lower_word : Taken → ℤ
lower_word t = words_place (t.words + 2) 1

abbrev pub refer_word : Taken → ℤ
refer_word t = words_place (t.words + 3) 1

-- ---- filling in: the lower bound in a2, the upper bound, length or size in a3

abbrev pub filled_in : Taken → Datum → Code
filled_in t places =
    load_word a0 frame_register (number_word t)
    ++ (OffsetOf a1 (DataPlace places)
    ∷ (service 3 ++ (store_word frame_register a0 (number_word t) ++ store_word frame_register a1 (bytes_word t))))

-- an extent that is checked, or for REFER kept
abbrev pub filled_or_kept : Taken → (is_kept : Bool) → Datum → Code
filled_or_kept t true places = store_word frame_register a3 (refer_word t)
filled_or_kept t false places = filled_in t places

-- the value in a0 where it is of this evaluation, that of an earlier one for a lower bound
abbrev pub extent_given : Taken → Register → (place : ℕ) → Y.Extent → Code
extent_given t r place (Y.ConstantExtent z) = constant r z
extent_given t r place (Y.EvaluatedExtent n) =
    if n == place then move r a0 ∷ [] else load_word r frame_register (lower_word t)
extent_given t r place _ = []

abbrev pub length_checked : Code
length_checked =
    immediate Imm.SetLessUnsigned u1 a0 (pos (most_text + 1))
    ∷ (skip_where Test.NotEqual u1 zero_register (error_raised extent_code) ++ move a3 a0 ∷ [])

abbrev pub size_checked : Code
size_checked = skip_where Test.GreaterOrEqual a0 zero_register (error_raised extent_code) ++ move a3 a0 ∷ []

abbrev pub bounds_checked : Taken → (place : ℕ) → Y.Bounds → Code
bounds_checked t place b =
    extent_given t a2 place b.lower
    ++ (extent_given t a3 place b.upper ++ skip_where Test.GreaterOrEqual a3 a2 (error_raised extent_code))

abbrev pub checked_code : Taken → (place : ℕ) → (is_kept : Bool) → List Y.Leaf → Y.Check → Code
checked_code t place is_kept leaves Y.NoCheck = store_word frame_register a0 (lower_word t)
checked_code t place is_kept leaves Y.LengthCheck =
    length_checked ++ filled_or_kept t is_kept (size_datum (Y.EvaluatedExtent place) leaves)
checked_code t place is_kept leaves Y.SizeCheck =
    size_checked ++ filled_or_kept t is_kept (size_datum (Y.EvaluatedExtent place) leaves)
checked_code t place is_kept leaves (Y.BoundsCheck b) =
    bounds_checked t place b ++ filled_or_kept t is_kept (bounds_datum b leaves)

-- ---- all extents of a variable

abbrev pub is_kept_by : (place : ℕ) → Option Y.ReferMember → Bool
is_kept_by place None = false
is_kept_by place (Some r) = same_extent r.amount (Y.EvaluatedExtent place)

abbrev pub evaluations_code : Environment → Taken → Y.DeclaredVariable → (place : ℕ) → List Y.Evaluation → Code
evaluations_code e t d place [] = []
evaluations_code e t d place (x ∷ xs) =
    number_code e (with_words extent_words t) x.value
    ++ (checked_code t place (is_kept_by place d.refer) d.leaves x.check ++ evaluations_code e t d (suc place) xs)

-- a constant size that the table can't tell
abbrev pub constant_filled : Taken → List Y.Leaf → Y.LeafType → Code
constant_filled t leaves (Y.AreaLeaf (Y.ConstantExtent z)) =
    if nat_lt greatest_area (capacity_of z)
    then constant a3 z ++ filled_in t (size_datum (Y.ConstantExtent z) leaves)
    else []
constant_filled t leaves _ = []

abbrev pub constants_filled : Taken → List Y.Leaf → Code
constants_filled t (l ∷ []) = constant_filled t (l ∷ []) l.type
constants_filled t _ = []

abbrev pub extents_code : Environment → Taken → Y.DeclaredVariable → Code
extents_code e t d =
    number a0 (table_number e d)
    ++ (store_word frame_register a0 (number_word t)
    ++ (constants_filled t d.leaves ++ evaluations_code e t d 0 d.evaluations))

-- ---- the extent for REFER, in a1, fits its member

abbrev pub member_precision : Option Y.Leaf → ℕ
member_precision None = operator_precision
member_precision (Some l) = precision_of l.type
  where
    precision_of : Y.LeafType → ℕ
    precision_of (Y.FixedLeaf p) = p
    precision_of _ = operator_precision

abbrev pub narrow_checked : (precision : ℕ) → Code
narrow_checked precision =
    shift Shift.Left u1 a1 (operator_precision - precision)
    ∷ shift Shift.RightArithmetic u1 u1 (operator_precision - precision)
    ∷ skip_where Test.Equal u1 a1 (error_raised extent_code)

abbrev pub precision_checked : (precision : ℕ) → Code
precision_checked precision = if nat_lt precision operator_precision then narrow_checked precision else []

abbrev pub amount_loaded : Taken → Y.Extent → Code
amount_loaded t (Y.ConstantExtent z) = constant a1 z
amount_loaded t _ = load_word a1 frame_register (refer_word t)

abbrev pub refer_amount : Taken → List Y.Leaf → Option Y.ReferMember → Code
refer_amount t leaves None = small a1 0 ∷ []
refer_amount t leaves (Some r) =
    amount_loaded t r.amount ++ precision_checked (member_precision (slice_get leaves r.member))

-- ---- INITIAL values, 0 for none

abbrev pub initial_given : Register → Option Datum → Code
initial_given r None = small r 0 ∷ []
initial_given r (Some d) = OffsetOf r (DataPlace d) ∷ []

abbrev pub initial_code : Register → Y.DeclaredVariable → Code
initial_code r d = initial_given r (initial_datum d)

-- ---- what these take at most, behind what is taken already

abbrev pub evaluations_take : Taken → List Y.Evaluation → Taken
evaluations_take t [] = t
evaluations_take t (x ∷ xs) = most_taken (number_takes t x.value) (evaluations_take t xs)

abbrev pub extents_take : Taken → Y.DeclaredVariable → Taken
extents_take t d = evaluations_take (with_words extent_words t) d.evaluations
