-- Expressions of FIXED BINARY(31) numbers, tests of them, and texts, as a class that is computed from typed trees.
use Rattle.std.specs.Prelude.{ℕ, suc, ◌+◌, ◌^◌, ◌==◌, ◌&&◌, ◌||◌, Bool, true, false, List, [], ◌∷◌, max, nat_le, nat_lt}
use Rattle.std.specs.Prelude.{◌≡◌, length, Option, None, Some}
use Rattle.std.specs.List.{list_any}
use Rattle.pli_language.specs.declared.condition.Condition.{Condition}
use Rattle.pli_typing.specs.TypedTree as Y
use Rattle.pli_meaning.specs.Control.{Label}
use Rattle.pli_meaning.specs.DeclaredShapes.{declared_variable}
use Rattle.pli_meaning.specs.Texts.{most_text}
use Rattle.pli_coding.specs.Environments.{BlockPlace}
use Rattle.pli_coding.specs.Expressions.{argument_count, given_in, list_words}
use Rattle.pli_coding.specs.Frames.{parameters_of_block}
use Rattle.expression_runs.specs.Variables.{Spot, variable_of}
use Rattle.argument_runs.specs.Parameters.{parameter_of}
use Rattle.array_runs.specs.Arrays.{Grid}
use Rattle.area_runs.specs.Based.{based_of}
use Rattle.number_runs.specs.Initial.{are_values}
use Rattle.number_runs.specs.Arrays.{grid_if, is_array_if}
use Rattle.number_runs.specs.Narrow.{is_bit, is_narrow_if, is_number_type, is_text_type, type_if}
use Rattle.number_runs.specs.Based.{has_member_if, is_area_if, is_based_class, is_based_if, is_pointer_if}
use Rattle.number_runs.specs.Based.{is_pointer_type, is_word_type}

-- ---- what an expression may name

-- what the expressions and statements of a begin block may name and call, by its head
pub record Names : Type 0 where
  pub blocks : List BlockPlace
  pub receivers : List BlockPlace
  pub is_function : (level number : ℕ) → Bool
  pub is_procedure : (level number : ℕ) → Bool
  pub is_given_function : (count level number : ℕ) → Bool
  pub is_given_procedure : (count level number : ℕ) → Bool
  pub locates : Bool
  pub pointers : List BlockPlace
  pub waits : Bool
  pub is_outer : ℕ → Label → Bool
  pub returns : Bool
  pub is_begin : Y.BlockHead → Y.Stmts → Bool

abbrev pub no_names : Names
no_names =
    record {
      blocks = [];
      receivers = [];
      is_function = λ level number. false;
      is_procedure = λ level number. false;
      is_given_function = λ count level number. false;
      is_given_procedure = λ count level number. false;
      locates = false;
      pointers = [];
      waits = false;
      is_outer = λ level label. false;
      returns = false;
      is_begin = λ head body. false;
    }

-- the program, the level of the block whose expressions these are, the blocks whose variables they may name, those
-- whose parameters they may, and the functions and the procedures without parameters that it may call: by the level of
-- the block that declares one, and its number
pub record Scope : Type 0 where
  pub program : Y.Program
  pub level : ℕ
  pub blocks : List BlockPlace
  pub receivers : List BlockPlace
  pub is_function : (level number : ℕ) → Bool
  pub is_procedure : (level number : ℕ) → Bool
  -- whether calls may have arguments, and the functions and the procedures with so many parameters
  pub gives : Bool
  pub is_given_function : (count level number : ℕ) → Bool
  pub is_given_procedure : (count level number : ℕ) → Bool
  -- whether they may reach what is BASED, and the blocks whose pointers and areas they may name
  pub locates : Bool
  pub pointers : List BlockPlace
  -- whether its loops may count
  pub counts : Bool
  -- whether statements may write numbers by format lists
  pub puts : Bool
  -- and read numbers by them
  pub reads : Bool
  -- whether they may name scalars of fewer bits, and bits
  pub narrows : Bool
  -- whether they may have texts, and whether functions may be called while these wait
  pub texts : Bool
  pub waits : Bool
  -- whether expressions may raise FIXEDOVERFLOW, and ZERODIVIDE
  pub overflows : Bool
  pub divides : Bool
  -- whether they may have elements of arrays, whose subscripts may raise ERROR
  pub elements : Bool
  -- whether statements may return, and jump to labels of their own lists
  pub own : Bool
  -- the labels to which they may jump out, each of the block around at a level
  pub is_outer : ℕ → Label → Bool
  -- the conditions that they may signal
  pub signals : Condition → Bool
  -- whether they may have ONCODE
  pub codes : Bool
  -- whether statements may return a number, which begin blocks may stand among them, and what those may name
  pub returns : Bool
  pub is_begin : Y.BlockHead → Y.Stmts → Bool
  pub inner : Y.BlockHead → Y.Stmts → Names

-- that of a begin block among the statements
abbrev pub inside : Scope → Y.BlockHead → Y.Stmts → Scope
inside s head body =
    record s {
      level = head.level;
      blocks = (s.inner head body).blocks;
      receivers = (s.inner head body).receivers;
      is_function = (s.inner head body).is_function;
      is_procedure = (s.inner head body).is_procedure;
      is_given_function = (s.inner head body).is_given_function;
      is_given_procedure = (s.inner head body).is_given_procedure;
      locates = (s.inner head body).locates;
      pointers = (s.inner head body).pointers;
      waits = (s.inner head body).waits;
      is_outer = (s.inner head body).is_outer;
      returns = (s.inner head body).returns;
      is_begin = (s.inner head body).is_begin;
    }

-- ---- variables

-- one of level 1 that is no structure
abbrev pub is_scalar : List Y.Member → Bool
is_scalar (m ∷ []) = (m.depth == 0) && (m.dimensions == 0)
is_scalar _ = false

abbrev pub is_fixed : Y.LeafType → Bool
is_fixed (Y.FixedLeaf precision) = precision == 31
is_fixed _ = false

abbrev pub has_none : {A : Type 0} → List A → Bool
has_none [] = true
has_none (x ∷ xs) = false

-- to which nothing is given
abbrev pub is_word : Y.Leaf → Bool
is_word l = is_fixed l.type && (has_none l.bounds && has_none l.initial)

abbrev pub is_one_word : List Y.Leaf → Bool
is_one_word (l ∷ []) = is_word l
is_one_word _ = false

-- to which INITIAL may give values
abbrev pub is_number_leaf : Y.Leaf → Bool
is_number_leaf l = is_fixed l.type && (has_none l.bounds && are_values l.type l.initial)

abbrev pub is_one_number : List Y.Leaf → Bool
is_one_number (l ∷ []) = is_number_leaf l
is_one_number _ = false

abbrev pub is_automatic : Y.StorageClass → Bool
is_automatic Y.AutomaticClass = true
is_automatic _ = false

abbrev pub is_absent : {A : Type 0} → Option A → Bool
is_absent None = true
is_absent (Some x) = false

-- AUTOMATIC FIXED BINARY(31), a scalar
abbrev pub is_plain : Y.DeclaredVariable → Bool
is_plain d =
    is_automatic d.class
    && (is_scalar d.members && (is_one_number d.leaves && (is_absent d.refer && has_none d.evaluations)))

abbrev pub is_plain_if : Option Y.DeclaredVariable → Bool
is_plain_if None = false
is_plain_if (Some d) = is_plain d

abbrev pub is_place : Spot → BlockPlace → Bool
is_place x b = (x.block == b.number) && (x.level == b.level)

-- such a variable of one of these blocks
abbrev pub is_known : Scope → Spot → Bool
is_known s x = list_any (is_place x) s.blocks && is_plain_if (declared_variable s.program (variable_of x))

abbrev pub spot_of : Y.Variable → Spot
spot_of v = record { block = v.block; level = v.level; index = v.index }

-- all of one
abbrev pub is_variable : Scope → Y.Reference → Bool
is_variable s (Y.Referring v Y.NotLocated part Y.NoNumber) =
    is_automatic v.class && ((part.first == 0) && ((part.count == 1) && is_known s (spot_of v)))
is_variable s _ = false

-- ---- scalars of fewer bits

-- one that is declared in one of these blocks, and its type
abbrev pub is_narrow_known : Scope → Spot → Bool
is_narrow_known s x = list_any (is_place x) s.blocks && is_narrow_if (declared_variable s.program (variable_of x))

abbrev pub type_known : Scope → Spot → Y.LeafType
type_known s x = type_if (declared_variable s.program (variable_of x))

-- all of one whose type passes a test
abbrev pub is_narrow_with : Scope → (Y.LeafType → Bool) → Y.Reference → Bool
is_narrow_with s test (Y.Referring v Y.NotLocated part Y.NoNumber) =
    s.narrows
    && (is_automatic v.class
    && ((part.first == 0)
    && ((part.count == 1) && (is_narrow_known s (spot_of v) && test (type_known s (spot_of v))))))
is_narrow_with s test _ = false

-- ---- parameters

abbrev pub is_parameter_class : Y.StorageClass → Bool
is_parameter_class Y.ParameterClass = true
is_parameter_class _ = false

-- a FIXED BINARY(31) parameter
abbrev pub is_parameter : Y.DeclaredVariable → Bool
is_parameter d =
    is_parameter_class d.class
    && (is_scalar d.members && (is_one_word d.leaves && (is_absent d.refer && has_none d.evaluations)))

abbrev pub is_parameter_if : Option Y.DeclaredVariable → Bool
is_parameter_if None = false
is_parameter_if (Some d) = is_parameter d

-- a parameter of one of these blocks
abbrev pub is_received : Scope → Spot → Bool
is_received s x =
    list_any (is_place x) s.receivers
    && (list_any (λ n. n == x.index) (parameters_of_block s.program x.block)
    && is_parameter_if (declared_variable s.program (parameter_of x)))

-- all of one
abbrev pub is_given : Scope → Y.Reference → Bool
is_given s (Y.Referring v Y.NotLocated part Y.NoNumber) =
    is_parameter_class v.class && ((part.first == 0) && ((part.count == 1) && is_received s (spot_of v)))
is_given s _ = false

-- all of a variable or a parameter, which may be passed by reference
abbrev pub is_passed : Scope → Y.Reference → Bool
is_passed s r = is_variable s r || is_given s r

-- ---- arrays

-- one that is declared in one of these blocks, its type and its bounds
abbrev pub is_array_known : Scope → Spot → Bool
is_array_known s x = list_any (is_place x) s.blocks && is_array_if (declared_variable s.program (variable_of x))

abbrev pub grid_known : Scope → Spot → Grid
grid_known s x = grid_if (declared_variable s.program (variable_of x))

-- whose type passes a test, and which has so many dimensions
abbrev pub is_grid_with : (Y.LeafType → Bool) → (count : ℕ) → Grid → Bool
is_grid_with test count g = test g.type && (length g.bounds == count)

-- an element of such a one
abbrev pub is_element : Scope → (Y.LeafType → Bool) → Y.Variable → Y.Part → (count : ℕ) → Bool
is_element s test v part count =
    s.elements
    && (is_automatic v.class
    && ((part.first == 0)
    && ((part.count == 1)
    && (is_array_known s (spot_of v) && is_grid_with test count (grid_known s (spot_of v))))))

-- a dimension of one, from 1
abbrev pub is_asked : Scope → Y.Reference → (dimension : ℕ) → Bool
is_asked s (Y.Referring v Y.NotLocated part Y.NoNumber) dimension =
    s.elements
    && (is_automatic v.class
    && ((part.first == 0)
    && ((part.count == 1)
    && (is_array_known s (spot_of v)
    && (nat_lt 0 dimension && nat_le dimension (length (grid_known s (spot_of v)).bounds))))))
is_asked s _ dimension = false

-- ---- what pointers lead to

-- a pointer of one of these blocks, an area of one, what is BASED, and a member of that
abbrev pub is_pointer_known : Scope → Spot → Bool
is_pointer_known s x =
    list_any (is_place x) s.pointers && is_pointer_if (declared_variable s.program (variable_of x))

abbrev pub is_area_known : Scope → Spot → Bool
is_area_known s x = list_any (is_place x) s.pointers && is_area_if (declared_variable s.program (variable_of x))

abbrev pub is_based_known : Scope → Spot → Bool
is_based_known s x = is_based_if (declared_variable s.program (based_of x))

abbrev pub is_member_known : Scope → (Y.LeafType → Bool) → Spot → ℕ → Bool
is_member_known s test x n = has_member_if test n (declared_variable s.program (based_of x))

-- all of a pointer
abbrev pub is_pointer_in : Scope → Y.Reference → Bool
is_pointer_in s (Y.Referring v Y.NotLocated part Y.NoNumber) =
    is_automatic v.class
    && ((part.first == 0) && ((part.count == 1) && is_pointer_known s (spot_of v)))
is_pointer_in s _ = false

abbrev pub is_based_variable : Scope → Y.Variable → Bool
is_based_variable s v = is_based_class v.class && is_based_known s (spot_of v)

-- a member of what one leads to
abbrev pub is_located : Scope → (Y.LeafType → Bool) → Y.Variable → Y.Pointer → Y.Part → Bool
is_located s test v (Y.PointerIn r) part =
    s.locates
    && (is_based_class v.class
    && ((part.count == 1) && (is_member_known s test (spot_of v) part.first && is_pointer_in s r)))
is_located s test v _ part = false

-- that is a pointer
abbrev pub is_followed : Scope → Y.Reference → Bool
is_followed s (Y.Referring v (Y.LocatedBy p) part Y.NoNumber) = is_located s is_pointer_type v p part
is_followed s _ = false

-- two pointers, or one and NULL
abbrev pub are_compared : Scope → (left right : Y.Pointer) → Bool
are_compared s (Y.PointerIn x) Y.NullPointer = s.locates && is_pointer_in s x
are_compared s (Y.PointerIn x) (Y.PointerIn y) = s.locates && (is_pointer_in s x && is_pointer_in s y)
are_compared s left right = false

-- ---- numbers

-- lists stand behind the words that loops set aside
abbrev pub gives_lists : Scope → Bool
gives_lists s = s.gives && s.counts

-- where words of the frame are set aside nothing that is BASED is reached
abbrev pub without_located : Scope → Scope
without_located s = record s { locates = false }

-- while texts wait calls have no arguments, either, and there are none where functions may not be called then
abbrev pub without_given : Scope → Scope
without_given s =
    record s { gives = false; locates = false; is_function = λ level number. s.waits && s.is_function level number }

abbrev pub IsBare : Scope → Type 0
IsBare s =
    (s.gives ≡ false) × (s.locates ≡ false)
    × ((level number : ℕ) → s.is_function level number ≡ true → s.waits ≡ true)

-- of FIXED BINARY
abbrev pub is_precision : ℕ → Bool
is_precision precision = nat_lt 0 precision && nat_le precision 31

-- what an operator may raise
abbrev pub may_calculate : Scope → Y.ArithmeticOperator → Bool
may_calculate s Y.Quotient = s.overflows && s.divides
may_calculate s _ = s.overflows

abbrev mutual
  pub is_number : Scope → Y.Number → Bool
  is_number s (Y.NumberConstant n) = nat_lt n (2 ^ 31)
  is_number s (Y.NumberIn r) =
      is_reference s r || (is_narrow_with s is_number_type r || is_item s is_number_type r)
  is_number s (Y.NumberFrom (Y.Calling number level Y.NoArgument)) = s.is_function level number
  is_number s (Y.NumberFrom (Y.Calling number level (Y.ArgumentThen first rest))) =
      gives_lists s
      && (s.is_given_function (suc (argument_count rest)) level number
      && are_arguments s (Y.ArgumentThen first rest))
  is_number s (Y.Signed sign x) = s.overflows && is_number s x
  is_number s (Y.Calculated operator left right) =
      may_calculate s operator && (is_number s left && is_number s right)
  is_number s (Y.Absolute x) = s.overflows && is_number s x
  is_number s (Y.SignOf x) = is_number s x
  is_number s (Y.Extreme extremum first more) = is_number s first && are_numbers s more
  is_number s (Y.Modulo dividend divisor) = s.divides && (is_number s dividend && is_number s divisor)
  is_number s (Y.Divided precision dividend divisor) =
      (s.overflows && s.divides) && ((precision == 31) && (is_number s dividend && is_number s divisor))
  is_number s (Y.NumberOfText x) = s.texts && is_text (without_given s) x
  is_number s (Y.NumberOfBit x) = s.narrows && is_test s x
  is_number s (Y.LengthOf x) = s.texts && is_text (without_given s) x
  is_number s (Y.IndexOf searched sought) =
      s.texts && (is_text (without_given s) searched && is_text (without_given s) sought)
  is_number s (Y.VerifyOf searched allowed) =
      s.texts && (is_text (without_given s) searched && is_text (without_given s) allowed)
  is_number s (Y.LowerBound r dimension) = is_asked s r dimension
  is_number s (Y.UpperBound r dimension) = is_asked s r dimension
  is_number s (Y.ElementsOf r dimension) = is_asked s r dimension
  is_number s Y.OnCode = s.codes
  is_number s _ = false

  -- an element of an array whose type passes a test
  pub is_item : Scope → (Y.LeafType → Bool) → Y.Reference → Bool
  is_item s test (Y.Referring v Y.NotLocated part (Y.NumberThen first rest)) =
      is_element s test v part (suc (given_in rest)) && (is_number s first && are_numbers s rest)
  is_item s test _ = false

  -- a variable, a parameter, an element of an array of FIXED BINARY(31), or what a pointer leads to
  pub is_reference : Scope → Y.Reference → Bool
  is_reference s (Y.Referring v (Y.LocatedBy p) part Y.NoNumber) = is_located s is_word_type v p part
  is_reference s (Y.Referring v Y.NotLocated part (Y.NumberThen first rest)) =
      is_element s is_fixed v part (suc (given_in rest)) && (is_number s first && are_numbers s rest)
  is_reference s r = is_variable s r || is_given s r

  -- a number that is copied, or what is passed by reference
  pub is_argument : Scope → Y.Argument → Bool
  is_argument s (Y.ByCopy type (Y.StoredNumber precision x)) = is_fixed type && ((precision == 31) && is_number s x)
  is_argument s (Y.ByReference r) = is_passed s r
  is_argument s _ = false

  pub are_arguments : Scope → Y.Arguments → Bool
  are_arguments s Y.NoArgument = true
  are_arguments s (Y.ArgumentThen first rest) = is_argument s first && are_arguments s rest

  pub are_numbers : Scope → Y.Numbers → Bool
  are_numbers s Y.NoNumber = true
  are_numbers s (Y.NumberThen first rest) = is_number s first && are_numbers s rest

  pub is_text : Scope → Y.Text → Bool
  is_text s (Y.TextConstant bytes) = nat_le (length bytes) most_text
  is_text s (Y.TextIn r) = is_narrow_with s is_text_type r
  is_text s (Y.TextOfNumber precision x) = is_precision precision && is_number s x
  is_text s (Y.TextOfBit x) = is_test s x
  is_text s (Y.Joined left right) = is_text s left && is_text s right
  is_text s (Y.SubstringFrom x start) = is_text s x && is_number s start
  is_text s (Y.Substring x start count) = is_text s x && (is_number s start && is_number s count)
  is_text s _ = false

  pub is_test : Scope → Y.Bit → Bool
  is_test s (Y.BitConstant b) = true
  is_test s (Y.BitIn r) = is_narrow_with s is_bit r || is_item s is_bit r
  is_test s (Y.Negated x) = is_test s x
  is_test s (Y.Combined operator left right) = is_test s left && is_test s right
  is_test s (Y.NumbersCompared comparison left right) = is_number s left && is_number s right
  is_test s (Y.BitsCompared comparison left right) = is_test s left && is_test s right
  is_test s (Y.BitOfText x) = s.texts && is_text (without_given s) x
  is_test s (Y.TextsCompared comparison left right) =
      s.texts && (is_text (without_given s) left && is_text (without_given s) right)
  is_test s (Y.PointersCompared equal left right) = are_compared s left right
  is_test s _ = false

-- how many registers its temporaries need
abbrev mutual
  pub number_needs : Y.Number → ℕ
  number_needs (Y.NumberIn r) = reference_needs r
  number_needs (Y.NumberFrom c) = call_needs c
  number_needs (Y.Signed sign x) = max (number_needs x) 1
  number_needs (Y.Calculated operator left right) = max (number_needs left) (suc (number_needs right))
  number_needs (Y.Absolute x) = max (number_needs x) 1
  number_needs (Y.SignOf x) = number_needs x
  number_needs (Y.Extreme extremum first more) = max (number_needs first) (suc (numbers_need more))
  number_needs (Y.Modulo dividend divisor) = max (number_needs dividend) (suc (number_needs divisor))
  number_needs (Y.Divided precision dividend divisor) = max (number_needs dividend) (suc (number_needs divisor))
  number_needs (Y.NumberOfText x) = text_needs x
  number_needs (Y.NumberOfBit x) = test_needs x
  number_needs (Y.LengthOf x) = text_needs x
  number_needs (Y.IndexOf searched sought) = max (text_needs searched) (text_needs sought)
  number_needs (Y.VerifyOf searched allowed) = max (text_needs searched) (text_needs allowed)
  number_needs (Y.ElementsOf r dimension) = 1
  number_needs _ = 0

  pub reference_needs : Y.Reference → ℕ
  reference_needs (Y.Referring v locator part subscripts) = subscripts_need subscripts

  pub call_needs : Y.Call → ℕ
  call_needs (Y.Calling number level arguments) = arguments_need arguments

  -- one at a time
  pub arguments_need : Y.Arguments → ℕ
  arguments_need Y.NoArgument = 0
  arguments_need (Y.ArgumentThen first rest) = max (argument_needs first) (arguments_need rest)

  -- a value waits on its way into the list
  pub argument_needs : Y.Argument → ℕ
  argument_needs (Y.ByCopy type (Y.StoredNumber precision x)) = max (number_needs x) 1
  argument_needs _ = 0

  -- all of them wait
  pub subscripts_need : Y.Numbers → ℕ
  subscripts_need Y.NoNumber = 0
  subscripts_need (Y.NumberThen first rest) = max (number_needs first) (suc (subscripts_need rest))

  -- one at a time
  pub numbers_need : Y.Numbers → ℕ
  numbers_need Y.NoNumber = 0
  numbers_need (Y.NumberThen first rest) = max (number_needs first) (numbers_need rest)

  -- texts wait on their stack, and the place of a part in a register
  pub text_needs : Y.Text → ℕ
  text_needs (Y.TextOfNumber precision x) = number_needs x
  text_needs (Y.TextOfBit x) = test_needs x
  text_needs (Y.Joined left right) = max (text_needs left) (text_needs right)
  text_needs (Y.SubstringFrom x start) = max (text_needs x) (number_needs start)
  text_needs (Y.Substring x start count) = max (text_needs x) (max (number_needs start) (suc (number_needs count)))
  text_needs _ = 0

  pub test_needs : Y.Bit → ℕ
  test_needs (Y.BitIn r) = reference_needs r
  test_needs (Y.Negated x) = test_needs x
  test_needs (Y.Combined operator left right) = max (test_needs left) (suc (test_needs right))
  test_needs (Y.NumbersCompared comparison left right) = max (number_needs left) (suc (number_needs right))
  test_needs (Y.BitsCompared comparison left right) = max (test_needs left) (suc (test_needs right))
  test_needs (Y.BitOfText x) = text_needs x
  test_needs (Y.TextsCompared comparison left right) = max (text_needs left) (text_needs right)
  test_needs _ = 0

-- how many words of the frame their lists of arguments take, and the names by which they reach what is BASED
abbrev pub locator_sets : Y.Locator → ℕ
locator_sets Y.NotLocated = 0
locator_sets (Y.LocatedBy p) = 5

-- the words of a name, and of the two that are compared
abbrev pub name_sets : ℕ
name_sets = 4

abbrev pub compared_sets : ℕ
compared_sets = 8

abbrev mutual
  pub number_sets : Y.Number → ℕ
  number_sets (Y.NumberIn r) = reference_sets r
  number_sets (Y.NumberFrom c) = call_sets c
  number_sets (Y.Signed sign x) = number_sets x
  number_sets (Y.Calculated operator left right) = max (number_sets left) (number_sets right)
  number_sets (Y.Absolute x) = number_sets x
  number_sets (Y.SignOf x) = number_sets x
  number_sets (Y.Extreme extremum first more) = max (number_sets first) (numbers_set more)
  number_sets (Y.Modulo dividend divisor) = max (number_sets dividend) (number_sets divisor)
  number_sets (Y.Divided precision dividend divisor) = max (number_sets dividend) (number_sets divisor)
  number_sets (Y.NumberOfBit x) = test_sets x
  number_sets _ = 0

  pub reference_sets : Y.Reference → ℕ
  reference_sets (Y.Referring v locator part subscripts) = max (locator_sets locator) (numbers_set subscripts)

  pub call_sets : Y.Call → ℕ
  call_sets (Y.Calling number level arguments) = list_words arguments + arguments_set arguments

  pub arguments_set : Y.Arguments → ℕ
  arguments_set Y.NoArgument = 0
  arguments_set (Y.ArgumentThen first rest) = max (argument_sets first) (arguments_set rest)

  pub argument_sets : Y.Argument → ℕ
  argument_sets (Y.ByCopy type (Y.StoredNumber precision x)) = number_sets x
  argument_sets _ = 0

  pub numbers_set : Y.Numbers → ℕ
  numbers_set Y.NoNumber = 0
  numbers_set (Y.NumberThen first rest) = max (number_sets first) (numbers_set rest)

  pub test_sets : Y.Bit → ℕ
  test_sets (Y.BitIn r) = reference_sets r
  test_sets (Y.Negated x) = test_sets x
  test_sets (Y.Combined operator left right) = max (test_sets left) (test_sets right)
  test_sets (Y.NumbersCompared comparison left right) = max (number_sets left) (number_sets right)
  test_sets (Y.BitsCompared comparison left right) = max (test_sets left) (test_sets right)
  test_sets (Y.PointersCompared equal left right) = compared_sets
  test_sets _ = 0
