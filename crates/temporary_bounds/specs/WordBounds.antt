-- Bounds for the words of a frame that temporaries take, by the form alone: as if each number waited in a word.
use Rattle.std.specs.Prelude.{ℕ, suc, ◌+◌, max, List, [], ◌∷◌, Option, Some, None, if◌then◌else◌}
use Rattle.pli_typing.specs.TypedTree as Y
use Rattle.pli_coding.specs.Frames.{has_constant_size, is_automatic}
use Rattle.pli_coding.specs.Locating.{locator_words, is_found_first}
use Rattle.pli_coding.specs.Expressions.{list_words}
use Rattle.pli_coding.specs.Storing.{record_words}
use Rattle.pli_coding.specs.Extents.{extent_words}

-- what waits while subscripts are evaluated
abbrev pub located_words : Y.Variable → ℕ
located_words v = if is_found_first v.class then locator_words else 0

abbrev mutual
  pub number_words : Y.Number → ℕ
  number_words (Y.NumberConstant n) = 0
  number_words (Y.NumberIn r) = reference_words r
  number_words (Y.NumberFrom c) = call_words c
  number_words (Y.NumberOfText x) = text_words x
  number_words (Y.NumberOfBit b) = bit_words b
  number_words (Y.Signed sign x) = max 1 (number_words x)
  number_words (Y.Calculated operator left right) = max (number_words left) (suc (number_words right))
  number_words (Y.Absolute x) = max 1 (number_words x)
  number_words (Y.SignOf x) = number_words x
  number_words (Y.Extreme extremum first more) = max (number_words first) (suc (numbers_words more))
  number_words (Y.Modulo dividend divisor) = max (number_words dividend) (suc (number_words divisor))
  number_words (Y.Divided precision dividend divisor) = max (number_words dividend) (suc (number_words divisor))
  number_words (Y.LengthOf x) = text_words x
  number_words (Y.IndexOf searched sought) = max (text_words searched) (text_words sought)
  number_words (Y.VerifyOf searched allowed) = max (text_words searched) (text_words allowed)
  number_words (Y.LowerBound r dimension) = reference_words r
  number_words (Y.UpperBound r dimension) = reference_words r
  number_words (Y.ElementsOf r dimension) = max 1 (reference_words r)
  number_words (Y.AllocationsOf v) = 0
  number_words Y.OnCode = 0

  -- one at a time
  pub numbers_words : Y.Numbers → ℕ
  numbers_words Y.NoNumber = 0
  numbers_words (Y.NumberThen first rest) = max (number_words first) (numbers_words rest)

  pub text_words : Y.Text → ℕ
  text_words (Y.TextConstant bytes) = 0
  text_words (Y.TextIn r) = reference_words r
  text_words (Y.TextFrom c) = call_words c
  text_words (Y.TextOfNumber precision x) = number_words x
  text_words (Y.TextOfBit b) = bit_words b
  text_words (Y.Joined left right) = max (text_words left) (text_words right)
  text_words (Y.SubstringFrom x start) = max (text_words x) (number_words start)
  text_words (Y.Substring x start count) = max (text_words x) (max (number_words start) (suc (number_words count)))

  pub bit_words : Y.Bit → ℕ
  bit_words (Y.BitConstant b) = 0
  bit_words (Y.BitIn r) = reference_words r
  bit_words (Y.BitFrom c) = call_words c
  bit_words (Y.BitOfText x) = text_words x
  bit_words (Y.Negated x) = bit_words x
  bit_words (Y.Combined operator left right) = max (bit_words left) (suc (bit_words right))
  bit_words (Y.NumbersCompared comparison left right) = max (number_words left) (suc (number_words right))
  bit_words (Y.TextsCompared comparison left right) = max (text_words left) (text_words right)
  bit_words (Y.BitsCompared comparison left right) = max (bit_words left) (suc (bit_words right))
  bit_words (Y.PointersCompared equal left right) = max (pointer_words left) (4 + pointer_words right)
  bit_words (Y.OffsetsCompared equal left right) = max (offset_words left) (suc (offset_words right))

  -- with the four words of the name
  pub pointer_words : Y.Pointer → ℕ
  pointer_words Y.NullPointer = 4
  pointer_words (Y.PointerIn r) = max 4 (reference_words r)
  pointer_words (Y.PointerFrom c) = max 4 (call_words c)
  pointer_words (Y.AddressOf r) = max 4 (reference_words r)
  pointer_words (Y.PointerInto x area) = max 4 (offset_words x)

  pub offset_words : Y.Offset → ℕ
  offset_words Y.NullOffset = 0
  offset_words (Y.OffsetIn r) = reference_words r
  offset_words (Y.OffsetFrom c) = call_words c
  offset_words (Y.OffsetInto x area) = pointer_words x

  pub reference_words : Y.Reference → ℕ
  reference_words (Y.Referring v locator part subscripts) =
      max (locator_value_words locator) (located_words v + subscripts_words subscripts)

  pub locator_value_words : Y.Locator → ℕ
  locator_value_words Y.NotLocated = 0
  locator_value_words (Y.LocatedBy p) = pointer_words p

  -- all of them wait
  pub subscripts_words : Y.Numbers → ℕ
  subscripts_words Y.NoNumber = 0
  subscripts_words (Y.NumberThen first rest) = max (number_words first) (suc (subscripts_words rest))

  pub call_words : Y.Call → ℕ
  call_words (Y.Calling procedure level as') = list_words as' + arguments_words as'

  pub arguments_words : Y.Arguments → ℕ
  arguments_words Y.NoArgument = 0
  arguments_words (Y.ArgumentThen first rest) = max (argument_words first) (arguments_words rest)

  pub argument_words : Y.Argument → ℕ
  argument_words (Y.ByReference r) = reference_words r
  argument_words (Y.ByCopy type v) = stored_words v
  argument_words (Y.ByOffsetInParameter p parameter) = pointer_words p
  argument_words (Y.ByOffsetInAutomatic p) = pointer_words p

  pub stored_words : Y.Stored → ℕ
  stored_words (Y.StoredNumber precision x) = max 1 (number_words x)
  stored_words (Y.StoredText x) = text_words x
  stored_words (Y.StoredBit x) = bit_words x
  stored_words (Y.StoredPointer x) = pointer_words x
  stored_words (Y.StoredOffset x) = offset_words x

-- ---- assignments

abbrev pub assigned_words : Y.Reference → Y.Stored → ℕ
assigned_words target source = max (stored_words source) (4 + reference_words target)

abbrev pub aggregate_words : Y.Reference → ℕ
aggregate_words r = record_words + reference_words r

abbrev pub elements_words : Y.Reference → Y.Stored → ℕ
elements_words target source = max (stored_words source) (4 + aggregate_words target)

abbrev pub words_behind_record : Y.Reference → ℕ
words_behind_record (Y.Referring v locator part subscripts) = record_words + located_words v

-- ---- ALLOCATE and FREE

abbrev pub target_words : Y.LocatorTarget → ℕ
target_words (Y.SetPointer r) = reference_words r
target_words (Y.SetOffset r area) = suc (reference_words r)

abbrev pub allocation_words : Y.Allocation → ℕ
allocation_words (Y.AllocateBased v area target) = 6 + target_words target
allocation_words (Y.AllocateControlled v) = 2

abbrev pub allocations_words : List Y.Allocation → ℕ
allocations_words [] = 0
allocations_words (a ∷ as') = max (allocation_words a) (allocations_words as')

abbrev pub freeing_words : Y.Freeing → ℕ
freeing_words (Y.FreeBased v locator area) = pointer_words locator
freeing_words (Y.FreeControlled v) = 0

abbrev pub freeings_words : List Y.Freeing → ℕ
freeings_words [] = 0
freeings_words (f ∷ fs) = max (freeing_words f) (freeings_words fs)

-- ---- extents

abbrev pub evaluations_words : List Y.Evaluation → ℕ
evaluations_words [] = 0
evaluations_words (x ∷ xs) = max (number_words x.value) (evaluations_words xs)

abbrev pub extents_words : Y.DeclaredVariable → ℕ
extents_words d = extent_words + evaluations_words d.evaluations

-- the temporaries of extents
abbrev pub variables_words : List Y.DeclaredVariable → ℕ
variables_words [] = 0
variables_words (d ∷ ds) =
    max (if is_automatic d.class then (if has_constant_size d then 0 else extents_words d) else 0) (variables_words ds)

-- ---- GET and PUT

abbrev pub value_words : Y.Value → ℕ
value_words (Y.NumberValue precision x) = max 1 (number_words x)
value_words (Y.TextValue x) = text_words x
value_words (Y.BitValue x) = max 1 (bit_words x)
value_words _ = 0

-- a record, the number, and up to two that wait; what is counted by its distance needs no more than two
abbrev pub streamed_words : Y.Reference → ℕ
streamed_words r = max (aggregate_words r) (words_behind_record r + 4)

abbrev pub put_item_words : Y.PutItem → ℕ
put_item_words (Y.PutValue v) = value_words v
put_item_words (Y.PutAggregate r) = streamed_words r

abbrev pub put_items_words : List Y.PutItem → ℕ
put_items_words [] = 0
put_items_words (i ∷ is) = max (put_item_words i) (put_items_words is)

abbrev pub put_words : List Y.PutPair → ℕ
put_words [] = 0
put_words (p ∷ ps) = max (put_items_words p.items) (put_words ps)

abbrev pub get_item_words : Y.GetItem → ℕ
get_item_words (Y.GetScalar r) = suc (reference_words r)
get_item_words (Y.GetAggregate r) = streamed_words r

abbrev pub get_items_words : List Y.GetItem → ℕ
get_items_words [] = 0
get_items_words (i ∷ is) = max (get_item_words i) (get_items_words is)

abbrev pub get_words : List Y.GetPair → ℕ
get_words [] = 0
get_words (p ∷ ps) = max (get_items_words p.items) (get_words ps)

-- ---- statements; a block among them has a frame of its own

abbrev pub number_if : Option Y.Number → ℕ
number_if None = 0
number_if (Some x) = number_words x

abbrev pub bit_if : Option Y.Bit → ℕ
bit_if None = 0
bit_if (Some x) = bit_words x

abbrev pub counter_words : Y.Counter → ℕ
counter_words (Y.NumberCounter precision r) = suc (reference_words r)
counter_words (Y.TextCounter r) = suc (reference_words r)

abbrev pub count_words : Y.Counter → Y.Value → Option Y.Number → Y.Number → Option Y.Bit → (body : ℕ) → ℕ
count_words counter start limit step condition body =
    max (3 + max (value_words start) (max (number_if limit) (number_words step)))
    (2 + max (counter_words counter) (max (bit_if condition) body))

abbrev mutual
  pub stmt_words : Y.Stmt → ℕ
  stmt_words (Y.Assign target source line) = assigned_words target source
  stmt_words (Y.AssignElements target source line) = elements_words target source
  stmt_words (Y.AssignAggregate target source line) = max (aggregate_words target) (aggregate_words source)
  stmt_words (Y.If condition unit line) = max (bit_words condition) (stmt_words unit)
  stmt_words (Y.IfElse condition unit otherwise line) =
      max (bit_words condition) (max (stmt_words unit) (stmt_words otherwise))
  stmt_words (Y.Do body line) = stmts_words body
  stmt_words (Y.DoWhile condition body line) = max (bit_words condition) (stmts_words body)
  stmt_words (Y.DoOnce variable start condition body line) =
      max (assigned_words variable start) (max (bit_if condition) (stmts_words body))
  stmt_words (Y.DoCount counter start limit step condition body line) =
      count_words counter start limit step condition (stmts_words body)
  stmt_words (Y.CallProcedure call line) = call_words call
  stmt_words (Y.ReturnValue type source line) = stored_words source
  stmt_words (Y.Allocate all line) = allocations_words all
  stmt_words (Y.Free all line) = freeings_words all
  stmt_words (Y.Get skip pairs line) = get_words pairs
  stmt_words (Y.Put skip pairs line) = put_words pairs
  stmt_words _ = 0

  pub stmts_words : Y.Stmts → ℕ
  stmts_words (Y.EndOfList labels) = 0
  stmts_words (Y.StmtThen labels first rest) = max (stmt_words first) (stmts_words rest)
