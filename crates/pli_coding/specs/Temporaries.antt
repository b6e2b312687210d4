-- What the temporaries of a form take at most, registers and words of the frame, behind what is taken already.
use Rattle.pli_typing.specs.TypedTree as Y
use Rattle.pli_coding.specs.Environments.{Taken, with_words, with_number, most_taken}
use Rattle.pli_coding.specs.Locating.{behind_locator}
use Rattle.pli_coding.specs.Expressions.{list_words}

abbrev mutual
  pub number_takes : Taken → Y.Number → Taken
  number_takes t (Y.NumberConstant n) = t
  number_takes t (Y.NumberIn r) = reference_takes t r
  number_takes t (Y.NumberFrom c) = call_takes t c
  number_takes t (Y.NumberOfText x) = text_takes t x
  number_takes t (Y.NumberOfBit b) = bit_takes t b
  number_takes t (Y.Signed sign x) = most_taken (with_number t) (number_takes t x)
  number_takes t (Y.Calculated how left right) = most_taken (number_takes t left) (number_takes (with_number t) right)
  number_takes t (Y.Absolute x) = most_taken (with_number t) (number_takes t x)
  number_takes t (Y.SignOf x) = number_takes t x
  number_takes t (Y.Extreme extremum first more) = most_taken (number_takes t first) (numbers_take (with_number t) more)
  number_takes t (Y.Modulo dividend divisor) =
      most_taken (number_takes t dividend) (number_takes (with_number t) divisor)
  number_takes t (Y.Divided precision dividend divisor) =
      most_taken (number_takes t dividend) (number_takes (with_number t) divisor)
  number_takes t (Y.LengthOf x) = text_takes t x
  number_takes t (Y.IndexOf searched sought) = most_taken (text_takes t searched) (text_takes t sought)
  number_takes t (Y.VerifyOf searched allowed) = most_taken (text_takes t searched) (text_takes t allowed)
  number_takes t (Y.LowerBound r dimension) = reference_takes t r
  number_takes t (Y.UpperBound r dimension) = reference_takes t r
  number_takes t (Y.ElementsOf r dimension) = most_taken (with_number t) (reference_takes t r)
  number_takes t (Y.AllocationsOf v) = t
  number_takes t Y.OnCode = t

  -- one at a time
  pub numbers_take : Taken → Y.Numbers → Taken
  numbers_take t Y.NoNumber = t
  numbers_take t (Y.NumberThen first rest) = most_taken (number_takes t first) (numbers_take t rest)

  pub text_takes : Taken → Y.Text → Taken
  text_takes t (Y.TextConstant bytes) = t
  text_takes t (Y.TextIn r) = reference_takes t r
  text_takes t (Y.TextFrom c) = call_takes t c
  text_takes t (Y.TextOfNumber precision x) = number_takes t x
  text_takes t (Y.TextOfBit b) = bit_takes t b
  text_takes t (Y.Joined left right) = most_taken (text_takes t left) (text_takes t right)
  text_takes t (Y.SubstringFrom x start) = most_taken (text_takes t x) (number_takes t start)
  text_takes t (Y.Substring x start count) =
      most_taken (text_takes t x) (most_taken (number_takes t start) (number_takes (with_number t) count))

  pub bit_takes : Taken → Y.Bit → Taken
  bit_takes t (Y.BitConstant b) = t
  bit_takes t (Y.BitIn r) = reference_takes t r
  bit_takes t (Y.BitFrom c) = call_takes t c
  bit_takes t (Y.BitOfText x) = text_takes t x
  bit_takes t (Y.Negated x) = bit_takes t x
  bit_takes t (Y.Combined operator left right) = most_taken (bit_takes t left) (bit_takes (with_number t) right)
  bit_takes t (Y.NumbersCompared comparison left right) =
      most_taken (number_takes t left) (number_takes (with_number t) right)
  bit_takes t (Y.TextsCompared comparison left right) = most_taken (text_takes t left) (text_takes t right)
  bit_takes t (Y.BitsCompared comparison left right) = most_taken (bit_takes t left) (bit_takes (with_number t) right)
  bit_takes t (Y.PointersCompared equal left right) =
      most_taken (pointer_takes t left) (pointer_takes (with_words 4 t) right)
  bit_takes t (Y.OffsetsCompared equal left right) =
      most_taken (offset_takes t left) (offset_takes (with_number t) right)

  -- with the four words of the name
  pub pointer_takes : Taken → Y.Pointer → Taken
  pointer_takes t Y.NullPointer = with_words 4 t
  pointer_takes t (Y.PointerIn r) = most_taken (with_words 4 t) (reference_takes t r)
  pointer_takes t (Y.PointerFrom c) = most_taken (with_words 4 t) (call_takes t c)
  pointer_takes t (Y.AddressOf r) = most_taken (with_words 4 t) (reference_takes t r)
  pointer_takes t (Y.PointerInto x area) = most_taken (with_words 4 t) (offset_takes t x)

  pub offset_takes : Taken → Y.Offset → Taken
  offset_takes t Y.NullOffset = t
  offset_takes t (Y.OffsetIn r) = reference_takes t r
  offset_takes t (Y.OffsetFrom c) = call_takes t c
  offset_takes t (Y.OffsetInto x area) = pointer_takes t x

  pub reference_takes : Taken → Y.Reference → Taken
  reference_takes t (Y.Referring v locator part subscripts) =
      most_taken (locator_takes t locator) (subscripts_take (behind_locator v t) subscripts)

  pub locator_takes : Taken → Y.Locator → Taken
  locator_takes t Y.NotLocated = t
  locator_takes t (Y.LocatedBy p) = pointer_takes t p

  -- all of them wait
  pub subscripts_take : Taken → Y.Numbers → Taken
  subscripts_take t Y.NoNumber = t
  subscripts_take t (Y.NumberThen first rest) = most_taken (number_takes t first) (subscripts_take (with_number t) rest)

  -- behind the list of its arguments
  pub call_takes : Taken → Y.Call → Taken
  call_takes t (Y.Calling procedure level as') = arguments_take (with_words (list_words as') t) as'

  pub arguments_take : Taken → Y.Arguments → Taken
  arguments_take t Y.NoArgument = t
  arguments_take t (Y.ArgumentThen first rest) = most_taken (argument_takes t first) (arguments_take t rest)

  pub argument_takes : Taken → Y.Argument → Taken
  argument_takes t (Y.ByReference r) = reference_takes t r
  argument_takes t (Y.ByCopy type v) = stored_takes t v
  argument_takes t (Y.ByOffsetInParameter p parameter) = pointer_takes t p
  argument_takes t (Y.ByOffsetInAutomatic p) = pointer_takes t p

  pub stored_takes : Taken → Y.Stored → Taken
  stored_takes t (Y.StoredNumber precision x) = most_taken (with_number t) (number_takes t x)
  stored_takes t (Y.StoredText x) = text_takes t x
  stored_takes t (Y.StoredBit x) = bit_takes t x
  stored_takes t (Y.StoredPointer x) = pointer_takes t x
  stored_takes t (Y.StoredOffset x) = offset_takes t x
