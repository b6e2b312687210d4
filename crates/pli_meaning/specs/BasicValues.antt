-- What a locator can name, and the values of elements. (X3.53-1976, chapter 5, basic values, and chapter 7.)
use Rattle.std.specs.Prelude.{ℕ, ℤ, List, Bool, Option}

-- what a locator can name: nothing, a variable's generation by its serial, or a generation by its offset in an area
pub data Name : Type 0 where
  NullName : Name
  VariableName : (serial : ℕ) → Name
  BasedName : (area offset : ℕ) → Name

-- the value of an element; the null OFFSET is a value of its own. A CHARACTER element whose length a REFER member tells has the
-- text of its allocated length: what lies behind the length in force is a hidden tail, which is there again when the member
-- tells more.
pub data BasicValue : Type 0 where
  BasicNumber : ℤ → BasicValue
  BasicText : List ℕ → BasicValue
  BasicBit : Bool → BasicValue
  BasicPointer : Name → BasicValue
  BasicOffset : Option ℕ → BasicValue
