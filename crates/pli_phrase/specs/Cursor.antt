-- Where a reader stands, and what it gives.
use Rattle.std.specs.Prelude.{List, Result, Ok, Err}
use Rattle.pli_language.specs.declared.token.Token.{Token}
use Rattle.pli_language.specs.Marks.{Marks}

-- the tokens that are left, and what the limits say of those before
pub record Cursor : Type 0 where
  pub tokens : List Token
  pub marks : Marks

-- no such phrase goes on with the next token, or the tokens end inside it, or a left-out word stands at the first token of the cursor
pub data Missed : Type 0 where
  Stuck Ended : Missed
  LeavesOut : Cursor → Missed

abbrev pub Read : Type 0 → Type 0
Read X = Result (X × Cursor) Missed

infixl 10 ◌>>=◌
abbrev pub ◌>>=◌ : {A B : Type 0} → Result A Missed → (A → Result B Missed) → Result B Missed
(Ok x) >>= f = f x
(Err e) >>= f = Err e

-- the same marks behind further tokens
abbrev pub onto : List Token → Cursor → Cursor
onto ts c = record { tokens = ts; marks = c.marks }
