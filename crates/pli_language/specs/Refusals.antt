-- Refusals: where a rule is broken, and which one. A phase has a list of all that its rules break; what refuses it is the
-- least of them, by line, then column, then number.
use Rattle.std.specs.Prelude.{◌≡◌, ℕ, ◌<◌, Bool, List, [], ◌∷◌, Option, Some, None, if◌then◌else◌, ◌==◌, nat_lt, MatchOption, Contains}
use Rattle.pli_language.specs.declared.expr.Place.{Place}
use Rattle.pli_language.specs.declared.fault.SourceFault.{SourceFault}
use Rattle.pli_language.specs.declared.fault.SourceKind.{SourceKind}
use Rattle.pli_language.specs.declared.fault.SourceKind.TheVariants.{BadByte, UnclosedComment, UnclosedText, TooLong, Syntax, EndName, Undeclared, Ambiguous, DeclaredTwice, BadAttributes, LeftOut, TypeMismatch, BadExtent, BadLabel, BadArguments, NestedArea, BadRefer, NoMain, TooLarge, BadFormat, Memory}

-- a rule that is broken at a place
abbrev pub fault : Place → SourceKind → SourceFault
fault place kind = record { line = place.line; column = place.column; kind = kind }

-- want of memory, which no rule is
abbrev pub want_of_memory : SourceFault
want_of_memory = record { line = 0; column = 0; kind = Memory }

-- the number of a refusal
abbrev pub number_of : SourceKind → ℕ
number_of BadByte = 1
number_of UnclosedComment = 2
number_of UnclosedText = 3
number_of TooLong = 4
number_of Syntax = 5
number_of EndName = 6
number_of Undeclared = 7
number_of Ambiguous = 8
number_of DeclaredTwice = 9
number_of BadAttributes = 10
number_of LeftOut = 11
number_of TypeMismatch = 12
number_of BadExtent = 13
number_of BadLabel = 14
number_of BadArguments = 15
number_of NestedArea = 16
number_of BadRefer = 17
number_of NoMain = 18
number_of TooLarge = 19
number_of BadFormat = 20
number_of Memory = 99

-- f stands before g: on an earlier line, or there in an earlier column, or there with a smaller number
pub data IsBefore (f g : SourceFault) : Type 0 where
  earlier_line : f.line < g.line → IsBefore f g
  earlier_column : f.line ≡ g.line → f.column < g.column → IsBefore f g
  smaller_number : f.line ≡ g.line → f.column ≡ g.column → number_of f.kind < number_of g.kind → IsBefore f g

-- f is one of these, and none of them stands before it
pub record IsLeast (faults : List SourceFault) (f : SourceFault) : Type 0 where
  pub among : Contains faults f
  pub first : (g : SourceFault) → Contains faults g → IsBefore g f → ⊥

-- the same as a test
unfoldable pub is_before : SourceFault → SourceFault → Bool
is_before f g =
    if f.line == g.line
    then (if f.column == g.column then nat_lt (number_of f.kind) (number_of g.kind) else nat_lt f.column g.column)
    else nat_lt f.line g.line

-- the one of two that stands first
unfoldable pub sooner : Option SourceFault → SourceFault → Option SourceFault
sooner None g = Some g
sooner (Some f) g = if is_before g f then Some g else Some f

-- the first of one that was found and of these
unfoldable pub soonest : Option SourceFault → List SourceFault → Option SourceFault
soonest found [] = found
soonest found (f ∷ fs) = soonest (sooner found f) fs

-- the least of these, where there is one
abbrev pub least : List SourceFault → Option SourceFault
least faults = soonest None faults

-- the least of a list is its least, and a list without one is empty
abbrev pub LeastFound : Type 0
LeastFound = (faults : List SourceFault) → MatchOption (least faults) (faults ≡ []) (IsLeast faults)
