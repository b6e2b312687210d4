-- The numbers of refusals.
use Rattle.std.specs.Prelude.{ℕ}
use Rattle.pli_language.specs.declared.fault.SourceKind.{SourceKind}
use Rattle.pli_language.specs.declared.fault.SourceKind.TheVariants as K

-- as they are told in front of a refusal's name
abbrev pub number_of : SourceKind → ℕ
number_of K.BadByte = 1
number_of K.UnclosedComment = 2
number_of K.UnclosedText = 3
number_of K.TooLong = 4
number_of K.Syntax = 5
number_of K.EndName = 6
number_of K.Undeclared = 7
number_of K.Ambiguous = 8
number_of K.DeclaredTwice = 9
number_of K.BadAttributes = 10
number_of K.LeftOut = 11
number_of K.TypeMismatch = 12
number_of K.BadExtent = 13
number_of K.BadLabel = 14
number_of K.BadArguments = 15
number_of K.NestedArea = 16
number_of K.BadRefer = 17
number_of K.NoMain = 18
number_of K.TooLarge = 19
number_of K.BadFormat = 20
number_of K.Memory = 99
