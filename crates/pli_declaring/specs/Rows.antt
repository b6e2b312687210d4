-- The places of attributes in the list of all attributes.
use Rattle.std.specs.Prelude.{ℕ}
use Rattle.pli_declaring.specs.declared.attribute.Row.{Row}
use Rattle.pli_declaring.specs.declared.attribute.Row.TheVariants as R

abbrev pub number_of_row : Row → ℕ
number_of_row R.Fixed = 0
number_of_row R.Binary = 1
number_of_row R.Character = 2
number_of_row R.Varying = 3
number_of_row R.Bit = 4
number_of_row R.Pointer = 5
number_of_row R.Offset = 6
number_of_row R.Area = 7
number_of_row R.Automatic = 8
number_of_row R.Static = 9
number_of_row R.Controlled = 10
number_of_row R.Based = 11
number_of_row R.Initial = 12
number_of_row R.Builtin = 13
number_of_row R.Aligned = 14
number_of_row R.Unaligned = 15
number_of_row R.Internal = 16
