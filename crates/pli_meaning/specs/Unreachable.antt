-- What is given where no typed program comes, or where nothing looks at it: an element holds a value of its leaf's kind, a
-- typed tree names only leaves, extents and blocks that there are, and a block runs only below the one that declares it. That
-- none of these is reached isn't proved yet.
use Rattle.std.specs.Prelude.{ℕ, ℤ, pos, List, [], Bool, false, Option, None}
use Rattle.pli_typing.specs.Signatures.{Bit, Leaf}
use Rattle.pli_meaning.specs.BasicValues.{Name, NullName, BasicValue, BasicNumber}

abbrev pub unreachable_number : ℤ
unreachable_number = pos 0

abbrev pub unreachable_text : List ℕ
unreachable_text = []

abbrev pub unreachable_bit : Bool
unreachable_bit = false

abbrev pub unreachable_name : Name
unreachable_name = NullName

abbrev pub unreachable_offset : Option ℕ
unreachable_offset = None

abbrev pub unreachable_value : BasicValue
unreachable_value = BasicNumber unreachable_number

abbrev pub unreachable_leaf : Leaf
unreachable_leaf = record { kind = Bit; bounds = [] }

abbrev pub unreachable_height : ℕ
unreachable_height = 0
