-- Parts of what the built-in functions are judged by.
use Rattle.std.specs.Prelude.{Bool, not, ◌&&◌, List, [], ◌∷◌}
use Rattle.pli_typing.specs.Judging.{Judged, fine, ◌>>=◌}
use Rattle.pli_typing.specs.TypedTree as Y
use Rattle.pli_typing.specs.Converting.{Designated, Operand, is_area, number_operand, operand_value, variable_of, wanted}
use Rattle.pli_typing.specs.Builtins.{has_name, number_list, own_offset}

-- numbers in their order before a list
unfoldable pub numbers_onto : List Y.Number → Y.Numbers → Y.Numbers
numbers_onto [] rest = rest
numbers_onto (n ∷ ns) rest = Y.NumberThen n (numbers_onto ns rest)

-- MAX or MIN of a number and others
abbrev pub extreme_of : Y.Extremum → Operand → List Operand → Judged Y.Number
extreme_of which x xs = do
  a ← number_operand x
  as' ← number_list xs
  fine (Y.Extreme which a as')

-- a generation that has an address
abbrev pub is_addressed : Designated → Bool
is_addressed d = d.is_whole && has_name (variable_of d.reference).class && not (is_area d)

-- an operand that is an OFFSET or NULL
abbrev pub offset_operand : Operand → Judged Y.Offset
offset_operand o = do
  v ← operand_value o
  wanted own_offset Y.NullOffset o.place v
