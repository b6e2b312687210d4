-- The definitions' layouts, names, values and INITIAL items, as the values of this crate show them.
use Rattle.pli_meaning.specs.BasicValues as B
use Rattle.pli_language.specs.Tree as T
use Rattle.pli_serving.specs.Bytes as D
use Rattle.pli_values.specs.declared.element.Value.{Value}
use Rattle.pli_values.specs.declared.element.Value.TheVariants as V
use Rattle.pli_values.specs.declared.initial.Initial.{Initial}
use Rattle.pli_values.specs.declared.initial.Initial.TheVariants as I
use Rattle.pli_values.specs.declared.initial.Item.{Item}
use Rattle.pli_values.specs.declared.layout.Layout.{Layout}
use Rattle.pli_values.specs.declared.name.Name.{Name}
use Rattle.pli_values.specs.declared.name.Name.TheVariants.{Null, Variable, Based}

abbrev pub layout_of : Layout → D.Layout
layout_of l = record { code_bytes = l.code_bytes; heap_at = l.heap_at; heap_capacity = l.heap_capacity; end = l.end }

abbrev pub name_of : Name → B.Name
name_of Null = B.NullName
name_of (Variable serial) = B.VariableName serial
name_of (Based area offset) = B.BasedName area offset

abbrev pub value_of : Value → B.BasicValue
value_of (V.Number z) = B.BasicNumber z
value_of (V.Text t) = B.BasicText t.now
value_of (V.Bit b) = B.BasicBit b
value_of (V.Pointer n) = B.BasicPointer (name_of n)
value_of (V.Offset o) = B.BasicOffset o

abbrev pub initial_of : Initial → T.InitialValue
initial_of I.Skip = T.InitialSkip
initial_of (I.Number z) = T.InitialNumber z
initial_of (I.Bit b) = T.InitialBit b
initial_of (I.Text t) = T.InitialText t.now
initial_of I.Null = T.InitialNull

abbrev pub item_of : Item → T.InitialItem
item_of i = record { repetition = i.repetition; value = initial_of i.value }
