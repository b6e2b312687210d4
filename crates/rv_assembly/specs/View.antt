-- The definitions' items, symbols and data, as the values of this crate show them.
use Rattle.std.specs.Prelude.{map}
use Rattle.pli_coding.specs.Assembly as A
use Rattle.rv_assembly.specs.declared.item.InitialLeaf.{InitialLeaf}
use Rattle.rv_assembly.specs.declared.item.Datum.{Datum}
use Rattle.rv_assembly.specs.declared.item.Datum.TheVariants as D
use Rattle.rv_assembly.specs.declared.item.Symbol.{Symbol}
use Rattle.rv_assembly.specs.declared.item.Symbol.TheVariants as S
use Rattle.rv_assembly.specs.declared.item.Item.{Item}
use Rattle.rv_assembly.specs.declared.item.Item.TheVariants as I

abbrev pub leaf_of : InitialLeaf → A.InitialLeaf
leaf_of l = record { leaf = l.leaf; values = l.values.items }

abbrev pub datum_of : Datum → A.Datum
datum_of (D.ConstantBytes bytes) = A.ConstantBytes bytes.items
datum_of (D.InitialValues leaves) = A.InitialValues (map leaf_of leaves.items)
datum_of (D.NumberWord block index) = A.NumberWord block index
datum_of (D.StaticStorage block index bytes) = A.StaticStorage block index bytes

abbrev pub symbol_of : Symbol → A.Symbol
symbol_of (S.ProcedureEntry block) = A.ProcedureEntry block
symbol_of (S.ReturnPlace block) = A.ReturnPlace block
symbol_of (S.LabelPlace block letters) = A.LabelPlace block letters.items
symbol_of S.RaiseCondition = A.RaiseCondition
symbol_of S.RaiseError = A.RaiseError
symbol_of S.ErrorEnd = A.ErrorEnd
symbol_of (S.ExtentRoutine block index) = A.ExtentRoutine block index
symbol_of (S.DataPlace d) = A.DataPlace (datum_of d)

abbrev pub item_of : Item → A.Item
item_of (I.Plain i) = A.Plain i
item_of (I.BaseIn r) = A.BaseIn r
item_of (I.OffsetOf r s) = A.OffsetOf r (symbol_of s)
item_of (I.OffsetAhead r words) = A.OffsetAhead r words
item_of (I.JumpTo s) = A.JumpTo (symbol_of s)
item_of (I.CallTo s) = A.CallTo (symbol_of s)
item_of (I.JumpAhead words) = A.JumpAhead words
item_of (I.JumpBack words) = A.JumpBack words
item_of (I.Mark s) = A.Mark (symbol_of s)
