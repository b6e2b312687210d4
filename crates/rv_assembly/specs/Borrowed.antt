-- The definitions' data, as borrowed data shows it, and data by its sort.
use Rattle.std.specs.Prelude.{Bool, List, [], map}
use Rattle.pli_coding.specs.Assembly as A
use Rattle.pli_coding.specs.StaticData.{is_initial, is_constant, is_word, is_storage, data_of_symbol}
use Rattle.rv_assembly.specs.declared.statics.DatumRef.{DatumRef}
use Rattle.rv_assembly.specs.declared.statics.DatumRef.TheVariants as D
use Rattle.rv_assembly.specs.declared.statics.Sort.{Sort}
use Rattle.rv_assembly.specs.declared.statics.Sort.TheVariants as S
use Rattle.rv_assembly.specs.View.{leaf_of}

abbrev pub datum : DatumRef → A.Datum
datum (D.ConstantBytes bytes) = A.ConstantBytes bytes.now
datum (D.InitialValues leaves) = A.InitialValues (map leaf_of leaves.now)
datum (D.NumberWord block index) = A.NumberWord block index
datum (D.StaticStorage block index bytes) = A.StaticStorage block index bytes

abbrev pub is_sort : Sort → A.Datum → Bool
is_sort S.Constant d = is_constant d
is_sort S.Initial d = is_initial d
is_sort S.Word d = is_word d
is_sort S.Storage d = is_storage d

abbrev pub values_datum : A.InitialLeaf → A.Datum
values_datum l = A.ConstantBytes l.values

-- the data that an item names
abbrev pub data_at : A.Item → List A.Datum
data_at (A.OffsetOf r s) = data_of_symbol s
data_at (A.Plain i) = []
data_at (A.BaseIn r) = []
data_at (A.OffsetAhead r words) = []
data_at (A.JumpTo s) = []
data_at (A.CallTo s) = []
data_at (A.JumpAhead words) = []
data_at (A.JumpBack words) = []
data_at (A.Mark s) = []
