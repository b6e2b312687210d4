-- The signatures of a program's variables, each once: the table of its image. Equal signatures have one number.
use Rattle.std.specs.Prelude.{ℕ, suc, Bool, true, ◌&&◌, ◌==◌, nat_le, List, [], ◌∷◌, map, Option, Some, None}
use Rattle.std.specs.Prelude.{if◌then◌else◌}
use Rattle.std.specs.List.{flat_map, list_any}
use Rattle.rv_meaning.specs.declared.image.TableKind.{TableKind}
use Rattle.rv_meaning.specs.declared.image.TableKind.TheVariants as K
use Rattle.rv_meaning.specs.Words.{word}
use Rattle.rv_meaning.specs.Tables.{Pair, TableLeaf, TableSignature, run_time_size, is_run_time, signature_words}
use Rattle.pli_language.specs.Keywords.{same_bytes}
use Rattle.pli_typing.specs.Signatures.{natural}
use Rattle.pli_typing.specs.TypedTree as Y
use Rattle.pli_coding.specs.Frames.{greatest_area, capacity_of}

-- ---- one signature

-- bounds of which one isn't constant are known only when the program runs
abbrev pub pair_of : Y.Bounds → Pair
pair_of b = pair_between b.lower b.upper
  where
    pair_between : (lower upper : Y.Extent) → Pair
    pair_between (Y.ConstantExtent l) (Y.ConstantExtent u) = record { lower = word l; upper = word u }
    pair_between _ _ = record { lower = 1; upper = 0 }

abbrev pub length_size : Y.Extent → ℕ
length_size (Y.ConstantExtent z) = natural z
length_size _ = run_time_size

abbrev pub capacity_size : Y.Extent → ℕ
capacity_size (Y.ConstantExtent z) =
    if nat_le (capacity_of z) greatest_area then capacity_of z else run_time_size
capacity_size _ = run_time_size

abbrev pub leaf_with : List Y.Bounds → TableKind → (size : ℕ) → TableLeaf
leaf_with bounds kind size = record { kind = kind; size = size; pairs = map pair_of bounds }

abbrev pub leaf_of_type : List Y.Bounds → Y.LeafType → TableLeaf
leaf_of_type bounds (Y.FixedLeaf precision) = leaf_with bounds K.Fixed precision
leaf_of_type bounds (Y.CharacterLeaf e) = leaf_with bounds K.Character (length_size e)
leaf_of_type bounds (Y.VaryingLeaf e) = leaf_with bounds K.Varying (length_size e)
leaf_of_type bounds Y.BitLeaf = leaf_with bounds K.Bit 0
leaf_of_type bounds Y.PointerLeaf = leaf_with bounds K.Pointer 0
leaf_of_type bounds (Y.OffsetLeaf area) = leaf_with bounds K.Offset 0
leaf_of_type bounds (Y.AreaLeaf e) = leaf_with bounds K.Area (capacity_size e)

abbrev pub table_leaf : Y.Leaf → TableLeaf
table_leaf l = leaf_of_type l.bounds l.type

abbrev pub class_number : Y.StorageClass → ℕ
class_number Y.ControlledClass = 1
class_number _ = 0

abbrev pub refer_number : Option Y.ReferMember → ℕ
refer_number None = 0
refer_number (Some r) = suc r.member

abbrev pub signature_of : Y.DeclaredVariable → TableSignature
signature_of d =
    record { class = class_number d.class; refer = refer_number d.refer; leaves = map table_leaf d.leaves }

-- whether an extent is filled in when the program runs; that of REFER is none
abbrev pub is_open_pair : Pair → Bool
is_open_pair p = is_run_time p.lower p.upper

abbrev pub is_open_leaf : TableLeaf → Bool
is_open_leaf l = if l.size == run_time_size then true else list_any is_open_pair l.pairs

abbrev pub is_open : TableSignature → Bool
is_open g = (g.refer == 0) && list_any is_open_leaf g.leaves

-- ---- the table

abbrev pub same_signature : TableSignature → TableSignature → Bool
same_signature a b = same_bytes (signature_words a) (signature_words b)

abbrev pub with_signature : TableSignature → List TableSignature → List TableSignature
with_signature g [] = g ∷ []
with_signature g (h ∷ hs) = if same_signature g h then h ∷ hs else h ∷ with_signature g hs

abbrev pub with_signatures : List Y.DeclaredVariable → List TableSignature → List TableSignature
with_signatures [] table = table
with_signatures (d ∷ ds) table = with_signatures ds (with_signature (signature_of d) table)

-- in the order in which they are first declared
abbrev pub table_of : Y.Program → List TableSignature
table_of program = with_signatures (flat_map (λ ds. ds) program.variables) []

abbrev pub number_in_table : TableSignature → List TableSignature → ℕ
number_in_table g [] = 0
number_in_table g (h ∷ hs) = if same_signature g h then 0 else suc (number_in_table g hs)
