-- What a declared variable's generations are made of, where its extents have these values. (X3.53-1976, chapter 7.)
use Rattle.std.specs.Prelude.{ℕ, ℤ, pos, List, [], ◌∷◌, map, length, Option, Some, None, slice_get, ◌==◌, if◌then◌else◌, unwrap_or}
use Rattle.pli_typing.specs.Signatures.{LeafKind, Fixed, Character, Varying, Bit, Pointer, Offset, Bounds, Leaf, Class, PlainClass, ControlledClass, area_of_size, natural}
use Rattle.pli_language.specs.Tree.{InitialItem}
use Rattle.pli_typing.specs.TypedTree as Y
use Rattle.pli_meaning.specs.BasicValues.{BasicValue}
use Rattle.pli_meaning.specs.Unreachable.{unreachable_number}
use Rattle.pli_meaning.specs.Contents.{Shape, text_in}

-- an extent that is open in a signature counts as 0
abbrev pub amount_of : List ℤ → Y.Extent → ℤ
amount_of values (Y.ConstantExtent z) = z
amount_of values Y.StarExtent = pos 0
amount_of values Y.ReferExtent = pos 0
amount_of values (Y.EvaluatedExtent place) = unwrap_or (slice_get values place) unreachable_number

abbrev pub length_of : List ℤ → Y.Extent → ℕ
length_of values e = natural (amount_of values e)

abbrev pub kind_of : List ℤ → Y.LeafType → LeafKind
kind_of values (Y.FixedLeaf p) = Fixed p
kind_of values (Y.CharacterLeaf e) = Character (length_of values e)
kind_of values (Y.VaryingLeaf e) = Varying (length_of values e)
kind_of values Y.BitLeaf = Bit
kind_of values Y.PointerLeaf = Pointer
kind_of values (Y.OffsetLeaf area) = Offset
kind_of values (Y.AreaLeaf e) = area_of_size (length_of values e)

abbrev pub bounds_of : List ℤ → Y.Bounds → Bounds
bounds_of values b = record { lower = amount_of values b.lower; upper = amount_of values b.upper }

abbrev pub leaf_of : List ℤ → Y.Leaf → Leaf
leaf_of values l = record { kind = kind_of values l.type; bounds = map (bounds_of values) l.bounds }

abbrev pub class_of : Y.StorageClass → Class
class_of Y.ControlledClass = ControlledClass
class_of _ = PlainClass

abbrev pub member_of : Option Y.ReferMember → Option ℕ
member_of None = None
member_of (Some r) = Some r.member

abbrev pub shape_of : List ℤ → Y.DeclaredVariable → Shape
shape_of values d =
    record {
      signature = record { class = class_of d.class; leaves = map (leaf_of values) d.leaves };
      refer = member_of d.refer;
    }

abbrev pub initial_of : Y.DeclaredVariable → List (List InitialItem)
initial_of d = map (λ l. l.initial) d.leaves

-- the kind of an argument's copy: a length that isn't said is the value's
abbrev pub copied_kind : Y.LeafType → BasicValue → LeafKind
copied_kind (Y.CharacterLeaf Y.StarExtent) v = Character (length (text_in v))
copied_kind (Y.VaryingLeaf Y.StarExtent) v = Varying (length (text_in v))
copied_kind t v = kind_of [] t

-- ---- in the program

abbrev pub variables_of_block : Y.Program → ℕ → List Y.DeclaredVariable
variables_of_block program block = unwrap_or (slice_get program.variables block) []

abbrev pub declared_variable : Y.Program → Y.Variable → Option Y.DeclaredVariable
declared_variable program v = slice_get (variables_of_block program v.block) v.index

abbrev pub head_of : Y.Block → Y.BlockHead
head_of (Y.BlockOf head body) = head

-- the procedure whose block has a number
abbrev pub procedure_numbered : ℕ → List Y.Procedure → Option Y.Procedure
procedure_numbered number [] = None
procedure_numbered number (p ∷ ps) = if (head_of p.block).number == number then Some p else procedure_numbered number ps
