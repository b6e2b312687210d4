-- Signatures by number: those of the image's table, and those that the run fills in. One with an open extent is a template.
use Rattle.std.specs.Prelude.{ℕ, zero, suc, Bool, false, not, ◌&&◌, ◌==◌, List, [], ◌∷◌, map, Option, Some, None, is_some, slice_get, if◌then◌else◌}
use Rattle.rv_meaning.specs.declared.image.TableKind.{TableKind}
use Rattle.rv_meaning.specs.declared.image.TableKind.TheVariants as K
use Rattle.rv_meaning.specs.Words.{signed}
use Rattle.rv_meaning.specs.Tables as T
use Rattle.pli_typing.specs.Signatures.{LeafKind, Fixed, Character, Varying, Bit, Pointer, Offset, Area, Bounds, Leaf, Class, PlainClass, ControlledClass}
use Rattle.pli_types.specs.Templates.{OpenKind, OpenFixed, OpenCharacter, OpenVarying, OpenArea, OpenBit, OpenPointer, OpenOffset, OpenLeaf, Template}
use Rattle.pli_meaning.specs.Contents.{Shape}

-- ---- the image's table

abbrev pub class_of : ℕ → Class
class_of class = if class == 0 then PlainClass else ControlledClass

abbrev pub refer_of : ℕ → Option ℕ
refer_of zero = None
refer_of (suc member) = Some member

-- a size that is known only when the program runs is open, or, where REFER tells it, 0
abbrev pub size_of : (is_referred : Bool) → ℕ → Option ℕ
size_of is_referred n = if n == T.run_time_size then (if is_referred then Some 0 else None) else Some n

abbrev pub kind_of : (is_referred : Bool) → TableKind → ℕ → OpenKind
kind_of r K.Fixed n = OpenFixed n
kind_of r K.Character n = OpenCharacter (size_of r n)
kind_of r K.Varying n = OpenVarying (size_of r n)
kind_of r K.Bit n = OpenBit
kind_of r K.Pointer n = OpenPointer
kind_of r K.Offset n = OpenOffset
kind_of r K.Area n = OpenArea (size_of r n)

-- bounds that are known only when the program runs are open, or, where REFER tells the upper one, from 1 to 0
abbrev pub pair_of : (is_referred : Bool) → T.Pair → Option Bounds
pair_of r p =
    if T.is_run_time p.lower p.upper && not r then None
    else Some (record { lower = signed p.lower; upper = signed p.upper })

abbrev pub leaf_of : (is_referred : Bool) → T.TableLeaf → OpenLeaf
leaf_of r l = record { kind = kind_of r l.kind l.size; bounds = map (pair_of r) l.pairs }

-- REFER tells an extent of the last leaf
abbrev pub leaves_of : (has_refer : Bool) → List T.TableLeaf → List OpenLeaf
leaves_of r [] = []
leaves_of r (l ∷ []) = leaf_of r l ∷ []
leaves_of r (l ∷ m ∷ ls) = leaf_of false l ∷ leaves_of r (m ∷ ls)

abbrev pub template_of : T.TableSignature → Template
template_of g =
    record {
      class = class_of g.class;
      refer = refer_of g.refer;
      leaves = leaves_of (is_some (refer_of g.refer)) g.leaves;
    }

-- ---- what a template comes to once nothing is open

abbrev pub whole_kind : OpenKind → Option LeafKind
whole_kind (OpenFixed p) = Some (Fixed p)
whole_kind (OpenCharacter None) = None
whole_kind (OpenCharacter (Some n)) = Some (Character n)
whole_kind (OpenVarying None) = None
whole_kind (OpenVarying (Some n)) = Some (Varying n)
whole_kind OpenBit = Some Bit
whole_kind OpenPointer = Some Pointer
whole_kind OpenOffset = Some Offset
whole_kind (OpenArea None) = None
whole_kind (OpenArea (Some n)) = Some (Area n)

abbrev pub put_before : {A : Type 0} → Option A → Option (List A) → Option (List A)
put_before (Some a) (Some as') = Some (a ∷ as')
put_before _ _ = None

abbrev pub whole_bounds : List (Option Bounds) → Option (List Bounds)
whole_bounds [] = Some []
whole_bounds (b ∷ bs) = put_before b (whole_bounds bs)

abbrev pub leaf_with : Option LeafKind → Option (List Bounds) → Option Leaf
leaf_with (Some kind) (Some bounds) = Some (record { kind = kind; bounds = bounds })
leaf_with _ _ = None

abbrev pub whole_leaves : List OpenLeaf → Option (List Leaf)
whole_leaves [] = Some []
whole_leaves (l ∷ ls) = put_before (leaf_with (whole_kind l.kind) (whole_bounds l.bounds)) (whole_leaves ls)

abbrev pub shape_with : Class → Option ℕ → Option (List Leaf) → Option Shape
shape_with class refer None = None
shape_with class refer (Some leaves) = Some (record { signature = record { class = class; leaves = leaves }; refer = refer })

-- none where an extent is open
abbrev pub shape_of : Template → Option Shape
shape_of t = shape_with t.class t.refer (whole_leaves t.leaves)

abbrev pub shape_in : Option Template → Option Shape
shape_in None = None
shape_in (Some t) = shape_of t

-- the signature of a number, none where no signature has it or an extent of it is open
abbrev pub shape_at : List Template → ℕ → Option Shape
shape_at templates number = shape_in (slice_get templates number)
