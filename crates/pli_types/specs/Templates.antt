-- Signatures of which extents may be open: known only when the program runs. One without an open extent is a signature.
use Rattle.std.specs.Prelude.{ℕ, pos, List, map, Option, Some, None}
use Rattle.pli_typing.specs.Signatures.{LeafKind, Fixed, Character, Varying, Bit, Pointer, Offset, Area, Bounds, Leaf, Class, Signature}

-- the kinds of leaves; a length or capacity may be open
pub data OpenKind : Type 0 where
  OpenFixed : (precision : ℕ) → OpenKind
  OpenCharacter OpenVarying OpenArea : Option ℕ → OpenKind
  OpenBit OpenPointer OpenOffset : OpenKind

-- a leaf, with all its pairs of bounds, of which some may be open
pub record OpenLeaf : Type 0 where
  pub kind : OpenKind
  pub bounds : List (Option Bounds)

-- With REFER, the place of its member among the leaves. The extent that REFER tells is never open: it counts as a length, or an
-- upper bound, of 0.
pub record Template : Type 0 where
  pub class : Class
  pub refer : Option ℕ
  pub leaves : List OpenLeaf

-- a kind of which nothing is open
abbrev pub known : LeafKind → OpenKind
known (Fixed p) = OpenFixed p
known (Character n) = OpenCharacter (Some n)
known (Varying n) = OpenVarying (Some n)
known Bit = OpenBit
known Pointer = OpenPointer
known Offset = OpenOffset
known (Area n) = OpenArea (Some n)

-- ---- what is there so far: an open length or capacity counts as 0, open bounds as none that holds an element

abbrev pub amount_so_far : Option ℕ → ℕ
amount_so_far None = 0
amount_so_far (Some n) = n

abbrev pub kind_so_far : OpenKind → LeafKind
kind_so_far (OpenFixed p) = Fixed p
kind_so_far (OpenCharacter n) = Character (amount_so_far n)
kind_so_far (OpenVarying n) = Varying (amount_so_far n)
kind_so_far (OpenArea n) = Area (amount_so_far n)
kind_so_far OpenBit = Bit
kind_so_far OpenPointer = Pointer
kind_so_far OpenOffset = Offset

abbrev pub bounds_so_far : Option Bounds → Bounds
bounds_so_far None = record { lower = pos 1; upper = pos 0 }
bounds_so_far (Some b) = b

abbrev pub leaf_so_far : OpenLeaf → Leaf
leaf_so_far l = record { kind = kind_so_far l.kind; bounds = map bounds_so_far l.bounds }

abbrev pub so_far : Template → Signature
so_far t = record { class = t.class; leaves = map leaf_so_far t.leaves }
