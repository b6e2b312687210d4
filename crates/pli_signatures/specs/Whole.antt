-- Signatures of which no extent is open: whether one is, and its leaves with the REFER extent in force.
use Rattle.std.specs.Prelude.{ℕ, ◌+◌, ℤ, Bool, true, ◌&&◌, ◌==◌, nat_lt, List, [], ◌∷◌, length, Option, Some, None, is_some, slice_get, if◌then◌else◌}
use Rattle.pli_typing.specs.Signatures.{Bounds, Leaf, capped, data_size}
use Rattle.pli_types.specs.Templates.{OpenKind, OpenFixed, OpenCharacter, OpenVarying, OpenArea, OpenBit, OpenPointer, OpenOffset, OpenLeaf, Template, so_far}
use Rattle.pli_meaning.specs.Contents.{Shape, leaf_refers, leaves_with, signature_of, footprint_of, fresh}
use Rattle.pli_serving.specs.Arguments.{capacity_of}
use Rattle.pli_serving.specs.Values.{leaf_place}

abbrev pub is_known_kind : OpenKind → Bool
is_known_kind (OpenCharacter n) = is_some n
is_known_kind (OpenVarying n) = is_some n
is_known_kind (OpenArea n) = is_some n
is_known_kind (OpenFixed p) = true
is_known_kind OpenBit = true
is_known_kind OpenPointer = true
is_known_kind OpenOffset = true

abbrev pub are_known : List (Option Bounds) → Bool
are_known [] = true
are_known (b ∷ bs) = is_some b && are_known bs

abbrev pub is_known_leaf : OpenLeaf → Bool
is_known_leaf l = is_known_kind l.kind && are_known l.bounds

abbrev pub are_known_leaves : List OpenLeaf → Bool
are_known_leaves [] = true
are_known_leaves (l ∷ ls) = is_known_leaf l && are_known_leaves ls

abbrev pub is_known : Template → Bool
is_known t = are_known_leaves t.leaves

-- what a template comes to where it is whole
abbrev pub shape_so_far : Template → Shape
shape_so_far t = record { signature = so_far t; refer = t.refer }

-- a leaf with the REFER extent that is told of it, if one is
abbrev pub leaf_told : Option ℤ → Leaf → Leaf
leaf_told None l = l
leaf_told (Some z) l = leaf_refers z l.kind l.bounds

-- the extent is told of the last leaf of so many
abbrev pub extent_told : (has_refer : Bool) → (leaf count : ℕ) → ℤ → Option ℤ
extent_told r leaf count z = if r && leaf + 1 == count then Some z else None

-- ---- by the number of a signature: none where that isn't whole

abbrev pub leaf_in : Option Shape → (leaf : ℕ) → (extent : ℤ) → Option Leaf
leaf_in None leaf z = None
leaf_in (Some s) leaf z = slice_get (leaves_with z s) leaf

-- where a leaf begins in the data, capped
abbrev pub place_in : Option Shape → (leaf : ℕ) → (extent : ℤ) → Option ℕ
place_in None leaf z = None
place_in (Some s) leaf z = if nat_lt leaf (length s.signature.leaves) then Some (capped (leaf_place (leaves_with z s) leaf)) else None

-- the data size as the signature has it, capped
abbrev pub size_in : Option Shape → Option ℕ
size_in None = None
size_in (Some s) = Some (capped (data_size s.signature))

-- the capacity of an area's signature
abbrev pub capacity_in : Option Shape → Option ℕ
capacity_in None = None
capacity_in (Some s) = capacity_of s

-- the data size with the REFER extent in force, capped
abbrev pub size_told : Option Shape → (extent : ℤ) → Option ℕ
size_told None z = None
size_told (Some s) z = Some (capped (data_size (signature_of (fresh s z []))))

-- the bytes that a generation with this REFER extent takes in an area, capped
abbrev pub footprint_told : Option Shape → (extent : ℤ) → Option ℕ
footprint_told None z = None
footprint_told (Some s) z = Some (capped (footprint_of (fresh s z [])))

-- bounds with this upper bound in the first dimension
abbrev pub bounds_told : ℤ → List Bounds → List Bounds
bounds_told z [] = []
bounds_told z (b ∷ bs) = record { lower = b.lower; upper = z } ∷ bs
