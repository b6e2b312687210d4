-- Areas by the capacity of their signature.
use Rattle.std.proofs.Common.{◌≡◌, ℕ, List, [], ◌∷◌, refl, Option, Some, None}
use Rattle.std.specs.Prelude.{option_map}
use Rattle.pli_typing.specs.Signatures.{LeafKind, Fixed, Character, Varying, Bit, Pointer, Offset, Area, Leaf}
use Rattle.pli_meaning.specs.Contents.{Shape}
use Rattle.pli_serving.specs.Finding.{Call, area_bytes, area_of_kind, area_of_leaves, area_of_shape}
use Rattle.pli_serving.specs.Arguments.{capacity_of_kind, capacity_of_leaves}
use Rattle.pli_signatures.specs.Whole.{capacity_in}

of_kind : (c : Call) (kind : LeafKind) (at : ℕ) → area_of_kind c kind at ≡ option_map (λ capacity. area_bytes c capacity at) (capacity_of_kind kind)
of_kind c (Fixed p) at = refl
of_kind c (Character n) at = refl
of_kind c (Varying n) at = refl
of_kind c Bit at = refl
of_kind c Pointer at = refl
of_kind c Offset at = refl
of_kind c (Area n) at = refl

of_leaves : (c : Call) (leaves : List Leaf) (at : ℕ) → area_of_leaves c leaves at ≡ option_map (λ capacity. area_bytes c capacity at) (capacity_of_leaves leaves)
of_leaves c [] at = refl
of_leaves c (l ∷ []) at = of_kind c l.kind at
of_leaves c (l ∷ m ∷ ls) at = refl

pub area_of_capacity : (c : Call) (s : Option Shape) (at : ℕ) → area_of_shape c s at ≡ option_map (λ capacity. area_bytes c capacity at) (capacity_in s)
area_of_capacity c None at = refl
area_of_capacity c (Some s) at = of_leaves c s.signature.leaves at
