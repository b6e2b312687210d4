-- A generation that is to be placed, as code holds it.
use Rattle.std.specs.Prelude.{◌≡◌, ℕ, ◌+◌, ◌*◌, ◌≤◌, ◌&&◌, ℤ, int_le, Bool, List, [], ◌∷◌, Option, Some, None, slice_get, ⊤}
use Rattle.pli_typing.specs.Signatures.{Leaf, capped, data_size, element_count}
use Rattle.pli_meaning.specs.Contents.{Generation, signature_of}
use Rattle.pli_meaning.specs.Making.{is_length}
use Rattle.pli_serving.specs.AreaServices.{leaf_keeps}
use Rattle.pli_serving.specs.Values.{generation_bytes}
use Rattle.pli_values.specs.Sizes.{written_size}
use Rattle.area_keeper.specs.KeeperLaws.{greatest_capacity}
use Rattle.pli_allocation.specs.Referring.{first_lower, last_of}
use Rattle.pli_allocation.specs.declared.beginning.Beginning.{Beginning}

-- its bytes are told where they are no more than an area holds
pub record IsBegun (b : Beginning) (g : Generation) : Type 0 where
  pub size : b.size ≡ capped (data_size (signature_of g))
  pub extent : b.extent ≡ g.extent
  pub bytes : b.size ≤ greatest_capacity → b.bytes.items ≡ generation_bytes g

-- there is one to be placed, or none can be
abbrev pub Begins : Option Beginning → Option Generation → Type 0
Begins None None = ⊤
Begins (Some b) (Some g) = IsBegun b g
Begins _ _ = ⊥

-- ---- whether a REFER extent fits, by the first lower bound of the last leaf

abbrev pub takes_by : ℤ → Option ℤ → Bool
takes_by z None = is_length z
takes_by z (Some lower) = int_le lower z

abbrev pub fits_by : ℤ → List Leaf → (member : ℕ) → Bool
fits_by z leaves member = leaf_keeps z (slice_get leaves member) && takes_by z (first_lower (last_of leaves).bounds)

-- ---- the bytes that are written of leaves

abbrev pub written_leaf : Leaf → ℕ
written_leaf l = written_size l.kind * element_count l.bounds

abbrev pub written_leaves : List Leaf → ℕ
written_leaves [] = 0
written_leaves (l ∷ ls) = written_leaf l + written_leaves ls
