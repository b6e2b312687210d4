-- The units of blocks that are entered: a list of the blocks, newest first, each with its own entries.
use Rattle.std.specs.Prelude.{◌≡◌, ◌<◌, ℕ, List, [], ◌∷◌, length, map, reverse, remove, slice_get, option_map, Option, Some, None, Vec}
use Rattle.pli_language.specs.declared.condition.Condition.{Condition}
use Rattle.pli_meaning.specs.StorageState.{unit_for, without_unit, first_unit}

module _ {U : Type 0} where
  -- ON: the newest block's own entry, replaced
  abbrev pub established : Condition → U → List (List (Condition × U)) → List (List (Condition × U))
  established c u [] = []
  established c u (b ∷ bs) = ((c, u) ∷ without_unit c b) ∷ bs

  -- REVERT: the newest block has none
  abbrev pub reverted : Condition → List (List (Condition × U)) → List (List (Condition × U))
  reverted c [] = []
  reverted c (b ∷ bs) = without_unit c b ∷ bs

  -- the newest block with an entry for the condition, by its depth, and its unit: dynamic order, whatever the blocks' nesting
  abbrev pub in_force : List (List (Condition × U)) → Condition → Option (ℕ × U)
  in_force [] c = None
  in_force (b ∷ bs) c = first_unit (length (b ∷ bs)) (unit_for b c) (in_force bs c)

  -- blocks that are kept oldest first
  abbrev pub newest_first : {A : Type 0} → List (Vec (Condition × U) A) → List (List (Condition × U))
  newest_first blocks = reverse (map (λ b. b.items) blocks)

  -- the entry that gives the unit of a condition, and that is dropped where it has none
  abbrev pub IsPlaceOf : List (Condition × U) → Condition → Option ℕ → Type 0
  IsPlaceOf units c None = (unit_for units c ≡ None) × (without_unit c units ≡ units)
  IsPlaceOf units c (Some place) =
      (place < length units) × (option_map (λ e. e.1) (slice_get units place) ≡ unit_for units c) × (without_unit c units ≡ remove units place)
