-- What AUTOMATIC variables count for, by the heights of the activations with which they end.
use Rattle.std.specs.Prelude.{◌≡◌, ℕ, ◌+◌, ◌-◌, ◌<◌, ◌≤◌, ◌==◌, nat_le, List, [], ◌∷◌, length, slice_index, if◌then◌else◌}
use Rattle.std.specs.List.{AllByRecursion}
use Rattle.pli_types.specs.Templates.{Template}
use Rattle.pli_serving.specs.Making.{footprint_of_shape}
use Rattle.pli_serving.specs.ServiceState.{Living}
use Rattle.pli_serving.specs.Templates.{shape_at}

-- what a variable counts for: nothing where it ends with no activation
abbrev pub weight : List Template → Living → ℕ
weight templates l = if l.owner == 0 then 0 else footprint_of_shape (shape_at templates l.signature)

-- what those count for that end with activations up to a height
abbrev pub in_use_up_to : List Template → (height : ℕ) → List Living → ℕ
in_use_up_to templates height [] = 0
in_use_up_to templates height (l ∷ ls) =
    (if nat_le l.owner height then weight templates l else 0) + in_use_up_to templates height ls

-- the last of the totals, 0 where there is none
abbrev pub newest_total : List ℕ → ℕ
newest_total totals = slice_index totals (length totals - 1)

-- the totals are those of the variables that live, of which each has a signature and none ends above the last total
pub record IsCounted (templates : List Template) (ls : List Living) (totals : List ℕ) : Type 0 where
  pub below : AllByRecursion (λ l. l.owner ≤ length totals) ls
  pub known : AllByRecursion (λ l. l.signature < length templates) ls
  pub each : (height : ℕ) → height < length totals → in_use_up_to templates (height + 1) ls ≡ slice_index totals height
