-- A generation that becomes the newest of a CONTROLLED variable, by what the heap's keeper makes of it.
use Rattle.std.specs.Prelude.{◌≡◌, ℕ, pos, List, [], ◌∷◌, ◌++◌, Option, Some, None}
use Rattle.controlled_gens.specs.declared.controlled.Generation as C
use Rattle.controlled_gens.specs.Stacks.{generation_at, generations_of, with_generations}
use Rattle.pli_meaning.specs.Contents.{Generation}
use Rattle.pli_allocation.specs.Beginnings.{IsBegun}
use Rattle.pli_allocation.specs.declared.beginning.Beginning.{Beginning}

-- code holds the generation, which has no REFER extent
abbrev pub IsPlain : Beginning → Generation → Type 0
IsPlain b g = IsBegun b g × (g.extent ≡ pos 0)

-- the offset of what was placed
abbrev pub offset_of : Option (ℕ × List ℕ) → Option ℕ
offset_of None = None
offset_of (Some p) = Some p.0

-- the generations of all variables with a newest one, the old ones where nothing was placed
abbrev pub stacks_pushed : (variable signature : ℕ) → List (List C.Generation) → Option (ℕ × List ℕ) → List (List C.Generation)
stacks_pushed variable signature stacks None = stacks
stacks_pushed variable signature stacks (Some p) =
    with_generations variable (generations_of stacks variable ++ generation_at p.0 signature ∷ []) stacks
