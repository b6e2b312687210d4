-- The structures that hold a variable, as its levels show them.
use Rattle.std.specs.Prelude.{◌≡◌, ⊤, ℕ, ◌+◌, Bool, true, List, [], ◌∷◌, ◌++◌, length, nat_lt, Option, Some, None}
use Rattle.std.specs.List.{sum_by}
use Rattle.pli_declare.specs.declared.scope.Variable.{Variable as VariableHeld}
use Rattle.pli_declare.specs.declared.above.Levels.{Levels as LevelsHeld}
use Rattle.pli_declare.specs.declared.above.Levels as L
use Rattle.pli_language.specs.View.{declared_name_of, declare_item_of}
use Rattle.pli_language.specs.Declarations.{Variable, level_of, dimensions_of}

abbrev pub variable_of : VariableHeld → Variable
variable_of v = record { declared = declared_name_of v.declared.now; item = declare_item_of v.item.now }

-- the structures, this one first
abbrev pub levels_of : Variable → LevelsHeld → List Variable
levels_of first L.Outermost = first ∷ []
levels_of first (L.Inside' v count dimensions a above) = levels_of first above ++ variable_of v ∷ []

-- no structures where there is no outermost one
abbrev pub chain_of : Option VariableHeld → LevelsHeld → List Variable
chain_of None levels = []
chain_of (Some first) levels = levels_of (variable_of first) levels

-- the innermost has a smaller level than this
abbrev pub is_below : Variable → LevelsHeld → ℕ → Bool
is_below first L.Outermost level = nat_lt (level_of first) level
is_below first (L.Inside' v count dimensions a above) level = nat_lt (level_of (variable_of v)) level

abbrev pub may_hold : Option VariableHeld → LevelsHeld → ℕ → Bool
may_hold None levels level = true
may_hold (Some first) levels level = is_below (variable_of first) levels level

abbrev pub dimensions_in : List Variable → ℕ
dimensions_in vs = sum_by (λ v. length (dimensions_of v)) vs

-- what is kept beside each structure is so, and each has a greater level than the one that holds it
abbrev pub IsKept : Variable → LevelsHeld → Type 0
IsKept first L.Outermost = ⊤
IsKept first (L.Inside' v count dimensions a above) =
    (count ≡ length (levels_of first above) + 1)
    × ((dimensions ≡ dimensions_in (levels_of first above ++ variable_of v ∷ [])) × ((is_below first above (level_of (variable_of v)) ≡ true) × IsKept first above))

abbrev pub IsKeptIn : Option VariableHeld → LevelsHeld → Type 0
IsKeptIn None levels = ⊤
IsKeptIn (Some first) levels = IsKept (variable_of first) levels
