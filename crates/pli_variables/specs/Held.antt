-- Variables with their members, and where they are found among declarations.
use Rattle.std.specs.Prelude.{Bool, true, not, ◌&&◌, List, [], ◌∷◌, map, Option, Some, None, if◌then◌else◌, Vec}
use Rattle.std.specs.declared.alloc.Global.{Global}
use Rattle.pli_declare.specs.declared.scope.Held.{Held as HeldHeld}
use Rattle.pli_language.specs.Declarations.{Held, What, Variable', Label, ProcedureName}
use Rattle.pli_language.specs.Declaring.{has, own_attributes, stands_alone, is_deeper}
use Rattle.pli_declare.specs.Shown.{held_of}

-- a variable with its members
abbrev pub all_held : List HeldHeld → List Held
all_held hs = map held_of hs

abbrev pub groups_held : List (Vec HeldHeld Global) → List (List Held)
groups_held vs = map (λ v. map held_of v.items) vs

-- a member of what stands before, if it is one
abbrev pub member_in : What → Option Held
member_in (Variable' h) = if stands_alone h then None else Some h
member_in Label = None
member_in (ProcedureName head) = None

-- a variable of level 1 that is no built-in, if it is one
abbrev pub root_in : What → Option Held
root_in (Variable' h) = if stands_alone h && not (has 13 (own_attributes h)) then Some h else None
root_in Label = None
root_in (ProcedureName head) = None

-- the variable has no members, where these are declared next in its structure
abbrev pub is_leaf : Held → List Held → Bool
is_leaf h [] = true
is_leaf h (next ∷ all) = not (is_deeper h next)

-- the variable, where it has no members
abbrev pub leaf_first : Held → List Held → List Held
leaf_first h after = if is_leaf h after then h ∷ [] else []
