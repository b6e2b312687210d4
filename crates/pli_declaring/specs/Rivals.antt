-- Declarations that can't have one name.
use Rattle.std.specs.Prelude.{ℕ, Bool, false, ◌&&◌, ◌==◌, List, map, slice_get}
use Rattle.std.specs.Option.{option_map_or}
use Rattle.pli_language.specs.declared.expr.Place.{Place}
use Rattle.pli_language.specs.Keywords.{same_bytes}
use Rattle.pli_language.specs.Declarations.{Variable, What, Declaration, level_of}
use Rattle.pli_language.specs.Declaring.{are_rivals, held_is}

-- the places of the names of the structures that hold a variable
abbrev pub places_above : List Variable → List Place
places_above vs = map (λ v. v.declared.name.place) vs

-- the declaration at a place, if there is one, can't have the name of the other
abbrev pub rival_at : List Declaration → What → ℕ → Bool
rival_at ds what p = option_map_or (λ b. are_rivals b.what what) (slice_get ds p) false

-- the declaration is that of a variable of level 1 with these letters
abbrev pub is_variable_of : List ℕ → Declaration → Bool
is_variable_of letters d = same_bytes d.name.letters letters && held_is (λ h. level_of h.variable == 1) d.what
