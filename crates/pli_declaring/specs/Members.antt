-- The members of a structure that stand before another, and what an extent is kept in.
use Rattle.std.specs.Prelude.{Bool, true, false, List, [], ◌∷◌, ℕ, Option, Some, None, filter}
use Rattle.pli_language.specs.Declarations.{Held, Declaration}
use Rattle.pli_language.specs.Keywords.{same_bytes}
use Rattle.pli_language.specs.Declaring.{is_scalar_number, leaves_before}
use Rattle.pli_declaring.specs.Next.{variable_in}
use Rattle.pli_declaring.specs.declared.refer.Kept.{Kept}
use Rattle.pli_declaring.specs.declared.refer.Kept.TheVariants as K

-- the variables among these
abbrev pub before : Option Held → List Held → List Held
before None hs = hs
before (Some h) hs = h ∷ hs

abbrev pub variables_in : List Declaration → List Held
variables_in [] = []
variables_in (d ∷ ds) = before (variable_in d.what) (variables_in ds)

-- the first of these, or the last one behind them
abbrev pub first_held : List Held → Held → Held
first_held [] h = h
first_held (a ∷ all) h = a

-- what was found, with one more leaf that is a scalar number or isn't
abbrev pub kept_further : Kept → Bool → Kept
kept_further K.Nothing true = K.Number
kept_further K.Nothing false = K.Other
kept_further K.Number scalar = K.Other
kept_further K.Other scalar = K.Other

abbrev pub is_number : Kept → Bool
is_number K.Number = true
is_number K.Nothing = false
is_number K.Other = false

-- the answer, where this was found and these leaves of the name are left
abbrev pub keeping : Kept → List Held → Bool
keeping kept [] = is_number kept
keeping kept (m ∷ ms) = keeping (kept_further kept (is_scalar_number m)) ms

-- the leaves of the name that REFER writes
abbrev pub of_name : List ℕ → Held → Bool
of_name letters m = same_bytes m.variable.declared.name.letters letters

-- the answer, where this was found and these are left
abbrev pub answer : Kept → List ℕ → List Held → Held → Bool
answer kept letters rest h = keeping kept (filter (of_name letters) (leaves_before rest h))
