-- The variable declared next.
use Rattle.std.specs.Prelude.{List, [], ◌∷◌, Option, Some, None}
use Rattle.pli_language.specs.Declarations.{Held, What, Variable', Label, ProcedureName, Declaration}

abbrev pub variable_in : What → Option Held
variable_in (Variable' h) = Some h
variable_in Label = None
variable_in (ProcedureName head) = None

-- the variable declared next, if a variable is
abbrev pub next_in : List Declaration → Option Held
next_in [] = None
next_in (d ∷ ds) = variable_in d.what
