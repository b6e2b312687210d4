-- The options of procedures, one by one.
use Rattle.std.proofs.Common.{◌≡◌, List, ◌∷◌, Option, Some, None, refl}
use Rattle.std.proofs.lemmas.List.{drop_all}
use Rattle.pli_declare.proofs.Chains.{drop_here}
use Rattle.pli_typing.specs.Calls.{returns_in}
use Rattle.pli_language.specs.Tree.{Attribute, ProcedureOption, Main, Recursive, Returns}
use Rattle.pli_variables.specs.Procedures.{returns_of}

-- the first answer, if there is one
abbrev or_else : Option (List Attribute) → Option (List Attribute) → Option (List Attribute)
or_else None other = other
or_else (Some attributes) other = Some attributes

pub returns_on : (o : ProcedureOption) (all : List ProcedureOption) → returns_in (o ∷ all) ≡ or_else (returns_of o) (returns_in all)
returns_on (Returns attributes) all = refl
returns_on Main all = refl
returns_on Recursive all = refl

pub ruleset options = (drop_here, drop_all, returns_on)
