-- Outer procedures, one by one.
use Rattle.std.specs.Prelude.{Bool, true, not, ◌||◌, nat_lt, List, [], ◌∷◌, ◌++◌, length, Option, Some, None}
use Rattle.pli_language.specs.declared.fault.SourceFault.{SourceFault}
use Rattle.pli_language.specs.declared.fault.SourceKind.TheVariants.{NoMain}
use Rattle.pli_language.specs.Tree.{Item, Procedure, ProcedureHead}
use Rattle.pli_language.specs.Refusals.{fault}
use Rattle.pli_language.specs.Declaring.{at_first, has_main, when}

abbrev pub procedure_in : Item → Option ProcedureHead
procedure_in (Procedure head body) = Some head
procedure_in _ = None

-- what an outer procedure breaks, where another was seen before or none
abbrev pub of_procedure : Bool → ProcedureHead → List SourceFault
of_procedure seen head = at_first head.labels (λ p. when (seen || not (has_main head) || nat_lt 0 (length head.parameters)) (fault p NoMain))

-- what is left to break, in these procedures, where one was seen before or none
abbrev pub main_left : Bool → List ProcedureHead → List SourceFault
main_left seen [] = when (not seen) (fault (record { line = 1; column = 1 }) NoMain)
main_left seen (head ∷ more) = of_procedure seen head ++ main_left true more
