-- Areas among what is declared.
use Rattle.std.proofs.Common.{◌≡◌, ℕ, List, Option, Some, None, refl}
use Rattle.std.specs.Prelude.{if◌then◌else◌}
use Rattle.pli_typing.specs.declared.typed.Variable.{Variable as VariableHeld}
use Rattle.pli_language.specs.Declarations.{What, Variable', Label, ProcedureName, Block}
use Rattle.pli_typing.specs.TypedView.{area_of, variable_of}
use Rattle.pli_language.specs.View.{option_of}
use Rattle.pli_typing.specs.Variables.{area_in}
use Rattle.pli_variables.specs.Rows.{is_area, variable_of_option}

pub area_is : (o : Option VariableHeld) → area_of o ≡ option_of variable_of o
area_is None = refl
area_is (Some v) = refl

pub area_in_is : (blocks : List Block) (b : ℕ) (w : Option What) → area_in blocks b w ≡ (if is_area w then variable_of_option blocks b w else None)
area_in_is blocks b None = refl
area_in_is blocks b (Some (Variable' h)) = refl
area_in_is blocks b (Some Label) = refl
area_in_is blocks b (Some (ProcedureName head)) = refl

pub ruleset areas = (area_is, area_in_is)
