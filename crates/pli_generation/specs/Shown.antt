-- What a program's values show of the definitions, and parts of these.
use Rattle.std.specs.Prelude.{ℕ, List, [], ◌∷◌, Option, Some, None, if◌then◌else◌}
use Rattle.pli_language.specs.declared.expr.Place.{Place}
use Rattle.pli_language.specs.declared.fault.SourceKind.TheVariants.{Undeclared, TypeMismatch}
use Rattle.pli_language.specs.Declarations.{Block, Held}
use Rattle.pli_language.specs.Declaring.{is_builtin}
use Rattle.pli_typing.specs.Converting.{no_variable}
use Rattle.pli_typing.specs.Generations.{Allocating, bad_allocation, evaluation, no_allocation, no_freeing, pointer_to}
use Rattle.pli_typing.specs.Judging.{Judged, Scope, broken, each, fine}
use Rattle.pli_typing.specs.TypedStatementView.{target_of}
use Rattle.pli_typing.specs.TypedTree as Y
use Rattle.pli_typing.specs.TypedView.{area_of}
use Rattle.pli_typing.specs.Variables.{variable_meant, written_extents}
use Rattle.pli_language.specs.View.{name_of, option_of}
use Rattle.pli_generation.specs.declared.allocation.Allocating.{Allocating as AllocatingHeld}

abbrev pub allocating_of : AllocatingHeld → Allocating
allocating_of a = record { place = a.place; name = name_of a.name.now; area = area_of a.area; target = option_of target_of a.target }

-- ALLOCATE of a name that means nothing that is declared
abbrev pub undeclared_allocation : Allocating → Judged Y.Allocation
undeclared_allocation a = if is_builtin a.name.word then bad_allocation a else broken a.name.place Undeclared no_allocation

-- what locates a generation, NULL where nothing does
abbrev pub locator_within : Y.Reference → Y.Pointer
locator_within (Y.Referring v locator part subscripts) = pointer_to locator

-- a generation of a variable of a class is freed, by what locates it
abbrev pub freed_by : Place → Y.Variable → Y.StorageClass → Y.Pointer → Option Y.Variable → Judged Y.Freeing
freed_by place v Y.BasedClass locator area = fine (Y.FreeBased v locator area)
freed_by place v Y.ControlledClass locator None = fine (Y.FreeControlled v)
freed_by place v _ locator area = broken place TypeMismatch no_freeing

-- the variable of level 1 that stands first among these
abbrev pub own_at : List Block → ℕ → Option (List Held) → Y.Variable
own_at blocks b None = no_variable
own_at blocks b (Some []) = no_variable
own_at blocks b (Some (h ∷ members)) = variable_meant blocks b h

-- the extents of a variable with its members
abbrev pub evaluations_of : Scope → Y.Variable → List Held → Judged (List Y.Evaluation)
evaluations_of scope own all = each (evaluation scope own (written_extents all)) (written_extents all)
