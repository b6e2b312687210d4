-- What is freed, by what locates it.
use Rattle.std.proofs.Common.{◌≡◌, Option, Some, None, refl}
use Rattle.pli_language.specs.declared.expr.Place.{Place}
use Rattle.pli_typing.specs.Converting.{variable_of}
use Rattle.pli_typing.specs.Generations.{freed_class, freed_reference, pointer_to}
use Rattle.pli_typing.specs.TypedTree as Y
use Rattle.pli_generation.specs.Shown.{freed_by, locator_within}

by_class : (place : Place) (v : Y.Variable) (class : Y.StorageClass) (locator : Y.Locator) (area : Option Y.Variable) → freed_by place v class (pointer_to locator) area ≡ freed_class place v class locator area
by_class place v Y.BasedClass locator area = refl
by_class place v Y.ControlledClass locator None = refl
by_class place v Y.ControlledClass locator (Some a) = refl
by_class place v Y.AutomaticClass locator area = refl
by_class place v Y.StaticClass locator area = refl
by_class place v Y.ParameterClass locator area = refl

pub freed_is : (place : Place) (r : Y.Reference) (area : Option Y.Variable) → freed_by place (variable_of r) (variable_of r).class (locator_within r) area ≡ freed_reference place r area
freed_is place (Y.Referring v locator part subscripts) area = by_class place v v.class locator area
