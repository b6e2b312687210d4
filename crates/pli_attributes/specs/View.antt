-- How the values of the code show what stands before attributes.
use Rattle.std.specs.Prelude.{map}
use Rattle.pli_language.specs.Attributes.{ItemFront}
use Rattle.pli_language.specs.View.{bound_of, declared_name_of}
use Rattle.pli_attributes.specs.declared.item.ItemFront.{ItemFront as FrontHeld}

abbrev pub front_of : FrontHeld → ItemFront
front_of f = record { level = f.level; names = map declared_name_of f.names.items; dimensions = map bound_of f.dimensions.items }
