use Rattle.std.proofs.Common.{◌≡◌, ◌++◌, drop, map}
use Rattle.pli_declare.specs.Shown.{declaration_of}
use Rattle.pli_variables.specs.ShownShapes.{home_of, shape_given, shapes_shown}
use Rattle.pli_variables.proofs.shaping.shapes_given.Given as goal

abbrev pub invariant-loop-declaration : goal.invariant-loop-declaration
invariant-loop-declaration l = shapes_shown l.out.items ++ map (λ d. shape_given (home_of l.home) d.what) (map declaration_of (drop l.declaration-index l.home.block.now.names.declarations.items)) ≡ map (λ d. shape_given (home_of l.home) d.what) (home_of l.home).block.declarations
