use Rattle.std.proofs.Common.{◌≡◌, ◌++◌, [], map, drop}
use Rattle.std.specs.List.{flat_map}
use Rattle.pli_language.specs.View.{declare_item_of}
use Rattle.pli_language.specs.Declarations.{held, variables_of, variable_declared}
use Rattle.pli_declare.specs.Shown.{above_of, declaration_of}
use Rattle.pli_declare.proofs.walk.put_declared.Given as goal

abbrev pub invariant-loop-item : goal.invariant-loop-item
invariant-loop-item l = map declaration_of l.out.items ++ map variable_declared (held (above_of l.chain) (flat_map variables_of (map declare_item_of (drop l.item-index l.items)))) ≡ map declaration_of l.initial.out.items ++ map variable_declared (held [] (flat_map variables_of (map declare_item_of l.items)))
