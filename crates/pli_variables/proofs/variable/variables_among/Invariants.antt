use Rattle.std.proofs.Common.{◌≡◌, ◌++◌, drop, map}
use Rattle.pli_declare.specs.Shown.{declaration_of}
use Rattle.pli_declare.specs.ShownBlocks.{block_of}
use Rattle.pli_variables.specs.Held.{groups_held}
use Rattle.pli_variables.specs.Rows.{row_shown, variable_in}
use Rattle.pli_variables.proofs.variable.variables_among.Given as goal

abbrev pub invariant-loop-declaration : goal.invariant-loop-declaration
invariant-loop-declaration l = row_shown l.out.items ++ map (λ d. variable_in (block_of l.block) l.number (groups_held l.groups) d.what) (map declaration_of (drop l.declaration-index l.block.names.declarations.items)) ≡ map (λ d. variable_in (block_of l.block) l.number (groups_held l.groups) d.what) (map declaration_of l.block.names.declarations.items)
