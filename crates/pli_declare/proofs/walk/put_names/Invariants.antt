use Rattle.std.proofs.Common.{◌≡◌, ◌++◌, map, drop}
use Rattle.pli_language.specs.Declarations.{held, chain_after, variable_declared}
use Rattle.pli_declare.specs.Shown.{above_of, declaration_of}
use Rattle.pli_declare.proofs.Chains.{variables_at}
use Rattle.pli_declare.proofs.walk.put_names.Given as goal

abbrev pub invariant-loop-declared : goal.invariant-loop-declared
invariant-loop-declared l = record {
  put : map declaration_of l.out.items ++ map variable_declared (held (above_of l.chain) (variables_at l.item (drop l.declared-index l.item.names.items))) ≡ map declaration_of l.initial.out.items ++ map variable_declared (held (above_of l.initial.chain) (variables_at l.item l.item.names.items));
  chain : chain_after (above_of l.chain) (variables_at l.item (drop l.declared-index l.item.names.items)) ≡ chain_after (above_of l.initial.chain) (variables_at l.item l.item.names.items);
}
