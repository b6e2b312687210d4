use Rattle.std.proofs.Common.{◌≡◌, ◌≤◌, ◌+◌, drop, map}
use Rattle.pli_typing.specs.Generations.{is_named}
use Rattle.pli_typing.specs.Variables.{index_where, leaves_in}
use Rattle.pli_language.specs.View.{name_of}
use Rattle.pli_declare.specs.Shown.{held_of}
use Rattle.pli_variables.proofs.refer.member_named.Given as goal

abbrev pub invariant-loop-i : goal.invariant-loop-i
invariant-loop-i l = record {
  within : l.count ≤ l.i;
  left : l.count + index_where (is_named (name_of l.name)) (leaves_in (map held_of (drop l.i l.all))) ≡ index_where (is_named (name_of l.name)) (leaves_in (map held_of l.all));
}
