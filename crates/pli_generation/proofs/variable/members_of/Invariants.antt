use Rattle.std.proofs.Common.{◌≡◌, ◌++◌, map, drop}
use Rattle.pli_typing.specs.Generations as G
use Rattle.pli_typing.specs.TypedStatementView.{member_of}
use Rattle.pli_declare.specs.Shown.{held_of}
use Rattle.pli_generation.proofs.variable.members_of.Given as goal

abbrev pub invariant-loop-held : goal.invariant-loop-held
invariant-loop-held l = map member_of l.out.items ++ map G.member_held (map held_of (drop l.held-index l.all)) ≡ map G.member_held (map held_of l.all)
