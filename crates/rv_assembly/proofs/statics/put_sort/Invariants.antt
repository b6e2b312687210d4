use Rattle.std.proofs.Common.{◌≡◌, ◌++◌, map, filter, drop}
use Rattle.rv_assembly.specs.Borrowed.{datum, is_sort}
use Rattle.rv_assembly.proofs.statics.put_sort.Given as goal

abbrev pub invariant-loop-datum : goal.invariant-loop-datum
invariant-loop-datum l = map datum l.out.items ++ filter (is_sort l.sort) (map datum (drop l.datum-index l.named)) ≡ map datum l.initial.out.items ++ filter (is_sort l.sort) (map datum l.named)
