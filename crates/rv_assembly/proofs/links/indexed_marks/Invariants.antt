use Rattle.std.proofs.Common.{map, take}
use Rattle.rv_assembly.specs.Marks.{mark_of}
use Rattle.rv_assembly.specs.Found.{FindsMarks}
use Rattle.rv_assembly.proofs.links.indexed_marks.Given as goal

abbrev pub invariant-loop-mark : goal.invariant-loop-mark
invariant-loop-mark l = FindsMarks l.index (map mark_of (take l.mark-index l.marks))
