use Rattle.std.proofs.Common.{◌≡◌, ◌+◌, ◌*◌, ◌++◌, map, drop}
use Rattle.pli_coding.specs.Assembly.{size_of}
use Rattle.pli_coding.specs.Linking.{marks_from}
use Rattle.rv_assembly.specs.View.{item_of}
use Rattle.rv_assembly.specs.Marks.{mark_of}
use Rattle.rv_assembly.proofs.marks.marks_in.Given as goal

abbrev pub invariant-loop-item : goal.invariant-loop-item
invariant-loop-item l = record {
  found : map mark_of l.marks.items ++ marks_from l.place (map item_of (drop l.item-index l.items)) ≡ marks_from 0 (map item_of l.items);
  place : l.place + 4 * size_of (map item_of (drop l.item-index l.items)) ≡ 4 * size_of (map item_of l.items);
}
