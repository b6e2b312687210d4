use Rattle.std.proofs.Common.{◌≡◌, ◌≤◌, Some, length}
use Rattle.pli_meaning.specs.Contents.{Shape}
use Rattle.pli_serving.specs.Templates.{shape_at}
use Rattle.pli_storage.specs.Findings.{found_of}
use Rattle.pli_parts.specs.Leaves.{ArePartLeaves}
use Rattle.pli_parts.proofs.part.part_leaves.Given as goal

abbrev pub invariant-loop-number : goal.invariant-loop-number
invariant-loop-number l = record {
  found : (s : Shape) → shape_at l.held.signatures l.aggregate.signature ≡ Some s → ArePartLeaves s l.aggregate.extent (found_of l.fn.found) l.given l.held.layout.end l.first l.leaves.items;
  many : length l.leaves.items ≡ l.number;
  low : l.number ≤ l.count;
}
