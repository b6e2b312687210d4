use Rattle.std.proofs.Common.{◌≡◌, ◌≤◌, length, reverse, take}
use Rattle.pli_order.specs.Notes.{parts_of}
use Rattle.pli_order.proofs.Noting.{Comes}
use Rattle.pli_order.proofs.notes.order_of.Given as goal

abbrev pub invariant-loop-part : goal.invariant-loop-part
invariant-loop-part l = record {
  low : l.leaves ≤ l.part-index;
  same : parts_of l.notes.items ≡ take l.part-index l.parts;
  comes : Comes l.notes.items (reverse l.ranges.items) l.leaves (length l.parts) l.fn.given;
}
