use Rattle.std.proofs.Common.{◌≡◌, ◌+◌, ◌-◌, ◌*◌, ◌≤◌, ◌^◌, length}
use Rattle.pli_shapes.specs.Reading.{joined, parts_at}
use Rattle.pli_values.specs.Calls.{call_of}
use Rattle.pli_shapes.proofs.shape.parts_at.Given as goal

abbrev pub invariant-loop-left : goal.invariant-loop-left
invariant-loop-left l = record {
  here : l.here ≡ l.fn.at + 12 * length l.parts.items;
  room : 12 * length l.parts.items ≤ l.source.layout.end;
  bounded : l.left ≤ 2 ^ 32 * (1 + length l.parts.items);
  read : joined l.parts.items (parts_at l.source.layout.end (call_of l.source) l.left l.here) ≡ parts_at l.source.layout.end (call_of l.source) l.fn.count l.fn.at;
}

abbrev pub decreases-loop-left : goal.decreases-loop-left
decreases-loop-left l = l.source.layout.end - l.here
