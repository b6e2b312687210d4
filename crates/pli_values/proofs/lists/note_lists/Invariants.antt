use Rattle.std.proofs.Common.{◌≡◌, ◌≤◌, ◌+◌, ◌-◌, ◌*◌, is_some, length, true}
use Rattle.pli_serving.specs.InitialValues.{leaves_from}
use Rattle.pli_values.specs.Calls.{call_of}
use Rattle.pli_values.specs.Leaves.{leaves_of}
use Rattle.pli_values.specs.LeafLists.{lists_read}
use Rattle.pli_values.proofs.lists.note_lists.Given as goal

abbrev pub invariant-loop-left : goal.invariant-loop-left
invariant-loop-left l = record {
  low : l.left ≤ l.count;
  even : length l.lists ≡ length l.leaves;
  some : is_some (lists_read (call_of l.source) (leaves_of l.leaves) l.lists) ≡ true;
  read : lists_read (call_of l.source) (leaves_of l.leaves) l.lists ≡ leaves_from (call_of l.source) (leaves_of l.leaves) l.fn.at (l.count - l.left) (l.fn.at + 4 + 8 * l.left);
}

abbrev pub decreases-loop-left : goal.decreases-loop-left
decreases-loop-left l = l.left
