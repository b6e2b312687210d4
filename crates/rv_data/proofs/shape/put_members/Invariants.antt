use Rattle.std.proofs.Common.{◌≡◌, ◌-◌, ◌++◌, suc, drop, length, map}
use Rattle.rv_meaning.specs.Memory.{bytes_of_words}
use Rattle.pli_typing.specs.TypedStatementView.{member_of}
use Rattle.pli_meaning.specs.StreamOrder.{deeper, nest_of}
use Rattle.pli_coding.specs.StaticForms.{nest_words}
use Rattle.rv_data.proofs.shape.put_members.Given as goal

abbrev pub invariant-loop-member : goal.invariant-loop-member
invariant-loop-member l = l.bytes.items ++ bytes_of_words (nest_words l.leaf (deeper l.depth (nest_of (drop l.at (map member_of l.members))))) ≡ l.initial.bytes.items ++ bytes_of_words (nest_words l.fn.found.leaf (deeper l.depth (nest_of (drop (suc l.fn.found.member) (map member_of l.members)))))

abbrev pub decreases-loop-member : goal.decreases-loop-member
decreases-loop-member l = length l.members - l.at
