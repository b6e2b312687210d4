use Rattle.std.proofs.Common.{◌≡◌, ◌-◌, ℕ, length, map}
use Rattle.pli_typing.specs.TypedView.{part_of}
use Rattle.pli_typing.specs.TypedStatementView.{member_of}
use Rattle.pli_meaning.specs.StreamOrder.{nest_of}
use Rattle.pli_coding.specs.StaticForms.{part_in}
use Rattle.rv_data.proofs.Parts.{sought}
use Rattle.rv_data.proofs.shape.part_found.Given as goal

abbrev pub invariant-loop-member : goal.invariant-loop-member
invariant-loop-member l = (given : ℕ) → sought (part_of l.part) given l.dimensions l.leaf l.at l.limit (map member_of l.members) l.found ≡ part_in (part_of l.part) given 0 0 (nest_of (map member_of l.members))

abbrev pub decreases-loop-member : goal.decreases-loop-member
decreases-loop-member l = length l.members - l.at
