use Rattle.std.proofs.Common.{◌≡◌, suc, ◌-◌, ◌/◌}
use Rattle.std.specs.Prelude.{is_some}
use Rattle.area_keeper.specs.Chain.{walked, word_at, first_link}
use Rattle.area_heap.proofs.chain.is_whole.Given as goal

-- the walk from here on comes to an end just where that from the front does
abbrev pub invariant-steps : goal.invariant-steps
invariant-steps l =
    is_some (walked (suc (l.capacity / 16)) 0 l.capacity (word_at first_link l.bytes) l.bytes)
    ≡ is_some (walked (suc (l.capacity / 16) - l.step) l.end l.capacity l.link l.bytes)
