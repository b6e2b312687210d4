use Rattle.std.proofs.Common.{◌+◌}
use Rattle.pli_values.proofs.ExtentPlaces.{next_place_read}
use Rattle.pli_values.proofs.places.places_at.Goals as goal

pub loop-place-preserved : goal.loop-place-preserved
loop-place-preserved c =
    next_place_read c.word_at-count.result c.loop-place.place (c.args.at + 4) c.args.source.now.memory.now c.loop-place.places.items c.push.new.self.items (record { leaf = c.word_at.result; dimension = c.word_at-in-loop-place.result }) _ c.loop-place-test.true c.in_ok-push.ensures.items c.word_at.ensures c.word_at-in-loop-place.ensures c.loop-place.invariant
