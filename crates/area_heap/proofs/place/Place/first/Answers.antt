use Rattle.std.proofs.Common.{refl}
use Rattle.area_keeper.specs.Chain.{word_at}
use Rattle.area_heap.proofs.Walks.{begins, reached_at, whole_rest}
use Rattle.area_heap.proofs.place.Place.first.Goals as goal

pub returns-clause-reached : goal.returns-clause-reached
returns-clause-reached c =
    reached_at c.args.bytes.now 12 0 (word_at 12 c.args.bytes.now) 12 0 c.word_at.result
    (begins c.args.bytes.now c.requires) refl refl c.word_at.ensures

pub returns-clause-whole : goal.returns-clause-whole
returns-clause-whole c = (refl, whole_rest c.args.bytes.now c.requires)
