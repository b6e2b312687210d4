use Rattle.pli_signatures.proofs.Equals.{next_pair, no_pair, pairs_uneven, all_pairs}
use Rattle.pli_signatures.proofs.equality.same_pairs.Goals as goal

pub returns-then-a-b : goal.returns-then-a-b
returns-then-a-b c = pairs_uneven c.args.a.now c.args.b.now c.if-a-b.true

pub returns-then-not-same_pair : goal.returns-then-not-same_pair
returns-then-not-same_pair c =
    no_pair c.args.a.now c.args.b.now c.loop-place.place _ c.loop-place-test.true c.if-a-b.false c.if-not-same_pair.ensures c.loop-place.invariant

pub loop-place-preserved : goal.loop-place-preserved
loop-place-preserved c =
    next_pair c.args.a.now c.args.b.now c.loop-place.place _ c.loop-place-test.true c.if-a-b.false c.if-not-same_pair.ensures c.loop-place.invariant

pub returns : goal.returns
returns c = all_pairs c.args.a.now c.args.b.now c.loop-place.place _ c.loop-place-test.false c.if-a-b.false c.loop-place.invariant
