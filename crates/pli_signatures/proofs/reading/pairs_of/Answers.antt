use Rattle.std.proofs.Common.{◌≡◌, drop, sym}
use Rattle.pli_signatures.proofs.Readings.{pairs_on}
use Rattle.pli_signatures.proofs.reading.pairs_of.Goals as goal

pub loop-preserved : goal.loop-preserved
loop-preserved c =
    let rest : c.behind-rest.result.now ≡ drop 2 c.loop.rest.now = c.behind-rest.ensures in
    rw (rest, c.in_ok-push.ensures.ok) (pairs_on c.args.is_referred c.args.count c.loop.counter c.loop.rest.now c.loop.pairs.items c.pair_of.result _ c.loop-test.true (rw (sym c.word_in.ensures, sym c.word_in-in-loop.ensures) c.pair_of.ensures) c.loop.invariant)
