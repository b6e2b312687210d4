use Rattle.rv_stream.proofs.Leading.{exits_stay, next_led}
use Rattle.rv_stream.proofs.exit.led.Goals as goal

pub loop-exit-preserved : goal.loop-exit-preserved
loop-exit-preserved c = record {
  places = exits_stay c.loop-exit.code c.patch.new.self c.args.exits.now c.loop-exit.exit-index c.saturating_sub.result c.loop-exit-test.true c.patch.ensures c.loop-exit.invariant.places;
  whole = next_led c.size-end.result c.loop-exit.code c.patch.new.self c.args.exits.now c.loop-exit.exit-index c.saturating_sub.result _ c.loop-exit-test.true c.patch.ensures c.saturating_sub.ensures c.loop-exit.invariant.whole;
}
