use Rattle.std.proofs.Common.{◌≡◌, drop}
use Rattle.rv_stream.specs.Exits.{AreExits, led}
use Rattle.rv_stream.proofs.exit.led.Given as goal

abbrev pub invariant-loop-exit : goal.invariant-loop-exit
invariant-loop-exit l = record {
  places : AreExits l.code (drop l.exit-index l.exits);
  whole : led l.end (drop l.exit-index l.exits) l.code ≡ led l.end l.exits l.initial.code;
}
