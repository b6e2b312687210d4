use Rattle.std.proofs.Common.{◌≡◌, ◌++◌, map, drop}
use Rattle.pli_typing.specs.TypedStatementView.{get_pair_of}
use Rattle.pli_frames.specs.TakenView.{taken_of}
use Rattle.rv_address.specs.Around.{environment_of}
use Rattle.rv_stream.specs.Exits.{pairs_exits, pairs_kept}
use Rattle.rv_stream.proofs.get.pairs_got.Given as goal

abbrev pub invariant-loop-pair : goal.invariant-loop-pair
invariant-loop-pair l = record {
  written : l.code ++ pairs_kept (environment_of l.environment) (taken_of l.taken) (map get_pair_of (drop l.pair-index l.pairs)) ≡ l.initial.code ++ pairs_kept (environment_of l.environment) (taken_of l.taken) (map get_pair_of l.pairs);
  noted : l.exits.items ++ pairs_exits (environment_of l.environment) (taken_of l.taken) l.code (map get_pair_of (drop l.pair-index l.pairs)) ≡ l.initial.exits.items ++ pairs_exits (environment_of l.environment) (taken_of l.taken) l.initial.code (map get_pair_of l.pairs);
}
