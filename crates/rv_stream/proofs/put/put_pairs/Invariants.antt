use Rattle.std.proofs.Common.{◌≡◌, ◌++◌, map, drop}
use Rattle.pli_typing.specs.TypedStatementView.{put_pair_of}
use Rattle.pli_coding.specs.Streams.{put_pairs}
use Rattle.pli_frames.specs.TakenView.{taken_of}
use Rattle.rv_address.specs.Around.{environment_of}
use Rattle.rv_stream.proofs.put.put_pairs.Given as goal

abbrev pub invariant-loop-pair : goal.invariant-loop-pair
invariant-loop-pair l = l.code ++ put_pairs (environment_of l.environment) (taken_of l.taken) (map put_pair_of (drop l.pair-index l.pairs)) ≡ l.initial.code ++ put_pairs (environment_of l.environment) (taken_of l.taken) (map put_pair_of l.pairs)
