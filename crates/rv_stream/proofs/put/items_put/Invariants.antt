use Rattle.std.proofs.Common.{◌≡◌, ◌++◌, map, drop}
use Rattle.pli_typing.specs.TypedStatementView.{put_item_of}
use Rattle.pli_coding.specs.Streams.{items_put}
use Rattle.pli_frames.specs.TakenView.{taken_of}
use Rattle.rv_address.specs.Around.{environment_of}
use Rattle.rv_item.specs.Lists.{formats_in}
use Rattle.rv_stream.proofs.put.items_put.Given as goal

abbrev pub invariant-loop-item : goal.invariant-loop-item
invariant-loop-item l = l.code ++ items_put (environment_of l.environment) (taken_of l.taken) (formats_in l.fields) (map put_item_of (drop l.item-index l.items)) ≡ l.initial.code ++ items_put (environment_of l.environment) (taken_of l.taken) (formats_in l.fields) (map put_item_of l.items)
