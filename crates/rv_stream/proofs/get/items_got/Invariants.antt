use Rattle.std.proofs.Common.{◌≡◌, ◌++◌, map, drop}
use Rattle.pli_typing.specs.TypedStatementView.{get_item_of}
use Rattle.pli_frames.specs.TakenView.{taken_of}
use Rattle.rv_address.specs.Around.{environment_of}
use Rattle.rv_stream.specs.Exits.{items_exits, items_kept}
use Rattle.rv_item.specs.Lists.{formats_in}
use Rattle.rv_stream.proofs.get.items_got.Given as goal

abbrev pub invariant-loop-item : goal.invariant-loop-item
invariant-loop-item l = record {
  written : l.code ++ items_kept (environment_of l.environment) (taken_of l.taken) (formats_in l.fields) (map get_item_of (drop l.item-index l.items)) ≡ l.initial.code ++ items_kept (environment_of l.environment) (taken_of l.taken) (formats_in l.fields) (map get_item_of l.items);
  noted : l.exits.items ++ items_exits (environment_of l.environment) (taken_of l.taken) (formats_in l.fields) l.code (map get_item_of (drop l.item-index l.items)) ≡ l.initial.exits.items ++ items_exits (environment_of l.environment) (taken_of l.taken) (formats_in l.fields) l.initial.code (map get_item_of l.items);
}
