use Rattle.std.proofs.Common.{◌≡◌, map, drop}
use Rattle.pli_typing.specs.TypedStatementView.{put_item_of}
use Rattle.pli_coding.specs.Environments.{most_taken}
use Rattle.pli_coding.specs.Streams.{put_items_take}
use Rattle.pli_frames.specs.TakenView.{taken_of}
use Rattle.pli_frames.proofs.forms.put_items_take.Given as goal

abbrev pub invariant-loop-one : goal.invariant-loop-one
invariant-loop-one l =
    most_taken (taken_of l.most) (put_items_take (taken_of l.taken) (map put_item_of (drop l.one-index l.all)))
    ≡ put_items_take (taken_of l.taken) (map put_item_of l.all)
