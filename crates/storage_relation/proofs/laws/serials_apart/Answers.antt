use Rattle.storage_relation.proofs.Rows.{once, none_of_heap, serials_later}
use Rattle.std.proofs.Common.{◌+◌}
use Rattle.storage_relation.proofs.laws.serials_apart.Goals as goal

pub returns : goal.returns
returns c = record {
  once = once;
  some = λ w h l e. none_of_heap (w.state.serials + 1) w.state.living l h.lives.falling e;
  later = serials_later;
}
