use Rattle.std.proofs.Common.{refl}
use Rattle.pli_runtime.proofs.tests.items_are_put_and_got.Goals as goal

pub item-requires : goal.item-requires
item-requires g c = c.in-Some.ensures _ refl
