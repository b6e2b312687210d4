use Rattle.std.proofs.Common.{refl}
use Rattle.pli_runtime.proofs.tests.a_failed_read_is_told.Goals as goal

pub item-requires : goal.item-requires
item-requires g c = c.in-Some.ensures _ refl
