use Rattle.std.proofs.Common.{◌≡◌, None, take}
use Rattle.pli_meaning.specs.StorageState.{unit_for}
use Rattle.pli_conditions.proofs.block.place_of.Given as goal

abbrev pub invariant-loop-place : goal.invariant-loop-place
invariant-loop-place l = unit_for (take l.place l.units) l.condition ≡ None
