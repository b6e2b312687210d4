use Rattle.std.proofs.Common.{◌≡◌, ◌+◌, ◌-◌, ap, length, arith}
use Rattle.pli_conditions.proofs.Newest.{reverted-newest, length-newest_first}
use Rattle.pli_conditions.proofs.units.OnUnits.revert.Goals as goal

pub returns : goal.returns
returns c =
    let count = length-newest_first c.self.inside.blocks.items in
    let is_newest : (c.len-newest.result - 1) + 1 ≡ length c.self.inside.blocks.items = omega (arith, c.requires, ap length c.self.view_is) in
    reverted-newest _ _ _ _ _ _ is_newest c.index_mut.ensures.value c.self.view_is c.revert.ensures
