use Rattle.std.proofs.Common.{◌≡◌, ◌+◌, ◌-◌, ap, length, arith}
use Rattle.std.proofs.lemmas.Result.{err_from_is_err_and}
use Rattle.pli_conditions.proofs.Newest.{established-newest, same-newest, length-newest_first}
use Rattle.pli_conditions.proofs.units.OnUnits.establish.Goals as goal

pub returns-in_err-establish-clause-refused : goal.returns-in_err-establish-clause-refused
returns-in_err-establish-clause-refused c =
    let count = length-newest_first c.self.inside.blocks.items in
    let is_newest : (c.len-newest.result - 1) + 1 ≡ length c.self.inside.blocks.items = omega (arith, c.requires, ap length c.self.view_is) in
    let p = err_from_is_err_and c.from_residual.result c.from_residual.ensures.1 in
    rw p.1 (same-newest _ _ _ _ _ is_newest c.index_mut.ensures.value c.self.view_is c.in_err-establish.ensures.refused)

pub returns-clause-done : goal.returns-clause-done
returns-clause-done c =
    let count = length-newest_first c.self.inside.blocks.items in
    let is_newest : (c.len-newest.result - 1) + 1 ≡ length c.self.inside.blocks.items = omega (arith, c.requires, ap length c.self.view_is) in
    established-newest _ _ _ _ _ _ _ is_newest c.index_mut.ensures.value c.self.view_is c.in_ok-establish.ensures.done
