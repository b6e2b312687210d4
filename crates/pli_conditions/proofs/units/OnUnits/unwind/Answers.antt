use Rattle.std.proofs.Common.{ap, ◌∙◌, ◌-◌, length, drop, arith}
use Rattle.pli_conditions.specs.Blocks.{newest_first}
use Rattle.pli_conditions.proofs.Newest.{newest_first-take, length-newest_first}
use Rattle.pli_conditions.proofs.units.OnUnits.unwind.Goals as goal

pub returns : goal.returns
returns c =
    let n = length-newest_first c.self.inside.blocks.items in
    ap newest_first c.truncate.ensures.items
    ∙ (newest_first-take c.args.depth c.self.inside.blocks.items (omega (arith, c.requires, ap length c.self.view_is))
    ∙ ap (λ v. drop (length v - c.args.depth) v) c.self.view_is)
