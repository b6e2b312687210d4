use Rattle.std.proofs.Common.{◌<◌, arith, refl}
use Rattle.pli_serving.specs.Templates.{shape_at}
use Rattle.pli_elements.proofs.Kept.{leaves_if}
use Rattle.pli_elements.proofs.item.leaves_of.Goals as goal

pub returns : goal.returns
returns c =
    let a = c.args.aggregate in
    let some : 0 < c.args.count = grind arith in
    leaves_if (shape_at c.args.held.now.signatures a.signature) a.extent c.args.first c.args.count c.args.count c.leaves_from.result some refl c.leaves_from.ensures.leaves c.leaves_from.ensures.many
