use Rattle.std.proofs.Common.{◌<◌, ◌∙◌, arith, length, rules, sym, SFits, w32}
use Rattle.std.proofs.lemmas.Int.{to_z-of_z}
use Rattle.pli_allocation.proofs.Fits.{keeps_some}
use Rattle.pli_allocation.proofs.extents.member_keeps.Goals as goal

pub returns : goal.returns
returns c =
    let fits : SFits w32 c.args.extent = search rules in
    (simp to_z-of_z at c.kind_keeps.ensures) ∙ sym (keeps_some c.args.extent c.args.signature.now.leaves.items c.args.member c.index.result.now (omega arith) c.index.ensures)
