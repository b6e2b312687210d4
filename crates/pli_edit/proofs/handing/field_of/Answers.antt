use Rattle.std.proofs.Common.{◌+◌, ◌-◌, length, arith}
use Rattle.pli_edit.proofs.Handovers.{field_whole}
use Rattle.pli_edit.proofs.handing.field_of.Goals as goal

pub returns : goal.returns
returns c =
    field_whole c.args.fill c.args.before (c.args.before + length c.args.text.now - c.args.before)
    c.copy_from_slice.new.self c.args.text.now
    c.copy_from_slice.ensures.after (omega arith) (omega (arith, c.requires))
