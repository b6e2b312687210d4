use Rattle.std.proofs.Common.{◌∙◌, ap, replicate, take}
use Rattle.pli_allocation.proofs.Starts.{written_whole}
use Rattle.pli_allocation.proofs.starting.bytes_of.Goals as goal

pub returns : goal.returns
returns c =
    c.truncate.ensures.items ∙ ap (take c.written.result) c.in_ok-bytes.ensures ∙ written_whole c.args.begun.now (replicate c.args.size 0) c.written.result c.written.ensures
