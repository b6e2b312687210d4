use Rattle.std.proofs.Common.{ap, subst, sym}
use Rattle.pli_runtime.proofs.runtime.Runtime.end_block.Goals as goal

pub returns-clause-grows : goal.returns-clause-grows
returns-clause-grows g c =
    subst (λ o. g.O.OutputStream.grows c.args.self.now.flow.shown.output o)
    (sym (ap (λ r. r.flow.shown.output) c.end_entries.ensures.kept))
    (g.met.O.OutputStream.stays c.args.self.now.flow.shown.output)
