use Rattle.std.proofs.Common.{refl}
use Rattle.pli_runtime.proofs.Carried.{by_streams_there}
use Rattle.pli_runtime.specs.Seen.{run_seen, call_of}
use Rattle.pli_runtime.proofs.runtime.Runtime.begin_edit.Goals as goal

pub returns-clause-carried : goal.returns-clause-carried
returns-clause-carried g c = λ input.
    let r = (run_seen g.O.OutputStream.output c.args.self.now input) in
    by_streams_there _ _ _ _ _ r.flow.world input _ c.requires
    (c.begin.ensures.answers (call_of g.K.AreaKeeper.keeper r c.args.memory.now) r.flow.world input
    (rw c.new-source.ensures.layout refl) (rw c.new-source.ensures.memory refl))
