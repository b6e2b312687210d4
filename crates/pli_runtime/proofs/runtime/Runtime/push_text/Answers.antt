use Rattle.std.proofs.Common.{refl}
use Rattle.pli_runtime.proofs.Stacked.{by_refused}
use Rattle.pli_runtime.specs.Seen.{run_seen, call_of}
use Rattle.pli_runtime.proofs.runtime.Runtime.push_text.Goals as goal

pub returns-in-Err-clause-carried : goal.returns-in-Err-clause-carried
returns-in-Err-clause-carried g c = λ input.
    let told = c.in-Err.ensures (call_of g.K.AreaKeeper.keeper (run_seen g.O.OutputStream.output c.args.self.now
    input) c.args.memory.now) (rw c.new-source.ensures.layout refl) (rw c.new-source.ensures.memory refl) refl in
    by_refused _ (run_seen g.O.OutputStream.output c.args.self.now input) _ _ _ c.args.at c.in-Err.fault _ _
    c.requires refl told.0 told.1 c.refused.ensures
