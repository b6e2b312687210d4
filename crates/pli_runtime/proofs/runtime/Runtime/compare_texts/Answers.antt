use Rattle.std.proofs.Common.{refl}
use Rattle.pli_runtime.proofs.Stacked.{by_done, by_refused}
use Rattle.pli_runtime.specs.Seen.{run_seen, call_of}
use Rattle.pli_runtime.proofs.runtime.Runtime.compare_texts.Goals as goal

pub returns-in-Ok-clause-carried : goal.returns-in-Ok-clause-carried
returns-in-Ok-clause-carried g c = λ k m input s.
    rw c.order_word.ensures (by_done k (run_seen g.O.OutputStream.output c.args.self.now input) m m _ _ _ _ s refl
    (c.in-Ok.ensures (call_of k (run_seen g.O.OutputStream.output c.args.self.now input) m) 0 c.args.second refl))

pub returns-in-Err-clause-carried : goal.returns-in-Err-clause-carried
returns-in-Err-clause-carried g c = λ k m input s.
    let told = c.in-Err.ensures (call_of k (run_seen g.O.OutputStream.output c.args.self.now input) m) 0 c.args.second
    refl in
    by_refused k (run_seen g.O.OutputStream.output c.args.self.now input) m m _ 0 c.in-Err.fault _ _ s refl told.0
    told.1 c.refused.ensures
