use Rattle.std.proofs.Common.{refl}
use Rattle.pli_runtime.proofs.Stacked.{by_done, by_refused}
use Rattle.pli_runtime.specs.Seen.{run_seen, call_of}
use Rattle.pli_runtime.proofs.runtime.Runtime.store_text.Goals as goal

pub returns-in-Ok-clause-carried : goal.returns-in-Ok-clause-carried
returns-in-Ok-clause-carried g c = λ input.
    let there = call_of g.K.AreaKeeper.keeper (run_seen g.O.OutputStream.output c.args.self.now input)
    c.args.memory.now in
    by_done _ (run_seen g.O.OutputStream.output c.args.self.now input) _ _ _ _ _ _ c.requires
    c.store-stored.auto.memory (c.in-Ok.ensures.served there refl refl refl)

pub returns-in-Err-clause-carried : goal.returns-in-Err-clause-carried
returns-in-Err-clause-carried g c = λ input.
    let there = call_of g.K.AreaKeeper.keeper (run_seen g.O.OutputStream.output c.args.self.now input)
    c.args.memory.now in
    let told = c.in-Err.ensures.served there refl refl refl in
    by_refused _ (run_seen g.O.OutputStream.output c.args.self.now input) _ _ _ c.args.at c.in-Err.fault _ _
    c.requires c.in-Err.ensures.kept told.0 told.1 c.refused.ensures
