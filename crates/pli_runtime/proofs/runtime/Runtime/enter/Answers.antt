use Rattle.pli_runtime.proofs.Carried.{by_flow_there}
use Rattle.pli_runtime.specs.Seen.{run_seen, call_of}
use Rattle.pli_runtime.proofs.runtime.Runtime.enter.Goals as goal

pub returns-clause-carried : goal.returns-clause-carried
returns-clause-carried g c = λ k m input s.
    by_flow_there k (run_seen g.O.OutputStream.output c.args.self.now input) m _ _ _ s
    (c.enter.ensures.answers (call_of k (run_seen g.O.OutputStream.output c.args.self.now input) m)
    c.are_texts.ensures c.height.ensures c.height-2.ensures) c.enter.ensures.height
