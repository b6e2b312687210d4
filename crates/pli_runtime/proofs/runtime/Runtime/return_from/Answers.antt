use Rattle.pli_runtime.proofs.Ends.{by_kept, by_left, return_never_ends}
use Rattle.pli_runtime.specs.Seen.{run_seen, call_of}
use Rattle.pli_runtime.proofs.runtime.Runtime.return_from.Goals as goal

pub returns-in-Ok-clause-carried : goal.returns-in-Ok-clause-carried
returns-in-Ok-clause-carried g c = λ k m input s.
    let there = call_of k (run_seen g.O.OutputStream.output c.args.self.now input) m in
    rw c.end_block.ensures.reply
    (by_left k (run_seen g.O.OutputStream.output c.args.self.now input) _ m _ 0 _ _ c.in-Ok.left
    (return_never_ends there)
    (λ v x y. c.blocks_are_left.ensures.return_from there _ v m x y s.counted)
    s c.in-Ok.ensures.kept (c.end_block.ensures.back input) (c.in-Ok.ensures.answers k m there))

pub returns-in-Err-clause-carried : goal.returns-in-Err-clause-carried
returns-in-Err-clause-carried g c = λ k m input s.
    by_kept k (run_seen g.O.OutputStream.output c.args.self.now input) m _ 0 _ _ _ s c.in-Err.ensures.kept
    (c.in-Err.ensures.answers k m (call_of k (run_seen g.O.OutputStream.output c.args.self.now input) m))
