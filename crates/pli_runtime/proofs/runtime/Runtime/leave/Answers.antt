use Rattle.std.proofs.Common.{[], refl}
use Rattle.area_keeper.specs.Chain.{chain}
use Rattle.pli_leaving.specs.Leaving.{with_both}
use Rattle.pli_meaning.specs.InputLines.{first_input}
use Rattle.pli_services.specs.Flowing.{flow_seen}
use Rattle.pli_runtime.proofs.Ends.{by_kept, by_left, leave_few, leave_kept, leave_never_ends}
use Rattle.pli_runtime.specs.Seen.{run_seen, call_of}
use Rattle.pli_runtime.proofs.runtime.Runtime.leave.Goals as goal

pub returns-in-Ok-clause-carried : goal.returns-in-Ok-clause-carried
returns-in-Ok-clause-carried g c = λ k m input s.
    let there = call_of k (run_seen g.O.OutputStream.output c.args.self.now input) m in
    rw c.end_block.ensures.reply
    (by_left k (run_seen g.O.OutputStream.output c.args.self.now input) _ m _ c.args.keep _ _ c.in-Ok.left
    (leave_never_ends there c.args.keep c.args.second)
    (λ v x y. c.blocks_are_left.ensures.leave there c.args.keep c.args.second _ v m x y s.counted)
    s c.in-Ok.ensures.kept (c.end_block.ensures.back input) (c.in-Ok.ensures.answers k m there c.top-top.ensures))

pub returns-in-Err-clause-carried : goal.returns-in-Err-clause-carried
returns-in-Err-clause-carried g c = λ k m input s.
    by_kept k (run_seen g.O.OutputStream.output c.args.self.now input) m _ c.args.keep _ _ _ s c.in-Err.ensures.kept
    (c.in-Err.ensures.answers k m (call_of k (run_seen g.O.OutputStream.output c.args.self.now input) m)
    c.top-top.ensures)

pub end_block-requires-clause-few : goal.end_block-requires-clause-few
end_block-requires-clause-few g c =
    let there = call_of chain (run_seen g.O.OutputStream.output c.args.self.now (first_input [])) [] in
    leave_few there (with_both chain (flow_seen g.O.OutputStream.output c.leave.new.flow) c.leave.new.held [] there)
    c.args.keep c.args.second c.in-Ok.left (c.in-Ok.ensures.answers chain [] there c.top-top.ensures)

pub end_block-requires-clause-kept : goal.end_block-requires-clause-kept
end_block-requires-clause-kept g c =
    let there = call_of chain (run_seen g.O.OutputStream.output c.args.self.now (first_input [])) [] in
    leave_kept there (with_both chain (flow_seen g.O.OutputStream.output c.leave.new.flow) c.leave.new.held [] there)
    c.args.keep c.args.second c.in-Ok.left (c.in-Ok.ensures.answers chain [] there c.top-top.ensures) refl
