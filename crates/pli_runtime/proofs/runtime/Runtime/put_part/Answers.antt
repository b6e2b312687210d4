use Rattle.std.proofs.Common.{refl, sym, ◌∙◌, ◌≡◌, drop}
use Rattle.pli_parts.specs.Served.{entries_left}
use Rattle.pli_runtime.specs.Seen.{run_seen}
use Rattle.pli_runtime.proofs.Stacked.{by_put, one_dropped}
use Rattle.pli_runtime.proofs.runtime.Runtime.put_part.Goals as goal

pub returns-then-is_stored-clause-carried : goal.returns-then-is_stored-clause-carried
returns-then-is_stored-clause-carried g c = λ input.
    let es = c.args.self.now.entries in
    let dropped : entries_left c.put_aggregate-reply.result es ≡ drop 1 es = rw c.if-is_stored.true at (c.is_stored.ensures es) in
    by_put _ (run_seen g.O.OutputStream.output c.args.self.now input) _ _ _ c.put_aggregate-reply.result
    c.in-Some.leaves.now _ c.requires c.in-Some.ensures c.put_aggregate-reply.ensures c.put_aggregate-reply.auto.memory
    (c.truncate.ensures ∙ one_dropped es _ c.height-below.result _ c.in-Some.ensures c.height-below.ensures refl ∙ sym dropped)

pub returns-else-is_stored-clause-carried : goal.returns-else-is_stored-clause-carried
returns-else-is_stored-clause-carried g c = λ input.
    let es = c.args.self.now.entries in
    let stayed : entries_left c.put_aggregate-reply.result es ≡ es = rw c.if-is_stored.false at (c.is_stored.ensures es) in
    by_put _ (run_seen g.O.OutputStream.output c.args.self.now input) _ _ _ c.put_aggregate-reply.result
    c.in-Some.leaves.now _ c.requires c.in-Some.ensures c.put_aggregate-reply.ensures
    c.put_aggregate-reply.auto.memory (sym stayed)
