use Rattle.std.proofs.Common.{[], refl, slice_index, sym, subst}
use Rattle.pli_meaning.specs.InputLines.{first_input}
use Rattle.pli_serving.specs.ActsAndEnds.{act_served}
use Rattle.pli_serving.specs.Answers.{Answer}
use Rattle.pli_serving.specs.Finding.{Call}
use Rattle.pli_runtime.proofs.Asking.{kept_unread}
use Rattle.pli_runtime.proofs.Carried.{by_level}
use Rattle.pli_runtime.specs.Seen.{run_seen, Stands}
use Rattle.pli_runtime.proofs.runtime.Runtime.act_or.Goals as goal

pub returns-then-number-eq-ACT-clause-carried : goal.returns-then-number-eq-ACT-clause-carried
returns-then-number-eq-ACT-clause-carried g c = λ all agrees whole.
    rw c.if-number-eq-ACT.true (by_level _ _ _ _ _ _ c.requires c.act.ensures.answers c.act.ensures.height)

pub returns-then-number-eq-ACT-clause-standing : goal.returns-then-number-eq-ACT-clause-standing
returns-then-number-eq-ACT-clause-standing g c =
    subst (λ n. Stands g.K.AreaKeeper.keeper c.args.self.now.held c.args.self.now.in_use n c.args.memory.now)
    (sym c.act.ensures.height) c.requires

pub returns-then-number-eq-ACT-clause-follows : goal.returns-then-number-eq-ACT-clause-follows
returns-then-number-eq-ACT-clause-follows g c = g.met.I.InputStream.stays c.args.self.now.streams.input

pub returns-then-number-eq-ACT-clause-kept : goal.returns-then-number-eq-ACT-clause-kept
returns-then-number-eq-ACT-clause-kept g c =
    let service : Call → Answer =
    λ t. act_served t (slice_index c.args.registers.now 10) (slice_index c.args.registers.now 11) in
    kept_unread g.I.InputStream.has_failed _ _ _ service
    (run_seen g.O.OutputStream.output c.args.self.now (first_input [])) _ _ _ _ refl
    (by_level _ _ _ service _ _ c.requires c.act.ensures.answers c.act.ensures.height)
