use Rattle.std.proofs.Common.{◌≡◌, suc, ◌-◌, ◌+◌, ◌/◌, sym, ap, ◌∙◌, arith}
use Rattle.std.specs.Prelude.{is_some}
use Rattle.area_keeper.specs.Chain.{walked, word_at, first_link}
use Rattle.area_heap.proofs.Walks.{tried_end, tried_stop, tried_step}
use Rattle.area_heap.proofs.chain.is_whole.Goals as goal

pub steps-init : goal.steps-init
steps-init c =
    let n : suc (c.args.capacity / 16) ≡ suc (c.args.capacity / 16) - 0 = omega arith in
    ap (λ k. is_some (walked k 0 c.args.capacity (word_at first_link c.args.bytes.now) c.args.bytes.now)) n
    ∙ ap (λ k. is_some (walked (suc (c.args.capacity / 16) - 0) 0 c.args.capacity k c.args.bytes.now)) (sym c.word_at-link.ensures)

pub returns-then-link-eq0 : goal.returns-then-link-eq0
returns-then-link-eq0 c =
    sym (c.steps.invariant ∙ tried_end (suc (c.args.capacity / 16) - c.steps.step) c.steps.end c.args.capacity c.steps.link c.args.bytes.now (omega arith) c.if-link-eq0.true)

pub returns-in-None : goal.returns-in-None
returns-in-None c =
    sym (c.steps.invariant ∙ tried_stop (suc (c.args.capacity / 16) - c.steps.step) c.steps.end c.args.capacity c.steps.link c.args.bytes.now (omega arith) (omega arith) c.in-None.ensures)

pub steps-preserved : goal.steps-preserved
steps-preserved c =
    c.steps.invariant
    ∙ tried_step (suc (c.args.capacity / 16) - c.steps.step) c.steps.end c.args.capacity c.steps.link c.in-Some.behind (suc (c.args.capacity / 16) - (c.steps.step + 1)) c.word_at-link-in-steps.result c.args.bytes.now (omega arith) (omega arith) c.in-Some.ensures c.word_at-link-in-steps.ensures
