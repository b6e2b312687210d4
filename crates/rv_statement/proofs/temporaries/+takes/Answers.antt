use Rattle.std.proofs.Common.{◌≡◌, ◌∙◌, map, sym, ap, subst, arith}
use Rattle.std.specs.Prelude.{IfOk}
use Rattle.pli_typing.specs.TypedStatementView.{allocation_of, freeing_of, stmt_of, stmts_of}
use Rattle.pli_coding.specs.Environments.{most_taken}
use Rattle.pli_coding.specs.Allocating.{allocations_take, freeings_take}
use Rattle.pli_coding.specs.Statements.{stmt_takes, stmts_take}
use Rattle.pli_frames.specs.TakenView.{taken_of}
use Rattle.rv_statement.proofs.Taking.{list_takes-More, one_more, takes-Allocate, takes-Call, takes-Do, takes-Free}
use Rattle.rv_statement.proofs.Weights.{stmts_weight}
use Rattle.rv_statement.proofs.temporaries.+takes.Goals as goal

pub stmts_take-loop-rest-preserved : goal.stmts_take-loop-rest-preserved
stmts_take-loop-rest-preserved t c =
    let l = c.loop-rest in
    let s = c.deref.result.now in
    let r = c.deref-rest.result.now in
    let k = taken_of c.args.taken in
    let m = taken_of l.most in
    let takes = ap (λ x. stmts_take k (stmts_of x)) c.in-More.is
    ∙ list_takes-More k _ _ c.in-More.first.value _ c.in-More.behind.value
    ∙ ap (λ x. most_taken (stmt_takes k (stmt_of x)) (stmts_take k (stmts_of c.in-More.behind.value)))
    (sym c.deref.ensures)
    ∙ ap (λ x. most_taken (stmt_takes k (stmt_of s)) (stmts_take k (stmts_of x))) (sym c.deref-rest.ensures) in
    record {
      no_larger = omega
          (arith, l.invariant.no_larger, ap stmts_weight c.in-More.is, ap stmts_weight c.deref-rest.ensures);
      taken = ap (λ n. most_taken n (stmts_take k (stmts_of r)))
          (c.most-most.ensures ∙ ap (λ n. most_taken m n) c.in_ok-stmt_takes.ensures)
          ∙ one_more m (stmt_takes k (stmt_of s)) (stmts_take k (stmts_of r))
          ∙ ap (λ n. most_taken m n) (sym takes)
          ∙ l.invariant.taken;
    }

pub stmt_takes-returns-in-Do : goal.stmt_takes-returns-in-Do
stmt_takes-returns-in-Do t c =
    let k = taken_of c.args.taken in
    subst (λ z. IfOk c.stmts_take.result (λ r. taken_of r ≡ z))
    (sym (ap (λ x. stmt_takes k (stmt_of x)) c.in-Do.is ∙ takes-Do k c.in-Do.body c.in-Do.line))
    c.stmts_take.ensures

pub stmt_takes-returns-in-Call : goal.stmt_takes-returns-in-Call
stmt_takes-returns-in-Call t c =
    let k = taken_of c.args.taken in
    subst (λ z. IfOk c.call_takes.result (λ r. taken_of r ≡ z))
    (sym (ap (λ x. stmt_takes k (stmt_of x)) c.in-Call.is ∙ takes-Call k c.in-Call.call c.in-Call.line))
    c.call_takes.ensures

pub stmt_takes-returns-in-Allocate : goal.stmt_takes-returns-in-Allocate
stmt_takes-returns-in-Allocate t c =
    let k = taken_of c.args.taken in
    let all = c.in-Allocate.allocations in
    subst (λ z. IfOk c.allocations_take.result (λ r. taken_of r ≡ z))
    (ap (λ xs. allocations_take k (map allocation_of xs)) c.deref-in-Allocate.ensures.value
    ∙ sym (ap (λ x. stmt_takes k (stmt_of x)) c.in-Allocate.is ∙ takes-Allocate k all c.in-Allocate.line))
    c.allocations_take.ensures

pub stmt_takes-returns-in-Free : goal.stmt_takes-returns-in-Free
stmt_takes-returns-in-Free t c =
    let k = taken_of c.args.taken in
    subst (λ z. IfOk c.freeings_take.result (λ r. taken_of r ≡ z))
    (ap (λ xs. freeings_take k (map freeing_of xs)) c.deref-in-Free.ensures.value
    ∙ sym (ap (λ x. stmt_takes k (stmt_of x)) c.in-Free.is ∙ takes-Free k c.in-Free.freeings c.in-Free.line))
    c.freeings_take.ensures
