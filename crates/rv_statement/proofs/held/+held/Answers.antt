use Rattle.std.proofs.Common.{◌∙◌, map, sym, ap, arith}
use Rattle.std.specs.Prelude.{max}
use Rattle.pli_language.specs.View.{name_of}
use Rattle.pli_typing.specs.Resolving.{letters_of}
use Rattle.pli_typing.specs.TypedStatementView.{stmt_of, stmts_of}
use Rattle.pli_coding.specs.Statements.{labels_held, stmt_held, stmts_held}
use Rattle.rv_address.specs.Around.{environment_of}
use Rattle.rv_statement.proofs.HeldTaken.{both_held, list_held-End, list_held-More, one_more}
use Rattle.rv_statement.proofs.Weights.{stmts_weight}
use Rattle.rv_statement.proofs.held.+held.Goals as goal

pub stmts_held-returns-in-End : goal.stmts_held-returns-in-End
stmts_held-returns-in-End t c =
    let p = (environment_of c.args.environment.now).program in
    let l = c.loop-rest in
    c.most.ensures
    ∙ ap (λ k. max l.count k) (c.labels_held.ensures ∙ sym (list_held-End p c.in-End.labels)
    ∙ ap (λ x. stmts_held p (stmts_of x)) (sym c.in-End.is))
    ∙ l.invariant.counted

pub stmts_held-loop-rest-preserved : goal.stmts_held-loop-rest-preserved
stmts_held-loop-rest-preserved t c =
    let p = (environment_of c.args.environment.now).program in
    let l = c.loop-rest in
    let s = c.deref.result.now in
    let r = c.deref-rest.result.now in
    let labels = labels_held (letters_of (map name_of c.in-More.labels.now)) in
    let held = ap (λ x. stmts_held p (stmts_of x)) c.in-More.is
    ∙ list_held-More p c.in-More.labels _ c.in-More.first.value _ c.in-More.behind.value
    ∙ ap (λ x. max labels (max (stmt_held p (stmt_of x)) (stmts_held p (stmts_of c.in-More.behind.value))))
    (sym c.deref.ensures) ∙ ap (λ x. max labels (max (stmt_held p (stmt_of s)) (stmts_held p (stmts_of x))))
    (sym c.deref-rest.ensures) in
    record {
      no_larger =
          omega (arith, l.invariant.no_larger, ap stmts_weight c.in-More.is, ap stmts_weight c.deref-rest.ensures);
      counted = ap (λ n. max n (stmts_held p (stmts_of r))) (c.most-count.ensures
          ∙ ap (λ k. max l.count k) (both_held _ _ _ _ _ c.most-here.ensures c.labels_held-in-More.ensures
          c.in_ok-stmt_held-in-More.ensures))
          ∙ one_more l.count labels (stmt_held p (stmt_of s)) (stmts_held p (stmts_of r))
          ∙ ap (λ k. max l.count k) (sym held) ∙ l.invariant.counted;
    }
