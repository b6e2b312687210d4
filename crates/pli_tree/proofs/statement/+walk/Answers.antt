use Rattle.std.proofs.Common.{◌≡◌, ◌∙◌, ◌++◌, map, refl, sym, ap, append-nil, arith}
use Rattle.std.specs.Prelude.{None, Some}
use Rattle.std.proofs.lemmas.Result.{IfOk-weaker}
use Rattle.pli_language.specs.Refusals.{soonest}
use Rattle.pli_typing.specs.Resolving as Z
use Rattle.pli_language.specs.Tree as T
use Rattle.pli_typing.specs.TypedTree as Y
use Rattle.pli_typing.specs.TypedStatementView.{procedure_of, stmts_of}
use Rattle.pli_language.specs.View.{expr_of, item_of, items_of, name_of, option_of, stmt_of}
use Rattle.pli_language.proofs.Views.{items_of-More}
use Rattle.pli_declare.proofs.Weights.{items_weight}
use Rattle.pli_declaring.proofs.Faults.{soonest_none}
use Rattle.pli_tree.specs.Shown.{context_of}
use Rattle.pli_tree.specs.Shown.{behind_items, ended, part_of, parts_onto}
use Rattle.pli_tree.proofs.Lists.{behind_both, behind_end, behind_on, end_here, found_on, none_when, on_ok, onto_none, procedures_on, value_on}
use Rattle.pli_tree.proofs.statement.+walk.Goals as goal

pub if_else-returns-clause-next : goal.if_else-returns-clause-next
if_else-returns-clause-next t c =
    behind_both (context_of c.args.context.now) c.args.walked.now.next c.condition_at.new.walked.next c.boxed.new.walked.next c.boxed-2.new.walked.next (expr_of c.args.condition.now) (stmt_of c.args.unit.now) (stmt_of c.args.otherwise.now) c.args.place c.in_ok-condition.ensures.next c.in_ok-unit.ensures.next c.in_ok-otherwise.ensures.next

pub statements-loop-rest-init : goal.statements-loop-rest-init
statements-loop-rest-init t c =
    let listed = (Z.statements (context_of c.args.context.now) c.args.walked.now.next (items_of c.args.items.now)).value in
    record {
      no_larger = omega arith;
      found = refl;
      procedures = refl;
      next = refl;
      value = ap (λ ps. parts_onto (map part_of ps) listed) c.new-parts.ensures.items ∙ onto_none listed;
    }

pub statements-returns-in-Some-clause-found : goal.statements-returns-in-Some-clause-found
statements-returns-in-Some-clause-found t c =
    let l = c.loop-rest in
    let i = item_of c.in-More.first.value in
    let is = items_of c.in-More.behind.value in
    let here = ap items_of c.in-More.is ∙ items_of-More _ c.in-More.first.value _ c.in-More.behind.value in
    let last = ap (λ x. ended (item_of x)) (sym c.deref.ensures) ∙ sym c.ended.ensures ∙ ap (option_of (λ ns. map name_of ns.now)) c.in-Some.is in
    let done = end_here (context_of c.args.context.now) l.walked.next i is (items_of l.rest.now) (map name_of c.in-Some.labels.now) here last in
    on_ok c.listed.result (sym (ap (λ r. soonest l.walked.found r.faults) done ∙ soonest_none l.walked.found) ∙ l.invariant.found)

pub statements-returns-in-Some-clause-procedures : goal.statements-returns-in-Some-clause-procedures
statements-returns-in-Some-clause-procedures t c =
    let l = c.loop-rest in
    let i = item_of c.in-More.first.value in
    let is = items_of c.in-More.behind.value in
    let here = ap items_of c.in-More.is ∙ items_of-More _ c.in-More.first.value _ c.in-More.behind.value in
    let last = ap (λ x. ended (item_of x)) (sym c.deref.ensures) ∙ sym c.ended.ensures ∙ ap (option_of (λ ns. map name_of ns.now)) c.in-Some.is in
    let done = end_here (context_of c.args.context.now) l.walked.next i is (items_of l.rest.now) (map name_of c.in-Some.labels.now) here last in
    let ps = map procedure_of l.walked.procedures.items in
    on_ok c.listed.result (sym (ap (λ r. ps ++ r.procedures) done ∙ append-nil ps) ∙ l.invariant.procedures)

pub statements-returns-in-Some-clause-next : goal.statements-returns-in-Some-clause-next
statements-returns-in-Some-clause-next t c =
    let l = c.loop-rest in
    let k = context_of c.args.context.now in
    let i = item_of c.in-More.first.value in
    let is = items_of c.in-More.behind.value in
    let here = ap items_of c.in-More.is ∙ items_of-More _ c.in-More.first.value _ c.in-More.behind.value in
    let last = ap (λ x. ended (item_of x)) (sym c.deref.ensures) ∙ sym c.ended.ensures ∙ ap (option_of (λ ns. map name_of ns.now)) c.in-Some.is in
    let there = c.in_ok-walked.ensures ∙ ap (λ x. behind_items k l.walked.next (items_of x)) c.deref-in-Some.ensures in
    on_ok c.listed.result (behind_end k l.walked.next c.in_ok-walked.field-0 i is (items_of l.rest.now) (map name_of c.in-Some.labels.now) here last there ∙ l.invariant.next)

pub statements-returns-in-Some-clause-value : goal.statements-returns-in-Some-clause-value
statements-returns-in-Some-clause-value t c =
    let l = c.loop-rest in
    let i = item_of c.in-More.first.value in
    let is = items_of c.in-More.behind.value in
    let here = ap items_of c.in-More.is ∙ items_of-More _ c.in-More.first.value _ c.in-More.behind.value in
    let last = ap (λ x. ended (item_of x)) (sym c.deref.ensures) ∙ sym c.ended.ensures ∙ ap (option_of (λ ns. map name_of ns.now)) c.in-Some.is in
    let done = end_here (context_of c.args.context.now) l.walked.next i is (items_of l.rest.now) (map name_of c.in-Some.labels.now) here last in
    let whole = sym (ap (λ r. parts_onto (map part_of l.parts.items) r.value) done) ∙ l.invariant.value in
    IfOk-weaker c.listed.result (λ ss. stmts_of ss ≡ parts_onto (map part_of l.parts.items) (Y.EndOfList (Z.letters_of (map name_of c.in-Some.labels.now)))) (λ ss. stmts_of ss ≡ (Z.statements (context_of c.args.context.now) c.args.walked.now.next (items_of c.args.items.now)).value) (λ ss h. h ∙ whole) c.listed.ensures

pub statements-loop-rest-preserved : goal.statements-loop-rest-preserved
statements-loop-rest-preserved t c =
    let l = c.loop-rest in
    let k = context_of c.args.context.now in
    let i = item_of c.deref-in-More.result.now in
    let is = items_of c.deref-rest.result.now in
    let ys = items_of l.rest.now in
    let here = ap items_of c.in-More.is ∙ items_of-More _ c.in-More.first.value _ c.in-More.behind.value ∙ ap (λ x. T.ItemThen (item_of x) (items_of c.in-More.behind.value)) (sym c.deref-in-More.ensures) ∙ ap (λ x. T.ItemThen i (items_of x)) (sym c.deref-rest.ensures) in
    let none = none_when c.ended.result c.in_default-ended.not-Some in
    let on = ap (λ x. ended (item_of x)) (c.deref-in-More.ensures ∙ sym c.deref.ensures) ∙ sym c.ended.ensures ∙ ap (option_of (λ ns. map name_of ns.now)) none in
    let w = c.put_item.new.walked in
    let done = c.in_ok-put_item.ensures in
    record {
      no_larger = omega (arith, l.invariant.no_larger, ap items_weight c.in-More.is, ap items_weight c.deref-rest.ensures);
      found = found_on k l.walked.next w.next l.walked.found w.found i is ys here on done.next done.found ∙ l.invariant.found;
      procedures = procedures_on k l.walked.next w.next (map procedure_of l.walked.procedures.items) (map procedure_of w.procedures.items) i is ys here on done.next done.procedures ∙ l.invariant.procedures;
      next = behind_on k l.walked.next w.next i is ys here done.next ∙ l.invariant.next;
      value = value_on k l.walked.next w.next (map part_of l.parts.items) (map part_of c.put_item.new.parts.items) i is ys here on done.next done.parts ∙ l.invariant.value;
    }
