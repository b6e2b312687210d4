use Rattle.std.proofs.Common.{◌∙◌, None, ap, map, refl, arith}
use Rattle.pli_language.specs.Tree.{Plain}
use Rattle.pli_language.specs.View.{expr_of, qualified_of, reference_of}
use Rattle.pli_operand.specs.Notes.{noted}
use Rattle.pli_operand.specs.Shown.{notes_of, operand_of, referent_of}
use Rattle.pli_reference.specs.Shown.{locator_of, named_of, scope_of}
use Rattle.pli_reference.specs.ShownWaiting.{waiting_of}
use Rattle.pli_reference.specs.Waiting.{followed, resumed}
use Rattle.pli_reference.proofs.ShownWaits.{behind_noted, behind_value, ended_noted, ended_value, first_operand, first_reference, followed_noted, followed_value, infix_noted, infix_value, infix_weighs, last_lighter, last_names_lighter, last_noted, listed_lighter, listed_noted, listed_value, made_of, onward_noted, onward_value, plain_noted, prefix_noted, prefix_value, up_noted, up_value}
use Rattle.pli_reference.proofs.expression.+walk.Goals as goal

pub expressions-expressions-preserved : goal.expressions-expressions-preserved
expressions-expressions-preserved m c = record {
  noted = listed_noted (notes_of c.expressions.notes) (notes_of c.operand.new.notes) (scope_of c.args.scope) c.expressions.left.now c.deref-left.result.now c.in-More.first c.in-More.rest c.deref.result.now c.in-More.is c.deref.ensures c.deref-left.ensures c.in_ok-operand.ensures.noted ∙ c.expressions.invariant.noted;
  value = listed_value (scope_of c.args.scope) c.expressions.left.now c.deref-left.result.now c.in-More.first c.in-More.rest c.deref.result.now c.expressions.out.items c.push.new.self.items c.in_ok-operand.field-0 c.in-More.is c.deref.ensures c.deref-left.ensures c.in_ok-operand.ensures.value c.in_ok-push.ensures.items ∙ c.expressions.invariant.value;
  lighter = omega (arith, listed_lighter c.expressions.left.now c.deref-left.result.now c.in-More.first c.in-More.rest c.in-More.is c.deref-left.ensures, c.expressions.invariant.lighter);
}

pub followed-names_in-requires : goal.followed-names_in-requires
followed-names_in-requires m c = omega (arith, last_names_lighter c.locators.located.items c.pop.new.self.items c.in-Some.target c.in-Some.ensures.items, c.locators.invariant.lighter)

pub names_in-returns-in-Last-clause-noted : goal.names_in-returns-in-Last-clause-noted
names_in-returns-in-Last-clause-noted m c = last_noted (notes_of c.names.notes) (notes_of c.arguments_in.new.notes) (scope_of c.args.scope) c.names.left.now c.in-Last.name c.in-Last.arguments _ c.in-Last.is refl c.in_ok-arguments-in-Last.ensures.noted ∙ c.names.invariant.noted

pub operand-returns-clause-noted : goal.operand-returns-clause-noted
operand-returns-clause-noted m c =
    let scope = scope_of c.args.scope in
    let first = made_of c.place_of.result c.constant.result (referent_of c.in_ok-referent.referent) in
    c.in_ok-resumed.ensures.noted
    ∙ ap (λ n. noted n (resumed scope (map waiting_of c.in_ok-waiting.field-0.waiting.items) first)) c.in_ok-referent.ensures.noted
    ∙ ended_noted (notes_of c.args.notes.now) scope (map waiting_of c.in_ok-waiting.field-0.waiting.items) (expr_of c.in_ok-waiting.field-0.first.now) (expr_of c.args.expr.now) first (first_operand scope (expr_of c.in_ok-waiting.field-0.first.now) c.place_of.result c.constant.result (referent_of c.in_ok-referent.referent) c.place_of.ensures c.constant.ensures.value c.in_ok-referent.ensures.value) (c.in_ok-waiting.ensures.same scope)

pub operand-returns-clause-value : goal.operand-returns-clause-value
operand-returns-clause-value m c =
    let scope = scope_of c.args.scope in
    let first = made_of c.place_of.result c.constant.result (referent_of c.in_ok-referent.referent) in
    c.in_ok-resumed.ensures.value
    ∙ ended_value scope (map waiting_of c.in_ok-waiting.field-0.waiting.items) (expr_of c.in_ok-waiting.field-0.first.now) (expr_of c.args.expr.now) first (first_operand scope (expr_of c.in_ok-waiting.field-0.first.now) c.place_of.result c.constant.result (referent_of c.in_ok-referent.referent) c.place_of.ensures c.constant.ensures.value c.in_ok-referent.ensures.value) (c.in_ok-waiting.ensures.same scope)

pub referred-returns-clause-noted : goal.referred-returns-clause-noted
referred-returns-clause-noted m c =
    let scope = scope_of c.args.scope in
    let located = map (λ q. qualified_of q.now) c.in_ok-located.field-0.located.items in
    let names = qualified_of c.in_ok-located.field-0.names.now in
    let first = made_of c.place_of_reference.result None (referent_of c.in_ok-names_referent.field-0) in
    c.in_ok-followed.ensures.noted
    ∙ ap (λ n. noted n (followed scope located first)) (plain_noted (notes_of c.args.notes.now) (notes_of c.names_in.new.notes) (notes_of c.names_referent.new.notes) scope names (map named_of c.in_ok-names.names.items) c.in_ok-names.ensures.noted c.in_ok-names.ensures.value c.in_ok-names_referent.ensures.noted)
    ∙ followed_noted (notes_of c.args.notes.now) scope located (Plain names) (reference_of c.args.target.now) first (first_reference scope located names (reference_of c.args.target.now) c.place_of_reference.result (referent_of c.in_ok-names_referent.field-0) (map named_of c.in_ok-names.names.items) (c.in_ok-located.ensures.same scope) c.place_of_reference.ensures c.in_ok-names.ensures.value c.in_ok-names_referent.ensures.value) (c.in_ok-located.ensures.same scope)

pub referred-returns-clause-value : goal.referred-returns-clause-value
referred-returns-clause-value m c =
    let scope = scope_of c.args.scope in
    let located = map (λ q. qualified_of q.now) c.in_ok-located.field-0.located.items in
    let names = qualified_of c.in_ok-located.field-0.names.now in
    let first = made_of c.place_of_reference.result None (referent_of c.in_ok-names_referent.field-0) in
    c.in_ok-followed.ensures.value
    ∙ followed_value scope located (Plain names) (reference_of c.args.target.now) first (first_reference scope located names (reference_of c.args.target.now) c.place_of_reference.result (referent_of c.in_ok-names_referent.field-0) (map named_of c.in_ok-names.names.items) (c.in_ok-located.ensures.same scope) c.place_of_reference.ensures c.in_ok-names.ensures.value c.in_ok-names_referent.ensures.value) (c.in_ok-located.ensures.same scope)

pub resumed-infix-requires : goal.resumed-infix-requires
resumed-infix-requires m c = omega (arith, last_lighter c.operators.waiting.items c.pop.new.self.items c.in-Some.operator c.in-Some.ensures.items, infix_weighs c.in-Some.operator c.in-Infix.op c.in-Infix.right c.in-Infix.is, c.operators.invariant.lighter)

pub resumed-operators-preserved-in_ok-prefixed-in-Prefix : goal.resumed-operators-preserved-in_ok-prefixed-in-Prefix
resumed-operators-preserved-in_ok-prefixed-in-Prefix m c =
    let scope = scope_of c.args.scope in
    let before = operand_of c.operators.taken in
    let after = made_of c.place_of.result c.constant.result (referent_of c.in_ok-prefixed-in-Prefix.field-0) in
    let made = prefix_value scope c.in-Some.operator c.in-Prefix.op c.in-Prefix.whole before c.place_of.result c.constant.result (referent_of c.in_ok-prefixed-in-Prefix.field-0) c.in-Prefix.is c.place_of.ensures c.constant.ensures.value c.in_ok-prefixed-in-Prefix.ensures.value in
    record {
      noted = up_noted (notes_of c.operators.notes) (notes_of c.prefixed.new.notes) scope c.operators.waiting.items c.pop.new.self.items c.in-Some.operator before after c.in-Some.ensures.items (prefix_noted (notes_of c.operators.notes) (notes_of c.prefixed.new.notes) scope c.in-Some.operator c.in-Prefix.op c.in-Prefix.whole before c.in-Prefix.is c.in_ok-prefixed-in-Prefix.ensures.noted) made ∙ c.operators.invariant.noted;
      value = up_value scope c.operators.waiting.items c.pop.new.self.items c.in-Some.operator before after c.in-Some.ensures.items made ∙ c.operators.invariant.value;
      lighter = omega (arith, last_lighter c.operators.waiting.items c.pop.new.self.items c.in-Some.operator c.in-Some.ensures.items, c.operators.invariant.lighter);
    }

pub resumed-operators-preserved : goal.resumed-operators-preserved
resumed-operators-preserved m c =
    let scope = scope_of c.args.scope in
    let before = operand_of c.operators.taken in
    let after = made_of c.operators.taken.place None (referent_of c.in_ok-infix-in-Infix.field-0) in
    let made = infix_value scope c.in-Some.operator c.in-Infix.op c.in-Infix.right before (referent_of c.in_ok-infix-in-Infix.field-0) c.in-Infix.is c.in_ok-infix-in-Infix.ensures.value in
    record {
      noted = up_noted (notes_of c.operators.notes) (notes_of c.infix.new.notes) scope c.operators.waiting.items c.pop.new.self.items c.in-Some.operator before after c.in-Some.ensures.items (infix_noted (notes_of c.operators.notes) (notes_of c.infix.new.notes) scope c.in-Some.operator c.in-Infix.op c.in-Infix.right before c.in-Infix.is c.in_ok-infix-in-Infix.ensures.noted) made ∙ c.operators.invariant.noted;
      value = up_value scope c.operators.waiting.items c.pop.new.self.items c.in-Some.operator before after c.in-Some.ensures.items made ∙ c.operators.invariant.value;
      lighter = omega (arith, last_lighter c.operators.waiting.items c.pop.new.self.items c.in-Some.operator c.in-Some.ensures.items, c.operators.invariant.lighter);
    }

pub followed-locators-preserved : goal.followed-locators-preserved
followed-locators-preserved m c =
    let scope = scope_of c.args.scope in
    let names = qualified_of c.in-Some.target.now in
    let before = operand_of c.locators.taken in
    let locator = locator_of c.in_ok-locator.locator in
    let named = map named_of c.in_ok-names.names.items in
    let after = made_of c.locators.taken.place None (referent_of c.in_ok-names_referent.field-0) in
    let made = behind_value scope names before locator named (referent_of c.in_ok-names_referent.field-0) c.in_ok-locator.ensures.value c.in_ok-names.ensures.value c.in_ok-names_referent.ensures.value in
    let got = behind_noted (notes_of c.locators.notes) (notes_of c.written_locator.new.notes) (notes_of c.names_in.new.notes) (notes_of c.names_referent.new.notes) scope names before locator named c.in_ok-locator.ensures.noted c.in_ok-locator.ensures.value c.in_ok-names.ensures.noted c.in_ok-names.ensures.value c.in_ok-names_referent.ensures.noted in
    record {
      noted = onward_noted (notes_of c.locators.notes) (notes_of c.names_referent.new.notes) scope c.locators.located.items c.pop.new.self.items c.in-Some.target before after c.in-Some.ensures.items got made ∙ c.locators.invariant.noted;
      value = onward_value scope c.locators.located.items c.pop.new.self.items c.in-Some.target before after c.in-Some.ensures.items made ∙ c.locators.invariant.value;
      lighter = omega (arith, last_names_lighter c.locators.located.items c.pop.new.self.items c.in-Some.target c.in-Some.ensures.items, c.locators.invariant.lighter);
    }
