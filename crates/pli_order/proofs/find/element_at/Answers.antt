use Rattle.std.proofs.Common.{◌∙◌, None, Some, ap, arith, length, map, subst}
use Rattle.pli_signatures.specs.View.{leaf_in_force}
use Rattle.pli_order.specs.Orders.{element_shown}
use Rattle.pli_order.specs.Walks.{IsStep}
use Rattle.pli_order.specs.declared.walk.Step.{Step}
use Rattle.pli_order.proofs.Counting.{counted_length}
use Rattle.pli_order.proofs.Finding.{found_so, leads_first}
use Rattle.pli_order.proofs.find.element_at.Goals as goal

pub parts-init : goal.parts-init
parts-init c =
    let w = c.in_ok-walk.ensures in
    let place = w.place in
    let left = w.left in
    record {
      within = omega (arith, place, left);
      leads = leads_first c.as_slice-notes.result.now (map leaf_in_force c.args.leaves.now) c.args.given.now c.args.number _ c.in_ok-walk.walk w.place w.left (omega arith) w.number w.subscripts;
    }

pub step-requires-clause-even : goal.step-requires-clause-even
step-requires-clause-even c = ap length (c.as_slice.ensures.value ∙ c.in_ok-counts.ensures) ∙ counted_length c.as_slice-notes.result.now (map leaf_in_force c.args.leaves.now)

pub parts-preserved : goal.parts-preserved
parts-preserved c =
    let step = subst (λ (s : Step). IsStep c.as_slice-notes.result.now (map leaf_in_force c.args.leaves.now) c.parts.walk c.step.new.self s) c.in-On.is c.in_ok-step.ensures in
    record {
      within = step.0;
      leads = λ target at. step.2 target (c.parts.invariant.leads target at);
    }

pub parts-smaller : goal.parts-smaller
parts-smaller c =
    let step = subst (λ (s : Step). IsStep c.as_slice-notes.result.now (map leaf_in_force c.args.leaves.now) c.parts.walk c.step.new.self s) c.in-On.is c.in_ok-step.ensures in
    step.1

pub returns-in-Found : goal.returns-in-Found
returns-in-Found c = λ parts order.
    let step = subst (λ (s : Step). IsStep c.as_slice-notes.result.now (map leaf_in_force c.args.leaves.now) c.parts.walk c.step.new.self s) c.in-Found.is c.in_ok-step.ensures in
    found_so parts c.args.order.now c.as_slice-notes.result.now (map leaf_in_force c.args.leaves.now) c.args.given.now c.args.number (Some (element_shown c.in-Found.element)) (omega arith) c.as_slice-notes.ensures.value
    (λ target at. step target (c.parts.invariant.leads target at)) order

pub returns-in-Nothing : goal.returns-in-Nothing
returns-in-Nothing c = λ parts order.
    let step = subst (λ (s : Step). IsStep c.as_slice-notes.result.now (map leaf_in_force c.args.leaves.now) c.parts.walk c.step.new.self s) c.in-Nothing.is c.in_ok-step.ensures in
    found_so parts c.args.order.now c.as_slice-notes.result.now (map leaf_in_force c.args.leaves.now) c.args.given.now c.args.number None (omega arith) c.as_slice-notes.ensures.value
    (λ target at. step target (c.parts.invariant.leads target at)) order
