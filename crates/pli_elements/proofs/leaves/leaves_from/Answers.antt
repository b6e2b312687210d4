use Rattle.std.proofs.Common.{◌≡◌, ◌+◌, ◌∙◌, List, None, Some, ap, arith, length, option_map, subst, sym, ℕ}
use Rattle.std.proofs.lemmas.List.{length_push}
use Rattle.pli_serving.specs.Templates.{shape_at}
use Rattle.pli_signatures.specs.View.{leaf_in_force}
use Rattle.pli_signatures.specs.Whole.{leaf_in}
use Rattle.pli_signatures.specs.declared.element.LeafInForce.{LeafInForce}
use Rattle.pli_elements.specs.Items.{AreLeaves}
use Rattle.pli_elements.proofs.Kept.{one_more}
use Rattle.pli_elements.proofs.leaves.leaves_from.Goals as goal

pub loop-number-init : goal.loop-number-init
loop-number-init c =
    let a = c.args.aggregate in
    record {
      found = subst (λ (ls : List LeafInForce). AreLeaves (shape_at c.args.held.now.signatures a.signature) a.extent c.args.first ls) (sym c.new-leaves.ensures.items) tt;
      many = ap length c.new-leaves.ensures.items;
      low = omega arith;
    }

pub loop-number-preserved : goal.loop-number-preserved
loop-number-preserved c =
    let a = c.args.aggregate in
    let o = shape_at c.args.held.now.signatures a.signature in
    let n = c.loop-number.number in
    let old = c.loop-number.leaves.items in
    let next = c.in-Some.next in
    let items = c.in_ok-push-in-Some.ensures.items in
    let many = ap length items ∙ length_push old next in
    let at : c.args.first + n ≡ c.args.first + length old = omega (arith, c.loop-number.invariant.many) in
    let there : Some (leaf_in_force next) ≡ leaf_in o (c.args.first + n) a.extent = ap (option_map leaf_in_force) (sym c.in-Some.is) ∙ c.in_ok-found.ensures in
    record {
      found = subst (λ (ls : List LeafInForce). AreLeaves o a.extent c.args.first ls) (sym items)
          (one_more o a.extent c.args.first old next c.loop-number.invariant.found (there ∙ ap (λ (k : ℕ). leaf_in o k a.extent) at));
      many = omega (arith, many, c.loop-number.invariant.many);
      low = omega (arith, c.loop-number-test.true);
    }

pub returns-in-None-clause-leaves : goal.returns-in-None-clause-leaves
returns-in-None-clause-leaves c =
    let missing : leaf_in (shape_at c.args.held.now.signatures c.args.aggregate.signature) (c.args.first + c.loop-number.number) c.args.aggregate.extent ≡ None = sym c.in_ok-found.ensures ∙ ap (option_map leaf_in_force) c.in-None.is in
    (c.loop-number.number, omega (arith, c.loop-number-test.true), missing)
