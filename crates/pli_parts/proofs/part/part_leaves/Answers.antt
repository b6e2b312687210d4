use Rattle.std.proofs.Common.{◌≡◌, ◌+◌, ◌∙◌, List, Ok, Option, ap, arith, length, subst, sym, ℕ}
use Rattle.std.proofs.lemmas.List.{length_push}
use Rattle.pli_storage.specs.Findings.{found_of}
use Rattle.pli_parts.specs.Leaves.{ArePartLeaves, IsLeafFound, IsPartLeaf}
use Rattle.pli_parts.specs.declared.leaf.PartLeaf.{PartLeaf}
use Rattle.pli_parts.proofs.Parts.{one_more}
use Rattle.pli_parts.proofs.part.part_leaves.Goals as goal

pub loop-number-init : goal.loop-number-init
loop-number-init c =
    let a = c.args.aggregate in
    record {
      found = λ s e. subst (λ (ls : List PartLeaf). ArePartLeaves s a.extent (found_of c.args.found) c.args.given.now c.args.held.now.layout.end c.args.first ls) (sym c.new-leaves.ensures.items) tt;
      many = ap length c.new-leaves.ensures.items;
      low = omega arith;
    }

pub loop-number-preserved : goal.loop-number-preserved
loop-number-preserved c =
    let a = c.args.aggregate in
    let f = found_of c.args.found in
    let given = c.args.given.now in
    let end = c.args.held.now.layout.end in
    let first = c.args.first in
    let n = c.loop-number.number in
    let old = c.loop-number.leaves.items in
    let next = c.in-Some.next in
    let items = c.in_ok-push-in-Some.ensures.items in
    let many = ap length items ∙ length_push old next in
    let at : first + n ≡ first + length old = omega (arith, c.loop-number.invariant.many) in
    record {
      found = λ s e.
          let there : IsPartLeaf s a.extent f given end (first + n) next = subst (λ (o : Option PartLeaf). IsLeafFound s a.extent f given end (first + n) (Ok o)) c.in-Some.is (c.in_ok-there.ensures s e) in
          subst (λ (ls : List PartLeaf). ArePartLeaves s a.extent f given end first ls) (sym items)
          (one_more s a.extent f given end first old next (c.loop-number.invariant.found s e) (subst (λ (k : ℕ). IsPartLeaf s a.extent f given end k next) at there));
      many = omega (arith, many, c.loop-number.invariant.many);
      low = omega (arith, c.loop-number-test.true);
    }

pub returns-in-None : goal.returns-in-None
returns-in-None c = λ s e.
    let a = c.args.aggregate in
    let n = c.loop-number.number in
    (n, omega (arith, c.loop-number-test.true), subst (λ (o : Option PartLeaf). IsLeafFound s a.extent (found_of c.args.found) c.args.given.now c.args.held.now.layout.end (c.args.first + n) (Ok o)) c.in-None.is (c.in_ok-there.ensures s e))

pub returns : goal.returns
returns c = λ s e. (c.loop-number.invariant.found s e, omega (arith, c.loop-number.invariant.many, c.loop-number.invariant.low, c.loop-number-test.false))
