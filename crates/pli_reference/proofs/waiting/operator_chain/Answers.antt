use Rattle.std.proofs.Common.{◌∙◌, arith}
use Rattle.pli_reference.proofs.ShownWaits.{infix_lighter, infix_same, prefix_lighter, prefix_same}
use Rattle.pli_reference.proofs.waiting.operator_chain.Goals as goal

pub operators-preserved-in-Prefix : goal.operators-preserved-in-Prefix
operators-preserved-in-Prefix c = record {
  same = λ scope. prefix_same scope c.operators.waiting.items c.push.new.self.items c.operators.first c.in-Prefix.op c.in-Prefix.operand c.in-Prefix.place c.deref-first.result.now c.in-Prefix.is c.in_ok-push-in-Prefix.ensures.items c.deref-first.ensures ∙ c.operators.invariant.same scope;
  lighter = omega (arith, prefix_lighter c.operators.waiting.items c.push.new.self.items c.operators.first c.in-Prefix.op c.in-Prefix.operand c.in-Prefix.place c.deref-first.result.now c.in-Prefix.is c.in_ok-push-in-Prefix.ensures.items c.deref-first.ensures, c.operators.invariant.lighter);
}

pub operators-preserved : goal.operators-preserved
operators-preserved c = record {
  same = λ scope. infix_same scope c.operators.waiting.items c.push-in-Infix.new.self.items c.operators.first.now c.deref.result c.in-Infix.op c.in-Infix.left c.in-Infix.right c.deref-first-in-Infix.result.now c.in-Infix.is c.deref.ensures c.in_ok-push-in-Infix.ensures.items c.deref-first-in-Infix.ensures ∙ c.operators.invariant.same scope;
  lighter = omega (arith, infix_lighter c.operators.waiting.items c.push-in-Infix.new.self.items c.operators.first.now c.deref.result c.in-Infix.op c.in-Infix.left c.in-Infix.right c.deref-first-in-Infix.result.now c.in-Infix.is c.deref.ensures c.in_ok-push-in-Infix.ensures.items c.deref-first-in-Infix.ensures, c.operators.invariant.lighter);
}
