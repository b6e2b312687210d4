use Rattle.std.proofs.Common.{arith}
use Rattle.rv_assembly.proofs.Growing.{size_pushed, fit_pushed}
use Rattle.rv_assembly.proofs.code.Code.push.Goals as goal

pub invariant_of-self-2 : goal.invariant_of-self-2
invariant_of-self-2 c = record {
  sized = size_pushed c.self.inside.items.items c.push.new.self.items c.args.item _ _ c.in_ok-push.ensures.items c.self.invariant.sized c.size.ensures;
  small = omega arith;
  fit = fit_pushed c.self.inside.items.items c.push.new.self.items c.args.item c.in_ok-push.ensures.items c.self.invariant.fit c.requires;
}
