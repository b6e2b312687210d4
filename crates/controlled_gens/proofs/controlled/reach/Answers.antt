use Rattle.std.proofs.Common.{Vec, Global, arith}
use Rattle.controlled_gens.specs.declared.controlled.Generation.{Generation}
use Rattle.controlled_gens.proofs.Stacking.{filled_by_one, one_more}
use Rattle.controlled_gens.proofs.controlled.reach.Goals as goal

pub stacks-preserved : goal.stacks-preserved
stacks-preserved c =
    let one = one_more c.stacks.stacks.items c.push.new.self.items c.new.result c.in_ok-push.ensures.items in
    record {
      grown =
          filled_by_one (λ (v : Vec Generation Global). v.items) c.args.stacks.now.items c.stacks.stacks.items c.push.new.self.items c.new.result
          c.stacks.invariant.grown c.in_ok-push.ensures.items c.new.ensures.items;
      most = omega (arith, one);
    }
