use Rattle.std.proofs.Common.{◌≤◌, ◌∙◌, ap, arith, length}
use Rattle.std.specs.Prelude.{is_some}
use Rattle.pli_serving.specs.Values.{generation_bytes}
use Rattle.pli_allocation.specs.Placing.{placing}
use Rattle.pli_pushing.proofs.Pushes.{copied_some}
use Rattle.pli_pushing.proofs.stacking.push_copied.Goals as goal

pub returns-in-Some-clause-memory : goal.returns-in-Some-clause-memory
returns-in-Some-clause-memory g c = λ g' i.
    let inside : c.args.at ≤ length c.args.memory.now = omega (arith, c.requires.inside) in
    c.put_bytes.ensures
    ∙ copied_some g.K.AreaKeeper.keeper c.args.memory.now c.args.copy.now c.push_in.new.heap (generation_bytes g') c.args.at c.in_ok-offset.field-0 (placing g.K.AreaKeeper.keeper c.args.signature g' c.args.copy.now) (c.in_ok-offset.ensures.answer g' i) (ap is_some c.in-Some.is) (c.in_ok-offset.ensures.bytes g' i) (c.in_ok-offset.ensures.within g' i) inside
