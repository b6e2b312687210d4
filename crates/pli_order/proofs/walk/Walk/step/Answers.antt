use Rattle.std.proofs.Common.{ap, arith, map, subst, sym}
use Rattle.pli_signatures.specs.View.{leaf_in_force}
use Rattle.pli_order.specs.Walks.{IsStep}
use Rattle.pli_order.specs.declared.walk.Step.{Step}
use Rattle.pli_order.proofs.Walking.{is_here, step_if, step_past}
use Rattle.pli_order.proofs.walk.Walk.step.Goals as goal

pub returns-in-Past : goal.returns-in-Past
returns-in-Past c =
    let leaves = map leaf_in_force c.args.leaves.now in
    let here = is_here c.args.notes.now leaves c.args.counts.now c.args.self.now _ c.rows.result c.each-each.result (omega arith) c.requires.within (omega arith) c.requires.counts c.rows.ensures c.each-each.ensures in
    subst (λ (s : Step). IsStep c.args.notes.now leaves c.args.self.now c.pass.new.self s) (sym c.pass.ensures.step)
    (step_past c.args.notes.now leaves c.args.self.now c.pass.new.self _ c.rows.result c.each-each.result c.in-Past.rest here c.in-Past.ensures c.pass.ensures.place c.pass.ensures.left c.pass.ensures.number (ap (λ s. s.items) c.pass.ensures.subscripts))

pub returns-in-Into : goal.returns-in-Into
returns-in-Into c =
    let leaves = map leaf_in_force c.args.leaves.now in
    let here = is_here c.args.notes.now leaves c.args.counts.now c.args.self.now _ c.rows.result c.each-each.result (omega arith) c.requires.within (omega arith) c.requires.counts c.rows.ensures c.each-each.ensures in
    step_if c.args.notes.now leaves c.args.self.now c.enter.new.self _ c.rows.result c.each-each.result c.in-Into.row c.in-Into.rest c.enter.result here c.in-Into.ensures c.enter.ensures
