use Rattle.std.proofs.Common.{◌≡◌, ◌+◌, ◌∙◌, ◌∷◌, map, drop, ap}
use Rattle.pli_typing.specs.Generations as G
use Rattle.pli_typing.specs.TypedStatementView.{allocation_of}
use Rattle.pli_language.specs.View.{allocation_of as made_of}
use Rattle.pli_declare.proofs.Chains.{drop_here}
use Rattle.pli_operand.specs.Shown.{notes_of}
use Rattle.pli_reference.specs.Shown.{scope_of}
use Rattle.pli_generation.proofs.Extents.{each_value, noted_here}
use Rattle.pli_tree.proofs.single.allocations.Goals as goal

pub loop-one-preserved : goal.loop-one-preserved
loop-one-preserved c =
    let l = c.loop-one in
    let xs = c.args.written.now in
    let x = c.one-item.result in
    let judge = G.allocation (scope_of c.args.scope) c.args.place in
    let here = ap (map made_of) (drop_here xs l.one-index x c.loop-one-test.true c.one-item.is) in
    record {
      noted = noted_here judge (notes_of l.notes) (notes_of c.allocation.new.notes) (made_of x) (map made_of (drop (l.one-index + 1) xs)) (map made_of (drop l.one-index xs)) c.in_ok-allocation.ensures.noted here ∙ l.invariant.noted;
      value = each_value judge allocation_of l.out.items c.push.new.self.items c.in_ok-allocation.field-0 (made_of x) (map made_of (drop (l.one-index + 1) xs)) (map made_of (drop l.one-index xs)) c.in_ok-push.ensures.items c.in_ok-allocation.ensures.value here ∙ l.invariant.value;
    }
