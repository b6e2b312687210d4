use Rattle.std.proofs.Common.{◌≡◌, ◌+◌, ◌∙◌, ◌∷◌, map, drop, ap}
use Rattle.pli_typing.specs.SingleStatements as S
use Rattle.pli_typing.specs.TypedStatementView.{put_pair_of}
use Rattle.pli_language.specs.View.{edit_pair_of}
use Rattle.pli_declare.proofs.Chains.{drop_here}
use Rattle.pli_operand.specs.Shown.{notes_of}
use Rattle.pli_reference.specs.Shown.{scope_of}
use Rattle.pli_generation.proofs.Extents.{each_value, noted_here}
use Rattle.pli_tree.proofs.single.put_pairs.Goals as goal

pub loop-pair-preserved : goal.loop-pair-preserved
loop-pair-preserved c =
    let l = c.loop-pair in
    let xs = c.args.pairs.now in
    let x = c.pair-item.result in
    let judge = S.put_of (scope_of c.args.scope) in
    let here = ap (map edit_pair_of) (drop_here xs l.pair-index x c.loop-pair-test.true c.pair-item.is) in
    record {
      noted = noted_here judge (notes_of l.notes) (notes_of c.put_of.new.notes) (edit_pair_of x) (map edit_pair_of (drop (l.pair-index + 1) xs)) (map edit_pair_of (drop l.pair-index xs)) c.in_ok-put_of.ensures.noted here ∙ l.invariant.noted;
      value = each_value judge put_pair_of l.out.items c.push.new.self.items c.in_ok-put_of.field-0 (edit_pair_of x) (map edit_pair_of (drop (l.pair-index + 1) xs)) (map edit_pair_of (drop l.pair-index xs)) c.in_ok-push.ensures.items c.in_ok-put_of.ensures.value here ∙ l.invariant.value;
    }
