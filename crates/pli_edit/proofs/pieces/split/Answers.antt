use Rattle.std.proofs.Common.{◌≡◌, ◌-◌, length, slice_get, Some, ap, ◌∙◌, refl, arith}
use Rattle.std.proofs.lemmas.Option.{slice_get_past, slice_get_read}
use Rattle.pli_edit.specs.declared.format.Node.TheVariants as N
use Rattle.pli_edit.proofs.FormatPieces.{split_past, split_item, split_list}
use Rattle.pli_edit.proofs.pieces.split.Goals as goal

pub returns-in_err-count : goal.returns-in_err-count
returns-in_err-count c =
    rw c.from_residual.ensures
    (split_past c.args.nodes.now c.args.times c.args.start c.args.size (slice_get_past c.args.nodes.now c.args.start c.in_err-count.ensures.lookup.3))

pub returns-in-Item : goal.returns-in-Item
returns-in-Item c =
    let ns = c.args.nodes.now in
    let there = c.in_ok-count.ensures.lookup in
    let found : slice_get ns c.args.start ≡ Some (N.Item c.in-Item.count c.in-Item.format) =
    slice_get_read ns (length ns) c.args.start c.in_ok-count.field-0.now refl there.3.0 there.1 ∙ ap Some c.in-Item.is
    in
    split_item ns c.args.times c.args.start c.args.size c.in-Item.count c.in-Item.format
    (omega (arith, c.if-times-eq0.false)) (omega (arith, c.if-size-eq0.false)) found

pub returns-in-List : goal.returns-in-List
returns-in-List c =
    let ns = c.args.nodes.now in
    let there = c.in_ok-count.ensures.lookup in
    let found : slice_get ns c.args.start ≡ Some (N.List c.in-List.count c.in-List.inner) =
    slice_get_read ns (length ns) c.args.start c.in_ok-count.field-0.now refl there.3.0 there.1 ∙ ap Some c.in-List.is
    in
    let rest : c.saturating_sub.result ≡ (c.args.size - 1) - c.in-List.inner = c.saturating_sub.ensures in
    rw rest
    (split_list ns c.args.times c.args.start c.args.size c.in-List.count c.in-List.inner
    (omega (arith, c.if-times-eq0.false)) (omega (arith, c.if-size-eq0.false)) found)
