use Rattle.std.proofs.Common.{◌≡◌, sym, ap, ◌∙◌, [], drop, arith}
use Rattle.std.proofs.lemmas.List.{take_rest}
use Rattle.std.specs.Ordering.{ordering_reverse}
use Rattle.pli_meaning.specs.Texts.{text_order}
use Rattle.pli_text.proofs.Padding.{order-shorter}
use Rattle.pli_text.proofs.order.order.Goals as goal

pub returns : goal.returns
returns c =
    let left = c.args.left.now in
    let right = c.args.right.now in
    let end : c.min-common.result ≡ c.loop-place.place = omega arith in
    c.reverse.ensures
    ∙ (ap ordering_reverse (c.against_blanks-2.ensures ∙ ap (λ l. text_order l []) (take_rest right c.min-common.result))
    ∙ (order-shorter left right c.min-common.result c.if-common-left.false
    ∙ (ap (λ n. text_order (drop n left) (drop n right)) end ∙ sym c.loop-place.invariant)))
