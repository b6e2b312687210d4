use Rattle.std.proofs.Common.{◌≡◌, ◌+◌, ◌-◌, ap, sym, ◌∙◌, length, drop, arith}
use Rattle.std.proofs.lemmas.List.{take_rest}
use Rattle.pli_text.proofs.Cuts.{length-pieces, top-seen}
use Rattle.pli_text.proofs.stack.TextStack.top.Goals as goal

pub returns : goal.returns
returns c =
    let ss = c.self.inside.starts.items in
    let bytes = c.self.inside.bytes.items in
    let count = length-pieces ss bytes in
    let newest : (c.len.result - 1) + 1 ≡ length ss = omega (arith, c.requires, ap length c.self.view_is) in
    take_rest c.deref.result.now c.index-start.result.now
    ∙ (ap (drop c.index-start.result.now) c.deref.ensures.value
    ∙ sym (top-seen ss bytes c.args.self.now c.self.view_is c.self.invariant.0 _ _ newest c.index-start.ensures))
