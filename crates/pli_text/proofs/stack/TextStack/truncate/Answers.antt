use Rattle.std.proofs.Common.{◌≡◌, ◌-◌, ap, length, drop, arith}
use Rattle.std.proofs.lemmas.List.{length-take}
use Rattle.pli_text.proofs.Cuts.{length-pieces, pieces-truncated, in_order-truncated}
use Rattle.pli_text.proofs.stack.TextStack.truncate.Goals as goal

pub invariant_of-self : goal.invariant_of-self
invariant_of-self c =
    rw (c.truncate-then-height-len.ensures.items, c.truncate.ensures.items) (
      in_order-truncated c.self.inside.starts.items c.self.inside.bytes.items c.args.self.now c.self.view_is c.self.invariant.0 c.args.height c.index-start.result.now (omega arith) c.index-start.ensures,
      omega (arith, length-take c.index-start.result.now c.self.inside.bytes.items, c.self.invariant.1),
    )

pub returns-then-height-len : goal.returns-then-height-len
returns-then-height-len c =
    rw (c.truncate-then-height-len.ensures.items, c.truncate.ensures.items)
    (pieces-truncated c.self.inside.starts.items c.self.inside.bytes.items c.args.self.now c.self.view_is c.self.invariant.0 c.args.height c.index-start.result.now (omega arith) c.index-start.ensures)

pub returns-else-height-len : goal.returns-else-height-len
returns-else-height-len c =
    let count = length-pieces c.self.inside.starts.items c.self.inside.bytes.items in
    let all : 0 ≡ length c.args.self.now - c.args.height = omega (arith, ap length c.self.view_is) in
    ap (λ k. drop k c.args.self.now) all
