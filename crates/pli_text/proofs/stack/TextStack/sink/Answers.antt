use Rattle.std.proofs.Common.{◌≡◌, ◌+◌, ◌-◌, ◌≤◌, ◌<◌, ◌∙◌, ap, length, rules, take, arith}
use Rattle.std.specs.List.{copy_within}
use Rattle.pli_text.specs.Pieces.{pieces}
use Rattle.pli_text.proofs.Cuts.{length-pieces}
use Rattle.pli_text.proofs.Sinking.{ordered, sunk-in_order, sunk-seen, sunk-short, within}
use Rattle.pli_text.proofs.stack.TextStack.sink.Goals as goal

pub index-below-requires : goal.index-below-requires
index-below-requires c = omega (arith, c.requires, length-pieces c.self.inside.starts.items c.self.inside.bytes.items, ap length c.self.view_is)

pub overflow_add-height : goal.overflow_add-height
overflow_add-height c =
    let inside : c.args.height + 1 ≤ length c.self.inside.starts.items = omega (arith, c.requires, length-pieces c.self.inside.starts.items c.self.inside.bytes.items, ap length c.self.view_is) in
    search (rules, inside)

pub copy_within-requires-clause-dest_in_bounds : goal.copy_within-requires-clause-dest_in_bounds
copy_within-requires-clause-dest_in_bounds c =
    let ss = c.self.inside.starts.items in
    let bytes = c.self.inside.bytes.items in
    let inside : c.args.height < length ss = omega (arith, c.requires, length-pieces ss bytes, ap length c.self.view_is) in
    let newest : (c.len.result - 1) + 1 ≡ length ss = omega (arith, inside) in
    let less = ordered ss bytes c.args.self.now c.self.view_is c.self.invariant.0 _ c.args.height c.index-top.result.now c.index-below.result.now newest inside c.index-top.ensures c.index-below.ensures in
    let end = within ss bytes c.args.self.now c.self.view_is c.self.invariant.0 _ c.args.height c.index-top.result.now c.index-below.result.now newest inside c.index-top.ensures c.index-below.ensures in
    omega (arith, less, end)

pub overflow_sub-end : goal.overflow_sub-end
overflow_sub-end c =
    let ss = c.self.inside.starts.items in
    let bytes = c.self.inside.bytes.items in
    let inside : c.args.height < length ss = omega (arith, c.requires, length-pieces ss bytes, ap length c.self.view_is) in
    let newest : (c.len.result - 1) + 1 ≡ length ss = omega (arith, inside) in
    let end = within ss bytes c.args.self.now c.self.view_is c.self.invariant.0 _ c.args.height c.index-top.result.now c.index-below.result.now newest inside c.index-top.ensures c.index-below.ensures in
    omega (arith, end)

pub invariant_of-self : goal.invariant_of-self
invariant_of-self c =
    let ss = c.self.inside.starts.items in
    let bytes = c.self.inside.bytes.items in
    let inside : c.args.height < length ss = omega (arith, c.requires, length-pieces ss bytes, ap length c.self.view_is) in
    let newest : (c.len.result - 1) + 1 ≡ length ss = omega (arith, inside) in
    let whole : c.len-end.result ≡ length bytes = omega arith in
    let sunk : c.truncate-2.new.self.items ≡ take (c.index-below.result.now + (length bytes - c.index-top.result.now)) (copy_within bytes c.index-top.result.now (length bytes) c.index-below.result.now) = c.truncate-2.ensures.items ∙ ap (take (c.index-below.result.now + (c.len-end.result - c.index-top.result.now))) c.copy_within.ensures.items ∙ ap (λ n. take (c.index-below.result.now + (n - c.index-top.result.now)) (copy_within bytes c.index-top.result.now n c.index-below.result.now)) whole in
    let order = sunk-in_order ss bytes c.args.self.now c.self.view_is c.self.invariant.0 _ c.args.height c.index-top.result.now c.index-below.result.now newest inside c.index-top.ensures c.index-below.ensures c.truncate-2.new.self.items sunk in
    let short = sunk-short ss bytes c.args.self.now c.self.view_is c.self.invariant.0 _ c.args.height c.index-top.result.now c.index-below.result.now newest inside c.index-top.ensures c.index-below.ensures c.truncate-2.new.self.items sunk in
    rw c.truncate.ensures.items (order, omega (arith, short, c.self.invariant.1))

pub returns : goal.returns
returns c =
    let ss = c.self.inside.starts.items in
    let bytes = c.self.inside.bytes.items in
    let inside : c.args.height < length ss = omega (arith, c.requires, length-pieces ss bytes, ap length c.self.view_is) in
    let newest : (c.len.result - 1) + 1 ≡ length ss = omega (arith, inside) in
    let whole : c.len-end.result ≡ length bytes = omega arith in
    let sunk : c.truncate-2.new.self.items ≡ take (c.index-below.result.now + (length bytes - c.index-top.result.now)) (copy_within bytes c.index-top.result.now (length bytes) c.index-below.result.now) = c.truncate-2.ensures.items ∙ ap (take (c.index-below.result.now + (c.len-end.result - c.index-top.result.now))) c.copy_within.ensures.items ∙ ap (λ n. take (c.index-below.result.now + (n - c.index-top.result.now)) (copy_within bytes c.index-top.result.now n c.index-below.result.now)) whole in
    ap (λ l. pieces l c.truncate-2.new.self.items) c.truncate.ensures.items
    ∙ sunk-seen ss bytes c.args.self.now c.self.view_is c.self.invariant.0 _ c.args.height c.index-top.result.now c.index-below.result.now newest inside c.index-top.ensures c.index-below.ensures c.truncate-2.new.self.items sunk
