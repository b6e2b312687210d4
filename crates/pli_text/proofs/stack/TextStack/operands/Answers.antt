use Rattle.std.proofs.Common.{◌≡◌, ◌+◌, ◌-◌, ◌≤◌, ap, sym, ◌∙◌, length, take, drop, get_or, rules, arith}
use Rattle.std.proofs.lemmas.List.{get_or_read, take_rest}
use Rattle.pli_text.specs.Operands.{left_of, right_of}
use Rattle.pli_text.proofs.Cuts.{length-pieces, two-seen, two-within, between}
use Rattle.pli_text.proofs.stack.TextStack.operands.Goals as goal

pub overflow_sub-count : goal.overflow_sub-count
overflow_sub-count c = omega (arith, length-pieces c.self.inside.starts.items c.self.inside.bytes.items, ap length c.self.view_is)

pub slice_bounds-result-count : goal.slice_bounds-result-count
slice_bounds-result-count c =
    let ss = c.self.inside.starts.items in
    let bytes = c.self.inside.bytes.items in
    let count = length-pieces ss bytes in
    let two : (c.len-count.result - 2) + 2 ≡ length ss = omega (arith, c.requires, ap length c.self.view_is) in
    let w = two-within ss bytes c.args.self.now c.self.view_is c.self.invariant.0 _ _ two c.index-left.ensures in
    let right : c.index-right.result.now ≡ get_or ss ((c.len-count.result - 2) + 1) 0 = get_or_read ss _ _ (omega arith) c.index-right.ensures 0 ∙ ap (λ k. get_or ss k 0) (omega arith) in
    omega (arith, w, right)

pub slice_bounds-result-start : goal.slice_bounds-result-start
slice_bounds-result-start c =
    let ss = c.self.inside.starts.items in
    let bytes = c.self.inside.bytes.items in
    let count = length-pieces ss bytes in
    let two : (c.len-count.result - 2) + 2 ≡ length ss = omega (arith, c.requires, ap length c.self.view_is) in
    let w = two-within ss bytes c.args.self.now c.self.view_is c.self.invariant.0 _ _ two c.index-left.ensures in
    let right : c.index-right.result.now ≡ get_or ss ((c.len-count.result - 2) + 1) 0 = get_or_read ss _ _ (omega arith) c.index-right.ensures 0 ∙ ap (λ k. get_or ss k 0) (omega arith) in
    let ordered : c.index-left.result.now ≤ c.index-right.result.now = omega (arith, w, right) in
    search (rules, ordered)

pub slice_bounds-result-count-2 : goal.slice_bounds-result-count-2
slice_bounds-result-count-2 c =
    let ss = c.self.inside.starts.items in
    let bytes = c.self.inside.bytes.items in
    let count = length-pieces ss bytes in
    let two : (c.len-count.result - 2) + 2 ≡ length ss = omega (arith, c.requires, ap length c.self.view_is) in
    let w = two-within ss bytes c.args.self.now c.self.view_is c.self.invariant.0 _ _ two c.index-left.ensures in
    let right : c.index-right.result.now ≡ get_or ss ((c.len-count.result - 2) + 1) 0 = get_or_read ss _ _ (omega arith) c.index-right.ensures 0 ∙ ap (λ k. get_or ss k 0) (omega arith) in
    omega (arith, w, right, ap length c.deref-2.ensures.value)

pub slice_bounds-result-start-2 : goal.slice_bounds-result-start-2
slice_bounds-result-start-2 c =
    let ss = c.self.inside.starts.items in
    let bytes = c.self.inside.bytes.items in
    let count = length-pieces ss bytes in
    let two : (c.len-count.result - 2) + 2 ≡ length ss = omega (arith, c.requires, ap length c.self.view_is) in
    let w = two-within ss bytes c.args.self.now c.self.view_is c.self.invariant.0 _ _ two c.index-left.ensures in
    let right : c.index-right.result.now ≡ get_or ss ((c.len-count.result - 2) + 1) 0 = get_or_read ss _ _ (omega arith) c.index-right.ensures 0 ∙ ap (λ k. get_or ss k 0) (omega arith) in
    let ordered : c.index-right.result.now ≤ length c.deref-2.result.now = omega (arith, w, right, ap length c.deref-2.ensures.value) in
    search (rules, ordered)

pub returns-clause-left : goal.returns-clause-left
returns-clause-left c =
    let ss = c.self.inside.starts.items in
    let bytes = c.self.inside.bytes.items in
    let count = length-pieces ss bytes in
    let two : (c.len-count.result - 2) + 2 ≡ length ss = omega (arith, c.requires, ap length c.self.view_is) in
    let w = two-within ss bytes c.args.self.now c.self.view_is c.self.invariant.0 _ _ two c.index-left.ensures in
    let right : c.index-right.result.now ≡ get_or ss ((c.len-count.result - 2) + 1) 0 = get_or_read ss _ _ (omega arith) c.index-right.ensures 0 ∙ ap (λ k. get_or ss k 0) (omega arith) in
    let seen = two-seen ss bytes c.args.self.now c.self.view_is c.self.invariant.0 _ _ two c.index-left.ensures in
    ap (λ l. take (c.index-right.result.now - c.index-left.result.now) (drop c.index-left.result.now l)) c.deref.ensures.value
    ∙ (ap (λ y. take (y - c.index-left.result.now) (drop c.index-left.result.now bytes)) right
    ∙ (between bytes c.index-left.result.now _ w.1 ∙ sym (ap left_of seen)))

pub returns-clause-right : goal.returns-clause-right
returns-clause-right c =
    let ss = c.self.inside.starts.items in
    let bytes = c.self.inside.bytes.items in
    let count = length-pieces ss bytes in
    let two : (c.len-count.result - 2) + 2 ≡ length ss = omega (arith, c.requires, ap length c.self.view_is) in
    let w = two-within ss bytes c.args.self.now c.self.view_is c.self.invariant.0 _ _ two c.index-left.ensures in
    let right : c.index-right.result.now ≡ get_or ss ((c.len-count.result - 2) + 1) 0 = get_or_read ss _ _ (omega arith) c.index-right.ensures 0 ∙ ap (λ k. get_or ss k 0) (omega arith) in
    let seen = two-seen ss bytes c.args.self.now c.self.view_is c.self.invariant.0 _ _ two c.index-left.ensures in
    take_rest c.deref-2.result.now c.index-right.result.now
    ∙ (ap (drop c.index-right.result.now) c.deref-2.ensures.value ∙ (ap (λ y. drop y bytes) right ∙ sym (ap right_of seen)))
