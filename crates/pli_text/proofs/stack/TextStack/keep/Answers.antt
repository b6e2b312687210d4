use Rattle.std.proofs.Common.{◌≡◌, ◌+◌, ◌-◌, ◌≤◌, ◌<◌, ◌^◌, ◌∷◌, ap, sym, ◌∙◌, length, take, drop, rules, arith}
use Rattle.std.proofs.lemmas.List.{length-drop, length-take}
use Rattle.std.specs.Prelude.{slice_range}
use Rattle.std.specs.List.{copy_within}
use Rattle.pli_text.proofs.Cuts.{length-pieces, top-seen, changed-seen, changed-in_order, start-within}
use Rattle.pli_text.proofs.Fitting.{moved-front, moved-part, length-copy_within}
use Rattle.pli_text.proofs.stack.TextStack.keep.Goals as goal

pub overflow_add-start-3 : goal.overflow_add-start-3
overflow_add-start-3 c =
    let ss = c.self.inside.starts.items in
    let bytes = c.self.inside.bytes.items in
    let x = c.index-start.result.now in
    let count = length-pieces ss bytes in
    let newest : (c.len.result - 1) + 1 ≡ length ss = omega (arith, c.requires.held, ap length c.self.view_is) in
    let top = top-seen ss bytes c.args.self.now c.self.view_is c.self.invariant.0 _ _ newest c.index-start.ensures in
    let within = start-within ss bytes c.args.self.now c.self.view_is c.self.invariant.0 _ _ newest c.index-start.ensures in
    let end : x + c.args.to ≤ length bytes = omega (arith, c.requires.within, ap length top, length-drop x bytes) in
    search (rules, end)

pub invariant_of-self : goal.invariant_of-self
invariant_of-self c =
    let ss = c.self.inside.starts.items in
    let bytes = c.self.inside.bytes.items in
    let x = c.index-start.result.now in
    let count = length-pieces ss bytes in
    let newest : (c.len.result - 1) + 1 ≡ length ss = omega (arith, c.requires.held, ap length c.self.view_is) in
    let top = top-seen ss bytes c.args.self.now c.self.view_is c.self.invariant.0 _ _ newest c.index-start.ensures in
    let within = start-within ss bytes c.args.self.now c.self.view_is c.self.invariant.0 _ _ newest c.index-start.ensures in
    let end : x + c.args.to ≤ length bytes = omega (arith, c.requires.within, ap length top, length-drop x bytes) in
    let kept = length-copy_within bytes (x + c.args.from) (x + c.args.to) x (omega arith) (omega (arith, c.requires.ordered)) end in
    let long : x ≤ length c.truncate.new.self.items = omega (arith, ap length c.truncate.ensures.items, length-take (x + c.args.to - c.args.from) c.copy_within.new.self.items, ap length c.copy_within.ensures.items, kept, c.requires.ordered) in
    let short : length c.truncate.new.self.items < 2 ^ 32 = omega (arith, ap length c.truncate.ensures.items, length-take (x + c.args.to - c.args.from) c.copy_within.new.self.items, ap length c.copy_within.ensures.items, kept, c.self.invariant.1) in
    (changed-in_order ss bytes c.args.self.now c.self.view_is c.self.invariant.0 _ _ newest c.index-start.ensures c.truncate.new.self.items long, short)

pub returns : goal.returns
returns c =
    let ss = c.self.inside.starts.items in
    let bytes = c.self.inside.bytes.items in
    let x = c.index-start.result.now in
    let count = length-pieces ss bytes in
    let newest : (c.len.result - 1) + 1 ≡ length ss = omega (arith, c.requires.held, ap length c.self.view_is) in
    let top = top-seen ss bytes c.args.self.now c.self.view_is c.self.invariant.0 _ _ newest c.index-start.ensures in
    let within = start-within ss bytes c.args.self.now c.self.view_is c.self.invariant.0 _ _ newest c.index-start.ensures in
    let end : x + c.args.to ≤ length bytes = omega (arith, c.requires.within, ap length top, length-drop x bytes) in
    let done : c.truncate.new.self.items ≡ take (x + c.args.to - c.args.from) (copy_within bytes (x + c.args.from) (x + c.args.to) x) = c.truncate.ensures.items ∙ ap (take (x + c.args.to - c.args.from)) c.copy_within.ensures.items in
    let front : take x c.truncate.new.self.items ≡ take x bytes = ap (take x) done ∙ moved-front x c.args.from c.args.to bytes c.requires.ordered end in
    let part : drop x c.truncate.new.self.items ≡ slice_range (drop x bytes) c.args.from c.args.to = ap (drop x) done ∙ moved-part x c.args.from c.args.to bytes c.requires.ordered end in
    changed-seen ss bytes c.args.self.now c.self.view_is c.self.invariant.0 _ _ newest c.index-start.ensures c.truncate.new.self.items front
    ∙ ap (λ t. t ∷ drop 1 c.args.self.now) (part ∙ ap (λ t. slice_range t c.args.from c.args.to) (sym top))
