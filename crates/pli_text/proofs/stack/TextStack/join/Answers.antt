use Rattle.std.proofs.Common.{◌≡◌, ◌+◌, ◌-◌, ℕ, List, Ok, Err, subst, ◌∷◌, ◌++◌, ap, sym, ◌∙◌, length, take, drop, get_or, arith}
use Rattle.std.proofs.lemmas.List.{length-drop, length-take-le}
use Rattle.pli_text.specs.declared.fault.TextFault.TheVariants.{TooLong}
use Rattle.pli_text.specs.Pieces.{pieces}
use Rattle.pli_text.specs.Operands.{Becomes, left_of, right_of}
use Rattle.pli_meaning.specs.Texts.{joined}
use Rattle.pli_text.proofs.Cuts.{length-pieces, two-seen, two-within, pieces-joined, joined-bytes}
use Rattle.pli_text.proofs.Fitting.{becomes-joined, becomes-long}
use Rattle.pli_text.proofs.stack.TextStack.join.Goals as goal

pub overflow_sub-len : goal.overflow_sub-len
overflow_sub-len c = omega (arith, length-pieces c.self.inside.starts.items c.self.inside.bytes.items, ap length c.self.view_is)

pub overflow_sub-len-2 : goal.overflow_sub-len-2
overflow_sub-len-2 c =
    let ss = c.self.inside.starts.items in
    let bytes = c.self.inside.bytes.items in
    let count = length-pieces ss bytes in
    let two : (c.len.result - 2) + 2 ≡ length ss = omega (arith, c.requires, ap length c.self.view_is) in
    let w = two-within ss bytes c.args.self.now c.self.view_is c.self.invariant.0 _ _ two c.index-left.ensures in
    omega (arith, w)

pub returns-then-len-left-gt-MOST_TEXT : goal.returns-then-len-left-gt-MOST_TEXT
returns-then-len-left-gt-MOST_TEXT c =
    let ss = c.self.inside.starts.items in
    let bytes = c.self.inside.bytes.items in
    let x = c.index-left.result.now in
    let y = get_or ss ((c.len.result - 2) + 1) 0 in
    let below = pieces (take (c.len.result - 2) ss) (take x (take y bytes)) in
    let count = length-pieces ss bytes in
    let two : (c.len.result - 2) + 2 ≡ length ss = omega (arith, c.requires, ap length c.self.view_is) in
    let w = two-within ss bytes c.args.self.now c.self.view_is c.self.invariant.0 _ _ two c.index-left.ensures in
    let seen = two-seen ss bytes c.args.self.now c.self.view_is c.self.invariant.0 _ _ two c.index-left.ensures in
    let left : length (drop x (take y bytes)) ≡ y - x = length-drop x (take y bytes) ∙ ap (λ k. k - x) (length-take-le y bytes w.0) in
    let right : length (drop y bytes) ≡ length bytes - y = length-drop y bytes in
    let P : List (List ℕ) → Type 0 = λ l. Becomes (joined (left_of l) (right_of l)) 2 TooLong l (Err TooLong) c.args.self.now in
    subst P (sym seen) (becomes-long (drop x (take y bytes)) (drop y bytes) below c.args.self.now TooLong (omega (arith, w, c.if-len-left-gt-MOST_TEXT.true)) seen)

pub returns : goal.returns
returns c =
    let ss = c.self.inside.starts.items in
    let bytes = c.self.inside.bytes.items in
    let x = c.index-left.result.now in
    let y = get_or ss ((c.len.result - 2) + 1) 0 in
    let below = pieces (take (c.len.result - 2) ss) (take x (take y bytes)) in
    let count = length-pieces ss bytes in
    let two : (c.len.result - 2) + 2 ≡ length ss = omega (arith, c.requires, ap length c.self.view_is) in
    let w = two-within ss bytes c.args.self.now c.self.view_is c.self.invariant.0 _ _ two c.index-left.ensures in
    let seen = two-seen ss bytes c.args.self.now c.self.view_is c.self.invariant.0 _ _ two c.index-left.ensures in
    let left : length (drop x (take y bytes)) ≡ y - x = length-drop x (take y bytes) ∙ ap (λ k. k - x) (length-take-le y bytes w.0) in
    let right : length (drop y bytes) ≡ length bytes - y = length-drop y bytes in
    let newest : c.pop-right.new.self.items ≡ take ((c.len.result - 2) + 1) ss = c.pop-right.ensures.rest ∙ ap (λ n. take n ss) (omega arith) in
    let left_over : pieces c.pop-right.new.self.items bytes ≡ (drop x (take y bytes) ++ drop y bytes) ∷ below =
    ap (λ l. pieces l bytes) newest
    ∙ (pieces-joined ss bytes c.args.self.now c.self.view_is c.self.invariant.0 _ _ two c.index-left.ensures
    ∙ ap (λ t. t ∷ below) (sym (joined-bytes bytes x y w.1 w.0))) in
    let P : List (List ℕ) → Type 0 = λ l. Becomes (joined (left_of l) (right_of l)) 2 TooLong l (Ok tt) (pieces c.pop-right.new.self.items bytes) in
    subst P (sym seen) (becomes-joined (drop x (take y bytes)) (drop y bytes) below _ TooLong (omega (arith, w, c.if-len-left-gt-MOST_TEXT.false)) left_over)
