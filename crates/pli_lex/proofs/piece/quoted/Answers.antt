use Rattle.std.proofs.Common.{◌+◌, arith, sym, ap, ◌∙◌, false, None}
use Rattle.std.proofs.lemmas.List.{take_rest}
use Rattle.pli_lex.specs.Scanning.{text_end, stands_as_bits}
use Rattle.pli_lex.proofs.Pieces.{quoted_at, unclosed_text_at, length_there, text_token, text_over, zero_bit, one_bit, no_bit}
use Rattle.pli_lex.proofs.piece.quoted.Goals as goal

pub returns-in_default : goal.returns-in_default
returns-in_default c =
    let s = c.args.bytes.now in
    unclosed_text_at s c.requires.some c.requires.begins (sym (c.in_default.ensures ∙ ap (text_end None false 0 0) (take_rest s 1)))

pub returns-then-len-gt-MOST_TEXT : goal.returns-then-len-gt-MOST_TEXT
returns-then-len-gt-MOST_TEXT c =
    let s = c.args.bytes.now in
    let h = quoted_at s _ _ c.requires.some c.requires.begins (sym (c.in-Some.ensures ∙ ap (text_end None false 0 0) (take_rest s 1))) in
    text_over h c.if-len-gt-MOST_TEXT.true

pub overflow_add-end : goal.overflow_add-end
overflow_add-end c =
    let s = c.args.bytes.now in
    let h = quoted_at s _ _ c.requires.some c.requires.begins (sym (c.in-Some.ensures ∙ ap (text_end None false 0 0) (take_rest s 1))) in
    omega (arith, length_there h)

pub slice_bounds-stands_as_bits-count : goal.slice_bounds-stands_as_bits-count
slice_bounds-stands_as_bits-count c =
    let s = c.args.bytes.now in
    let h = quoted_at s _ _ c.requires.some c.requires.begins (sym (c.in-Some.ensures ∙ ap (text_end None false 0 0) (take_rest s 1))) in
    length_there h

pub overflow_add-result : goal.overflow_add-result
overflow_add-result c =
    let s = c.args.bytes.now in
    let h = quoted_at s _ _ c.requires.some c.requires.begins (sym (c.in-Some.ensures ∙ ap (text_end None false 0 0) (take_rest s 1))) in
    omega (arith, length_there h)

pub returns-then-not-stands_as_bits : goal.returns-then-not-stands_as_bits
returns-then-not-stands_as_bits c =
    let s = c.args.bytes.now in
    let h = quoted_at s _ _ c.requires.some c.requires.begins (sym (c.in-Some.ensures ∙ ap (text_end None false 0 0) (take_rest s 1))) in
    text_token h (sym (c.if-not-stands_as_bits.ensures ∙ ap stands_as_bits (take_rest s (1 + c.in-Some.end)))) c.if-len-gt-MOST_TEXT.false

pub slice_bounds-stands_as_bits-start : goal.slice_bounds-stands_as_bits-start
slice_bounds-stands_as_bits-start c =
    let s = c.args.bytes.now in
    let h = quoted_at s _ _ c.requires.some c.requires.begins (sym (c.in-Some.ensures ∙ ap (text_end None false 0 0) (take_rest s 1))) in
    let inside = length_there h in
    omega arith

pub returns-then-len-ne1 : goal.returns-then-len-ne1
returns-then-len-ne1 c =
    let s = c.args.bytes.now in
    let h = quoted_at s _ _ c.requires.some c.requires.begins (sym (c.in-Some.ensures ∙ ap (text_end None false 0 0) (take_rest s 1))) in
    no_bit h (sym (c.if-not-stands_as_bits.ensures ∙ ap stands_as_bits (take_rest s (1 + c.in-Some.end)))) c.if-len-gt-MOST_TEXT.false (λ one _. c.if-len-ne1.true one) (λ one _. c.if-len-ne1.true one)

pub returns-in-48 : goal.returns-in-48
returns-in-48 c =
    let s = c.args.bytes.now in
    let h = quoted_at s _ _ c.requires.some c.requires.begins (sym (c.in-Some.ensures ∙ ap (text_end None false 0 0) (take_rest s 1))) in
    zero_bit h (sym (c.if-not-stands_as_bits.ensures ∙ ap stands_as_bits (take_rest s (1 + c.in-Some.end)))) c.if-len-ne1.false c.in-48.is

pub returns-in-49 : goal.returns-in-49
returns-in-49 c =
    let s = c.args.bytes.now in
    let h = quoted_at s _ _ c.requires.some c.requires.begins (sym (c.in-Some.ensures ∙ ap (text_end None false 0 0) (take_rest s 1))) in
    one_bit h (sym (c.if-not-stands_as_bits.ensures ∙ ap stands_as_bits (take_rest s (1 + c.in-Some.end)))) c.if-len-ne1.false c.in-49.is

pub returns-in_default-bytes : goal.returns-in_default-bytes
returns-in_default-bytes c =
    let s = c.args.bytes.now in
    let h = quoted_at s _ _ c.requires.some c.requires.begins (sym (c.in-Some.ensures ∙ ap (text_end None false 0 0) (take_rest s 1))) in
    no_bit h (sym (c.if-not-stands_as_bits.ensures ∙ ap stands_as_bits (take_rest s (1 + c.in-Some.end)))) c.if-len-gt-MOST_TEXT.false (λ _ zero. omega arith) (λ _ one. omega arith)
