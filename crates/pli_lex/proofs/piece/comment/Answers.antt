use Rattle.std.proofs.Common.{arith, sym, ap, ◌∙◌, false}
use Rattle.std.proofs.lemmas.List.{take_rest}
use Rattle.pli_lex.specs.Scanning.{comment_end}
use Rattle.pli_lex.proofs.Comments.{comment_at, unclosed_at}
use Rattle.pli_lex.proofs.piece.comment.Goals as goal

pub overflow_add-result : goal.overflow_add-result
overflow_add-result c =
    let s = c.args.bytes.now in
    let h = comment_at s c.in-Some.len c.requires (sym (c.in-Some.ensures ∙ ap (comment_end false 0) (take_rest s 2))) in
    omega (arith, h.inside)

pub returns-in-Some : goal.returns-in-Some
returns-in-Some c =
    let s = c.args.bytes.now in
    comment_at s c.in-Some.len c.requires (sym (c.in-Some.ensures ∙ ap (comment_end false 0) (take_rest s 2)))

pub returns-in-None : goal.returns-in-None
returns-in-None c =
    let s = c.args.bytes.now in
    unclosed_at s c.requires (sym (c.in-None.ensures ∙ ap (comment_end false 0) (take_rest s 2)))
