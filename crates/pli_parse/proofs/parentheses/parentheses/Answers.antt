use Rattle.std.proofs.Common.{◌+◌, drop, sym, ap, ◌∙◌, arith}
use Rattle.std.proofs.lemmas.List.{drop_all, at_drop_more}
use Rattle.pli_language.specs.Marks.{parentheses_marks}
use Rattle.pli_phrase.specs.View.{marks_of}
use Rattle.pli_parse.proofs.parentheses.parentheses.Goals as goal

pub loop-token-preserved : goal.loop-token-preserved
unfolding parentheses_marks
loop-token-preserved c =
    let xs = c.args.tokens.now in
    let i = c.loop-token.token-index in
    let m = marks_of c.loop-token.marks in
    let less = c.in_ok-now_open.ensures.bound in
    (omega (arith, less, c.loop-token.invariant.0), ap (λ x. parentheses_marks x.0 (drop (i + 1) xs) x.1) c.in_ok-now_open.ensures.marks ∙ sym (at_drop_more (λ ts. parentheses_marks c.loop-token.opened ts m) xs i _ c.loop-token-test.true) ∙ c.loop-token.invariant.1)

pub returns : goal.returns
unfolding parentheses_marks
returns c =
    let xs = c.args.tokens.now in
    ap (λ ts. parentheses_marks c.loop-token.opened ts (marks_of c.loop-token.marks)) (sym (drop_all c.loop-token.token-index xs c.loop-token-test.false)) ∙ c.loop-token.invariant.1
