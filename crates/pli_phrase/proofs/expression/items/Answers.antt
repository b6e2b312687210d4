use Rattle.std.proofs.Common.{◌≡◌, true, List, [], ◌∷◌, ℕ, suc, length, arith, ap, sym, subst, ◌∙◌}
use Rattle.std.proofs.lemmas.Result.{err_from_is_err_and}
use Rattle.pli_language.specs.Tree as T
use Rattle.pli_language.specs.View.{expr_of}
use Rattle.pli_phrase.specs.Cursor.{Cursor, Read}
use Rattle.pli_phrase.specs.Lists.{past_comma}
use Rattle.pli_phrase.specs.Reading.{expr_from, item_due, items_from}
use Rattle.pli_phrase.specs.View.{cursor_of, newest}
use Rattle.pli_phrase.proofs.Lists.{OnList, list_start, list_on, list_fails, list_smaller}
use Rattle.pli_phrase.proofs.Newest.{newest_none, newest_snoc}
use Rattle.pli_phrase.proofs.Stops.{fails_on}
use Rattle.pli_phrase.proofs.expression.items.Goals as goal

pub loop-goes_on-init : goal.loop-goes_on-init
loop-goes_on-init c =
    let s : List ℕ = c.args.source.now in
    let start : Cursor = cursor_of c.args.cursor in
    let target : Read T.Exprs = items_from (suc (length c.args.cursor.tokens.now)) c.args.are_arguments s [] start in
    let none : newest expr_of c.new-expressions.result.items ≡ [] = ap (newest expr_of) c.new-expressions.ensures.items ∙ newest_none expr_of in
    subst (λ es. OnList c.args.are_arguments s es start true target) (sym none) (list_start c.args.are_arguments s start)

pub returns-in_err-expression : goal.returns-in_err-expression
returns-in_err-expression c =
    let s : List ℕ = c.args.source.now in
    let here : Cursor = cursor_of c.loop-goes_on.cursor in
    let before : List T.Expr = newest expr_of c.loop-goes_on.expressions.items in
    let target : Read T.Exprs = items_from (suc (length c.args.cursor.tokens.now)) c.args.are_arguments s [] (cursor_of c.args.cursor) in
    let going : c.loop-goes_on.goes_on ≡ true = c.loop-goes_on-test.true in
    let w : OnList c.args.are_arguments s before here true target = subst (λ b. OnList c.args.are_arguments s before here b target) going c.loop-goes_on.invariant in
    let p = err_from_is_err_and c.from_residual.result c.from_residual.ensures.1 in
    rw (p.1, p.2) (fails_on c.in_err-expression.field-0.0 (expr_from s (item_due c.args.are_arguments here)) target c.in_err-expression.ensures (λ at e. list_fails c.args.are_arguments s before here target at w e))

pub loop-goes_on-smaller : goal.loop-goes_on-smaller
loop-goes_on-smaller c =
    let s : List ℕ = c.args.source.now in
    let here : Cursor = cursor_of c.loop-goes_on.cursor in
    let behind : Cursor = cursor_of c.in_ok-expression.behind in
    let e : T.Expr = expr_of c.in_ok-expression.expression in
    let past : (cursor_of c.past_comma-after.result.0, c.past_comma-after.result.1) ≡ past_comma behind = c.past_comma-after.ensures in
    let less = list_smaller c.args.are_arguments s here e behind c.in_ok-expression.ensures in
    omega (arith, less, ap (λ u. length u.0.tokens) past)

pub loop-goes_on-preserved : goal.loop-goes_on-preserved
loop-goes_on-preserved c =
    let s : List ℕ = c.args.source.now in
    let here : Cursor = cursor_of c.loop-goes_on.cursor in
    let before : List T.Expr = newest expr_of c.loop-goes_on.expressions.items in
    let target : Read T.Exprs = items_from (suc (length c.args.cursor.tokens.now)) c.args.are_arguments s [] (cursor_of c.args.cursor) in
    let behind : Cursor = cursor_of c.in_ok-expression.behind in
    let e : T.Expr = expr_of c.in_ok-expression.expression in
    let going : c.loop-goes_on.goes_on ≡ true = c.loop-goes_on-test.true in
    let w : OnList c.args.are_arguments s before here true target = subst (λ b. OnList c.args.are_arguments s before here b target) going c.loop-goes_on.invariant in
    let on = list_on c.args.are_arguments s before here target e behind w c.in_ok-expression.ensures in
    let past : past_comma behind ≡ (cursor_of c.past_comma-after.result.0, c.past_comma-after.result.1) = sym c.past_comma-after.ensures in
    let on' = subst (λ u. OnList c.args.are_arguments s (e ∷ before) u.0 u.1 target) past on in
    let pushed : newest expr_of c.push.new.self.items ≡ e ∷ before = ap (newest expr_of) c.in_ok-push.ensures.items ∙ newest_snoc expr_of c.loop-goes_on.expressions.items c.in_ok-expression.expression in
    subst (λ es. OnList c.args.are_arguments s es (cursor_of c.past_comma-after.result.0) c.past_comma-after.result.1 target) (sym pushed) on'
