use Rattle.std.proofs.Common.{◌≡◌, arith, length, refl, List, [], ◌∷◌, Ok, ap, sym, ◌∙◌, subst}
use Rattle.pli_language.specs.declared.token.Token.{Token}
use Rattle.pli_language.specs.View.{expr_of}
use Rattle.pli_phrase.specs.Answers.{Gives}
use Rattle.pli_phrase.specs.Cursor.{Read}
use Rattle.pli_language.specs.Tree as T
use Rattle.pli_phrase.specs.Reading as R
use Rattle.pli_phrase.specs.View.{cursor_of, frames_of, marks_of, state_of, step_of}
use Rattle.pli_phrase.proofs.Runs.{run_ends, run_empty}
use Rattle.pli_phrase.proofs.engine.run.Goals as goal

no_token : (ts : List Token) → length ts ≡ 0 → ts ≡ []
no_token [] e = refl
no_token (t ∷ ts) e = absurd (omega (arith, e))

pub returns-in-Ends : goal.returns-in-Ends
returns-in-Ends c =
    let s = c.args.source.now in
    let st = state_of c.loop-first.state in
    let k = frames_of c.loop-first.frames.items in
    let m = marks_of c.loop-first.marks in
    let e = expr_of c.in-Ends.expression in
    let n = marks_of c.in-Ends.marks in
    let front : c.loop-first.rest.now ≡ c.in-Some.first.now ∷ c.in-Some.behind.now = c.in-Some.ensures.cases.0 in
    let found : step_of c.in_ok-next.field-0 ≡ R.Ends e n = ap step_of c.in-Ends.is in
    let stepped : R.step s st k m c.in-Some.first.now c.in-Some.first.now.kind ≡ R.Ends e n = sym c.in_ok-next.ensures ∙ found in
    let gives : List Token → Read T.Expr = λ ts. Ok (e, record { tokens = ts; marks = n }) in
    sym c.loop-first.invariant ∙ ap (R.run s st k m) front ∙ run_ends s st k m n e c.in-Some.first.now c.in-Some.behind.now stepped ∙ ap gives (sym front)

pub returns : goal.returns
returns c =
    let s = c.args.source.now in
    let st = state_of c.loop-first.state in
    let k = frames_of c.loop-first.frames.items in
    let m = marks_of c.loop-first.marks in
    let none : c.loop-first.rest.now ≡ [] = no_token c.loop-first.rest.now c.in_default.ensures.cases in
    let same : R.ended st k m ≡ R.run s (state_of c.args.state) (frames_of c.args.frames.items) (marks_of c.args.cursor.marks) c.args.cursor.tokens.now =
    sym (run_empty s st k m) ∙ ap (R.run s st k m) (sym none) ∙ c.loop-first.invariant in
    subst (λ r. Gives (λ x. (expr_of x.0, cursor_of x.1)) c.ended.result r) same c.ended.ensures
