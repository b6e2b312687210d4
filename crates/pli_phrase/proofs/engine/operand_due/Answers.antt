use Rattle.std.proofs.Common.{◌≡◌, List, ℕ, Result, Ok, Err, IfOk, ap, sym, ◌∙◌}
use Rattle.pli_language.specs.declared.token.Kind.TheVariants as K
use Rattle.pli_phrase.specs.Reading as R
use Rattle.pli_phrase.specs.View.{frames_of, marks_of, step_of}
use Rattle.pli_phrase.proofs.engine.operand_due.Goals as goal

ok_with : {X E : Type 0} (r : Result X E) (P Q : X → Type 0) → ((x : X) → P x → Q x) → IfOk r P → IfOk r Q
ok_with (Ok x) P Q f h = f x h
ok_with (Err e) P Q f h = h

pub returns-in-Symbol : goal.returns-in-Symbol
returns-in-Symbol c =
    let k = frames_of c.args.frames.items in
    let m = marks_of c.args.marks in
    ok_with c.symbol_due.result (λ x. (s : List ℕ) → step_of x ≡ R.operand_due s k m c.args.token.now (K.Symbol c.in-Symbol.symbol)) (λ x. step_of x ≡ R.operand_due c.args.source.now k m c.args.token.now c.args.token.now.kind) (λ x h. h c.args.source.now ∙ ap (R.operand_due c.args.source.now k m c.args.token.now) (sym c.in-Symbol.is)) c.symbol_due.ensures
