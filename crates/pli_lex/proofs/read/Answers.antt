use Rattle.std.proofs.Common.{◌≡◌, [], ◌∷◌, ◌++◌, sym, subst, ap, ◌∙◌, ◌<◌, length, arith, is_ok}
use Rattle.std.proofs.ResultArms.{chosen}
use Rattle.std.proofs.lemmas.List.{take_rest}
use Rattle.pli_language.specs.Tokens.{most_tokens}
use Rattle.pli_lex.specs.Faults.{IsFaultOf}
use Rattle.pli_lex.specs.Pieces.{IsTokenOf, IsRefusedAt}
use Rattle.pli_lex.proofs.Reading.{Progress, progress_start, separator_behind, token_behind, progress_fault, progress_many, source_fault}
use Rattle.pli_lex.proofs.read.Goals as goal
use Rattle.pli_lex.proofs.read.Goals.{in-Separator, in-Token+else-len-eq-MOST_TOKENS+in_ok-map_err-in-Token}

pub returns-then-source-gt-MOST_BYTES : goal.returns-then-source-gt-MOST_BYTES
returns-then-source-gt-MOST_BYTES c = source_fault c.args.source.now c.if-source-gt-MOST_BYTES.true

pub loop-place-init : goal.loop-place-init
loop-place-init c = subst (λ ts. Progress c.args.source.now ts 0 1 1) (sym c.new-tokens.ensures.items) (progress_start c.args.source.now)

pub returns-then-len-eq-MOST_TOKENS : goal.returns-then-len-eq-MOST_TOKENS
returns-then-len-eq-MOST_TOKENS c =
    let s = c.args.source.now in
    let rest = take_rest s c.loop-place.place.offset in
    let there = c.in-Token.ensures in
    let here = subst (λ l. IsTokenOf l c.in-Token.kind c.in-Token.len) rest there in
    let many : length c.loop-place.tokens.items ≡ most_tokens = omega (arith, c.len.ensures, c.if-len-eq-MOST_TOKENS.true, c.loop-place.tokens.ok.0) in
    subst (IsFaultOf s) (sym c.fault.ensures) (progress_many s _ _ _ _ _ _ c.loop-place.invariant c.if-source-gt-MOST_BYTES.false here many)

pub returns-in-Refused : goal.returns-in-Refused
returns-in-Refused c =
    let s = c.args.source.now in
    let rest = take_rest s c.loop-place.place.offset in
    let there = c.in-Refused.ensures in
    let here = subst (λ l. IsRefusedAt l c.in-Refused.kind) rest there in
    subst (IsFaultOf s) (sym c.fault-in-Refused.ensures) (progress_fault s _ _ _ _ _ c.loop-place.invariant c.if-source-gt-MOST_BYTES.false c.loop-place-test.true (here.breaks _))

pub loop-place-preserved : goal.loop-place-preserved
loop-place-preserved c =
    let s = c.args.source.now in
    let rest = take_rest s c.loop-place.place.offset in
    let p = c.behind-place.result in
    let b = c.behind-place.ensures in
    elim c.match-next_piece.branch [
      | in-Separator w ↦
          subst (λ v. Progress s v.items p.offset p.line p.column) (sym w.tokens-is) (separator_behind s _ _ _ _ _ _ _ _ _ _ c.loop-place.invariant rest w.in-Separator.ensures w.len-is b.offset b.line b.column)
      | in-Token+else-len-eq-MOST_TOKENS+in_ok-map_err-in-Token w ↦
          let few = c.loop-place.invariant.few in
          let room : length c.loop-place.tokens.items < most_tokens = omega (arith, w.len.ensures, w.if-len-eq-MOST_TOKENS.false, c.loop-place.tokens.ok.0) in
          let pushed = chosen _ _ _ _ w.push.ensures.items (sym w.map_err.ensures.variant ∙ ap is_ok w.in_ok-map_err-in-Token.was) in
          let items = ap (λ v. v.items) w.tokens-is ∙ pushed ∙ ap (λ t. c.loop-place.tokens.items ++ t ∷ []) w.token.ensures in
          subst (λ l. Progress s l p.offset p.line p.column) (sym items) (token_behind s _ _ _ _ _ _ _ _ _ _ _ c.loop-place.invariant room rest w.in-Token.ensures w.len-is b.offset b.line b.column)
    ]
