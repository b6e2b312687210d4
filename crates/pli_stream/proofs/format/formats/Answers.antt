use Rattle.std.proofs.Common.{◌≡◌, arith, sym, ap, ◌∙◌, subst, Bool, Ok}
use Rattle.std.proofs.lemmas.Result.{err_from_is_err_and}
use Rattle.pli_language.specs.Formats.{Direction}
use Rattle.pli_language.specs.View.{formats_of}
use Rattle.pli_language.specs.Tree as T
use Rattle.pli_phrase.specs.Cursor.{Cursor, Read}
use Rattle.pli_phrase.specs.View.{cursor_of}
use Rattle.pli_attributes.proofs.Loops.{fails_on}
use Rattle.pli_stream.specs.Reading as R
use Rattle.pli_stream.specs.View.{direction_of, state_of, turn_of}
use Rattle.pli_stream.proofs.Loops.{OnTurns, turns_start, turn_on, turn_ends, turn_fails, turn_smaller}
use Rattle.pli_stream.proofs.format.formats.Goals as goal

pub turns-init : goal.turns-init
turns-init c =
    let d : Direction = direction_of c.args.direction in
    let at : Cursor = cursor_of c.args.cursor in
    subst (λ u. OnTurns d u at (R.formats_from d at)) (sym c.start-state.ensures) (turns_start d at)

pub returns-in_err-turn : goal.returns-in_err-turn
returns-in_err-turn c =
    let d : Direction = direction_of c.args.direction in
    let target : Read (T.Formats × Bool) = R.formats_from d (cursor_of c.args.cursor) in
    let st : R.State = state_of c.turns.state in
    let rest : Cursor = cursor_of c.turns.rest in
    let p = err_from_is_err_and c.from_residual.result c.from_residual.ensures.1 in
    rw (p.1, p.2) (fails_on c.in_err-turn.field-0.0 (R.turn d st rest) target c.in_err-turn.ensures (turn_fails d target st rest c.turns.invariant))

pub turns-smaller : goal.turns-smaller
turns-smaller c =
    let d : Direction = direction_of c.args.direction in
    let st : R.State = state_of c.turns.state in
    let rest : Cursor = cursor_of c.turns.rest in
    let b : Cursor = cursor_of c.in_ok-turn.behind in
    let found : R.turn d st rest ≡ Ok (R.On (state_of c.in-On.next), b) = c.in_ok-turn.ensures ∙ ap (λ u. Ok (turn_of u, b)) c.in-On.is in
    let l = turn_smaller d (R.formats_from d (cursor_of c.args.cursor)) st rest (R.On (state_of c.in-On.next), b) found in
    omega (arith, l)

pub turns-preserved : goal.turns-preserved
turns-preserved c =
    let d : Direction = direction_of c.args.direction in
    let target : Read (T.Formats × Bool) = R.formats_from d (cursor_of c.args.cursor) in
    let st : R.State = state_of c.turns.state in
    let rest : Cursor = cursor_of c.turns.rest in
    let b : Cursor = cursor_of c.in_ok-turn.behind in
    let found : R.turn d st rest ≡ Ok (R.On (state_of c.in-On.next), b) = c.in_ok-turn.ensures ∙ ap (λ u. Ok (turn_of u, b)) c.in-On.is in
    turn_on d target st rest (state_of c.in-On.next) b c.turns.invariant found

pub returns-in-Closed : goal.returns-in-Closed
returns-in-Closed c =
    let d : Direction = direction_of c.args.direction in
    let target : Read (T.Formats × Bool) = R.formats_from d (cursor_of c.args.cursor) in
    let st : R.State = state_of c.turns.state in
    let rest : Cursor = cursor_of c.turns.rest in
    let b : Cursor = cursor_of c.in_ok-turn.behind in
    let fs : T.Formats = formats_of c.in-Closed.formats in
    let found : R.turn d st rest ≡ Ok (R.Closed fs c.in-Closed.moves_data, b) = c.in_ok-turn.ensures ∙ ap (λ u. Ok (turn_of u, b)) c.in-Closed.is in
    turn_ends d target st rest fs c.in-Closed.moves_data b c.turns.invariant found
