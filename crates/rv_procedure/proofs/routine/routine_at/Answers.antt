use Rattle.std.proofs.Common.{ap, sym, ◌∙◌, arith}
use Rattle.pli_coding.specs.Environments.{declaration_of}
use Rattle.pli_frames.specs.TakenView.{taken_of}
use Rattle.rv_address.specs.Around.{environment_of}
use Rattle.rv_procedure.proofs.Steps.{routine_never, routine_nowhere, routine_there}
use Rattle.rv_procedure.proofs.routine.routine_at.Goals as goal

pub returns-then-not-has_routine : goal.returns-then-not-has_routine
returns-then-not-has_routine c =
    let e = environment_of c.args.environment.now in
    let d = c.in_ok-declaration.declaration.now in
    routine_never _ e c.args.index d (c.in_ok-declaration.ensures ∙ ap (λ v. declaration_of e v) c.variable_at-variable.ensures)
    (λ none. absurd (omega (arith, none, c.len.ensures, d.evaluations.ok.0, c.if-len-eq0.false))) (sym c.has_routine.ensures ∙ c.if-not-has_routine.true)

pub returns : goal.returns
returns c =
    let e = environment_of c.args.environment.now in
    let d = c.in_ok-declaration.declaration.now in
    routine_there _ _ e c.args.index (taken_of c.in_ok-own.own) (taken_of c.none_taken.result) c.held_for-held.result d
    (c.in_ok-declaration.ensures ∙ ap (λ v. declaration_of e v) c.variable_at-variable.ensures)
    (λ none. absurd (omega (arith, none, c.len.ensures, d.evaluations.ok.0, c.if-len-eq0.false))) (sym c.has_routine.ensures ∙ c.if-not-has_routine.false)
    c.in_ok-own.ensures c.none_taken.ensures c.held_for-held.ensures c.in_ok-routine_with.ensures

pub returns-then-len-eq0 : goal.returns-then-len-eq0
returns-then-len-eq0 c =
    let e = environment_of c.args.environment.now in
    let d = c.in_ok-declaration.declaration.now in
    routine_nowhere _ e c.args.index d (c.in_ok-declaration.ensures ∙ ap (λ v. declaration_of e v) c.variable_at-variable.ensures) (omega (arith, c.len.ensures, d.evaluations.ok.0, c.if-len-eq0.true))
