use Rattle.std.proofs.Common.{◌≡◌, IfOk, refl, sym, subst}
use Rattle.pli_language.specs.View.{stmt_of}
use Rattle.pli_nest.specs.Steps.{Stays, completing}
use Rattle.pli_nest.specs.View.{frame_of, step_of}
use Rattle.pli_nest.proofs.complete.completing.Goals as goal

pub returns-in-ThenDue : goal.returns-in-ThenDue
returns-in-ThenDue c = subst (λ f. IfOk c.behind_then.result (λ step. step_of step ≡ completing c.args.else_may (stmt_of c.args.statement) (frame_of f))) (sym c.in-ThenDue.is) c.behind_then.ensures

pub returns-in-List : goal.returns-in-List
returns-in-List c = subst (λ f. IfOk c.in_list.result (λ step. step_of step ≡ completing c.args.else_may (stmt_of c.args.statement) (frame_of f))) (sym c.in-List.is) c.in_list.ensures

pub returns-in-ElseDue : goal.returns-in-ElseDue
returns-in-ElseDue c = subst (λ f. IfOk c.behind_else.result (λ step. step_of step ≡ completing c.args.else_may (stmt_of c.args.statement) (frame_of f))) (sym c.in-ElseDue.is) c.behind_else.ensures

pub returns-in-UnitDue : goal.returns-in-UnitDue
returns-in-UnitDue c = subst (λ f. IfOk c.behind_on.result (λ step. step_of step ≡ completing c.args.else_may (stmt_of c.args.statement) (frame_of f))) (sym c.in-UnitDue.is) c.behind_on.ensures

pub returns-in-ThenWhole : goal.returns-in-ThenWhole
returns-in-ThenWhole c = subst (λ f. Stays (frame_of f) ≡ completing c.args.else_may (stmt_of c.args.statement) (frame_of f)) (sym c.in-ThenWhole.is) refl
