-- What a call without arguments means, of a procedure inside the main one: it is entered above the caller, its variables are made, and
-- behind its end the caller goes on; past the limit on active blocks the run ends.
use Rattle.std.proofs.Common.{◌≡◌, ℕ, suc, [], length, Option, Some, None, true, false, ap, ◌∙◌}
use Rattle.std.specs.Prelude.{cond, nat_lt}
use Rattle.pli_typing.specs.TypedTree as Y
use Rattle.pli_meaning.specs.declared.outcome.End.TheVariants as E
use Rattle.pli_meaning.specs.declared.outcome.Limit.TheVariants as L
use Rattle.pli_meaning.specs.World.{counted}
use Rattle.pli_meaning.specs.BasicValues.{BasicValue}
use Rattle.pli_meaning.specs.DeclaredShapes.{procedure_numbered, variables_of_block}
use Rattle.pli_meaning.specs.StorageState.{State, newest_ended, ancestor_at, height_of, most_activations}
use Rattle.pli_meaning.specs.Control.{Meaning, flow_on, left, give, looked, stored, choose, leaving, act, finish, ◌>>=◌, ◌>>◌}
use Rattle.pli_meaning.specs.Raising.{Around}
use Rattle.pli_meaning.specs.Evaluating as V
use Rattle.pli_meaning.specs.Making as K
use Rattle.pli_meaning.specs.Executing as M
use Rattle.pli_headline.proofs.BeginMeant.{inner_around, entered_at, inner_part}

-- a procedure without parameters and without a result
abbrev pub plain_procedure : Y.BlockHead → Y.Stmts → Y.Procedure
plain_procedure head body = record { block = Y.BlockOf head body; parameters = []; result = None }

-- the call where it stands, behind its act
abbrev pub call_part : Around → (number : ℕ) → Meaning (Unit {0})
call_part around number = V.called around (Y.Calling number 0 Y.NoArgument) >> give tt

-- the act of the entry, the statements of the procedure, and its end
abbrev pub called_part : Y.Program → (more : ℕ) → Y.BlockHead → Y.Stmts → Meaning (Unit {0})
called_part program more head body = act counted >> inner_part program more head body

pub call_meant : (program : Y.Program) (around : Around) (more : ℕ) (head : Y.BlockHead) (body : Y.Stmts) (number k : ℕ) (s : State) → around.program ≡ program → around.enter ≡ M.entered program (suc more) → procedure_numbered number program.procedures ≡ Some (plain_procedure head body) → head.kind ≡ Y.ProcedureBlock → height_of (ancestor_at s 0) ≡ 1 → nat_lt (length s.activations) most_activations ≡ true → call_part around number k s ≡ flow_on k (left true newest_ended (flow_on k (K.variables_made (inner_around program more head.line) 0 (variables_of_block program head.number) k (entered_at 1 head body s)) (λ u. called_part program more head body))) (λ u. give tt)
unfolding V.called V.arguments V.all_passed_last V.procedure_entered M.entered M.block_run M.block_body M.block_variables_made M.entry_act K.parameters_bound leaving stored looked choose give ◌>>=◌ ◌>>◌
call_meant program around more head body number k s same enter found kind parent few =
    let here = inner_around program more head.line in
    let entry = M.begun (Y.BlockOf head body) 1 in
    let s1 = entered_at 1 head body s in
    let last : Option BasicValue → Meaning (Unit {0}) = λ u. give tt in
    let statements : Meaning (Unit {0}) = inner_part program more head body in
    ap (λ (p : Y.Program). flow_on k (V.procedure_entered around (procedure_numbered number p.procedures) 0 [] k s) last) same
    ∙ ap (λ o. flow_on k (V.procedure_entered around o 0 [] k s) last) found
    ∙ ap (λ height. flow_on k (around.enter (M.begun (Y.BlockOf head body) height) k s) last) parent
    ∙ ap (λ enters. flow_on k (enters entry k s) last) enter
    ∙ ap (λ q. flow_on k (cond q (left (M.is_own_return head.kind) newest_ended (M.block_body here head body entry k s1)) (finish (E.Limit L.Depth) k s)) last) few
    ∙ ap (λ kind'. flow_on k (left (M.is_own_return kind') newest_ended (flow_on k (M.block_variables_made here head kind' k s1) (λ u. M.entry_act kind' >> statements))) last) kind

-- where too many blocks are entered the run ends
pub call_limited : (program : Y.Program) (around : Around) (more : ℕ) (head : Y.BlockHead) (body : Y.Stmts) (number k : ℕ) (s : State) → around.program ≡ program → around.enter ≡ M.entered program (suc more) → procedure_numbered number program.procedures ≡ Some (plain_procedure head body) → nat_lt (length s.activations) most_activations ≡ false → call_part around number k s ≡ flow_on k (finish {R = Option BasicValue} (E.Limit L.Depth) k s) (λ u. give tt)
unfolding V.called V.arguments V.all_passed_last V.procedure_entered M.entered M.block_run leaving stored looked choose give ◌>>=◌ ◌>>◌
call_limited program around more head body number k s same enter found many =
    let here = inner_around program more head.line in
    let entry = M.begun (Y.BlockOf head body) (height_of (ancestor_at s 0)) in
    let s1 = entered_at (height_of (ancestor_at s 0)) head body s in
    let last : Option BasicValue → Meaning (Unit {0}) = λ u. give tt in
    ap (λ (p : Y.Program). flow_on k (V.procedure_entered around (procedure_numbered number p.procedures) 0 [] k s) last) same
    ∙ ap (λ o. flow_on k (V.procedure_entered around o 0 [] k s) last) found
    ∙ ap (λ enters. flow_on k (enters entry k s) last) enter
    ∙ ap (λ q. flow_on k (cond q (left (M.is_own_return head.kind) newest_ended (M.block_body here head body entry k s1)) (finish (E.Limit L.Depth) k s)) last) many
