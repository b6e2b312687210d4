-- What a raise means while a unit of the program is in force: the unit is entered as a block inside the main procedure, its variables are
-- made, and behind its end the program goes on; past the limit on active blocks the run ends.
use Rattle.std.proofs.Common.{◌≡◌, ℕ, suc, ◌⊎◌, inl, inr, [], length, Option, Some, true, false, refl, ap, ◌∙◌}
use Rattle.std.specs.Prelude.{cond, nat_lt}
use Rattle.pli_typing.specs.TypedTree as Y
use Rattle.pli_meaning.specs.declared.outcome.End.TheVariants as E
use Rattle.pli_meaning.specs.declared.outcome.Limit.TheVariants as L
use Rattle.pli_meaning.specs.BasicValues.{BasicValue}
use Rattle.pli_headline.specs.ProvedSoFar.{unit_declares}
use Rattle.pli_meaning.specs.StorageState.{State, Activation, BlockUnit, newest_ended, most_activations}
use Rattle.pli_meaning.specs.Control.{Meaning, flow_on, left, give, looked, stored, choose, leaving, finish, ◌>>=◌, ◌>>◌}
use Rattle.pli_meaning.specs.Raising.{Around, Entry}
use Rattle.pli_meaning.specs.Raising as R
use Rattle.pli_meaning.specs.Making as K
use Rattle.pli_meaning.specs.Executing as M
use Rattle.pli_headline.proofs.BeginMeant.{inner_around, inner_part, entered_by}
use Rattle.pli_headline.proofs.CallMeant.{called_part}

-- a unit as it is entered, in the main procedure
abbrev pub unit_entry : (code : ℕ) → Y.BlockHead → Y.Stmts → Entry
unit_entry code head body =
    record { block = Y.BlockOf head body; parent = 1; oncode = code; parameters = []; arguments = []; is_function = false }

-- a single statement, or a block
abbrev pub IsUnitKind : Y.BlockKind → Type 0
IsUnitKind kind = (kind ≡ Y.SimpleUnit) ⊎ (kind ≡ Y.UnitBlock)

abbrev pub unit_part : Around → (code : ℕ) → Activation → Y.BlockHead → Y.Stmts → Meaning (Unit {0})
unit_part around code a head body = R.unit_run around code (Some (a, BlockUnit (Y.BlockOf head body)))

-- its variables, the act of its entry, its statements, and its end
abbrev pub unit_flow : (program : Y.Program) (more : ℕ) (head : Y.BlockHead) (body : Y.Stmts) (kind : Y.BlockKind) → Meaning (Unit {0})
unit_flow program more head body kind k s =
    flow_on k (K.variables_made (inner_around program more head.line) 0 (unit_declares program head kind) k s) (λ u. called_part program more head body)

flow_is : (program : Y.Program) (more : ℕ) (head : Y.BlockHead) (body : Y.Stmts) (kind : Y.BlockKind) (k : ℕ) (s : State) → IsUnitKind kind → left (M.is_own_return kind) newest_ended (flow_on k (M.block_variables_made (inner_around program more head.line) head kind k s) (λ u. M.entry_act kind >> inner_part program more head body)) ≡ left true newest_ended (unit_flow program more head body kind k s)
unfolding M.block_variables_made M.entry_act K.variables_made give ◌>>◌
flow_is program more head body Y.SimpleUnit k s is = refl
flow_is program more head body Y.UnitBlock k s is = refl
flow_is program more head body Y.ProcedureBlock k s (inl other) = absurd (cc other)
flow_is program more head body Y.ProcedureBlock k s (inr other) = absurd (cc other)
flow_is program more head body Y.BeginBlock k s (inl other) = absurd (cc other)
flow_is program more head body Y.BeginBlock k s (inr other) = absurd (cc other)

pub unit_meant : (program : Y.Program) (around : Around) (more : ℕ) (head : Y.BlockHead) (body : Y.Stmts) (code k : ℕ) (a : Activation) (s : State) → around.enter ≡ M.entered program (suc more) → IsUnitKind head.kind → a.height ≡ 1 → nat_lt (length s.activations) most_activations ≡ true → unit_part around code a head body k s ≡ flow_on k (left true newest_ended (unit_flow program more head body head.kind k (entered_by head (unit_entry code head body) s))) (λ u. give tt)
unfolding R.unit_run M.entered M.block_run M.block_body K.parameters_bound leaving stored looked choose give ◌>>=◌ ◌>>◌
unit_meant program around more head body code k a s enter kind parent few =
    let here = inner_around program more head.line in
    let entry : ℕ → Entry = λ height. record { block = Y.BlockOf head body; parent = height; oncode = code; parameters = []; arguments = []; is_function = false } in
    let s1 = entered_by head (entry 1) s in
    let last : Option BasicValue → Meaning (Unit {0}) = λ u. give tt in
    ap (λ height. flow_on k (around.enter (entry height) k s) last) parent
    ∙ ap (λ enters. flow_on k (enters (entry 1) k s) last) enter
    ∙ ap (λ q. flow_on k (cond q (left (M.is_own_return head.kind) newest_ended (M.block_body here head body (entry 1) k s1)) (finish (E.Limit L.Depth) k s)) last) few
    ∙ ap (λ flow. flow_on k flow last) (flow_is program more head body head.kind k s1 kind)

-- where too many blocks are entered the run ends
pub past_limit : (program : Y.Program) (around : Around) (more : ℕ) (head : Y.BlockHead) (body : Y.Stmts) (code k : ℕ) (a : Activation) (s : State) → around.enter ≡ M.entered program (suc more) → nat_lt (length s.activations) most_activations ≡ false → unit_part around code a head body k s ≡ flow_on k (finish {R = Option BasicValue} (E.Limit L.Depth) k s) (λ u. give tt)
unfolding R.unit_run M.entered M.block_run leaving stored looked choose give ◌>>=◌ ◌>>◌
past_limit program around more head body code k a s enter many =
    let here = inner_around program more head.line in
    let entry = R.unit_entered (Y.BlockOf head body) a code in
    let s1 = entered_by head entry s in
    let last : Option BasicValue → Meaning (Unit {0}) = λ u. give tt in
    ap (λ enters. flow_on k (enters entry k s) last) enter
    ∙ ap (λ q. flow_on k (cond q (left (M.is_own_return head.kind) newest_ended (M.block_body here head body entry k s1)) (finish (E.Limit L.Depth) k s)) last) many
