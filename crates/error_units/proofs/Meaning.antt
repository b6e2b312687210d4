-- What ERROR means while a unit is in force: the unit's block, its statements and its end, and the end of the run.
use Rattle.std.proofs.Common.{◌≡◌, inl, inr, ℕ, suc, List, length, Bool, Option, Some, true, false, refl, sym, ap, ◌∙◌}
use Rattle.std.specs.Prelude.{cond, nat_lt}
use Rattle.rv_meaning.specs.declared.instr.Instr.{Instr}
use Rattle.pli_language.specs.declared.condition.Condition.TheVariants as C
use Rattle.pli_typing.specs.TypedTree as Y
use Rattle.pli_meaning.specs.BasicValues.{BasicValue}
use Rattle.pli_meaning.specs.declared.outcome.End.{End}
use Rattle.pli_meaning.specs.declared.outcome.End.TheVariants as N
use Rattle.pli_meaning.specs.declared.outcome.Limit.TheVariants as L
use Rattle.pli_meaning.specs.Control as F
use Rattle.pli_meaning.specs.Control.{Flow, Normal, Jump, Return, Paused, Stuck, Meaning, act, choose, finish, flow_on}
use Rattle.pli_meaning.specs.Control.{give, leaving, left, looked, stored, ◌>>=◌, ◌>>◌}
use Rattle.pli_meaning.specs.Executing as M
use Rattle.pli_meaning.specs.Executing.{with_activation}
use Rattle.pli_meaning.specs.Making as K
use Rattle.pli_meaning.specs.Raising as R
use Rattle.pli_meaning.specs.Raising.{Around, Entry, at_line, unit_entered}
use Rattle.pli_meaning.specs.StorageState.{Activation, BlockUnit, State, force, most_activations, newest_ended}
use Rattle.pli_meaning.specs.StorageState.{with_world}
use Rattle.pli_meaning.specs.World.{counted, ending}
use Rattle.pli_serving.specs.ServiceState.{Services}
use Rattle.activation_relation.specs.Landing.{closed}
use Rattle.run_steps.specs.Reach.{Aims, Closed, Comes, Family}
use Rattle.run_steps.proofs.Reach.{comes_from}
use Rattle.program_runs.proofs.Calls.{behind_entry, behind_variables, on_same}
use Rattle.unit_runs.specs.Raised.{IsUnitKind}
use Rattle.unit_runs.proofs.UnitMeaning.{unit_body}

-- ---- the unit's block

end_nothing :
    (around : Around) (body : Y.Stmts) (k : ℕ) (s : State) → behind_entry around body k s ≡ M.list around body k s
unfolding M.block_list
end_nothing around body k s = refl

entry_acts :
    (kind : Y.BlockKind) (k : ℕ) (s : State) → IsUnitKind kind → M.entry_act kind k s ≡ act counted k s
unfolding M.entry_act
entry_acts kind k s (inl e) = ap (λ x. M.entry_act x k s) e
entry_acts kind k s (inr e) = ap (λ x. M.entry_act x k s) e

own_return : (kind : Y.BlockKind) → IsUnitKind kind → M.is_own_return kind ≡ true
own_return kind (inl e) = ap (λ x. M.is_own_return x) e
own_return kind (inr e) = ap (λ x. M.is_own_return x) e

entry_means :
    (around : Around) (kind : Y.BlockKind) (body : Y.Stmts) (k : ℕ) (s : State) → IsUnitKind kind →
    flow_on k (M.entry_act kind k s) (λ q. behind_entry around body) ≡ behind_variables around body k s
unfolding ◌>>◌
entry_means around kind body k s e =
    ap (λ flow. flow_on k flow (λ q. behind_entry around body)) (entry_acts kind k s e)
    ∙ on_same k (act counted k s) (λ q. behind_entry around body) (λ q. M.list around body)
    (λ s'. end_nothing around body k s')

body_means :
    (around : Around) (head : Y.BlockHead) (body : Y.Stmts) (a : Activation) (n k : ℕ) (s : State) →
    IsUnitKind head.kind →
    M.block_body around head body (unit_entered (Y.BlockOf head body) a n) k s
    ≡ flow_on k (M.block_variables_made around head head.kind k s) (λ q. behind_variables around body)
unfolding M.block_body K.parameters_bound give ◌>>◌
body_means around head body a n k s kind =
    on_same k (M.block_variables_made around head head.kind k s)
    (λ q. M.entry_act head.kind >> behind_entry around body) (λ q. behind_variables around body)
    (λ s'. entry_means around head.kind body k s' kind)

run_means :
    (around : Around) (head : Y.BlockHead) (body : Y.Stmts) (a : Activation) (n k : ℕ) (s : State) →
    IsUnitKind head.kind → nat_lt (length s.activations) most_activations ≡ true →
    M.block_run around (Y.BlockOf head body) (unit_entered (Y.BlockOf head body) a n) k s
    ≡ left true newest_ended
    (unit_body around head body k (with_activation head (unit_entered (Y.BlockOf head body) a n) s))
unfolding M.block_run looked stored choose leaving ◌>>=◌ ◌>>◌
run_means around head body a n k s kind few =
    let entry = unit_entered (Y.BlockOf head body) a n in
    let s' = with_activation head entry s in
    let around' = at_line around head.line in
    let run : Bool → Flow (Option BasicValue) = λ q. cond q
    (left (M.is_own_return head.kind) newest_ended (M.block_body around' head body entry k s'))
    (finish (N.Limit L.Depth) k s) in
    ap run few
    ∙ ap (λ q. left q newest_ended (M.block_body around' head body entry k s')) (own_return head.kind kind)
    ∙ ap (λ flow. left true newest_ended flow) (body_means around' head body a n k s' kind)

run_finishes :
    (around : Around) (head : Y.BlockHead) (body : Y.Stmts) (entry : Entry) (k : ℕ) (s : State) →
    nat_lt (length s.activations) most_activations ≡ false →
    M.block_run around (Y.BlockOf head body) entry k s ≡ finish (N.Limit L.Depth) k s
unfolding M.block_run looked stored choose leaving ◌>>=◌ ◌>>◌
run_finishes around head body entry k s many =
    let around' = at_line around head.line in
    let inside : Meaning (Option BasicValue) =
    stored (with_activation head entry)
    >> leaving (M.is_own_return head.kind) newest_ended (M.block_body around' head body entry) in
    ap (λ q. choose q inside (finish (N.Limit L.Depth)) k s) many

-- ---- behind the act of the raise

abbrev pub behind_error : (X : Type 0) → Around → (code : ℕ) → Meaning X
behind_error X around n = looked >>= (λ s. R.error_unit_run {R = X} around n (force s.activations C.Error))

-- the run ends behind the block
abbrev pub ended_from : (X : Type 0) → Around → (code k : ℕ) → Flow (Unit {0}) → Flow X
ended_from X around n k flow = flow_on k (left true newest_ended flow) (λ r. finish {R = X} (N.Error n around.line))

-- what is around the unit is what the raise's surroundings enter blocks with
pub error_means :
    (X : Type 0) (around inner : Around) (head : Y.BlockHead) (body : Y.Stmts) (more n k : ℕ) (a : Activation)
    (s : State) → around.enter ≡ M.entered around.program (suc more) →
    inner ≡ record { program = around.program; enter = M.entered around.program more; turns = suc more; line = 0 } →
    IsUnitKind head.kind → nat_lt (length s.activations) most_activations ≡ true →
    force s.activations C.Error ≡ Some (a, BlockUnit (Y.BlockOf head body)) →
    behind_error X around n k s
    ≡ ended_from X around n k
    (unit_body inner head body k (with_activation head (unit_entered (Y.BlockOf head body) a n) s))
unfolding M.entered R.error_unit_run looked ◌>>=◌ ◌>>◌
error_means X around inner head body more n k a s enter same kind few found =
    let block = Y.BlockOf head body in
    let entry = unit_entered block a n in
    let on : Flow (Option BasicValue) → Flow X = λ flow. flow_on k flow (λ r. finish (N.Error n around.line)) in
    ap (λ o. R.error_unit_run {R = X} around n o k s) found
    ∙ ap (λ (enters : Entry → Meaning (Option BasicValue)). on (enters entry k s)) enter
    ∙ ap (λ (u : Around). on (M.block_run u block entry k s)) (sym same)
    ∙ ap on (run_means inner head body a n k s kind few)

-- and where no block more may be active
finish_on :
    {Q X : Type 0} (q : Bool) (end : End) (k : ℕ) (s : State) (next : Q → Meaning X) →
    flow_on k (cond q (F.Ended (with_world (ending end s.world) s)) (F.Paused s)) next
    ≡ cond q (F.Ended (with_world (ending end s.world) s)) (F.Paused s)
finish_on true end k s next = refl
finish_on false end k s next = refl

pub deep_means :
    (X : Type 0) (around inner : Around) (head : Y.BlockHead) (body : Y.Stmts) (more n k : ℕ) (a : Activation)
    (s : State) → around.enter ≡ M.entered around.program (suc more) →
    inner ≡ record { program = around.program; enter = M.entered around.program more; turns = suc more; line = 0 } →
    nat_lt (length s.activations) most_activations ≡ false →
    force s.activations C.Error ≡ Some (a, BlockUnit (Y.BlockOf head body)) →
    behind_error X around n k s ≡ finish {R = X} (N.Limit L.Depth) k s
unfolding M.entered R.error_unit_run looked ◌>>=◌ ◌>>◌ finish
deep_means X around inner head body more n k a s enter same many found =
    let block = Y.BlockOf head body in
    let entry = unit_entered block a n in
    let next' : Option BasicValue → Meaning X = λ r. finish (N.Error n around.line) in
    let on : Flow (Option BasicValue) → Flow X = λ flow. flow_on k flow next' in
    ap (λ o. R.error_unit_run {R = X} around n o k s) found
    ∙ ap (λ (enters : Entry → Meaning (Option BasicValue)). on (enters entry k s)) enter
    ∙ ap (λ (u : Around). on (M.block_run u block entry k s)) (sym same)
    ∙ ap on (run_finishes inner head body entry k s many)
    ∙ finish_on (nat_lt s.world.acts k) (N.Limit L.Depth) k s next'

-- ---- what is aimed at from within: the block ends first, and then the run

abbrev pub within_error : {X : Type 0} → List Instr → Around → (code k : ℕ) → Aims X → Aims (Unit {0})
within_error {X} code around n k aims =
    record {
      limits = aims.limits;
      done = λ c f v r s. Comes code c f v aims (finish {R = X} (N.Error n around.line) k (closed s));
      jumped = λ c f v height label s. aims.jumped c f v height label (closed s);
      returned = λ c f v r s. Comes code c f v aims (finish {R = X} (N.Error n around.line) k (closed s));
    }

pub within_closed :
    {X : Type 0} {code : List Instr} (around : Around) (n k : ℕ) {aims : Aims X} → Closed code aims →
    Closed code (within_error code around n k aims)
within_closed around n k closed' =
    record {
      done = λ r x s o. comes_from closed' r o;
      jumped = λ r height label s o. closed'.jumped r height label (closed s) o;
      returned = λ r x s o. comes_from closed' r o;
    }

pub comes_ended :
    {X : Type 0} {code : List Instr} {c : ℕ} {f : Family} {v : Services} {aims : Aims X} (around : Around) (n k : ℕ)
    (flow : Flow (Unit {0})) → Comes code c f v (within_error code around n k aims) flow →
    Comes code c f v aims (ended_from X around n k flow)
comes_ended around n k (Normal r s) o = record { to = λ few. (o.to few).to few }
comes_ended around n k (Jump height label s) o = record { to = o.to }
comes_ended around n k (Return r s) o = record { to = λ few. (o.to few).to few }
comes_ended around n k (F.Ended s) o = record { to = o.to }
comes_ended around n k (Paused s) o = record { to = o.to }
comes_ended around n k Stuck o = record { to = o.to }
