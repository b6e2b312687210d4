-- What a raise means while a unit is in force: the unit's block, its statements and its end.
use Rattle.std.proofs.Common.{◌≡◌, inl, inr, ℕ, suc, List, length, Bool, Option, Some, true, false, refl, sym, ap, ◌∙◌}
use Rattle.std.specs.Prelude.{cond, nat_lt}
use Rattle.rv_meaning.specs.declared.instr.Instr.{Instr}
use Rattle.pli_language.specs.declared.condition.Condition.{Condition}
use Rattle.pli_typing.specs.TypedTree as Y
use Rattle.pli_meaning.specs.BasicValues.{BasicValue}
use Rattle.pli_meaning.specs.declared.outcome.End.TheVariants as N
use Rattle.pli_meaning.specs.declared.outcome.Limit.TheVariants as L
use Rattle.pli_meaning.specs.Control as F
use Rattle.pli_meaning.specs.Control.{Flow, Normal, Jump, Return, Paused, Stuck, Meaning, act, choose, finish, flow_on}
use Rattle.pli_meaning.specs.Control.{give, leaving, left, looked, stored, ◌>>=◌, ◌>>◌}
use Rattle.pli_meaning.specs.Executing as M
use Rattle.pli_meaning.specs.Executing.{with_activation}
use Rattle.pli_meaning.specs.Making as K
use Rattle.pli_meaning.specs.Raising as R
use Rattle.pli_meaning.specs.Raising.{Around, Entry, at_line, unit_entered}
use Rattle.pli_meaning.specs.StorageState.{Activation, BlockUnit, State, force, most_activations, newest_ended}
use Rattle.pli_meaning.specs.World.{counted}
use Rattle.pli_serving.specs.ServiceState.{Services}
use Rattle.activation_relation.specs.Landing.{closed}
use Rattle.run_steps.specs.Reach.{Aims, Closed, Comes, Family}
use Rattle.block_runs.proofs.EmptyMeaning.{on_nothing}
use Rattle.program_runs.proofs.Calls.{behind_entry, behind_variables, on_same}
use Rattle.unit_runs.specs.Raised.{IsUnitKind}

-- ---- its statements behind its variables

abbrev pub unit_body : Around → Y.BlockHead → Y.Stmts → Meaning (Unit {0})
unit_body around head body =
    M.block_variables_made (at_line around head.line) head head.kind >> behind_variables (at_line around head.line) body

end_nothing :
    (around : Around) (body : Y.Stmts) (k : ℕ) (s : State) → behind_entry around body k s ≡ M.list around body k s
unfolding M.block_list
end_nothing around body k s = refl

entry_acts :
    (kind : Y.BlockKind) (k : ℕ) (s : State) → IsUnitKind kind → M.entry_act kind k s ≡ act counted k s
unfolding M.entry_act
entry_acts kind k s (inl e) = ap (λ x. M.entry_act x k s) e
entry_acts kind k s (inr e) = ap (λ x. M.entry_act x k s) e

own_return : (kind : Y.BlockKind) → IsUnitKind kind → M.is_own_return kind ≡ true
own_return kind (inl e) = ap (λ x. M.is_own_return x) e
own_return kind (inr e) = ap (λ x. M.is_own_return x) e

entry_means :
    (around : Around) (kind : Y.BlockKind) (body : Y.Stmts) (k : ℕ) (s : State) → IsUnitKind kind →
    flow_on k (M.entry_act kind k s) (λ q. behind_entry around body) ≡ behind_variables around body k s
unfolding ◌>>◌
entry_means around kind body k s e =
    ap (λ flow. flow_on k flow (λ q. behind_entry around body)) (entry_acts kind k s e)
    ∙ on_same k (act counted k s) (λ q. behind_entry around body) (λ q. M.list around body)
    (λ s'. end_nothing around body k s')

body_means :
    (around : Around) (head : Y.BlockHead) (body : Y.Stmts) (a : Activation) (n k : ℕ) (s : State) →
    IsUnitKind head.kind →
    M.block_body around head body (unit_entered (Y.BlockOf head body) a n) k s
    ≡ flow_on k (M.block_variables_made around head head.kind k s) (λ q. behind_variables around body)
unfolding M.block_body K.parameters_bound give ◌>>◌
body_means around head body a n k s kind =
    on_same k (M.block_variables_made around head head.kind k s)
    (λ q. M.entry_act head.kind >> behind_entry around body) (λ q. behind_variables around body)
    (λ s'. entry_means around head.kind body k s' kind)

run_means :
    (around : Around) (head : Y.BlockHead) (body : Y.Stmts) (a : Activation) (n k : ℕ) (s : State) →
    IsUnitKind head.kind → nat_lt (length s.activations) most_activations ≡ true →
    M.block_run around (Y.BlockOf head body) (unit_entered (Y.BlockOf head body) a n) k s
    ≡ left true newest_ended
    (unit_body around head body k (with_activation head (unit_entered (Y.BlockOf head body) a n) s))
unfolding M.block_run looked stored choose leaving ◌>>=◌ ◌>>◌
run_means around head body a n k s kind few =
    let entry = unit_entered (Y.BlockOf head body) a n in
    let s' = with_activation head entry s in
    let around' = at_line around head.line in
    let run : Bool → Flow (Option BasicValue) = λ q. cond q
    (left (M.is_own_return head.kind) newest_ended (M.block_body around' head body entry k s'))
    (finish (N.Limit L.Depth) k s) in
    ap run few
    ∙ ap (λ q. left q newest_ended (M.block_body around' head body entry k s')) (own_return head.kind kind)
    ∙ ap (λ flow. left true newest_ended flow) (body_means around' head body a n k s' kind)

-- ---- how it is left

abbrev pub returned_from : ℕ → Flow (Unit {0}) → Flow (Unit {0})
returned_from k flow = flow_on k (left true newest_ended flow) (λ r. give tt)

abbrev pub behind_raise : Around → Condition → (code : ℕ) → Meaning (Unit {0})
behind_raise around c n = looked >>= (λ s. R.unit_run around n (force s.activations c))

-- what is around the unit is what the raise's surroundings enter blocks with
pub unit_means :
    (around inner : Around) (c : Condition) (head : Y.BlockHead) (body : Y.Stmts) (more n k : ℕ) (a : Activation)
    (s : State) → around.enter ≡ M.entered around.program (suc more) →
    inner ≡ record { program = around.program; enter = M.entered around.program more; turns = suc more; line = 0 } →
    IsUnitKind head.kind → nat_lt (length s.activations) most_activations ≡ true →
    force s.activations c ≡ Some (a, BlockUnit (Y.BlockOf head body)) →
    behind_raise around c n k s
    ≡ returned_from k (unit_body inner head body k (with_activation head (unit_entered (Y.BlockOf head body) a n) s))
unfolding M.entered R.unit_run looked ◌>>=◌ ◌>>◌
unit_means around inner c head body more n k a s enter same kind few found =
    let block = Y.BlockOf head body in
    let entry = unit_entered block a n in
    let on : Flow (Option BasicValue) → Flow (Unit {0}) = λ flow. flow_on k flow (λ r. give tt) in
    ap (λ o. R.unit_run around n o k s) found
    ∙ ap (λ (enters : Entry → Meaning (Option BasicValue)). on (enters entry k s)) enter
    ∙ ap (λ (u : Around). on (M.block_run u block entry k s)) (sym same)
    ∙ ap on (run_means inner head body a n k s kind few)

-- what is aimed at from within: the block ends first, by its end or by RETURN
abbrev pub within : Aims (Unit {0}) → Aims (Unit {0})
within aims =
    record {
      limits = aims.limits;
      done = λ c f v r s. aims.done c f v tt (closed s);
      jumped = λ c f v height label s. aims.jumped c f v height label (closed s);
      returned = λ c f v r s. aims.done c f v tt (closed s);
    }

pub within_closed : {code : List Instr} {aims : Aims (Unit {0})} → Closed code aims → Closed code (within aims)
within_closed closed' =
    record {
      done = λ r x s o. closed'.done r tt (closed s) o;
      jumped = λ r height label s o. closed'.jumped r height label (closed s) o;
      returned = λ r x s o. closed'.done r tt (closed s) o;
    }

pub comes_returned :
    {code : List Instr} {c : ℕ} {f : Family} {v : Services} {aims : Aims (Unit {0})} (k : ℕ) (flow : Flow (Unit {0})) →
    Comes code c f v (within aims) flow → Comes code c f v aims (returned_from k flow)
unfolding give
comes_returned k (Normal r s) o = record { to = o.to }
comes_returned k (Jump height label s) o = record { to = o.to }
comes_returned k (Return r s) o = record { to = o.to }
comes_returned k (F.Ended s) o = record { to = o.to }
comes_returned k (Paused s) o = record { to = o.to }
comes_returned k Stuck o = record { to = o.to }
