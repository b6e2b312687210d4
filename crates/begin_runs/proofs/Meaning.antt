-- What a begin block means: its variables and its list, and how it is left.
use Rattle.std.proofs.Common.{◌≡◌, ℕ, suc, length, Bool, true, false, refl, sym, ap, ◌∙◌, List, Option}
use Rattle.std.specs.Prelude.{cond, nat_lt}
use Rattle.rv_meaning.specs.declared.instr.Instr.{Instr}
use Rattle.pli_typing.specs.TypedTree as Y
use Rattle.pli_meaning.specs.BasicValues.{BasicValue}
use Rattle.pli_meaning.specs.declared.outcome.End.TheVariants as N
use Rattle.pli_meaning.specs.declared.outcome.Limit.TheVariants as L
use Rattle.pli_meaning.specs.Control as F
use Rattle.pli_meaning.specs.Control.{Flow, Normal, Jump, Return, Paused, Stuck, Meaning, choose, finish, flow_on, give}
use Rattle.pli_meaning.specs.Control.{leaving, left, looked, stored, ◌>>=◌, ◌>>◌}
use Rattle.pli_meaning.specs.Executing as M
use Rattle.pli_meaning.specs.Executing.{begun, with_activation}
use Rattle.pli_meaning.specs.Making as K
use Rattle.pli_meaning.specs.Raising.{Around, Entry, at_line}
use Rattle.pli_meaning.specs.StorageState.{State, most_activations, newest_ended, newest_height}
use Rattle.pli_serving.specs.ServiceState.{Services}
use Rattle.activation_relation.specs.Landing.{closed}
use Rattle.run_steps.specs.Reach.{Aims, Closed, Comes, Family}
use Rattle.block_runs.proofs.EmptyMeaning.{on_nothing}
use Rattle.program_runs.proofs.Calls.{on_same}

-- ---- its list behind its variables

abbrev pub list_of : Around → Y.BlockHead → Y.Stmts → Meaning (Unit {0})
list_of around head body =
    M.block_variables_made (at_line around head.line) head head.kind >> M.list (at_line around head.line) body

entry_none :
    (around : Around) (kind : Y.BlockKind) (body : Y.Stmts) (k : ℕ) (s : State) → kind ≡ Y.BeginBlock →
    flow_on k (M.entry_act kind k s) (λ q. M.block_list around body false)
    ≡ M.list around body k s
unfolding M.entry_act M.block_list give
entry_none around kind body k s e =
    ap (λ x. flow_on k (M.entry_act x k s) (λ q. M.block_list around body false)) e

body_means :
    (around : Around) (head : Y.BlockHead) (body : Y.Stmts) (parent k : ℕ) (s : State) → head.kind ≡ Y.BeginBlock →
    M.block_body (at_line around head.line) head body (begun (Y.BlockOf head body) parent) k s
    ≡ list_of around head body k s
unfolding M.block_body K.parameters_bound give ◌>>◌
body_means around head body parent k s kind =
    let around' = at_line around head.line in
    on_same k (M.block_variables_made around' head head.kind k s)
    (λ q. M.entry_act head.kind >> M.block_list around' body false) (λ q. M.list around' body)
    (λ s'. entry_none around' head.kind body k s' kind)

run_means :
    (around : Around) (head : Y.BlockHead) (body : Y.Stmts) (parent k : ℕ) (s : State) → head.kind ≡ Y.BeginBlock →
    nat_lt (length s.activations) most_activations ≡ true →
    M.block_run around (Y.BlockOf head body) (begun (Y.BlockOf head body) parent) k s
    ≡ left false newest_ended
    (list_of around head body k (with_activation head (begun (Y.BlockOf head body) parent) s))
unfolding M.block_run looked stored choose leaving ◌>>=◌ ◌>>◌
run_means around head body parent k s kind few =
    let entry = begun (Y.BlockOf head body) parent in
    let s' = with_activation head entry s in
    let around' = at_line around head.line in
    let run : Bool → Flow (Option BasicValue) = λ q. cond q
    (left (M.is_own_return head.kind) newest_ended (M.block_body around' head body entry k s'))
    (finish (N.Limit L.Depth) k s) in
    ap run few
    ∙ ap (λ x. left (M.is_own_return x) newest_ended (M.block_body around' head body entry k s')) kind
    ∙ ap (λ flow. left false newest_ended flow) (body_means around head body parent k s' kind)

-- ---- how it is left

abbrev pub passed : ℕ → Flow (Unit {0}) → Flow (Unit {0})
passed k flow = flow_on k (left false newest_ended flow) (λ r. give tt)

abbrev pub behind_act : Around → Y.BlockHead → Y.Stmts → Meaning (Unit {0})
behind_act around head body =
    looked >>= (λ s. around.enter (begun (Y.BlockOf head body) (newest_height s.activations)) >> give tt)

-- what is around the begin block is what the statement's surroundings enter blocks with
pub begin_means :
    (around inner : Around) (head : Y.BlockHead) (body : Y.Stmts) (more parent k : ℕ) (s : State) →
    around.enter ≡ M.entered around.program (suc more) →
    inner ≡ record { program = around.program; enter = M.entered around.program more; turns = suc more; line = 0 } →
    newest_height s.activations ≡ parent → head.kind ≡ Y.BeginBlock →
    nat_lt (length s.activations) most_activations ≡ true →
    behind_act around head body k s
    ≡ passed k (list_of inner head body k (with_activation head (begun (Y.BlockOf head body) parent) s))
unfolding M.entered looked ◌>>=◌ ◌>>◌
begin_means around inner head body more parent k s enter same height kind few =
    let block = Y.BlockOf head body in
    let on : Flow (Option BasicValue) → Flow (Unit {0}) = λ flow. flow_on k flow (λ r. give tt) in
    ap (λ (enters : Entry → Meaning (Option BasicValue)). on (enters (begun block (newest_height s.activations)) k s))
    enter
    ∙ ap (λ (a : Around). on (M.block_run a block (begun block (newest_height s.activations)) k s)) (sym same)
    ∙ ap (λ n. on (M.block_run inner block (begun block n) k s)) height
    ∙ ap on (run_means inner head body parent k s kind few)

-- what is aimed at from within: the block ends first
abbrev pub within : Aims (Unit {0}) → Aims (Unit {0})
within aims =
    record {
      limits = aims.limits;
      done = λ c f v r s. aims.done c f v tt (closed s);
      jumped = λ c f v height label s. aims.jumped c f v height label (closed s);
      returned = λ c f v r s. aims.returned c f v r (closed s);
    }

pub within_closed : {code : List Instr} {aims : Aims (Unit {0})} → Closed code aims → Closed code (within aims)
within_closed closed' =
    record {
      done = λ r x s o. closed'.done r tt (closed s) o;
      jumped = λ r height label s o. closed'.jumped r height label (closed s) o;
      returned = λ r x s o. closed'.returned r x (closed s) o;
    }

pub comes_passed :
    {code : List Instr} {c : ℕ} {f : Family} {v : Services} {aims : Aims (Unit {0})} (k : ℕ) (flow : Flow (Unit {0})) →
    Comes code c f v (within aims) flow → Comes code c f v aims (passed k flow)
unfolding give
comes_passed k (Normal r s) o = record { to = o.to }
comes_passed k (Jump height label s) o = record { to = o.to }
comes_passed k (Return r s) o = record { to = o.to }
comes_passed k (F.Ended s) o = record { to = o.to }
comes_passed k (Paused s) o = record { to = o.to }
comes_passed k Stuck o = record { to = o.to }
