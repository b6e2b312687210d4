-- The list of a function, with the error at its end: what the list and the error behind it come to, unless a unit for the
-- error jumps back into the list.
use Rattle.std.proofs.Common.{◌≡◌, ℕ, zero, suc, List, Bool, true, false, None, Option, Some, refl, sym, ap, subst}
use Rattle.std.specs.Prelude.{cond, ◌&&◌, ◌==◌, ⊤}
use Rattle.rv_meaning.specs.declared.instr.Instr.{Instr}
use Rattle.pli_typing.specs.TypedTree as Y
use Rattle.pli_meaning.specs.Codes.{no_value_code}
use Rattle.pli_meaning.specs.Control as F
use Rattle.pli_meaning.specs.Control.{Flow, Normal, Jump, Return, Paused, Stuck, Label, Meaning, caught, flow_on}
use Rattle.pli_meaning.specs.Control.{is_among, list_from, looked, ◌>>=◌, ◌>>◌}
use Rattle.pli_meaning.specs.Executing as M
use Rattle.pli_meaning.specs.Raising.{Around, error}
use Rattle.pli_meaning.specs.StorageState.{State, newest_height}
use Rattle.pli_serving.specs.ServiceState.{Services}
use Rattle.run_steps.specs.Reach.{Aims, Comes, Family, ComesTo}

-- no jump that the list would catch
abbrev IsPast : (height : ℕ) → List Label → Flow (Unit {0}) → Type 0
IsPast height labels (Normal r s) = ⊤
IsPast height labels (Jump h label s) = (h == height) && is_among label labels ≡ false
IsPast height labels (Return v s) = ⊤
IsPast height labels (F.Ended s) = ⊤
IsPast height labels (Paused s) = ⊤
IsPast height labels Stuck = ⊤

past_caught :
    (k height : ℕ) (labels : List Label) (flow : Flow (Unit {0})) (next : Label → Meaning (Unit {0})) →
    IsPast height labels flow → caught k height labels flow next ≡ flow
past_caught k height labels (Normal r s) next h = refl
past_caught k height labels (Jump h' label s) next h = ap (λ q. cond q (next label k s) (Jump h' label s)) h
past_caught k height labels (Return v s) next h = refl
past_caught k height labels (F.Ended s) next h = refl
past_caught k height labels (Paused s) next h = refl
past_caught k height labels Stuck next h = refl

abbrev with_end : (Option Label → Meaning (Unit {0})) → Meaning (Unit {0}) → Option Label → Meaning (Unit {0})
with_end part end from = part from >> end

ends_from :
    (turns height : ℕ) (labels : List Label) (part : Option Label → Meaning (Unit {0})) (end : Meaning (Unit {0}))
    (from : Option Label) (k : ℕ) (s : State) →
    IsPast height labels (flow_on k (list_from turns height labels part from k s) (λ u. end)) →
    list_from turns height labels (with_end part end) from k s
    ≡ flow_on k (list_from turns height labels part from k s) (λ u. end)
unfolding list_from ◌>>◌
ends_from zero height labels part end from k s h = refl
ends_from (suc n) height labels part end from k s h =
    by (part from k s) (λ label s' p. ends_from n height labels part end (Some label) k s' p) h
  where
    before : Label → Meaning (Unit {0})
    before label = list_from n height labels part (Some label)

    now : Label → Meaning (Unit {0})
    now label = list_from n height labels (with_end part end) (Some label)

    Again : Type 0
    Again =
        (label : Label) (s' : State) → IsPast height labels (flow_on k (before label k s') (λ u. end)) →
        now label k s' ≡ flow_on k (before label k s') (λ u. end)

    on :
        (q : Bool) (h' : ℕ) (label : Label) (s' : State) → Again →
        IsPast height labels (flow_on k (cond q (before label k s') (Jump h' label s')) (λ u. end)) →
        cond q (now label k s') (Jump h' label s')
        ≡ flow_on k (cond q (before label k s') (Jump h' label s')) (λ u. end)
    on true h' label s' again p = again label s' p
    on false h' label s' again p = refl

    by :
        (flow : Flow (Unit {0})) → Again →
        IsPast height labels (flow_on k (caught k height labels flow before) (λ u. end)) →
        caught k height labels (flow_on k flow (λ u. end)) now
        ≡ flow_on k (caught k height labels flow before) (λ u. end)
    by (Normal r s') again p = past_caught k height labels (end k s') now p
    by (Jump h' label s') again p = on ((h' == height) && is_among label labels) h' label s' again p
    by (Return v s') again p = refl
    by (F.Ended s') again p = refl
    by (Paused s') again p = refl
    by Stuck again p = refl

abbrev ended_flow : Around → Y.Stmts → ℕ → State → Flow (Unit {0})
ended_flow around body k s = flow_on k (M.list around body k s) (λ u. error around no_value_code)

list_ends :
    (around : Around) (body : Y.Stmts) (k : ℕ) (s : State) →
    IsPast (newest_height s.activations) (M.labels_in body) (ended_flow around body k s) →
    M.block_list around body true k s ≡ ended_flow around body k s
unfolding M.block_list M.list M.list_with looked ◌>>=◌
list_ends around body k s h =
    ends_from around.turns (newest_height s.activations) (M.labels_in body) (M.statements around body)
    (error around no_value_code) None k s h

-- so it does, where all jumps go elsewhere
pub list_comes :
    {code : List Instr} {i : ℕ} {f : Family} {v : Services} {aims : Aims (Unit {0})} (around : Around)
    (body : Y.Stmts) (k : ℕ) (s : State) →
    ((height : ℕ) (label : Label) (s' : State) → aims.jumped i f v height label s' →
    (height == newest_height s.activations) && is_among label (M.labels_in body) ≡ false) →
    Comes code i f v aims (flow_on k (M.list around body k s) (λ u. error around no_value_code)) →
    Comes code i f v aims (M.block_list around body true k s)
list_comes {code} {i} {f} {v} {aims} around body k s elsewhere o =
    record {
      to = λ early.
          subst (λ flow. ComesTo code i f v aims flow)
          (sym (list_ends around body k s (by (ended_flow around body k s) (o.to early)))) (o.to early);
    }
  where
    by :
        (flow : Flow (Unit {0})) → ComesTo code i f v aims flow →
        IsPast (newest_height s.activations) (M.labels_in body) flow
    by (Normal r s') o = tt
    by (Jump height label s') o = elsewhere height label s' o
    by (Return r s') o = tt
    by (F.Ended s') o = tt
    by (Paused s') o = tt
    by Stuck o = tt
