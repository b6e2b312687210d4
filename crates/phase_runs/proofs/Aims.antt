-- What is aimed at in one of the phases of a block.
use Rattle.std.proofs.Common.{◌≡◌, ℕ, ◌+◌, ◌≤◌, List, refl, sym, subst, arith}
use Rattle.rv_meaning.specs.declared.instr.Instr.{Instr}
use Rattle.pli_meaning.specs.Control.{Flow, Label}
use Rattle.pli_serving.specs.ServiceState.{Services}
use Rattle.activation_relation.specs.Layers.{Point}
use Rattle.run_steps.specs.Giving.{Limits}
use Rattle.run_steps.specs.Owing.{owing}
use Rattle.run_steps.proofs.Owing.{done_owing}
use Rattle.run_steps.specs.Reach.{Aims, Closed, Comes, Family}
use Rattle.block_runs.specs.Machines.{IsIn, limits_of}
use Rattle.block_runs.proofs.CallStatements.{comes_map}
use Rattle.program_runs.specs.Statements.{Block, statement_aims}
use Rattle.program_runs.proofs.JumpsOut.{jumps_repaid, jumps_since, returns_repaid}
use Rattle.program_runs.proofs.Lists.{goes_since}
use Rattle.program_runs.proofs.Statements.{goes_here, statement_closed}
use Rattle.phase_runs.specs.Phases.{Phases, in_phase, phase_aims, some_aims}

pub some_closed :
    {code : List Instr} (limits : Limits) (ps : Phases) (aims : Point → Aims (Unit {0})) →
    ((first : Point) → Closed code (aims first)) → Closed code (some_aims limits ps aims)
some_closed limits ps aims each =
    record {
      done = λ r x s o. record { first = o.first; is = o.is; holds = (each o.first).done r x s o.holds };
      jumped = λ r height label s o.
          record { first = o.first; is = o.is; holds = (each o.first).jumped r height label s o.holds };
      returned = λ r x s o. record { first = o.first; is = o.is; holds = (each o.first).returned r x s o.holds };
    }

pub phase_closed :
    (k : Block) (ps : Phases) (labels : List Label) (acts index wanted left' : ℕ) →
    Closed k.call.code (phase_aims k ps labels acts index wanted left')
phase_closed k ps labels acts index wanted left' =
    some_closed (limits_of k.call.surroundings) ps
    (λ first. statement_aims (in_phase k first) labels acts index wanted left')
    (λ first. statement_closed (in_phase k first) labels acts index wanted left')

-- what is aimed at in a phase
pub comes_in :
    {code : List Instr} {c : ℕ} {f : Family} {v : Services} (limits : Limits) (ps : Phases)
    (aims : Point → Aims (Unit {0})) (first : Point) → ps first → limits ≡ (aims first).limits →
    (flow : Flow (Unit {0})) → Comes code c f v (aims first) flow → Comes code c f v (some_aims limits ps aims) flow
comes_in limits ps aims first is same flow o =
    comes_map (aims first) (some_aims limits ps aims) same flow
    (λ c' f' v' r s q. record { first = first; is = is; holds = q })
    (λ c' f' v' height label s q. record { first = first; is = is; holds = q })
    (λ c' f' v' r s q. record { first = first; is = is; holds = q })
    o

pub owing_in :
    {code : List Instr} {c : ℕ} {f : Family} {v : Services} (debt : ℕ) (limits : Limits) (ps : Phases)
    (aims : Point → Aims (Unit {0})) (first : Point) → ps first → limits ≡ (aims first).limits →
    (flow : Flow (Unit {0})) → Comes code c f v (owing code debt (aims first)) flow →
    Comes code c f v (owing code debt (some_aims limits ps aims)) flow
owing_in {code} debt limits ps aims first is same flow o =
    comes_map (owing code debt (aims first)) (owing code debt (some_aims limits ps aims)) same flow
    (λ c' f' v' r s q. λ i0 f0 v0 from. record { first = first; is = is; holds = q i0 f0 v0 from })
    (λ c' f' v' height label s q. λ i0 f0 v0 from. record { first = first; is = is; holds = q i0 f0 v0 from })
    (λ c' f' v' r s q. λ i0 f0 v0 from. record { first = first; is = is; holds = q i0 f0 v0 from })
    o

-- since fewer acts
pub phase_since :
    (k : Block) (ps : Phases) {labels : List Label} {acts more index wanted left' c : ℕ} {f : Family} {v : Services}
    {flow : Flow (Unit {0})} → acts ≤ more →
    Comes k.call.code c f v (phase_aims k ps labels more index wanted left') flow →
    Comes k.call.code c f v (phase_aims k ps labels acts index wanted left') flow
phase_since k ps {labels} {acts} {more} {index} {wanted} {left'} {flow = flow} few o =
    comes_map (phase_aims k ps labels more index wanted left') (phase_aims k ps labels acts index wanted left') refl
    flow
    (λ c' f' v' r s q. record { first = q.first; is = q.is; holds = goes_since few q.holds })
    (λ c' f' v' height label s q. record { first = q.first; is = q.is; holds = jumps_since few q.holds })
    (λ c' f' v' r s q. q)
    o

-- a statement in another one, whose act pays for what stands around it
pub owed_some :
    (k : Block) (ps : Phases) {labels : List Label} {acts more i i' wanted wanted' left' c : ℕ} {f : Family}
    {v : Services} {flow : Flow (Unit {0})} (debt : ℕ) → acts ≤ more → i' ≡ i → wanted' ≤ wanted + debt →
    Comes k.call.code c f v (phase_aims k ps labels more i' wanted' left') flow →
    Comes k.call.code c f v (owing k.call.code debt (phase_aims k ps labels acts i wanted left')) flow
owed_some k ps {labels} {acts} {more} {i} {i'} {wanted} {wanted'} {left'} {flow = flow} debt since same few o =
    let code = k.call.code in
    comes_map (phase_aims k ps labels more i' wanted' left')
    (owing code debt (phase_aims k ps labels acts i wanted left')) refl flow
    (λ c' f' v' r s q. λ i0 f0 v0 from.
    let u = q.holds in
    let later = u.since in
    let each = statement_aims (in_phase k q.first) labels acts i wanted left' in
    record {
      first = q.first;
      is = q.is;
      holds = subst (λ s'. (owing code debt each).done c' f' v' r s') (sym u.state)
          (done_owing (statement_closed (in_phase k q.first) labels acts i wanted left') debt wanted few u.reach r
          u.point.state
          (λ g at. goes_here acts wanted g (omega (arith, since, later)) u.among
          (λ b. subst (λ j. IsIn k.call.surroundings u.point u.numbers j b (g b)) same (at b))))
          i0 f0 v0 from;
    })
    (λ c' f' v' height label s q. λ i0 f0 v0 from.
    record { first = q.first; is = q.is; holds = jumps_repaid debt from (jumps_since since q.holds) })
    (λ c' f' v' r s q. λ i0 f0 v0 from.
    record { first = q.first; is = q.is; holds = returns_repaid debt from q.holds })
    o
