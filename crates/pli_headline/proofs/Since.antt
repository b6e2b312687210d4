-- Aims that are told that acts only grew since a place: a loop makes an act in each turn, so its turns are enough.
use Rattle.std.proofs.Common.{ℕ, ◌≤◌, List, arith}
use Rattle.rv_meaning.specs.declared.instr.Instr.{Instr}
use Rattle.pli_serving.specs.ServiceState.{Services}
use Rattle.pli_meaning.specs.Control as F
use Rattle.pli_meaning.specs.Control.{Flow, Normal, Jump, Return, Paused, Stuck}
use Rattle.run_steps.specs.Reach.{Family, Aims, Comes, Closed}

abbrev pub since : {R : Type 0} → ℕ → Aims R → Aims R
since acts aims =
    record {
      limits = aims.limits;
      done = λ i f v r s. acts ≤ v.world.acts → aims.done i f v r s;
      jumped = aims.jumped;
      returned = aims.returned;
    }

pub since_closed : {R : Type 0} {code : List Instr} {aims : Aims R} (acts : ℕ) → Closed code aims → Closed code (since acts aims)
since_closed acts closed =
    record {
      done = λ r x s d more. closed.done r x s (d (let g = r.grows in omega (arith, more, g)));
      jumped = closed.jumped;
      returned = closed.returned;
    }

pub comes_since : {R : Type 0} {code : List Instr} {i : ℕ} {f : Family} {v : Services} {aims : Aims R} (flow : Flow R) → Comes code i f v (since v.world.acts aims) flow → Comes code i f v aims flow
comes_since (Normal x s) c = record { to = λ early. c.to early (omega arith) }
comes_since (Jump h label s) c = record { to = c.to }
comes_since (Return x s) c = record { to = c.to }
comes_since (F.Ended s) c = record { to = c.to }
comes_since (Paused s) c = record { to = c.to }
comes_since Stuck c = record { to = c.to }
