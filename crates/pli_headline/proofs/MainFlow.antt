-- Flows of a list that catches jumps to its labels, and of a block whose own returns end it and which doesn't jump.
use Rattle.std.proofs.Common.{ℕ, List, None, Option, true}
use Rattle.std.specs.Prelude.{◌==◌, ◌&&◌, if◌then◌else◌}
use Rattle.rv_meaning.specs.declared.instr.Instr.{Instr}
use Rattle.pli_serving.specs.ServiceState.{Services}
use Rattle.pli_meaning.specs.BasicValues.{BasicValue}
use Rattle.pli_meaning.specs.StorageState.{State, with_world}
use Rattle.pli_meaning.specs.Control as F
use Rattle.pli_meaning.specs.Control.{Flow, Normal, Jump, Return, Paused, Stuck, Label, Meaning, is_among, caught, left}
use Rattle.run_steps.specs.Reach.{Family, Aims, Comes, Closed}
use Rattle.run_steps.proofs.Reach.{comes_from}

-- ---- a list of statements

-- a jump to one of its own labels goes on there
abbrev pub catching : List Instr → (k height : ℕ) → List Label → (Label → Meaning (Unit {0})) → Aims (Unit {0}) → Aims (Unit {0})
catching code k height labels next aims =
    record {
      limits = aims.limits;
      done = aims.done;
      jumped = λ i f v h label s. Comes code i f v aims (if (h == height) && is_among label labels then next label k s else Jump h label s);
      returned = aims.returned;
    }

pub catching_closed : {code : List Instr} {aims : Aims (Unit {0})} (k height : ℕ) (labels : List Label) (next : Label → Meaning (Unit {0})) → Closed code aims → Closed code (catching code k height labels next aims)
catching_closed k height labels next closed =
    record { done = closed.done; jumped = λ r h label s c. comes_from closed r c; returned = closed.returned }

pub comes_caught : {code : List Instr} {i : ℕ} {f : Family} {v : Services} {aims : Aims (Unit {0})} (k height : ℕ) (labels : List Label) (next : Label → Meaning (Unit {0})) (flow : Flow (Unit {0})) → Comes code i f v (catching code k height labels next aims) flow → Comes code i f v aims (caught k height labels flow next)
comes_caught k height labels next (Normal x s) c = record { to = c.to }
comes_caught k height labels next (Jump h label s) c = record { to = λ early. (c.to early).to early }
comes_caught k height labels next (Return x s) c = record { to = c.to }
comes_caught k height labels next (F.Ended s) c = record { to = c.to }
comes_caught k height labels next (Paused s) c = record { to = c.to }
comes_caught k height labels next Stuck c = record { to = c.to }

-- ---- the end of a block

-- its body, whose end ends its activation
abbrev pub inside : Aims (Option BasicValue) → (State → State) → Aims (Unit {0})
inside aims close =
    record {
      limits = aims.limits;
      done = λ i f v x s. aims.done i f v None (with_world s.world (close s));
      jumped = λ i f v height label s. ⊥;
      returned = λ i f v x s. aims.done i f v x (with_world s.world (close s));
    }

pub inside_closed : {code : List Instr} {aims : Aims (Option BasicValue)} (close : State → State) → Closed code aims → Closed code (inside aims close)
inside_closed close closed =
    record {
      done = λ r x s a. closed.done r None (with_world s.world (close s)) a;
      jumped = λ r height label s a. absurd a;
      returned = λ r x s a. closed.done r x (with_world s.world (close s)) a;
    }

pub comes_left : {code : List Instr} {i : ℕ} {f : Family} {v : Services} {aims : Aims (Option BasicValue)} (close : State → State) (flow : Flow (Unit {0})) → Comes code i f v (inside aims close) flow → Comes code i f v aims (left true close flow)
comes_left close (Normal x s) c = record { to = c.to }
comes_left close (Jump height label s) c = record { to = λ early. absurd (c.to early) }
comes_left close (Return x s) c = record { to = c.to }
comes_left close (F.Ended s) c = record { to = c.to }
comes_left close (Paused s) c = record { to = c.to }
comes_left close Stuck c = record { to = c.to }
