-- Flows of a called procedure or an on-unit, whose own returns end it, and which may jump out of it.
use Rattle.std.proofs.Common.{ℕ, List, None, Option, true}
use Rattle.rv_meaning.specs.declared.instr.Instr.{Instr}
use Rattle.pli_serving.specs.ServiceState.{Services}
use Rattle.pli_meaning.specs.BasicValues.{BasicValue}
use Rattle.pli_meaning.specs.StorageState.{State, with_world}
use Rattle.pli_meaning.specs.Control as F
use Rattle.pli_meaning.specs.Control.{Flow, Normal, Jump, Return, Paused, Stuck, left}
use Rattle.run_steps.specs.Reach.{Family, Aims, Comes, Closed}

-- its end and a return end its activation, and so does a jump
abbrev pub ending_call : Aims (Option BasicValue) → (State → State) → Aims (Unit {0})
ending_call aims close =
    record {
      limits = aims.limits;
      done = λ i f v x s. aims.done i f v None (with_world s.world (close s));
      jumped = λ i f v height label s. aims.jumped i f v height label (with_world s.world (close s));
      returned = λ i f v x s. aims.done i f v x (with_world s.world (close s));
    }

pub ending_closed : {code : List Instr} {aims : Aims (Option BasicValue)} (close : State → State) → Closed code aims → Closed code (ending_call aims close)
ending_closed close closed =
    record {
      done = λ r x s a. closed.done r None (with_world s.world (close s)) a;
      jumped = λ r height label s a. closed.jumped r height label (with_world s.world (close s)) a;
      returned = λ r x s a. closed.done r x (with_world s.world (close s)) a;
    }

pub comes_called : {code : List Instr} {i : ℕ} {f : Family} {v : Services} {aims : Aims (Option BasicValue)} (close : State → State) (flow : Flow (Unit {0})) → Comes code i f v (ending_call aims close) flow → Comes code i f v aims (left true close flow)
comes_called close (Normal x s) c = record { to = c.to }
comes_called close (Jump height label s) c = record { to = c.to }
comes_called close (Return x s) c = record { to = c.to }
comes_called close (F.Ended s) c = record { to = c.to }
comes_called close (Paused s) c = record { to = c.to }
comes_called close Stuck c = record { to = c.to }
