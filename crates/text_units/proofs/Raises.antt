-- What is known of a raise is known while texts wait.
use Rattle.std.proofs.Common.{ℕ, List}
use Rattle.pli_serving.specs.ServiceState.{Entry}
use Rattle.program_runs.proofs.Waiting.{begun_waits}
use Rattle.expression_runs.specs.Values.{Setting}
use Rattle.text_runs.specs.Waiting.{over}
use Rattle.unit_runs.specs.Raised.{IsRaised, Standing}

unfoldable pub raised_waits :
    (entries : List Entry) (k : Setting) (x : Standing) (more : ℕ) → IsRaised k x more →
    IsRaised (over entries k) x more
raised_waits entries k x more h =
    record {
      begun = begun_waits k.block entries h.begun;
      routines = h.routines;
      by = h.by;
      force = h.force;
      parent = h.parent;
      room = h.room;
      shallow = h.shallow;
      only = h.only;
      some = h.some;
      stands = h.stands;
      labels = h.labels;
      kind = h.kind;
      level = h.level;
      line = h.line;
      saved = h.saved;
      acts = h.acts;
      enter = h.enter;
      around = h.around;
      enough = h.enough;
      most = h.most;
    }
