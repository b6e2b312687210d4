-- What is known of a block, and around its expressions, is known while texts wait.
use Rattle.std.proofs.Common.{ℕ, List}
use Rattle.pli_serving.specs.ServiceState.{Entry}
use Rattle.program_runs.specs.Calls.{Callee}
use Rattle.program_runs.specs.Statements.{Block, waiting}
use Rattle.program_runs.proofs.Waiting.{begun_waits}
use Rattle.expression_runs.specs.Raises.{IsUnraised}
use Rattle.expression_runs.specs.Values.{Setting}
use Rattle.expression_runs.specs.Variables.{IsNumber, Spot}
use Rattle.function_runs.specs.FunctionCalls.{IsFunctionCall}
use Rattle.text_runs.specs.Waiting.{over}

pub number_waits :
    (k : Block) (entries : List Entry) (x : Spot) → IsNumber k x → IsNumber (waiting entries k) x
number_waits k entries x h =
    record {
      initial = h.initial;
      declared = h.declared;
      serial = h.serial;
      binding = h.binding;
      living = h.living;
      lives = h.lives;
      shape = h.shape;
      base = h.base;
      frame = h.frame;
      at = h.at;
      low = h.low;
      inside = h.inside;
    }

pub unraised_waits : (k : Setting) (entries : List Entry) → IsUnraised k → IsUnraised (over entries k)
unraised_waits k entries h =
    record { routines = h.routines; overflow = h.overflow; error = h.error; acts = h.acts; most = h.most }

pub call_waits :
    (k : Setting) (entries : List Entry) (c : Callee) (more : ℕ) → IsFunctionCall k c more →
    IsFunctionCall (over entries k) c more
call_waits k entries c more h =
    record {
      begun = begun_waits k.block entries h.begun;
      function = h.function;
      room = record { room = h.room.room; shallow = h.room.shallow; parent = h.room.parent; idle = h.room.idle };
      level = h.level;
      parent = h.parent;
      found = h.found;
      enter = h.enter;
      around = h.around;
      enough = h.enough;
      most = h.most;
      words = h.words;
    }
