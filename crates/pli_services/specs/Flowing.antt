-- A call of a service whose services hold what a run's flow does.
use Rattle.std.specs.Prelude.{ℕ, List, [], Option, None, option_map}
use Rattle.pli_meaning.specs.World.{World, first_world}
use Rattle.pli_serving.specs.ServiceState.{Activation, Services, Waiting}
use Rattle.pli_serving.specs.Finding.{Call}
use Rattle.pli_services.specs.Shown.{world_of}
use Rattle.pli_services.specs.declared.flow.Flow.{Flow}
use Rattle.pli_services.specs.declared.flow.Waiting.{Waiting as WaitingHeld}

abbrev pub waiting_of : WaitingHeld → Waiting
waiting_of w = record { code = w.code; resume = w.resume; line = w.line }

-- a flow, whatever its output is written on
pub record FlowSeen : Type 0 where
  pub world : World
  pub line : ℕ
  pub activations : List Activation
  pub waiting : Option WaitingHeld

abbrev pub flow_seen : {O : Type 0} → (output : O → List ℕ) → Flow O → FlowSeen
flow_seen output f = record {
  world = world_of output f.shown;
  line = f.line;
  activations = f.activations;
  waiting =
      f.waiting;
}

abbrev pub flowing : FlowSeen → Services → Services
flowing f v =
    record v {
      world = f.world;
      line = f.line;
      activations = f.activations;
      waiting = option_map waiting_of f.waiting;
    }

abbrev pub with_flow : FlowSeen → Call → Call
with_flow f c = record c { services = flowing f c.services }

-- the call's services before a run begins
abbrev pub unstarted : Call → Call
unstarted c = record c { services = record c.services { world = first_world; line = 0; activations = []; waiting = None } }
