-- What a run's services hold between calls, as the definitions see it, and how they serve a call, wherever its streams
-- come from and go.
use Rattle.std.specs.Prelude.{◌≡◌, ◌≤◌, ◌^◌, ◌==◌, ◌||◌, ◌&&◌, ℕ, Bool, true, false, List, length, option_map}
use Rattle.std.specs.Prelude.{Option, Some, None, Result}
use Rattle.area_keeper.specs.Keeper.{Keeper}
use Rattle.controlled_gens.specs.Rooted.{livings}
use Rattle.controlled_gens.specs.Stacks.{controlled_of}
use Rattle.pli_meaning.specs.InputLines.{Input}
use Rattle.pli_meaning.specs.World.{World}
use Rattle.pli_meaning.specs.declared.outcome.Outcome.{Outcome}
use Rattle.pli_serving.specs.Answers.{Answer}
use Rattle.pli_serving.specs.Finding.{Call}
use Rattle.pli_serving.specs.ServiceState.{EditPlace, Entry, Services}
use Rattle.pli_answering.specs.Answering.{Replies}
use Rattle.pli_answering.specs.declared.reply.Reply.{Reply}
use Rattle.pli_answering.specs.declared.reply.Refusal.{Refusal}
use Rattle.pli_making.specs.InUse.{IsCounted}
use Rattle.pli_services.specs.Flowing.{flow_seen, waiting_of, FlowSeen}
use Rattle.pli_storage.specs.Held.{IsLaid}
use Rattle.pli_storage.specs.declared.held.Held.{Held}
use Rattle.pli_transmission.specs.Edits.{EditKept}
use Rattle.pli_transmission.specs.Transmitting.{is_getting, places_of}
use Rattle.pli_values.specs.View.{layout_of}
use Rattle.pli_runtime.specs.declared.runtime.Runtime.{Runtime}

-- a run's services, by what is left of its input
pub record RunSeen : Type 0 where
  pub flow : FlowSeen
  pub held : Held
  pub in_use : List ℕ
  pub input : Input
  pub edits : List EditKept
  pub entries : List Entry

-- with an output that is told so
abbrev pub run_seen : {I O : Type 0} → (output : O → List ℕ) → Runtime I O → (input : Input) → RunSeen
run_seen output r input = record {
  flow = flow_seen output r.flow;
  held = r.held;
  in_use = r.in_use;
  input = input;
  edits = r.streams.edits.items;
  entries = r.entries;
}

abbrev pub running : RunSeen → Services
running r =
    record {
      world = r.flow.world;
      input = r.input;
      line = r.flow.line;
      signatures = r.held.signatures;
      serials = r.held.variables.serials;
      living = livings r.held.variables.roots;
      heap_made = r.held.heap_made;
      controlled = controlled_of r.held.controlled;
      activations = r.flow.activations;
      waiting = option_map waiting_of r.flow.waiting;
      entries = r.entries;
      edits = places_of r.edits;
    }

-- what an outcome shows
abbrev pub world_told : Outcome → World
world_told o = record { acts = o.acts; output = o.output.items; raised = o.raised.items; end = o.end }

-- a call of a run's services, with the memory
abbrev pub call_of : Keeper → RunSeen → (memory : List ℕ) → Call
call_of k r m = record { keeper = k; layout = layout_of r.held.layout; services = running r; memory = m }

-- a reply is the answer of a service of calls
abbrev pub IsServed : Keeper → (Call → Answer) → (old : RunSeen) → (memory : List ℕ) → Result Reply Refusal →
    (new : RunSeen) → (after : List ℕ) → Type 0
IsServed k service r m result r' m' = Replies (service (call_of k r m)) (running r) m result (running r') m'

-- what holds between calls: the parts of memory lie in it, there are as many CONTROLLED variables as have numbers, and
-- what is in use is counted, for no more heights than there are blocks
pub record Stands (k : Keeper) (held : Held) (in_use : List ℕ) (height : ℕ) (m : List ℕ) : Type 0 where
  pub laid : IsLaid k held.layout m
  pub known : length held.controlled ≡ 2 ^ 16
  pub counted : IsCounted held.signatures (livings held.variables.roots) in_use
  pub high : length in_use ≤ height

abbrev pub IsStanding : Keeper → RunSeen → (memory : List ℕ) → Type 0
IsStanding k r m = Stands k r.held r.in_use (length r.flow.activations) m

-- the same of a run's services wherever its streams come from
abbrev pub CanServe : {I O : Type 0} → Keeper → Runtime I O → (memory : List ℕ) → Type 0
CanServe k r m = Stands k r.held r.in_use (length r.flow.activations) m

-- a service of calls is carried out: the reply answers its call, and what holds between calls holds again, with the
-- parts of memory where they lay
pub record IsCarriedOut (k : Keeper) (service : Call → Answer) (r : RunSeen) (m : List ℕ)
    (result : Result Reply Refusal) (r' : RunSeen) (m' : List ℕ) : Type 0 where
  pub served : IsServed k service r m result r' m'
  pub standing : IsStanding k r' m'
  pub layout : r'.held.layout ≡ r.held.layout

-- ---- streams that fail

-- whether a call may read: services 35 to 37 of the newest place where that is of GET, and SKIP of GET
abbrev pub asks_input : List EditPlace → (number mode : ℕ) → Bool
asks_input places number mode =
    (is_getting places && (number == 35 || (number == 36 || number == 37))) || (number == 39 && mode == 0)

-- 5 where a write failed, else 4 where a read failed
abbrev pub fault_of : (reads writes : Bool) → Option ℕ
fault_of reads true = Some 5
fault_of true false = Some 4
fault_of false false = None
