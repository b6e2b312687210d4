-- Calls of services as a machine makes them.
use Rattle.std.specs.Prelude.{◌≡◌, ◌⊎◌, ℕ, Bool, false, List, Option, Some, None}
use Rattle.rv_meaning.specs.Machine.{written}
use Rattle.rv_machine.specs.declared.services.Served.{Served}
use Rattle.run_keeper.specs.RunKeeper.{run_keeper}
use Rattle.pli_meaning.specs.InputLines.{Input}
use Rattle.pli_meaning.specs.World.{World}
use Rattle.pli_serving.specs.Answers.{Answer, Done, Ends, Bad}
use Rattle.pli_serving.specs.ServiceState.{Services}
use Rattle.pli_serving.specs.Serving.{serves}
use Rattle.pli_runtime.specs.Seen.{asks_input, call_of, fault_of, run_seen, running, RunSeen}
use Rattle.pli_transmission.specs.Transmitting.{places_of}
use Rattle.pli_runtime.specs.declared.runtime.Runtime.{Runtime}

-- what is seen of the streams of a run: the lists of bytes that agree with what was read, what is left of one, whether
-- reads make the second input of the first, what was written, what of it was handed over, whether writes make the
-- second output of the first, and which of the two failed
pub record Streams (I O : Type 0) : Type 1 where
  pub agrees : I → List ℕ → Type 0
  pub input : I → List ℕ → Input
  pub follows : I → I → Type 0
  pub read_failed : I → Bool
  pub output : O → List ℕ
  pub taken : O → List ℕ
  pub grows : O → O → Type 0
  pub write_failed : O → Bool

-- a run as it is for a whole input
abbrev pub seen_for : {I O : Type 0} → Streams I O → Runtime I O → (all : List ℕ) → RunSeen
seen_for s r all = run_seen s.output r (s.input r.streams.input all)

abbrev pub services_of : {I O : Type 0} → Streams I O → Runtime I O → (all : List ℕ) → Services
services_of s r all = running (seen_for s r all)

-- the number of the fault of a stream
abbrev pub fault_in : {I O : Type 0} → Streams I O → Runtime I O → Option ℕ
fault_in s r = fault_of (s.read_failed r.streams.input) (s.write_failed r.flow.shown.output)

-- how a call came out, with services, registers and bytes after it, is this answer; a bad call changes nothing, and
-- nothing is changed without memory, where the run ends
abbrev pub IsAnswered : Answer → (v : Services) → (x : ℕ → ℕ) → (m : List ℕ) → Served → (v' : Services) →
    (x' : ℕ → ℕ) → (m' : List ℕ) → Type 0
IsAnswered answer v x m Served.Done v' x' m' =
    (a0 a1 : ℕ) × (answer ≡ Done v' m' a0 a1) × (x' ≡ written (written x 10 a0) 11 a1)
IsAnswered answer v x m Served.Ended v' x' m' = (answer ≡ Ends v') × (x' ≡ x) × (m' ≡ m)
IsAnswered answer v x m Served.Bad v' x' m' = (answer ≡ Bad) × (v' ≡ v) × (x' ≡ x) × (m' ≡ m)
IsAnswered answer v x m Served.Memory v' x' m' = (v' ≡ v) × (x' ≡ x) × (m' ≡ m)

-- what is shown behind an answer
abbrev pub world_behind : Answer → Option World
world_behind (Done v m a0 a1) = Some v.world
world_behind (Ends v) = Some v.world
world_behind Bad = None

-- a stream failed: the run is over, and shows what it showed before the call or what the answer shows
abbrev pub IsCutOff : Answer → (v : Services) → Served → (v' : Services) → Type 0
IsCutOff answer v served v' =
    (served ≡ Served.Ended) × ((v'.world ≡ v.world) ⊎ (world_behind answer ≡ Some v'.world))

-- the same by the fault of a stream, if one failed
abbrev pub IsAnsweredUnless : (fault : Option ℕ) → Answer → (v : Services) → (x : ℕ → ℕ) → (m : List ℕ) → Served →
    (v' : Services) → (x' : ℕ → ℕ) → (m' : List ℕ) → Type 0
IsAnsweredUnless None answer v x m served v' x' m' = IsAnswered answer v x m served v' x' m'
IsAnsweredUnless (Some fault) answer v x m served v' x' m' = IsCutOff answer v served v'

-- A call of these services, before which no read failed: from themselves, the registers and the bytes, by how it came
-- out, to these after it, for each whole input that agrees with what was read by its end. A call that doesn't ask for
-- input reads nothing.
pub record Serves {I O : Type 0} (s : Streams I O) (r : Runtime I O) (x : ℕ → ℕ) (m : List ℕ) (served : Served)
    (r' : Runtime I O) (x' : ℕ → ℕ) (m' : List ℕ) : Type 0 where
  pub answered : s.read_failed r.streams.input ≡ false → (all : List ℕ) → s.agrees r'.streams.input all →
      IsAnsweredUnless (fault_in s r') (serves (call_of run_keeper (seen_for s r all) m) x) (services_of s r all) x m
      served (services_of s r' all) x' m'
  pub layout_kept : r'.held.layout ≡ r.held.layout
  pub unread : asks_input (places_of r.streams.edits.items) (x 17) (x 11) ≡ false → r'.streams.input ≡ r.streams.input
  pub follows : s.follows r.streams.input r'.streams.input
  pub grows : s.grows r.flow.shown.output r'.flow.shown.output
