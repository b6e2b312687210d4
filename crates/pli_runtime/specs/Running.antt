-- What a run with whole input and output holds between calls, and how it serves a call.
use Rattle.std.specs.Prelude.{ℕ, List, Result}
use Rattle.area_keeper.specs.Keeper.{Keeper}
use Rattle.pli_answering.specs.declared.reply.Reply.{Reply}
use Rattle.pli_answering.specs.declared.reply.Refusal.{Refusal}
use Rattle.pli_meaning.specs.InputLines.{Input}
use Rattle.pli_serving.specs.Answers.{Answer}
use Rattle.pli_serving.specs.Finding.{Call}
use Rattle.pli_serving.specs.ServiceState.{Services}
use Rattle.pli_runtime.specs.declared.runtime.Runtime.{Runtime}
use Rattle.pli_runtime.specs.Seen as seen
use Rattle.pli_runtime.specs.Seen.{run_seen, CanServe, RunSeen}
pub use Rattle.pli_runtime.specs.Seen.{world_told}

-- its output is the list of its bytes
abbrev pub KeptRuntime : Type 0
KeptRuntime = Runtime Input (List ℕ)

abbrev pub kept : KeptRuntime → RunSeen
kept r = run_seen (λ output. output) r r.streams.input

abbrev pub running : KeptRuntime → Services
running r = seen.running (kept r)

abbrev pub call_of : Keeper → KeptRuntime → (memory : List ℕ) → Call
call_of k r m = seen.call_of k (kept r) m

abbrev pub IsServed : Keeper → (Call → Answer) → (old : KeptRuntime) → (memory : List ℕ) → Result Reply Refusal →
    (new : KeptRuntime) → (after : List ℕ) → Type 0
IsServed k service r m result r' m' = seen.IsServed k service (kept r) m result (kept r') m'

abbrev pub IsStanding : Keeper → KeptRuntime → (memory : List ℕ) → Type 0
IsStanding k r m = CanServe k r m
