-- How a service's reply answers its call.
use Rattle.std.specs.Prelude.{◌≡◌, ℕ, List, Result, Ok, Err}
use Rattle.pli_serving.specs.ServiceState.{Services}
use Rattle.pli_serving.specs.Answers.{Answer, Done, Ends, Bad}
use Rattle.pli_serving.specs.Finding.{Call}
use Rattle.pli_answering.specs.declared.reply.Reply.{Reply}
use Rattle.pli_answering.specs.declared.reply.Reply.TheVariants as R
use Rattle.pli_answering.specs.declared.reply.Refusal.{Refusal}
use Rattle.pli_answering.specs.declared.reply.Refusal.TheVariants as F

-- the reply, with the services and the memory after it, is this answer; what is refused changes nothing
abbrev pub Replies : Answer → (old : Services) → (memory : List ℕ) → Result Reply Refusal → (new : Services) → (after : List ℕ) → Type 0
Replies answer v m (Ok (R.Done x y)) v' m' = answer ≡ Done v' m' x y
Replies answer v m (Ok R.Ended) v' m' = (answer ≡ Ends v') × (m' ≡ m)
Replies answer v m (Err F.Bad) v' m' = (answer ≡ Bad) × (v' ≡ v) × (m' ≡ m)
Replies answer v m (Err F.Memory) v' m' = (v' ≡ v) × (m' ≡ m)

-- the same of a service that leaves the memory alone, by the calls before and after
abbrev pub Answers : (Call → Answer) → (old : Call) → Result Reply Refusal → (new : Call) → Type 0
Answers service c result c' = Replies (service c) c.services c.memory result c'.services c'.memory
