-- How the machine is told of a reply.
use Rattle.std.specs.Prelude.{◌≡◌, ℕ, List, Option, Some, None, Result, Ok, Err, slice_index}
use Rattle.rv_meaning.specs.Machine.{written}
use Rattle.rv_machine.specs.declared.services.Served.{Served}
use Rattle.pli_answering.specs.declared.reply.Reply.{Reply}
use Rattle.pli_answering.specs.declared.reply.Reply.TheVariants as R
use Rattle.pli_answering.specs.declared.reply.Refusal.{Refusal}
use Rattle.pli_answering.specs.declared.reply.Refusal.TheVariants as F

-- the registers before and after
abbrev pub Tells : Result Reply Refusal → (registers : List ℕ) → Served → (registers' : List ℕ) → Type 0
Tells (Ok (R.Done a b)) registers served registers' =
    (served ≡ Served.Done) × (slice_index registers' ≡ written (written (slice_index registers) 10 a) 11 b)
Tells (Ok R.Ended) registers served registers' = (served ≡ Served.Ended) × (registers' ≡ registers)
Tells (Err F.Bad) registers served registers' = (served ≡ Served.Bad) × (registers' ≡ registers)
Tells (Err F.Memory) registers served registers' = (served ≡ Served.Memory) × (registers' ≡ registers)

-- the run is over where a stream failed
abbrev pub TellsUnless : (fault : Option ℕ) → Result Reply Refusal → (registers : List ℕ) → Served →
    (registers' : List ℕ) → Type 0
TellsUnless None reply registers served registers' = Tells reply registers served registers'
TellsUnless (Some fault) reply registers served registers' = served ≡ Served.Ended
