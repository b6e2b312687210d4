-- What a run shows, as the services see it, and acts that change it.
use Rattle.std.specs.Prelude.{◌≡◌, ◌+◌, ◌^◌, ℕ, List, true, false, nat_lt, Result, Ok, Err}
use Rattle.pli_meaning.specs.World.{World}
use Rattle.pli_edit.specs.declared.fault.EditFault.{EditFault}
use Rattle.pli_edit.specs.declared.fault.EditFault.TheVariants as E
use Rattle.pli_answering.specs.declared.reply.Refusal.{Refusal}
use Rattle.pli_answering.specs.declared.reply.Refusal.TheVariants as F
use Rattle.pli_services.specs.declared.shown.Shown.{Shown}

-- of an output that is told so
abbrev pub world_of : {O : Type 0} → (output : O → List ℕ) → Shown O → World
world_of output s = record { acts = s.acts; output = output s.output; raised = s.raised.items; end = s.end }

-- an act is made and the world becomes another; or there is no number for one more act, or no memory, and the world stays
abbrev pub Acts : (old becomes : World) → Result (Unit {0}) Refusal → (new : World) → Type 0
Acts old becomes (Ok done) new = (nat_lt (old.acts + 1) (2 ^ 64) ≡ true) × (new ≡ becomes)
Acts old becomes (Err F.Bad) new = (nat_lt (old.acts + 1) (2 ^ 64) ≡ false) × (new ≡ old)
Acts old becomes (Err F.Memory) new = new ≡ old

-- what is due stands in the output; or there is no memory for it
abbrev pub Wrote : Result (Unit {0}) EditFault → Result (Unit {0}) Refusal → Type 0
Wrote (Ok done) result = result ≡ Ok tt
Wrote (Err E.Write) result = result ≡ Ok tt
Wrote (Err fault) result = result ≡ Err F.Memory
