-- What stands between the meaning and the services.
use Rattle.std.proofs.Common.{◌≡◌, ℕ, ◌+◌, ◌^◌, ◌<◌, ◌≤◌, length, None}
use Rattle.pli_meaning.specs.declared.outcome.End.TheVariants as E
use Rattle.pli_meaning.specs.StorageState.{State}
use Rattle.pli_serving.specs.ServiceState.{Services}
use Rattle.pli_headline.proofs.Activations.{Nested}
use Rattle.pli_headline.proofs.HeldPlaces.{PlacesHeld}

-- the services show what the meaning shows, and have the same input left; the run goes on in nested blocks, no raise
-- waits for a unit, and places in format lists stay where on-units stand above them
pub record Serving (k : ℕ) (s : State) (v : Services) (line : ℕ) : Type 0 where
  pub world : v.world ≡ s.world
  pub running : v.world.end ≡ E.Running
  pub line_is : v.line ≡ line
  pub input : v.input ≡ s.input
  pub allowed : v.world.acts ≤ k
  pub fits : k + 1 < 2 ^ 64
  pub nested : Nested s.activations v.activations
  pub waiting : v.waiting ≡ None
  pub places : PlacesHeld (length v.edits) v.activations
