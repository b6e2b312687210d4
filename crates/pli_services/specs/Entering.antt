-- Blocks that are entered, as code holds what is known of them, and from the place on where their kind is known.
use Rattle.std.specs.Prelude.{ℕ, ◌∷◌, nat_lt, None, if◌then◌else◌}
use Rattle.pli_meaning.specs.declared.outcome.End.TheVariants as E
use Rattle.pli_meaning.specs.declared.outcome.Limit.TheVariants as L
use Rattle.pli_meaning.specs.StorageState.{most_activations}
use Rattle.pli_serving.specs.ActsAndEnds.{run_ended}
use Rattle.pli_serving.specs.Answers.{Answer, Done}
use Rattle.pli_serving.specs.Blocks as B
use Rattle.pli_serving.specs.Blocks.{activation_of}
use Rattle.pli_serving.specs.Finding.{Call}
use Rattle.pli_serving.specs.ServiceState.{height}
use Rattle.pli_activations.specs.Entered.{kind_shown}
use Rattle.pli_services.specs.declared.blocks.Entered.{Entered}

abbrev pub entered_shown : Entered → B.Entered
entered_shown e = record { kind = kind_shown e.kind; line = e.line }

-- the argument texts are there
abbrev pub entered_as : Call → (kind frame line texts : ℕ) → B.Entered → Answer
entered_as c kind frame line texts entered =
    if nat_lt (height c.services) most_activations
    then Done
    (record c.services {
      activations = activation_of c.services entered frame texts ∷ c.services.activations;
      waiting = None;
      line = line;
    })
    c.memory
    kind
    frame
    else run_ended (E.Limit L.Depth) c.services
