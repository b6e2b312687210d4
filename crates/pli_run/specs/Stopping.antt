-- A run that has stopped, and what it came to.
use Rattle.std.specs.Prelude.{◌≡◌, ℕ, ◌*◌, ◌==◌, List, length, Option, Some, None, Result, Ok, Err, if◌then◌else◌}
use Rattle.rv_meaning.specs.Images.{Image}
use Rattle.rv_meaning.specs.Machine.{State}
use Rattle.rv_meaning.specs.Tables.{AreSignatures, TableSignature, table_words}
use Rattle.rv_machine.specs.Loading.{loaded_of, moment, IsStarted}
use Rattle.rv_machine.specs.Steps.{RunsFor}
use Rattle.rv_machine.specs.declared.machine.Machine.{Machine}
use Rattle.rv_machine.specs.declared.machine.Step.{Step}
use Rattle.rv_machine.specs.declared.machine.Step.TheVariants.{Ran, Ended, Fault as Faulted, Refused}
use Rattle.pli_meaning.specs.InputLines.{first_input}
use Rattle.pli_meaning.specs.declared.outcome.Outcome.{Outcome}
use Rattle.pli_serving.specs.ServiceState.{first_services}
use Rattle.pli_runtime.specs.Seen.{run_seen, running}
use Rattle.pli_runtime.specs.declared.runtime.Runtime.{Runtime}
use Rattle.pli_environment.specs.Calling.{Serves, Streams}
use Rattle.pli_environment.specs.Places.{image_layout}
use Rattle.pli_run.specs.declared.run.RunFault.{RunFault}
use Rattle.pli_run.specs.declared.run.RunFault.TheVariants as F

-- a machine with an image at a base, and services over an input and an output, ran for at most so many instructions
pub record IsStopped {I O : Type 0} (s : Streams I O) (image : Image) (base : ℕ) (input : I) (output : O) (bound : ℕ)
    (last : Step) (services : Runtime I O) : Type 0 where
  pub machine : Machine
  pub started : IsStarted image base machine
  pub first : Runtime I O
  pub input_is : first.streams.input ≡ input
  pub output_is : first.flow.shown.output ≡ output
  pub services_are : (gs : List TableSignature) → AreSignatures gs → image.table ≡ table_words gs →
      (bytes : List ℕ) → running (run_seen s.output first (first_input bytes)) ≡ first_services gs bytes
  pub layout : first.held.layout ≡ image_layout (4 * length image.code)
  pub ran : ℕ
  pub state : State
  pub run : RunsFor (Serves s) (loaded_of machine) bound ran (moment first machine) last
      (record { services = services; state = state })

-- ---- what it came to

abbrev pub by_step : Outcome → (last : Step) → Result Outcome RunFault
by_step o Ran = Ok o
by_step o Ended = Ok o
by_step o (Faulted f) = Err (F.Machine f o.acts o.output)
by_step o Refused = Err (F.Memory o.acts o.output)

-- a stream that failed has ended it
abbrev pub came_to : Outcome → (fault : Option ℕ) → (last : Step) → Result Outcome RunFault
came_to o None last = by_step o last
came_to o (Some number) last = if number == 5 then Err (F.Write o.acts o.output) else Err (F.Read o.acts o.output)
