-- Which blocks are told behind an error: those that are entered where the run has ended, newest first.
use Rattle.std.specs.Prelude.{◌≡◌, ℕ, List, [], Result, Ok, Err}
use Rattle.pli_meaning.specs.declared.outcome.Outcome.{Outcome}
use Rattle.pli_serving.specs.ServiceState.{Activation}
use Rattle.image_runs.specs.Runs.{run_of, Run, Runs, Ended, Stopped}
use Rattle.pli_compile.specs.Compiling.{IsImageFor}
use Rattle.pli_meaning.specs.Pictures.{Picture}
use Rattle.pli_run.specs.Running.{IsPicture, IsTabled}
use Rattle.rv_meaning.specs.Images.{Image}
use Rattle.rv_meaning.specs.Tables.{TableSignature}
use Rattle.pli_run.specs.declared.run.RunFault.{RunFault}
use Rattle.pli_run.specs.declared.run.Traced.{Traced}

-- the blocks that are entered where a run stands: each with the line at which it was called, raised or begun, which is
-- current again once it ends; 0 for the main procedure
abbrev pub entered_in : Run → List Activation
entered_in (Runs w) = w.services.activations
entered_in (Ended w) = w.services.activations
entered_in (Stopped fault) = []

-- of a run by the number of instructions allowed
abbrev pub Traces : (ℕ → Run) → (bound : ℕ) → Result Traced RunFault → Type 0
Traces run bound (Ok t) = t.entered ≡ entered_in (run bound)
Traces run bound (Err f) = Unit {0}

abbrev pub outcome_of : Result Traced RunFault → Result Outcome RunFault
outcome_of (Ok t) = Ok t.outcome
outcome_of (Err f) = Err f

-- of a run of an image
abbrev pub TracesImage : Image → (base : ℕ) → (input : List ℕ) → (bound : ℕ) → Result Traced RunFault → Type 0
TracesImage image base input bound ran =
    (p : Picture) (gs : List TableSignature) → IsPicture p image → IsTabled gs image →
    Traces (run_of p gs base input) bound ran

-- of a run of a source's image
abbrev pub TracesSource : (s input : List ℕ) → (base bound : ℕ) → Result Traced RunFault → Type 0
TracesSource s input base bound (Ok t) = (image : Image) × IsImageFor s image × TracesImage image base input bound
    (Ok t)
TracesSource s input base bound (Err f) = Unit {0}
