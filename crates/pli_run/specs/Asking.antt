-- Runs that ask for no input.
use Rattle.std.specs.Prelude.{◌≡◌, ◌<◌, ℕ, false, List}
use Rattle.rv_meaning.specs.Images.{Image}
use Rattle.rv_meaning.specs.Machine.{effect, Calls, Loaded}
use Rattle.rv_meaning.specs.Tables.{TableSignature}
use Rattle.pli_meaning.specs.Pictures.{loaded_at, Picture}
use Rattle.pli_runtime.specs.Seen.{asks_input}
use Rattle.image_runs.specs.Runs.{run_of, Run, Runs, Whole}
use Rattle.pli_compile.specs.Compiling.{IsImageFor}
use Rattle.pli_run.specs.Running.{IsPicture, IsTabled}

-- no call that is made within the bound is one that may take something of the input
abbrev pub IsUnasked : Loaded → (ℕ → Run) → (bound : ℕ) → Type 0
IsUnasked p run bound =
    (n : ℕ) → n < bound → (w : Whole) → run n ≡ Runs w → effect p w.machine ≡ Calls →
    asks_input w.services.edits (w.machine.registers 17) (w.machine.registers 11) ≡ false

-- of a run of an image on an input
pub record IsSilent (image : Image) (base : ℕ) (input : List ℕ) (bound : ℕ) : Type 0 where
  pub picture : Picture
  pub pictured : IsPicture picture image
  pub signatures : List TableSignature
  pub tabled : IsTabled signatures image
  pub unasked : IsUnasked (loaded_at picture base) (run_of picture signatures base input) bound

-- of a run of a source's image, where it has one
abbrev pub IsSilentSource : (s : List ℕ) → (base : ℕ) → (input : List ℕ) → (bound : ℕ) → Type 0
IsSilentSource s base input bound = (image : Image) → IsImageFor s image → IsSilent image base input bound
