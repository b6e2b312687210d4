-- Images in files: what bytes a source is compiled to, and what a run of bytes is promised to show.
use Rattle.std.specs.Prelude.{◌≡◌, ◌↔◌, ℕ, List, [], Result, IsErrOf}
use Rattle.pli_edit.specs.Histories.{History}
use Rattle.pli_meaning.specs.declared.outcome.Outcome.{Outcome}
use Rattle.rv_meaning.specs.Machine.{IsValidBase}
use Rattle.rv_meaning.specs.Images.{Image, HasBytes}
use Rattle.rv_meaning.specs.Tables.{TableSignature}
use Rattle.pli_meaning.specs.Pictures.{Picture}
use Rattle.image_runs.specs.Runs.{run_of}
use Rattle.pli_run.specs.Asking.{IsSilent}
use Rattle.pli_run.specs.Running.{own_output, IsPicture, IsTabled, ShowsImage, Tells}
use Rattle.pli_run.specs.declared.run.RunFault.{RunFault}
use Rattle.pli_run.specs.declared.run.RunFault.TheVariants as R
use Rattle.pli_compile.specs.Compiling.{IsImageFor}
use Rattle.pli_run.specs.Answering.{Answers, AnswersWith}
use Rattle.pli_run.specs.Streaming.{IsStreamed}
use Rattle.pli_run.specs.Tracing.{outcome_of, TracesImage}
use Rattle.pli_run.specs.declared.run.Traced.{Traced}

-- the bytes of a source's image
pub record IsCompiledTo (s : List ℕ) (bytes : List ℕ) : Type 0 where
  pub image : Image
  pub compiled : IsImageFor s image
  pub spelled : HasBytes image bytes

-- what is answered for a run of bytes that are an image's, whatever its code: just what the machine and its services,
-- which are the definitions', come to
pub record IsRunOf (bytes input : List ℕ) (base bound : ℕ) (ran : Result Outcome RunFault) : Type 0 where
  pub image : Image
  pub spelled : HasBytes image bytes
  pub picture : Picture
  pub pictured : IsPicture picture image
  pub signatures : List TableSignature
  pub tabled : IsTabled signatures image
  pub bad_base : IsErrOf ran R.BadBase ↔ ¬ IsValidBase base
  pub told : IsValidBase base → Tells (run_of picture signatures base input) bound ran

-- the same between a feed and a drain, for each input that agrees with what was read
pub record IsRunBetween (bytes : List ℕ) (base bound : ℕ) (feed drain : History) (ran : Result Traced RunFault)
    (feed' drain' : History) : Type 0 where
  pub image : Image
  pub spelled : HasBytes image bytes
  pub bad_base : IsErrOf (outcome_of ran) R.BadBase ↔ ¬ IsValidBase base
  pub untouched : ¬ IsValidBase base → (feed' ≡ feed) × (drain' ≡ drain)
  pub told : IsValidBase base → IsStreamed feed drain (outcome_of ran) feed' drain'
      (λ input output taken. ShowsImage image base input bound output taken (outcome_of ran)
      × TracesImage image base input bound ran)
  pub unread : IsValidBase base → (input : List ℕ) → IsSilent image base input bound → feed' ≡ feed
  pub empty : own_output (outcome_of ran) ≡ []

-- and where they are those of a source's image, what is answered for the source
abbrev pub IsRunFor : (bytes input : List ℕ) → (base bound : ℕ) → Result Outcome RunFault → Type 0
IsRunFor bytes input base bound ran = (s : List ℕ) → IsCompiledTo s bytes → IsValidBase base →
    Answers s input base bound ran

abbrev pub IsRunBetweenFor : (bytes : List ℕ) → (base bound : ℕ) → (feed drain : History) → Result Traced RunFault →
    (feed' drain' : History) → Type 0
IsRunBetweenFor bytes base bound feed drain ran feed' drain' =
    (s : List ℕ) → IsCompiledTo s bytes → IsValidBase base → IsStreamed feed drain (outcome_of ran) feed' drain'
    (λ input output taken. AnswersWith s input base bound output taken (outcome_of ran))
