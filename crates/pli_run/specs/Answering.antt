-- What a run of a source is promised to show.
use Rattle.std.specs.Prelude.{◌≡◌, ◌≢◌, ◌⊎◌, ℕ, ◌≤◌, List, [], Some, Result, Ok, Err}
use Rattle.pli_meaning.specs.declared.outcome.Outcome.{Outcome}
use Rattle.pli_language.specs.declared.fault.SourceFault.{SourceFault}
use Rattle.pli_language.specs.declared.fault.SourceKind.TheVariants as SourceKind
use Rattle.pli_typing.specs.TypedTree as Y
use Rattle.pli_meaning.specs.World.{World}
use Rattle.pli_meaning.specs.Executing.{meaning}
use Rattle.rv_meaning.specs.Machine.{IsValidBase}
use Rattle.rv_meaning.specs.Images.{Image}
use Rattle.rv_meaning.specs.Tables.{TableSignature}
use Rattle.pli_meaning.specs.Pictures.{Picture}
use Rattle.pli_coding.specs.Images.{picture_of}
use Rattle.pli_coding.specs.SignatureTable.{table_of}
use Rattle.image_runs.specs.Runs.{run_of, shown_by}
use Rattle.pli_run.specs.Running.{own_output, world_with, IsPicture, IsTabled, Shows}
use Rattle.pli_run.specs.declared.run.RunFault.{RunFault}
use Rattle.pli_run.specs.declared.run.RunFault.TheVariants.{Memory, Read, Write, Source}
use Rattle.pli_headline.specs.Headline.{parts, Keeps}
use Rattle.cut_runs.specs.Fronts.{GoesOn}
use Rattle.pli_compile.specs.Compiling.{IsImageFor, IsProved, IsRefused}

-- ---- what is shown is what the program means

-- The world w is what a run of a program's image shows at a base, and at every other valid base. It is the storage
-- machine's at
-- just its acts; an image still running has done at least the bound divided by the step cost acts; and a program that
-- ends
-- is seen to end where the bound allows for its acts.
pub record Means (program : Y.Program) (input : List ℕ) (bound : ℕ) (w : World) : Type 0 where
  pub keeps : Keeps program (picture_of parts program) input bound w
  pub anywhere : (base : ℕ) → IsValidBase base →
      shown_by (run_of (picture_of parts program) (table_of program) base input bound) ≡ Some w

-- these are the acts and the output of a program up to some act, and the front of its meaning at every number of acts
-- from there on
pub record ShowsPart (program : Y.Program) (input : List ℕ) (acts : ℕ) (output : List ℕ) : Type 0 where
  pub world : World
  pub meant : meaning program input world.acts ≡ Some world
  pub acts_are : acts ≡ world.acts
  pub output_is : output ≡ world.output
  pub goes_on : (more : ℕ) → acts ≤ more → GoesOn program input world more

-- no instruction is one that can't be carried out
abbrev pub AnswersMeant : (program : Y.Program) (input : List ℕ) → (bound : ℕ) → (output : List ℕ) →
    Result Outcome RunFault → Type 0
AnswersMeant program input bound output (Ok o) = Means program input bound (world_with o output)
AnswersMeant program input bound output (Err (Memory acts own)) = ShowsPart program input acts output
AnswersMeant program input bound output (Err (Read acts own)) = ShowsPart program input acts output
AnswersMeant program input bound output (Err (Write acts own)) = ShowsPart program input acts output
AnswersMeant program input bound output (Err _) = ⊥

-- ---- what is shown is what the code comes to

-- What a run of a source's image at a base tells, with this output and what of it was taken: what the code of its
-- program comes to, on the machine with all services of the definitions; and where the headline is proved for the
-- program, what the program means.
pub record TellsRun (s input : List ℕ) (base bound : ℕ) (output taken : List ℕ) (ran : Result Outcome RunFault) :
    Type 0 where
  pub image : Image
  pub compiled : IsImageFor s image
  pub picture : Picture
  pub pictured : IsPicture picture image
  pub signatures : List TableSignature
  pub tabled : IsTabled signatures image
  pub told : Shows (run_of picture signatures base input) bound output taken ran
  pub meant : IsProved compiled.program → AnswersMeant compiled.program input bound output ran

-- want of memory of the compiler: nothing was done, and nothing shown
abbrev pub IsUnstarted : (output : List ℕ) → Result Outcome RunFault → Type 0
IsUnstarted output (Err (Memory acts own)) = (acts ≡ 0) × (output ≡ [])
IsUnstarted output _ = ⊥

-- what is answered at a valid base. Want of memory is no refusal of the source
abbrev pub AnswersWith : (s input : List ℕ) → (base bound : ℕ) → (output taken : List ℕ) →
    Result Outcome RunFault → Type 0
AnswersWith s input base bound output taken (Err (Source fault)) = IsRefused s fault × (fault.kind ≢ SourceKind.Memory)
AnswersWith s input base bound output taken ran = IsUnstarted output ran ⊎ TellsRun s input base bound output taken ran

abbrev pub Answers : (s input : List ℕ) → (base bound : ℕ) → Result Outcome RunFault → Type 0
Answers s input base bound ran = AnswersWith s input base bound (own_output ran) (own_output ran) ran

-- what is answered for a source without an image, by why it has none
abbrev pub IsUncompiledFor : SourceFault → RunFault → Type 0
IsUncompiledFor fault (Memory acts output) = (fault.kind ≡ SourceKind.Memory) × ((acts ≡ 0) × (output.items ≡ []))
IsUncompiledFor fault (Source told) = (told ≡ fault) × (fault.kind ≢ SourceKind.Memory)
IsUncompiledFor fault _ = ⊥
