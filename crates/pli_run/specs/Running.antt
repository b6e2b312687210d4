-- What a run of an image comes to.
use Rattle.std.specs.Prelude.{◌≡◌, ℕ, ◌+◌, ◌<◌, ◌≤◌, List, [], ◌++◌, map, Option, Some, None, Result, Ok, Err}
use Rattle.pli_meaning.specs.declared.outcome.Outcome.{Outcome}
use Rattle.rv_meaning.specs.declared.instr.Fault.{Fault}
use Rattle.rv_meaning.specs.Encoding.{word_of}
use Rattle.pli_meaning.specs.Laws.{Extends}
use Rattle.pli_meaning.specs.World.{World}
use Rattle.pli_meaning.specs.Pictures.{Picture}
use Rattle.image_runs.specs.Runs.{run_of, shown_by, Run, Stopped}
use Rattle.rv_meaning.specs.Tables.{TableSignature, AreSignatures, table_words}
use Rattle.rv_meaning.specs.Images.{Image}
use Rattle.rv_machine.specs.Fitting.{AllFit}
use Rattle.pli_run.specs.declared.run.RunFault.{RunFault}
use Rattle.pli_run.specs.declared.run.RunFault.TheVariants.{Memory, BadBase, Source, Read, Write, Machine}

-- what an outcome shows with an output
abbrev pub world_with : Outcome → (output : List ℕ) → World
world_with o output = record { acts = o.acts; output = output; raised = o.raised.items; end = o.end }

abbrev pub world_of : Outcome → World
world_of o = world_with o o.output.items

-- the image in instructions; there is one such list of instructions for its words
pub record IsPicture (p : Picture) (image : Image) : Type 0 where
  pub words_are : map word_of p.code ≡ image.code
  pub fit : AllFit p.code
  pub statics_are : p.statics ≡ image.statics
  pub entry_is : p.entry ≡ image.entry

-- the signatures that its table lists
pub record IsTabled (signatures : List TableSignature) (image : Image) : Type 0 where
  pub fit : AreSignatures signatures
  pub spelled : image.table ≡ table_words signatures

-- a run by the number of instructions allowed shows these acts and this output where so many are done, and they are the
-- front of all that it shows with more
pub record ShowsAfter (run : ℕ → Run) (done acts : ℕ) (output : List ℕ) : Type 0 where
  pub world : World
  pub shown : shown_by (run done) ≡ Some world
  pub acts_are : acts ≡ world.acts
  pub output_is : output ≡ world.output
  pub goes_on : (more : ℕ) (later : World) → done ≤ more → shown_by (run more) ≡ Some later → Extends world later

-- it meets a fault at the instruction behind those done, up to which it shows these acts and this output
pub record Meets (run : ℕ → Run) (bound : ℕ) (fault : Fault) (acts : ℕ) (output : List ℕ) : Type 0 where
  pub done : ℕ
  pub within : done < bound
  pub shows : ShowsAfter run done acts output
  pub stops : run (done + 1) ≡ Stopped fault
  pub stopped : run bound ≡ Stopped fault

-- it shows these acts and this output after some of the instructions
pub record ShowsWithin (run : ℕ → Run) (bound acts : ℕ) (output : List ℕ) : Type 0 where
  pub done : ℕ
  pub within : done ≤ bound
  pub shows : ShowsAfter run done acts output

-- a write failed in the instruction behind those done, and no other followed it: behind that instruction the run shows
-- these acts and this output, and of what is taken the output that it showed before is the front
pub record BreaksOff (run : ℕ → Run) (bound acts : ℕ) (output taken : List ℕ) : Type 0 where
  pub done : ℕ
  pub within : done < bound
  pub shows : ShowsAfter run (done + 1) acts output
  pub acts_before : ℕ
  pub output_before : List ℕ
  pub shows_before : ShowsAfter run done acts_before output_before
  pub more : List ℕ
  pub whole : taken ≡ output_before ++ more

-- what is answered for a run at a valid base, with this output and what of it was taken: the world that it shows, the
-- fault that it met, or want of memory or a stream that failed, with the acts and the output up to there
abbrev pub Shows : (ℕ → Run) → (bound : ℕ) → (output taken : List ℕ) → Result Outcome RunFault → Type 0
Shows run bound output taken (Ok o) = shown_by (run bound) ≡ Some (world_with o output)
Shows run bound output taken (Err (Machine fault acts own)) = Meets run bound fault acts output
Shows run bound output taken (Err (Memory acts own)) = ShowsWithin run bound acts output
Shows run bound output taken (Err (Read acts own)) = ShowsWithin run bound acts output
Shows run bound output taken (Err (Write acts own)) = BreaksOff run bound acts output taken
Shows run bound output taken (Err BadBase) = ⊥
Shows run bound output taken (Err (Source fault)) = ⊥

-- the output that an answer has itself
abbrev pub own_output : Result Outcome RunFault → List ℕ
own_output (Ok o) = o.output.items
own_output (Err (Machine fault acts output)) = output.items
own_output (Err (Memory acts output)) = output.items
own_output (Err (Read acts output)) = output.items
own_output (Err (Write acts output)) = output.items
own_output (Err BadBase) = []
own_output (Err (Source fault)) = []

abbrev pub Tells : (ℕ → Run) → (bound : ℕ) → Result Outcome RunFault → Type 0
Tells run bound ran = Shows run bound (own_output ran) (own_output ran) ran

-- the same of an image in pictures and signatures
abbrev pub ShowsImage : Image → (base : ℕ) → (input : List ℕ) → (bound : ℕ) → (output taken : List ℕ) →
    Result Outcome RunFault → Type 0
ShowsImage image base input bound output taken ran =
    (p : Picture) (gs : List TableSignature) → IsPicture p image → IsTabled gs image →
    Shows (run_of p gs base input) bound output taken ran

-- want of memory before the first instruction
abbrev pub IsUnstarted : RunFault → Type 0
IsUnstarted (Memory acts output) = (acts ≡ 0) × (output.items ≡ [])
IsUnstarted _ = ⊥

-- the numbers of the ways to come to no outcome
abbrev pub number_of : RunFault → ℕ
number_of (Memory acts output) = 1
number_of BadBase = 2
number_of (Source fault) = 3
number_of (Read acts output) = 4
number_of (Write acts output) = 5
number_of (Machine fault acts output) = 6

-- the number of the fault of a stream
abbrev pub stream_fault_of : Result Outcome RunFault → Option ℕ
stream_fault_of (Ok o) = None
stream_fault_of (Err (Memory acts output)) = None
stream_fault_of (Err BadBase) = None
stream_fault_of (Err (Source fault)) = None
stream_fault_of (Err (Read acts output)) = Some 4
stream_fault_of (Err (Write acts output)) = Some 5
stream_fault_of (Err (Machine fault acts output)) = None
