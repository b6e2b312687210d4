-- Where memory runs out, what was written is the front of what the source means.
use Rattle.std.specs.Prelude.{◌≡◌, ℕ, ◌≤◌, List, Some, Result, Ok, Err, ⊤}
use Rattle.pli_typing.specs.TypedTree as Y
use Rattle.pli_meaning.specs.declared.outcome.Outcome.{Outcome}
use Rattle.pli_meaning.specs.Executing.{meaning}
use Rattle.pli_meaning.specs.Laws.{IsPrefix}
use Rattle.pli_meaning.specs.World.{World}
use Rattle.pli_compile.specs.Compiling.{IsProgramOf, IsProved}
use Rattle.pli_run.specs.Answering.{AnswersWith}
use Rattle.pli_run.specs.declared.run.RunFault.{RunFault}
use Rattle.pli_run.specs.declared.run.RunFault.TheVariants.{Memory}

-- the program's output begins so, with so many acts allowed
pub record Begins (program : Y.Program) (input : List ℕ) (acts : ℕ) (output : List ℕ) : Type 0 where
  pub world : World
  pub meant : meaning program input acts ≡ Some world
  pub front : IsPrefix output world.output

-- of the acts with which want of memory is answered
abbrev pub IfMemory : Result Outcome RunFault → (claim : (acts : ℕ) → Type 0) → Type 0
IfMemory (Err (Memory acts own)) claim = claim acts
IfMemory _ claim = ⊤

-- the law: where want of memory is answered for a source, and the headline is proved for its program, the output is the
-- front of the program's at every number of acts from the answer's on
abbrev pub MemoryFronts : Type 0
MemoryFronts =
    (s input : List ℕ) (base bound : ℕ) (output taken : List ℕ) (ran : Result Outcome RunFault) →
    AnswersWith s input base bound output taken ran →
    IfMemory ran (λ acts.
    (program : Y.Program) → IsProgramOf s program → IsProved program →
    (more : ℕ) → acts ≤ more → Begins program input more output)
