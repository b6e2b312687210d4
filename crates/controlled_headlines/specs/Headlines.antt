-- The headline of programs whose statements do what they mean where the lists of CONTROLLED generations stand.
use Rattle.std.specs.Prelude.{ℕ, ◌+◌, ◌^◌, ◌<◌, ◌≡◌, List, [], Option}
use Rattle.pli_typing.specs.TypedTree as Y
use Rattle.pli_meaning.specs.Executing.{labels_in}
use Rattle.pli_meaning.specs.Pictures.{first_bytes}
use Rattle.pli_coding.specs.Images.{picture_of}
use Rattle.pli_coding.specs.SignatureTable.{table_of}
use Rattle.storage_relation.specs.Controlled.{Variable}
use Rattle.pli_headline.specs.Headline.{Headline, parts}
use Rattle.program_runs.specs.Calls.{body_index, left_over}
use Rattle.program_runs.specs.Programs.{IsWhole, main_of}
use Rattle.program_runs.specs.Statements.{IsBegun}
use Rattle.block_headlines.specs.Headlines.{Layout, whole_of}
use Rattle.controlled_runs.specs.Lists.{EachDoesListed, ListsStand}
use Rattle.controlled_runs.specs.Programs.{main_block}
use Rattle.controlled_runs.specs.Rows.{stack_program}

-- whatever the input and the number of acts, it is a whole program without labels, the lists stand at its first
-- statement, and each statement does what it means where they do
pub record ListsRun (program : Y.Program) (x : Layout) (of : ℕ → Option Variable) : Type 0 where
  pub whole :
      (input : List ℕ) (acts : ℕ) → acts + 1 < 2 ^ 64 →
      IsWhole (whole_of program x input acts) (first_bytes (picture_of parts program))
  pub labels : labels_in x.main.body ≡ []
  pub lists : (input : List ℕ) (acts : ℕ) → ListsStand of (main_block (whole_of program x input acts)).first
  pub each :
      (input : List ℕ) (acts : ℕ) → acts + 1 < 2 ^ 64 → IsBegun (main_block (whole_of program x input acts)) →
      EachDoesListed of (main_block (whole_of program x input acts)) [] x.main.body
      (body_index (main_of (whole_of program x input acts))) left_over

-- such a program keeps the headline
abbrev pub ListedHeadlinesKept : Type 0
ListedHeadlinesKept =
    (program : Y.Program) (x : Layout) (of : ℕ → Option Variable) → ListsRun program x of →
    Headline program (picture_of parts program) (table_of program)

-- a worked row
abbrev pub StackKept : Type 0
StackKept = Headline stack_program (picture_of parts stack_program) (table_of stack_program)
