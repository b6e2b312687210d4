-- Statements that do what they mean through phases, if those in them do.
use Rattle.std.specs.Prelude.{ℕ, ◌+◌, ◌<◌, ◌≤◌, List, ◌++◌}
use Rattle.pli_typing.specs.TypedTree as Y
use Rattle.pli_meaning.specs.Control.{Label}
use Rattle.pli_meaning.specs.Executing.{labels_in, list}
use Rattle.pli_coding.specs.Assembly.{size_of}
use Rattle.pli_coding.specs.Statements.{stmt_code, stmts_code}
use Rattle.activation_relation.specs.Layers.{Point, services_of}
use Rattle.run_steps.specs.Items.{Linked}
use Rattle.run_steps.specs.Reach.{Comes, Family, cost}
use Rattle.block_runs.specs.Machines.{AreIn}
use Rattle.program_runs.specs.Statements.{AreMarkedWith, Block, DoesWith, HasAct, IsAmong, set_aside}
use Rattle.expression_runs.specs.Assignments.{setting_around}
use Rattle.group_runs.specs.Groups.{list_index}
use Rattle.test_runs.specs.Choices.{HasTestWith, behind_act, behind_choice_with, behind_test_with, body_index_with}
use Rattle.test_runs.specs.Tests.{Tests}
use Rattle.phase_runs.specs.Phases.{AreBegun, DoesThrough, EachThrough, Phases, in_phase, phase_aims}

-- turns enough for the acts that are left, whatever the phase
abbrev pub HaveTurns : Block → Phases → Type 0
HaveTurns k ps = (first : Point) → ps first → k.call.surroundings.acts < k.around.turns + first.state.world.acts

-- a test does what it means in each phase
abbrev pub AllTest : (words : ℕ) → Block → Phases → List Label → (line most need : ℕ) → Y.Bit → Type 0
AllTest words k ps labels line most need condition =
    (first : Point) → ps first → Tests (setting_around words (in_phase k first) labels line most) need condition

-- a list that is carried out, whose labels stand where its statements do
pub record IsInside (words : ℕ) (k : Block) (ps : Phases) (body : Y.Stmts) (index : ℕ) : Type 0 where
  pub begun : AreBegun k ps
  pub turns : HaveTurns k ps
  pub marked : AreMarkedWith words k.call.surroundings.links k.environment body index

-- of any block and any phases of it
pub record FormsDo (k : Block) (ps : Phases) : Type 0 where
  -- one that does in each phase, as those do that leave the units alone
  pub same :
      (words : ℕ) (labels : List Label) (stmt : Y.Stmt) (index left' : ℕ) →
      ((first : Point) → ps first → DoesWith words (in_phase k first) labels stmt index left') →
      DoesThrough words k ps labels stmt index left'
  -- a list, which goes on itself at its own labels
  pub list :
      (words : ℕ) (labels : List Label) (body : Y.Stmts) (index left' : ℕ) →
      IsInside words k ps body index → EachThrough words k ps (labels_in body ++ labels) body index left' →
      Linked k.call.surroundings.links k.call.code index (stmts_code k.environment (set_aside words) body) →
      (first : Point) → ps first → (p : Point) (numbers : ℕ → ℕ) (credits wanted : ℕ) (f : Family) →
      IsAmong (in_phase k first) numbers p →
      (credits ≤ wanted) × (credits + size_of (stmts_code k.environment (set_aside words) body) ≤ cost k.call.code) →
      AreIn k.call.surroundings p numbers index f →
      Comes k.call.code credits f (services_of p)
      (phase_aims k ps labels p.state.world.acts
      (index + size_of (stmts_code k.environment (set_aside words) body)) wanted left')
      (list k.around body k.call.surroundings.acts p.state)
  pub group :
      (words : ℕ) (labels : List Label) (body : Y.Stmts) (line index left' : ℕ) →
      HasAct k line →
      Linked k.call.surroundings.links k.call.code index
      (stmt_code k.environment (set_aside words) (Y.Do body line)) →
      IsInside words k ps body (list_index line index) →
      EachThrough words k ps (labels_in body ++ labels) body (list_index line index) left' →
      DoesThrough words k ps labels (Y.Do body line) index left'
  pub met :
      (words : ℕ) (labels : List Label) (condition : Y.Bit) (unit : Y.Stmt)
      (line index left' need most : ℕ) → HasTestWith words k (Y.If condition unit line) line index need most →
      AllTest words k ps labels line most need condition →
      DoesThrough words k ps labels unit (behind_test_with words k condition (behind_act line index)) left' →
      DoesThrough words k ps labels (Y.If condition unit line) index left'
  pub one_of :
      (words : ℕ) (labels : List Label) (condition : Y.Bit) (unit otherwise : Y.Stmt)
      (line index left' need most : ℕ) →
      HasTestWith words k (Y.IfElse condition unit otherwise line) line index need most →
      AllTest words k ps labels line most need condition →
      DoesThrough words k ps labels unit (behind_test_with words k condition (behind_act line index)) left' →
      DoesThrough words k ps labels otherwise (behind_choice_with words k unit (behind_test_with words k condition
      (behind_act line index))) left' →
      DoesThrough words k ps labels (Y.IfElse condition unit otherwise line) index left'
  -- a turn begins in whichever phase the last one left
  pub loop :
      (words : ℕ) (labels : List Label) (condition : Y.Bit) (body : Y.Stmts)
      (line index left' need most : ℕ) → HasTestWith words k (Y.DoWhile condition body line) line index need most →
      AllTest words k ps labels line most need condition →
      IsInside words k ps body (body_index_with words k condition line index) →
      EachThrough words k ps (labels_in body ++ labels) body (body_index_with words k condition line index) left' →
      DoesThrough words k ps labels (Y.DoWhile condition body line) index left'
