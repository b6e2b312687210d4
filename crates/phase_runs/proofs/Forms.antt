-- The law of the forms.
use Rattle.std.proofs.Common.{ℕ, ◌+◌, List, refl}
use Rattle.pli_typing.specs.TypedTree as Y
use Rattle.pli_meaning.specs.Control.{Label}
use Rattle.pli_meaning.specs.Executing as M
use Rattle.activation_relation.specs.Layers.{Point}
use Rattle.program_runs.specs.Statements.{Block, DoesWith, size_with, statement_aims}
use Rattle.phase_runs.specs.Forms.{FormsDo}
use Rattle.phase_runs.specs.Phases.{DoesThrough, Phases, in_phase}
use Rattle.phase_runs.proofs.Aims.{comes_in}
use Rattle.phase_runs.proofs.Choices.{met_through, one_of_through}
use Rattle.phase_runs.proofs.Groups.{group_through}
use Rattle.phase_runs.proofs.Lists.{list_through}
use Rattle.phase_runs.proofs.Loops.{loop_through}
use Rattle.block_runs.specs.Machines.{limits_of}

pub same_through :
    (words : ℕ) (k : Block) (ps : Phases) (labels : List Label) (stmt : Y.Stmt) (index left' : ℕ) →
    ((first : Point) → ps first → DoesWith words (in_phase k first) labels stmt index left') →
    DoesThrough words k ps labels stmt index left'
same_through words k ps labels stmt index left' does first is p numbers c wanted f o paid there =
    let acts = p.state.world.acts in
    comes_in (limits_of k.call.surroundings) ps
    (λ q. statement_aims (in_phase k q) labels acts (index + size_with words k stmt) wanted left') first is refl
    (M.statement k.around stmt k.call.surroundings.acts p.state)
    (does first is p numbers c wanted f o paid there)

pub forms_do : (k : Block) (ps : Phases) → FormsDo k ps
forms_do k ps =
    record {
      same = λ words labels stmt index left' does. same_through words k ps labels stmt index left' does;
      list = λ words labels body index left' z each l. list_through words k ps labels body index left' z each l;
      group = λ words labels body line index left' h l z each.
          group_through words k ps labels body line index left' h l z each;
      met = λ words labels condition unit line index left' need most h tests does.
          met_through words k ps labels condition unit line index left' need most h tests does;
      one_of = λ words labels condition unit otherwise line index left' need most h tests does other.
          one_of_through words k ps labels condition unit otherwise line index left' need most h tests does other;
      loop = λ words labels condition body line index left' need most h tests z each.
          loop_through words k ps labels condition body line index left' need most h tests z each;
    }
