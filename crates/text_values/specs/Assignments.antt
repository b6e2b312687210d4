-- Assignments of texts to CHARACTER variables: cut, and padded where they don't vary.
use Rattle.std.specs.Prelude.{ℕ, ◌+◌, ◌≤◌, Bool, List, []}
use Rattle.pli_typing.specs.TypedTree as Y
use Rattle.pli_meaning.specs.Control.{Label}
use Rattle.pli_coding.specs.Registers.{held_registers}
use Rattle.pli_coding.specs.Statements.{stmt_code}
use Rattle.run_steps.specs.Items.{Linked}
use Rattle.run_steps.specs.Reach.{cost}
use Rattle.program_runs.specs.Statements.{Block, DoesWith, HasAct, IsBegun, set_aside, size_with}
use Rattle.expression_runs.specs.Assignments.{setting_around}
use Rattle.expression_runs.specs.Variables.{Spot, whole}
use Rattle.text_runs.specs.Laws.{TextDoes}
use Rattle.text_values.specs.Variables.{IsText}

abbrev pub text_assigned : Spot → Y.Text → (line : ℕ) → Y.Stmt
text_assigned x source line = Y.Assign (whole x) (Y.StoredText source) line

-- where it stands while so many words are set aside, how many registers its text needs, and that one act pays for it
pub record IsTextAssignment (words : ℕ) (k : Block) (x : Spot) (varying : Bool) (size : ℕ) (source : Y.Text)
    (line index need most : ℕ) : Type 0
  where
    pub act : HasAct k line
    pub begun : IsBegun k
    pub text : IsText k x varying size
    pub registers : need ≤ k.registers
    pub held : k.registers ≤ held_registers
    pub statement :
        Linked k.call.surroundings.links k.call.code index
        (stmt_code k.environment (set_aside words) (text_assigned x source line))
    pub paid : size_with words k (text_assigned x source line) + most ≤ cost k.call.code

-- it does what it means if its text does
abbrev pub TextAssignmentsDo : Type 0
TextAssignmentsDo =
    (words : ℕ) (k : Block) (labels : List Label) (x : Spot) (varying : Bool) (size : ℕ) (source : Y.Text)
    (line index left' need most : ℕ) → IsTextAssignment words k x varying size source line index need most →
    TextDoes [] (setting_around words k labels line most) need source →
    DoesWith words k labels (text_assigned x source line) index left'
