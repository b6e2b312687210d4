-- RETURN in a function's own block with a number of any precision, which is tested for that, or with a bit.
use Rattle.std.specs.Prelude.{ℕ, ◌*◌, ◌+◌, ◌≤◌, ◌≡◌, List, Some, false}
use Rattle.pli_typing.specs.Signatures.{Bit, Fixed, LeafKind}
use Rattle.pli_typing.specs.TypedTree as Y
use Rattle.pli_meaning.specs.Control.{Label}
use Rattle.pli_coding.specs.Assembly.{ReturnPlace}
use Rattle.pli_coding.specs.Environments.{BlockOwner}
use Rattle.pli_coding.specs.Frames.{result}
use Rattle.pli_coding.specs.Linking.{place_of}
use Rattle.pli_coding.specs.Registers.{held_registers}
use Rattle.pli_coding.specs.Statements.{stmt_code}
use Rattle.activation_relation.specs.Landing.{is_begin}
use Rattle.run_steps.specs.Engine.{most_code}
use Rattle.run_steps.specs.Items.{Linked}
use Rattle.run_steps.specs.Reach.{cost}
use Rattle.program_runs.specs.Statements.{Block, DoesWith, HasAct, IsBegun, set_aside, size_with}
use Rattle.expression_runs.specs.Assignments.{setting_around}
use Rattle.scalar_runs.specs.Fitted.{Fits}
use Rattle.test_runs.specs.Tests.{Tests}

abbrev pub fitted_return : (precision : ℕ) → Y.Number → (line : ℕ) → Y.Stmt
fitted_return precision source line = Y.ReturnValue (Y.FixedLeaf precision) (Y.StoredNumber precision source) line

abbrev pub bit_return : Y.Bit → (line : ℕ) → Y.Stmt
bit_return source line = Y.ReturnValue Y.BitLeaf (Y.StoredBit source) line

-- where it stands in the block of a function that returns values of a kind, how many registers its expression needs,
-- and that one act pays for it
pub record IsReturnOf (kind : LeafKind) (words : ℕ) (k : Block) (stmt : Y.Stmt) (line index left' need most : ℕ)
    : Type 0
  where
    pub act : HasAct k line
    pub begun : IsBegun k
    pub owner :
        k.environment.owner
        ≡ BlockOwner (record { number = k.call.beginning.head.number; level = k.environment.level })
    pub end : place_of k.call.surroundings.links (ReturnPlace k.call.beginning.head.number) ≡ 4 * k.call.end
    pub near : k.call.end ≤ most_code
    pub enough : 2 ≤ left'
    pub function : k.call.function ≡ Some (record { place = result; kind = kind })
    pub registers : need ≤ k.registers
    pub held : k.registers ≤ held_registers
    pub begin : is_begin k.call.beginning.layer.kind ≡ false
    pub saved : k.registers ≤ k.call.beginning.layer.saved
    pub statement : Linked k.call.surroundings.links k.call.code index (stmt_code k.environment (set_aside words) stmt)
    pub paid : size_with words k stmt + most ≤ cost k.call.code

-- the block comes to its end with the value's word in its frame
pub record ResultsReturned : Type 0 where
  -- a number that fits, where as many bits or more may be returned
  pub number :
      (words : ℕ) (k : Block) (labels : List Label) (precision most_bits : ℕ) (source : Y.Number)
      (line index left' need most : ℕ) → precision ≤ most_bits → most_bits ≤ 31 →
      IsReturnOf (Fixed most_bits) words k (fitted_return precision source line) line index left' need most →
      Fits (setting_around words k labels line most) need precision source →
      DoesWith words k labels (fitted_return precision source line) index left'
  pub bit :
      (words : ℕ) (k : Block) (labels : List Label) (source : Y.Bit) (line index left' need most : ℕ) →
      IsReturnOf Bit words k (bit_return source line) line index left' need most →
      Tests (setting_around words k labels line most) need source →
      DoesWith words k labels (bit_return source line) index left'
