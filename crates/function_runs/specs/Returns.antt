-- RETURN with a number, in a function's own block.
use Rattle.std.specs.Prelude.{ℕ, ◌+◌, ◌*◌, ◌≤◌, ◌≡◌, List, Some, false}
use Rattle.pli_typing.specs.Signatures.{Fixed}
use Rattle.pli_typing.specs.TypedTree as Y
use Rattle.pli_meaning.specs.Control.{Label}
use Rattle.pli_coding.specs.Assembly.{ReturnPlace}
use Rattle.pli_coding.specs.Environments.{BlockOwner}
use Rattle.pli_coding.specs.Frames.{result}
use Rattle.pli_coding.specs.Linking.{place_of}
use Rattle.pli_coding.specs.Registers.{held_registers}
use Rattle.pli_coding.specs.Statements.{stmt_code}
use Rattle.activation_relation.specs.Landing.{is_begin}
use Rattle.run_steps.specs.Engine.{most_code}
use Rattle.run_steps.specs.Items.{Linked}
use Rattle.run_steps.specs.Reach.{cost}
use Rattle.program_runs.specs.Statements.{Block, DoesWith, HasAct, IsBegun, set_aside, size_with}
use Rattle.expression_runs.specs.Assignments.{setting_around}
use Rattle.expression_runs.specs.Laws as L

abbrev pub return_of : Y.Number → (line : ℕ) → Y.Stmt
return_of source line = Y.ReturnValue (Y.FixedLeaf 31) (Y.StoredNumber 31 source) line

-- where it stands, how many registers its expression needs, and that one act pays for it
pub record IsReturnWith (words : ℕ) (k : Block) (source : Y.Number) (line index left' need most : ℕ) : Type 0 where
  pub act : HasAct k line
  pub begun : IsBegun k
  pub owner :
      k.environment.owner
      ≡ BlockOwner (record { number = k.call.beginning.head.number; level = k.environment.level })
  pub end : place_of k.call.surroundings.links (ReturnPlace k.call.beginning.head.number) ≡ 4 * k.call.end
  pub near : k.call.end ≤ most_code
  pub enough : 2 ≤ left'
  pub function : k.call.function ≡ Some (record { place = result; kind = Fixed 31 })
  pub registers : need ≤ k.registers
  pub held : k.registers ≤ held_registers
  pub kind : is_begin k.call.beginning.layer.kind ≡ false
  pub saved : k.registers ≤ k.call.beginning.layer.saved
  pub statement :
      Linked k.call.surroundings.links k.call.code index
      (stmt_code k.environment (set_aside words) (return_of source line))
  pub paid : size_with words k (return_of source line) + most ≤ cost k.call.code

abbrev pub IsReturn : Block → Y.Number → (line index left' need most : ℕ) → Type 0
IsReturn k source line index left' need most = IsReturnWith 0 k source line index left' need most

-- the block comes to its end with that number's word in its frame
abbrev pub ReturnsDo : Type 0
ReturnsDo =
    (words : ℕ) (k : Block) (labels : List Label) (source : Y.Number) (line index left' need most : ℕ) →
    IsReturnWith words k source line index left' need most →
    L.Does (setting_around words k labels line most) need source → DoesWith words k labels (return_of source line) index
    left'
