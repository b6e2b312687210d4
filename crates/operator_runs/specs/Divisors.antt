-- ZERODIVIDE in expressions at the points of a block.
use Rattle.std.specs.Prelude.{ℕ, ◌+◌, ◌^◌, ◌<◌, ◌≤◌, ◌≡◌}
use Rattle.pli_language.specs.declared.condition.Condition.TheVariants as C
use Rattle.pli_meaning.specs.Codes.{zero_divide_code}
use Rattle.pli_meaning.specs.Raising.{raised}
use Rattle.pli_meaning.specs.StorageState.{force}
use Rattle.pli_coding.specs.Arithmetic.{zero_divide_raised}
use Rattle.pli_coding.specs.Assembly.{size_of}
use Rattle.activation_relation.specs.Layers.{Point, services_of}
use Rattle.activation_relation.specs.ServiceLaws.{IsSystem}
use Rattle.run_steps.specs.Items.{Linked}
use Rattle.run_steps.specs.Reach.{Comes, Family, cost}
use Rattle.block_runs.specs.Machines.{AreIn}
use Rattle.program_runs.specs.Statements.{IsAmong}
use Rattle.expression_runs.specs.Raises.{Routines}
use Rattle.expression_runs.specs.Values.{HasRegisters, Setting, behind, word_aims}

-- a raise comes behind its code with 0 in a0, or to where its unit jumps, or the run ends: as it means
abbrev pub ZeroDivideComes : Setting → Type 0
ZeroDivideComes k =
    (p : Point) (numbers : ℕ → ℕ) (taken credits index : ℕ) (f : Family) → IsAmong k.block numbers p →
    p.control.line ≡ k.around.line → HasRegisters k taken 1 →
    Linked k.block.call.surroundings.links k.block.call.code index zero_divide_raised →
    credits + size_of zero_divide_raised + k.most ≤ cost k.block.call.code →
    AreIn k.block.call.surroundings p numbers index f →
    Comes k.block.call.code credits f (services_of p)
    (word_aims k.block k.labels (behind p numbers taken credits index zero_divide_raised) 0)
    (raised k.around C.ZeroDivide zero_divide_code k.block.call.surroundings.acts p.state)

-- where the block's first statement begins neither condition has a unit in force
pub record IsUndivided (k : Setting) : Type 0 where
  pub routines : Routines k.block.call.surroundings.links k.block.call.code
  pub divisor : IsSystem (force k.block.first.state.activations C.ZeroDivide)
  pub error : IsSystem (force k.block.first.state.activations C.Error)
  pub acts : k.block.call.surroundings.acts + 1 < 2 ^ 64
  pub most : 18 < k.most
