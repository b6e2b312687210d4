-- A block whose own units change: a phase of it is the block with the units that it has by then, told by its first
-- point. From a point of one phase a statement comes to one of any other.
use Rattle.std.specs.Prelude.{ℕ, ◌+◌, ◌≤◌, List, ⊤}
use Rattle.pli_typing.specs.TypedTree as Y
use Rattle.pli_meaning.specs.Control.{Label}
use Rattle.pli_meaning.specs.Executing.{statement}
use Rattle.pli_coding.specs.Assembly.{size_of}
use Rattle.pli_coding.specs.Statements.{marked}
use Rattle.activation_relation.specs.Layers.{Point, services_of}
use Rattle.run_steps.specs.Giving.{Limits}
use Rattle.run_steps.specs.Reach.{Aims, Comes, Family, cost}
use Rattle.block_runs.specs.Machines.{AreIn, limits_of}
use Rattle.program_runs.specs.Statements.{Block, IsAmong, IsBegun, size_with, statement_aims}

abbrev pub Phases : Type 1
Phases = Point → Type 0

abbrev pub in_phase : Block → Point → Block
in_phase k first = record k { first = first }

-- each is a block of the run
abbrev pub AreBegun : Block → Phases → Type 0
AreBegun k ps = (first : Point) → ps first → IsBegun (in_phase k first)

-- it holds in one of them
pub record InSome (ps : Phases) (Q : Point → Type 0) : Type 0 where
  pub first : Point
  pub is : ps first
  pub holds : Q first

abbrev pub some_aims : Limits → Phases → (Point → Aims (Unit {0})) → Aims (Unit {0})
some_aims limits ps aims =
    record {
      limits = limits;
      done = λ c f v r s. InSome ps (λ first. (aims first).done c f v r s);
      jumped = λ c f v height label s. InSome ps (λ first. (aims first).jumped c f v height label s);
      returned = λ c f v r s. InSome ps (λ first. (aims first).returned c f v r s);
    }

-- behind a statement, at a label by GOTO, or at the end of the block by RETURN, in whichever phase
abbrev pub phase_aims : Block → Phases → List Label → (acts index wanted left' : ℕ) → Aims (Unit {0})
phase_aims k ps labels acts index wanted left' =
    some_aims (limits_of k.call.surroundings) ps
    (λ first. statement_aims (in_phase k first) labels acts index wanted left')

-- from any point of any phase its code does what it means, while so many words are set aside
abbrev pub DoesThrough : (words : ℕ) → Block → Phases → List Label → Y.Stmt → (index left' : ℕ) → Type 0
DoesThrough words k ps labels stmt index left' =
    (first : Point) → ps first → (p : Point) (numbers : ℕ → ℕ) (credits wanted : ℕ) (f : Family) →
    IsAmong (in_phase k first) numbers p → credits + size_with words k stmt ≤ cost k.call.code →
    AreIn k.call.surroundings p numbers index f →
    Comes k.call.code credits f (services_of p)
    (phase_aims k ps labels p.state.world.acts (index + size_with words k stmt) wanted left')
    (statement k.around stmt k.call.surroundings.acts p.state)

-- each statement of a list
abbrev pub EachThrough : (words : ℕ) → Block → Phases → List Label → Y.Stmts → (index left' : ℕ) → Type 0
EachThrough words k ps labels (Y.EndOfList own) index left' = ⊤
EachThrough words k ps labels (Y.StmtThen own first rest) index left' =
    DoesThrough words k ps labels first (index + size_of (marked k.environment.block own)) left'
    × EachThrough words k ps labels rest
    (index + size_of (marked k.environment.block own) + size_with words k first) left'
