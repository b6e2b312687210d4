-- The statement CALL of such a procedure, in the block that declares it.
use Rattle.std.specs.Prelude.{ℕ, suc, List, ◌+◌, ◌*◌, ◌^◌, ◌<◌, ◌≤◌, ◌≡◌, [], None, Some}
use Rattle.rv_meaning.specs.declared.instr.Instr.{Instr}
use Rattle.pli_typing.specs.TypedTree as Y
use Rattle.pli_meaning.specs.DeclaredShapes.{variables_of_block, procedure_numbered}
use Rattle.pli_meaning.specs.Executing.{statement, begun}
use Rattle.pli_meaning.specs.Executing as M
use Rattle.pli_meaning.specs.Raising.{Around}
use Rattle.pli_meaning.specs.StorageState.{height_of, ancestor_at}
use Rattle.pli_coding.specs.Assembly.{ProcedureEntry, size_of}
use Rattle.pli_coding.specs.Environments.{Environment, Taken}
use Rattle.pli_coding.specs.Linking.{place_of}
use Rattle.pli_coding.specs.Statements.{stmt_code}
use Rattle.run_steps.specs.Items.{Linked}
use Rattle.run_steps.specs.Reach.{Family, Reach, Aims, Comes, cost}
use Rattle.activation_relation.specs.Chains.{frame_at}
use Rattle.activation_relation.specs.Frames.{frame_under}
use Rattle.activation_relation.specs.Layers.{Point, services_of}
use Rattle.activation_relation.specs.Points.{Surroundings, Stands}
use Rattle.block_runs.specs.Beginnings.{Beginning, IsBeginning}
use Rattle.block_runs.specs.EmptyProcedures.{empty_code, called_point}
use Rattle.block_runs.specs.Machines.{IsImage, IsIn, AreIn, acted, limits_of}

-- where it runs and where it stands: its line and its index, what is called, and the index of that
pub record CallStatement : Type 0 where
  pub surroundings : Surroundings
  pub code : List Instr
  pub environment : Environment
  pub taken : Taken
  pub around : Around
  pub line : ℕ
  pub index : ℕ
  pub beginning : Beginning
  pub entry : ℕ

abbrev pub statement_of : CallStatement → Y.Stmt
statement_of k =
    Y.CallProcedure (Y.Calling k.beginning.head.number k.environment.level Y.NoArgument) k.line

abbrev pub empty_block : Beginning → Y.Block
empty_block x = Y.BlockOf x.head (Y.EndOfList [])

pub record IsCallStatement (k : CallStatement) (p : Point) (numbers : ℕ → ℕ) (more : ℕ) : Type 0 where
  pub stands : Stands k.surroundings p
  pub image : IsImage k.surroundings k.code p
  pub acts : k.surroundings.acts + 1 < 2 ^ 64
  pub line : k.line < 2 ^ 31
  pub taken : k.taken.words < 2 ^ 20
  -- the code of both, with the place where the call goes back
  pub statement : Linked k.surroundings.links k.code k.index (stmt_code k.environment k.taken (statement_of k))
  pub place : place_of k.surroundings.links (ProcedureEntry k.beginning.head.number) ≡ 4 * k.entry
  pub procedure : Linked k.surroundings.links k.code k.entry (empty_code k.beginning)
  pub back : k.beginning.layer.back ≡ k.index + size_of (stmt_code k.environment k.taken (statement_of k))
  -- what is called, behind the statement's act: a procedure of the program, inside the running block
  pub beginning :
      p.state.world.acts < k.surroundings.acts →
      IsBeginning k.surroundings (acted k.line p) numbers k.beginning
  pub texts : k.beginning.texts ≡ 0
  pub entered :
      k.beginning.entry
      ≡ begun (empty_block k.beginning) (height_of (ancestor_at (acted k.line p).state k.environment.level))
  pub parent : frame_at p.control.layers k.beginning.entry.parent ≡ frame_under k.surroundings.parts p.control.layers
  pub found :
      procedure_numbered k.beginning.head.number k.around.program.procedures
      ≡ Some (record { block = empty_block k.beginning; parameters = []; result = None })
  pub enter : k.around.enter ≡ M.entered k.around.program (suc more)
  pub kind : k.beginning.head.kind ≡ Y.ProcedureBlock
  pub variables : variables_of_block k.around.program k.beginning.head.number ≡ []

abbrev pub behind_statement : CallStatement → Point → Point
behind_statement k p = called_point k.beginning (acted k.line p)

-- where it goes on, with the numbers in registers as they were
abbrev pub statement_aims : CallStatement → Point → (numbers : ℕ → ℕ) → (wanted : ℕ) → Aims (Unit {0})
statement_aims k p numbers wanted =
    record {
      limits = limits_of k.surroundings;
      done = λ c f v r s.
          (s ≡ (behind_statement k p).state)
          × Reach k.code c f v wanted (services_of (behind_statement k p))
          (λ b y. IsIn k.surroundings (behind_statement k p) numbers k.beginning.layer.back b y);
      jumped = λ c f v height label s. ⊥;
      returned = λ c f v r s. ⊥;
    }

abbrev pub StatementsCall : Type 0
StatementsCall =
    (k : CallStatement) (p : Point) (numbers : ℕ → ℕ) (more credits wanted : ℕ) (f : Family) →
    IsCallStatement k p numbers more →
    credits + size_of (stmt_code k.environment k.taken (statement_of k)) + size_of (empty_code k.beginning)
    ≤ cost k.code →
    AreIn k.surroundings p numbers k.index f →
    Comes k.code credits f (services_of p) (statement_aims k p numbers wanted)
    (statement k.around (statement_of k) k.surroundings.acts p.state)
