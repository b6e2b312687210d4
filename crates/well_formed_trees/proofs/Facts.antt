-- What is known of the blocks of an accepted source, and of where a statement of it stands.
use Rattle.std.proofs.Common.{◌≡◌, ℕ, List, [], ◌++◌, Some}
use Rattle.std.specs.Prelude.{slice_get, ◌⊎◌}
use Rattle.pli_language.specs.Tree as T
use Rattle.pli_language.specs.Declarations.{Block, Label, outermost}
use Rattle.pli_language.specs.Declaring.{block_faults}
use Rattle.pli_language.specs.Means.{around_of}
use Rattle.pli_typing.specs.TypedTree as Y
use Rattle.pli_typing.specs.Judging.{Scope}
use Rattle.pli_typing.specs.Generations.{declared_variables}
use Rattle.pli_typing.specs.Variables.{level_of_block}
use Rattle.pli_typing.specs.SingleStatements.{Context}
use Rattle.well_formed_trees.specs.Every.{Every}
use Rattle.well_formed_trees.specs.Surroundings.{Around, Table, Where, IsAround, IsTarget, variables_of_block}
use Rattle.well_formed_trees.proofs.DeclaredOnce.{AreApart, IsIn}
use Rattle.well_formed_trees.proofs.Found.{IsAmong}
use Rattle.well_formed_trees.proofs.Structures.{BlockChained}
use Rattle.well_formed_trees.proofs.HeldAlone.{BlockWell}
use Rattle.well_formed_trees.proofs.HeldStatements.{IsFrom}
use Rattle.well_formed_trees.proofs.HeadsHeld.{EveryFrom, BlockHolds, AllMatch, AreTyped}

pub record Facts (blocks : List Block) (program : Y.Program) (table : Table) : Type 0 where
  pub apart : AreApart blocks
  pub chained : Every BlockChained blocks
  pub fine : Every (λ b. block_faults b ≡ []) blocks
  pub first : slice_get blocks 0 ≡ Some outermost
  -- what is around a block that is around another one is around that, too
  pub nested :
      (n m k : ℕ) → IsAmong m (around_of (slice_get blocks n)) → IsAmong k (around_of (slice_get blocks m))
      → IsAmong k (around_of (slice_get blocks n))
  pub variables :
      (n : ℕ) (b : Block) → slice_get blocks n ≡ Some b
      → variables_of_block program n ≡ (declared_variables (record { blocks = blocks; block = n })).value
  pub judged :
      (n : ℕ) (b : Block) → slice_get blocks n ≡ Some b
      → (declared_variables (record { blocks = blocks; block = n })).faults ≡ []
  pub well : Every BlockWell blocks
  pub heads : EveryFrom (BlockHolds blocks) 0 blocks
  pub entries : AllMatch table blocks
  pub typed : AreTyped program.procedures 0 blocks
  pub procedures : Every (IsFrom blocks) program.procedures

-- a block stands around, at its level; the whole program, which is 0, needn't
abbrev pub IsSeen : List Block → List Around → ℕ → Type 0
IsSeen blocks around n = (n ≡ 0) ⊎ IsAround n (level_of_block blocks n) around

-- the blocks around a block stand around
abbrev pub IsVisible : List Block → List Around → ℕ → Type 0
IsVisible blocks around n = Every (IsSeen blocks around) (around_of (slice_get blocks n))

pub record SeesBlocks (blocks : List Block) (number : ℕ) (around : List Around) : Type 0 where
  pub own : Block
  pub has_own : slice_get blocks number ≡ Some own
  pub seen : Every (IsSeen blocks around) own.around

-- a label is declared in a block that has it in a list around
pub record IsReached (blocks : List Block) (around : List Around) (name : T.Name) : Type 0 where
  pub number : ℕ
  pub index : ℕ
  pub is_in : IsIn blocks number index (record { name = name; what = Label })
  pub target : IsTarget (level_of_block blocks number) name.letters around

-- where expressions are judged
pub record InScope (scope : Scope) (w : Where) : Type 0 where
  pub facts : Facts scope.blocks w.program w.table
  pub sees : SeesBlocks scope.blocks scope.block w.around

-- where a statement stands
pub record Sees (c : Context) (w : Where) : Type 0 where
  pub scope : InScope c.scope w
  pub around : Every (IsSeen c.scope.blocks w.around) c.around
  pub own_around : around_of (slice_get c.scope.blocks c.scope.block) ≡ c.around
  pub labels : Every (IsReached c.scope.blocks w.around) ((c.inner ++ c.outermost) ++ c.outer)
