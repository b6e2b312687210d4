-- What is so of all statements of a typed tree, by their forms.
use Rattle.std.specs.Prelude.{◌≡◌, suc, Bool, true, List, ◌++◌, slice_get, Option, Some, None, ⊤}
use Rattle.pli_typing.specs.TypedTree as Y
use Rattle.pli_typing.specs.Assigning.{leaves_match, holds_fixed, is_read, is_written, all_pass}
use Rattle.pli_language.specs.Formats.{Getting, Putting}
use Rattle.well_formed_trees.specs.Every.{Every}
use Rattle.well_formed_trees.specs.Ranges.{IsLine, IsTimesIf, IsFormatList}
use Rattle.well_formed_trees.specs.Surroundings.{Label, Around, Table, Where, Returns, in_list, in_block, in_unit}
use Rattle.well_formed_trees.specs.Surroundings.{IsArea, IsAreaIf, IsOfClass, IsTarget, level_here, number_here}
use Rattle.well_formed_trees.specs.References.{Designates, Leaves, IsScalar, IsTextScalar, IsArray}
use Rattle.well_formed_trees.specs.Expressions.{Fits, Gives, SoundNumber, SoundBit, SoundPointer, SoundReference}
use Rattle.well_formed_trees.specs.Expressions.{SoundCall, SoundStored, SoundComputational}

abbrev pub labels_in : Y.Stmts → List Label
labels_in (Y.EndOfList labels) = labels
labels_in (Y.StmtThen labels first rest) = labels ++ labels_in rest

-- ---- targets

-- a scalar of a type that a value fits
pub record IsAssigned (w : Where) (r : Y.Reference) (s : Y.Stored) : Type 0 where
  pub type : Y.LeafType
  pub scalar : IsScalar w type r
  pub fits : Fits type s

pub record AreAssigned (w : Where) (r : Y.Reference) (s : Y.Stored) : Type 0 where
  pub type : Y.LeafType
  pub array : IsArray w type r
  pub fits : Fits type s

-- two with leaves of equal kinds
pub record AreAlike (w : Where) (target source : Y.Reference) : Type 0 where
  pub target_is : Designates w target
  pub source_is : Designates w source
  pub alike : leaves_match (Leaves target_is) (Leaves source_is) ≡ true

abbrev pub SoundCounter : Where → Y.Counter → Type 0
SoundCounter w (Y.NumberCounter precision r) = IsScalar w (Y.FixedLeaf precision) r × SoundReference w r
SoundCounter w (Y.TextCounter r) = IsTextScalar w r × SoundReference w r

abbrev pub SoundNumberIf : Where → Option Y.Number → Type 0
SoundNumberIf w None = ⊤
SoundNumberIf w (Some n) = SoundNumber w n

abbrev pub SoundBitIf : Where → Option Y.Bit → Type 0
SoundBitIf w None = ⊤
SoundBitIf w (Some b) = SoundBit w b

-- ---- ALLOCATE and FREE

abbrev pub SoundTarget : Where → Y.LocatorTarget → Type 0
SoundTarget w (Y.SetPointer r) = IsScalar w Y.PointerLeaf r × SoundReference w r
SoundTarget w (Y.SetOffset r area) = IsScalar w (Y.OffsetLeaf (Some area)) r × (IsArea w area × SoundReference w r)

abbrev pub SoundAllocation : Where → Y.Allocation → Type 0
SoundAllocation w (Y.AllocateBased v area target) =
    IsOfClass w Y.BasedClass v × (IsAreaIf w area × SoundTarget w target)
SoundAllocation w (Y.AllocateControlled v) = IsOfClass w Y.ControlledClass v

abbrev pub SoundFreeing : Where → Y.Freeing → Type 0
SoundFreeing w (Y.FreeBased v locator area) = IsOfClass w Y.BasedClass v × (SoundPointer w locator × IsAreaIf w area)
SoundFreeing w (Y.FreeControlled v) = IsOfClass w Y.ControlledClass v

-- ---- GET and PUT

-- a part, all of whose leaves pass a test
abbrev pub PassesTest : Where → (Y.LeafType → Bool) → Y.Reference → Type 0
PassesTest w test r = (d : Designates w r) × (all_pass test (Leaves d) ≡ true)

abbrev pub IsAnyScalar : Where → Y.Reference → Type 0
IsAnyScalar w r = (type : Y.LeafType) × IsScalar w type r

abbrev pub SoundGetItem : Where → (has_fixed : Bool) → Y.GetItem → Type 0
SoundGetItem w has_fixed (Y.GetScalar r) =
    IsAnyScalar w r × (PassesTest w (is_read has_fixed) r × SoundReference w r)
SoundGetItem w has_fixed (Y.GetAggregate r) = PassesTest w (is_read has_fixed) r × SoundReference w r

abbrev pub SoundPutItem : Where → Y.PutItem → Type 0
SoundPutItem w (Y.PutValue v) = SoundComputational w v
SoundPutItem w (Y.PutAggregate r) = PassesTest w is_written r × SoundReference w r

abbrev pub SoundGetPair : Where → Y.GetPair → Type 0
SoundGetPair w p = IsFormatList Getting p.formats × Every (SoundGetItem w (holds_fixed p.formats)) p.items

abbrev pub SoundPutPair : Where → Y.PutPair → Type 0
SoundPutPair w p = IsFormatList Putting p.formats × Every (SoundPutItem w) p.items

-- ---- blocks inside

-- the block of an on-unit: that of its BEGIN; or one around a single statement, which has the number of the block
-- around
abbrev pub IsUnitHead : Where → Y.BlockHead → Y.BlockKind → Type 0
IsUnitHead w head Y.UnitBlock = ⊤
IsUnitHead w head Y.SimpleUnit = head.number ≡ number_here w.around
IsUnitHead w head _ = ⊥

-- a block one level further in
pub record IsInside (w : Where) (head : Y.BlockHead) : Type 0 where
  pub line : IsLine head.line
  pub level : head.level ≡ suc (level_here w.around)

-- where a block is numbered, the table of all blocks has what is around its first statement
abbrev pub IsListed : Table → Y.BlockHead → List Around → Type 0
IsListed table head around = slice_get table head.number ≡ Some around

abbrev pub IsListedUnit : Table → Y.BlockHead → List Around → Y.BlockKind → Type 0
IsListedUnit table head around Y.SimpleUnit = ⊤
IsListedUnit table head around _ = IsListed table head around

abbrev pub inside : Where → Y.BlockHead → Y.Stmts → Where
inside w head body = in_block w head.number head.level (labels_in body)

-- ---- statements

abbrev mutual
  pub SoundStmt : Where → Y.Stmt → Type 0
  SoundStmt w (Y.Null line) = IsLine line
  SoundStmt w (Y.Assign target source line) =
      IsAssigned w target source × (SoundReference w target × (SoundStored w source × IsLine line))
  SoundStmt w (Y.AssignElements target source line) =
      AreAssigned w target source × (SoundReference w target × (SoundStored w source × IsLine line))
  SoundStmt w (Y.AssignAggregate target source line) =
      AreAlike w target source × (SoundReference w target × (SoundReference w source × IsLine line))
  SoundStmt w (Y.AssignArea target source line) = IsArea w target × (IsArea w source × IsLine line)
  SoundStmt w (Y.EmptyArea target line) = IsArea w target × IsLine line
  SoundStmt w (Y.If condition unit line) = SoundBit w condition × (SoundStmt w unit × IsLine line)
  SoundStmt w (Y.IfElse condition unit otherwise line) =
      SoundBit w condition × (SoundStmt w unit × (SoundStmt w otherwise × IsLine line))
  SoundStmt w (Y.Do body line) = SoundStmts (in_list w (labels_in body)) body × IsLine line
  SoundStmt w (Y.DoWhile condition body line) =
      SoundBit w condition × (SoundStmts (in_list w (labels_in body)) body × IsLine line)
  SoundStmt w (Y.DoOnce target start condition body line) =
      (IsAssigned w target start × (SoundReference w target × SoundStored w start))
      × (SoundBitIf w condition × (SoundStmts (in_list w (labels_in body)) body × IsLine line))
  SoundStmt w (Y.DoCount counter start limit step condition body line) =
      (SoundCounter w counter × (SoundComputational w start × (SoundNumberIf w limit × SoundNumber w step)))
      × (SoundBitIf w condition × (SoundStmts (in_list w (labels_in body)) body × IsLine line))
  SoundStmt w (Y.Begin (Y.BlockOf head body)) =
      ((head.kind ≡ Y.BeginBlock) × (IsInside w head × IsListed w.table head (inside w head body).around))
      × SoundStmts (inside w head body) body
  SoundStmt w (Y.OnSystem condition line) = IsLine line
  SoundStmt w (Y.OnUnit condition (Y.BlockOf head body) line) =
      (IsUnitHead w head head.kind
      × (IsInside w head × IsListedUnit w.table head (inside (in_unit w) head body).around head.kind))
      × (SoundStmts (inside (in_unit w) head body) body × IsLine line)
  SoundStmt w (Y.CallProcedure c line) = Gives (λ t. t ≡ None) w c × (SoundCall w c × IsLine line)
  SoundStmt w (Y.Return line) = (w.returning ≡ Returns None) × IsLine line
  SoundStmt w (Y.ReturnValue type s line) =
      (w.returning ≡ Returns (Some type)) × (Fits type s × (SoundStored w s × IsLine line))
  SoundStmt w (Y.Goto level label line) = IsTarget level label w.around × IsLine line
  SoundStmt w (Y.Stop line) = IsLine line
  SoundStmt w (Y.Signal condition line) = IsLine line
  SoundStmt w (Y.Revert condition line) = IsLine line
  SoundStmt w (Y.Allocate allocations line) = Every (SoundAllocation w) allocations × IsLine line
  SoundStmt w (Y.Free freeings line) = Every (SoundFreeing w) freeings × IsLine line
  SoundStmt w (Y.Get skip pairs line) = IsTimesIf skip × (Every (SoundGetPair w) pairs × IsLine line)
  SoundStmt w (Y.Put skip pairs line) = IsTimesIf skip × (Every (SoundPutPair w) pairs × IsLine line)

  pub SoundStmts : Where → Y.Stmts → Type 0
  SoundStmts w (Y.EndOfList labels) = ⊤
  SoundStmts w (Y.StmtThen labels first rest) = SoundStmt w first × SoundStmts w rest
