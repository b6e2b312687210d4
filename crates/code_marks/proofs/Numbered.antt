-- In a well-formed tree BEGIN blocks and on-units have their kinds, and a unit of one statement has the number of the
-- block around it.
use Rattle.std.proofs.Common.{◌≡◌, ℕ, List, [], ◌∷◌, refl, sym, subst}
use Rattle.std.specs.Prelude.{⊤}
use Rattle.pli_typing.specs.TypedTree as Y
use Rattle.well_formed_trees.specs.Surroundings.{Around, Label, Where, with_inner, in_list, in_unit, number_here}
use Rattle.well_formed_trees.specs.Statements.{SoundStmt, SoundStmts, IsUnitHead, inside, labels_in}

abbrev pub IsUnitIn : (block : ℕ) → Y.BlockHead → Y.BlockKind → Type 0
IsUnitIn block head Y.UnitBlock = ⊤
IsUnitIn block head Y.SimpleUnit = head.number ≡ block
IsUnitIn block head Y.ProcedureBlock = ⊥
IsUnitIn block head Y.BeginBlock = ⊥

abbrev mutual
  pub Numbered : (block : ℕ) → Y.Stmt → Type 0
  Numbered block (Y.If condition unit line) = Numbered block unit
  Numbered block (Y.IfElse condition unit otherwise line) = Numbered block unit × Numbered block otherwise
  Numbered block (Y.Do body line) = AllNumbered block body
  Numbered block (Y.DoWhile condition body line) = AllNumbered block body
  Numbered block (Y.DoOnce target start condition body line) = AllNumbered block body
  Numbered block (Y.DoCount counter start limit step condition body line) = AllNumbered block body
  Numbered block (Y.Begin (Y.BlockOf head body)) = (head.kind ≡ Y.BeginBlock) × AllNumbered head.number body
  Numbered block (Y.OnUnit c (Y.BlockOf head body) line) = IsUnitIn block head head.kind × AllNumbered head.number body
  Numbered block _ = ⊤

  pub AllNumbered : (block : ℕ) → Y.Stmts → Type 0
  AllNumbered block (Y.EndOfList labels) = ⊤
  AllNumbered block (Y.StmtThen labels first rest) = Numbered block first × AllNumbered block rest

same_number : (labels : List Label) (around : List Around) → number_here (with_inner labels around) ≡ number_here around
same_number labels [] = refl
same_number labels (a ∷ more) = refl

unit_in : (w : Where) (head : Y.BlockHead) (kind : Y.BlockKind) → IsUnitHead w head kind
    → IsUnitIn (number_here w.around) head kind
unit_in w head Y.UnitBlock h = tt
unit_in w head Y.SimpleUnit h = h
unit_in w head Y.ProcedureBlock h = h
unit_in w head Y.BeginBlock h = h

in_group : (w : Where) (body : Y.Stmts) → AllNumbered (number_here (in_list w (labels_in body)).around) body
    → AllNumbered (number_here w.around) body
in_group w body h = subst (λ n. AllNumbered n body) (same_number (labels_in body) w.around) h

mutual
  pub numbered : (w : Where) (s : Y.Stmt) → SoundStmt w s → Numbered (number_here w.around) s
  numbered w (Y.Null line) h = tt
  numbered w (Y.Assign target source line) h = tt
  numbered w (Y.AssignElements target source line) h = tt
  numbered w (Y.AssignAggregate target source line) h = tt
  numbered w (Y.AssignArea target source line) h = tt
  numbered w (Y.EmptyArea target line) h = tt
  numbered w (Y.If condition unit line) h = numbered w unit h.1.0
  numbered w (Y.IfElse condition unit otherwise line) h = (numbered w unit h.1.0, numbered w otherwise h.1.1.0)
  numbered w (Y.Do body line) h = in_group w body (all_numbered (in_list w (labels_in body)) body h.0)
  numbered w (Y.DoWhile condition body line) h = in_group w body (all_numbered (in_list w (labels_in body)) body h.1.0)
  numbered w (Y.DoOnce target start condition body line) h =
      in_group w body (all_numbered (in_list w (labels_in body)) body h.1.1.0)
  numbered w (Y.DoCount counter start limit step condition body line) h =
      in_group w body (all_numbered (in_list w (labels_in body)) body h.1.1.0)
  numbered w (Y.Begin (Y.BlockOf head body)) h = (h.0.0, all_numbered (inside w head body) body h.1)
  numbered w (Y.OnSystem condition line) h = tt
  numbered w (Y.OnUnit condition (Y.BlockOf head body) line) h =
      (unit_in w head head.kind h.0.0, all_numbered (inside (in_unit w) head body) body h.1.0)
  numbered w (Y.CallProcedure c line) h = tt
  numbered w (Y.Return line) h = tt
  numbered w (Y.ReturnValue type s line) h = tt
  numbered w (Y.Goto level label line) h = tt
  numbered w (Y.Stop line) h = tt
  numbered w (Y.Signal condition line) h = tt
  numbered w (Y.Revert condition line) h = tt
  numbered w (Y.Allocate allocations line) h = tt
  numbered w (Y.Free freeings line) h = tt
  numbered w (Y.Get skip pairs line) h = tt
  numbered w (Y.Put skip pairs line) h = tt

  pub all_numbered : (w : Where) (ss : Y.Stmts) → SoundStmts w ss → AllNumbered (number_here w.around) ss
  all_numbered w (Y.EndOfList labels) h = tt
  all_numbered w (Y.StmtThen labels first rest) h = (numbered w first h.0, all_numbered w rest h.1)
