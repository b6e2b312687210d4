-- The variables of all blocks in a part are plain, since those of the whole program are.
use Rattle.std.specs.Prelude.{⊤}
use Rattle.pli_typing.specs.TypedTree as Y
use Rattle.pli_meaning.specs.DeclaredShapes.{variables_of_block}
use Rattle.pli_headline.specs.ProvedSoFar.{ArePlain, AllPlain, unit_declares}
use Rattle.pli_headline.proofs.MainProcedure.{main_plain}

-- those of blocks in a statement, and in a list
abbrev mutual
  pub DeclaresPlain : Y.Program → Y.Stmt → Type 0
  DeclaresPlain program (Y.If condition unit line) = DeclaresPlain program unit
  DeclaresPlain program (Y.IfElse condition unit otherwise line) = DeclaresPlain program unit × DeclaresPlain program otherwise
  DeclaresPlain program (Y.Do body line) = DeclarePlain program body
  DeclaresPlain program (Y.DoWhile condition body line) = DeclarePlain program body
  DeclaresPlain program (Y.DoOnce target start condition body line) = DeclarePlain program body
  DeclaresPlain program (Y.DoCount counter start limit step condition body line) = DeclarePlain program body
  DeclaresPlain program (Y.Begin (Y.BlockOf head body)) =
      ArePlain (variables_of_block program head.number) × DeclarePlain program body
  DeclaresPlain program (Y.OnUnit condition (Y.BlockOf head body) line) =
      ArePlain (unit_declares program head head.kind) × DeclarePlain program body
  DeclaresPlain program _ = ⊤

  pub DeclarePlain : Y.Program → Y.Stmts → Type 0
  DeclarePlain program (Y.EndOfList labels) = ⊤
  DeclarePlain program (Y.StmtThen labels first rest) = DeclaresPlain program first × DeclarePlain program rest

unit_plain : (program : Y.Program) (head : Y.BlockHead) (kind : Y.BlockKind) → AllPlain program.variables → ArePlain (unit_declares program head kind)
unit_plain program head Y.SimpleUnit all = tt
unit_plain program head Y.UnitBlock all = main_plain program head.number all
unit_plain program head Y.ProcedureBlock all = main_plain program head.number all
unit_plain program head Y.BeginBlock all = main_plain program head.number all

mutual
  declares_plain : (program : Y.Program) (x : Y.Stmt) → AllPlain program.variables → DeclaresPlain program x
  declares_plain program (Y.If condition unit line) all = declares_plain program unit all
  declares_plain program (Y.IfElse condition unit otherwise line) all =
      (declares_plain program unit all, declares_plain program otherwise all)
  declares_plain program (Y.Do body line) all = declare_plain program body all
  declares_plain program (Y.DoWhile condition body line) all = declare_plain program body all
  declares_plain program (Y.DoOnce target start condition body line) all = declare_plain program body all
  declares_plain program (Y.DoCount counter start limit step condition body line) all = declare_plain program body all
  declares_plain program (Y.Begin (Y.BlockOf head body)) all =
      (main_plain program head.number all, declare_plain program body all)
  declares_plain program (Y.OnUnit condition (Y.BlockOf head body) line) all =
      (unit_plain program head head.kind all, declare_plain program body all)
  declares_plain program _ all = tt

  pub declare_plain : (program : Y.Program) (body : Y.Stmts) → AllPlain program.variables → DeclarePlain program body
  declare_plain program (Y.EndOfList labels) all = tt
  declare_plain program (Y.StmtThen labels first rest) all =
      (declares_plain program first all, declare_plain program rest all)
