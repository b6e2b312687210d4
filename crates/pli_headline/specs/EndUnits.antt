-- Conditions for which a program has units, and whether it has one for ENDFILE.
use Rattle.std.specs.Prelude.{◌≡◌, List, [], ◌∷◌, Bool, true, false, ◌||◌, ⊤}
use Rattle.pli_language.specs.declared.condition.Condition.{Condition}
use Rattle.pli_language.specs.declared.condition.Condition.TheVariants as C
use Rattle.pli_typing.specs.TypedTree as Y

-- whether a list has a unit for ENDFILE, in itself or in its groups
abbrev mutual
  pub catches_end : Y.Stmt → Bool
  catches_end (Y.If condition unit line) = catches_end unit
  catches_end (Y.IfElse condition unit otherwise line) = catches_end unit || catches_end otherwise
  catches_end (Y.Do body line) = any_catches_end body
  catches_end (Y.DoWhile condition body line) = any_catches_end body
  catches_end (Y.DoOnce target start condition body line) = any_catches_end body
  catches_end (Y.DoCount counter start limit step condition body line) = any_catches_end body
  catches_end (Y.OnUnit C.Endfile unit line) = true
  catches_end _ = false

  pub any_catches_end : Y.Stmts → Bool
  any_catches_end (Y.EndOfList labels) = false
  any_catches_end (Y.StmtThen labels first rest) = catches_end first || any_catches_end rest

abbrev pub block_catches_end : Y.Block → Bool
block_catches_end (Y.BlockOf head body) = any_catches_end body

-- a program has one where its main procedure does
abbrev pub main_catches_end : List Y.Procedure → Bool
main_catches_end [] = false
main_catches_end (p ∷ ps) = block_catches_end p.block

-- units are for AREA and ENDFILE; one for ENDFILE is among those of the program
abbrev pub HasUnitFor : Y.Program → Condition → Type 0
HasUnitFor program C.Area = ⊤
HasUnitFor program C.Endfile = main_catches_end program.procedures ≡ true
HasUnitFor program _ = ⊥
