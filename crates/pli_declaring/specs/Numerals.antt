-- Expressions that are numbers.
use Rattle.std.specs.Prelude.{ℕ, Option, Some, None}
use Rattle.pli_language.specs.Tree.{Expr, Number}

abbrev pub number_in : Expr → Option ℕ
number_in (Number v p) = Some v
number_in _ = None
