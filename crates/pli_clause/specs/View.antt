-- How the values of the code show what stands behind two words.
use Rattle.std.specs.Prelude.{Option}
use Rattle.pli_language.specs.Tree as T
use Rattle.pli_language.specs.View.{expr_of, reference_of, option_of}
use Rattle.pli_clause.specs.declared.turn.Range.{Range}
use Rattle.pli_clause.specs.declared.storage.Placing.{Placing}

abbrev pub range_of : Range → Option T.Expr × Option T.Expr
range_of r = (option_of expr_of r.limit, option_of expr_of r.step)

abbrev pub placing_of : Placing → Option T.Reference × Option T.Reference
placing_of p = (option_of reference_of p.area, option_of reference_of p.locator)
