use Rattle.std.proofs.Common.{◌≡◌}
use Rattle.pli_language.specs.Declaring.{place_of_expr}
use Rattle.pli_language.specs.View.{expr_of}
use Rattle.pli_declaring.proofs.constant.place_of.Given as goal

abbrev pub invariant-loop-rest : goal.invariant-loop-rest
invariant-loop-rest l = place_of_expr (expr_of l.rest) ≡ place_of_expr (expr_of l.expression)
