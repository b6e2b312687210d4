use Rattle.std.proofs.Common.{◌≡◌, vec_len}
use Rattle.pli_language.specs.Tree as T
use Rattle.pli_language.specs.View.{expr_of, exprs_of}
use Rattle.pli_phrase.specs.Reading.{exprs_with}
use Rattle.pli_phrase.specs.View.{newest}
use Rattle.pli_phrase.proofs.build.listed.Given as goal

abbrev pub invariant-loop-expression : goal.invariant-loop-expression
invariant-loop-expression l = exprs_with (newest expr_of l.expressions.items) (exprs_of l.list) ≡ exprs_with (newest expr_of l.initial.expressions.items) T.NoExpr

abbrev pub decreases-loop-expression : goal.decreases-loop-expression
decreases-loop-expression l = vec_len l.expressions
