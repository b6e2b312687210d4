use Rattle.std.proofs.Common.{◌≡◌, ◌++◌, ◌≤◌, map}
use Rattle.pli_language.specs.View.{exprs_of}
use Rattle.pli_typing.proofs.ExpressionWeights.{expr_weight, reference_weight, qualified_weight, arguments_weight}
use Rattle.pli_typing.proofs.ExpressionWeights.{exprs_weight}
use Rattle.pli_listing.specs.Mentions.{in_exprs, mention_of}
use Rattle.pli_listing.proofs.mention_expression.+walk.Given as goal

abbrev pub decreases-push_expr : goal.decreases-push_expr
decreases-push_expr l = expr_weight l.expr.now

abbrev pub decreases-push_reference : goal.decreases-push_reference
decreases-push_reference l = reference_weight l.reference.now

abbrev pub decreases-push_qualified : goal.decreases-push_qualified
decreases-push_qualified l = qualified_weight l.qualified.now

abbrev pub decreases-push_arguments : goal.decreases-push_arguments
decreases-push_arguments l = arguments_weight l.arguments.now

abbrev pub decreases-push_exprs : goal.decreases-push_exprs
decreases-push_exprs l = exprs_weight l.exprs.now

abbrev pub invariant-push_exprs-loop-left : goal.invariant-push_exprs-loop-left
invariant-push_exprs-loop-left l = record {
  no_larger : exprs_weight l.left ≤ exprs_weight l.exprs;
  put :
      map mention_of l.out.items ++ in_exprs l.block (exprs_of l.left)
      ≡ map mention_of l.initial.out.items ++ in_exprs l.block (exprs_of l.exprs);
}
