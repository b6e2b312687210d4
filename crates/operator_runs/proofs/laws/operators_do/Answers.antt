use Rattle.operator_runs.proofs.Extremes.{extreme_does}
use Rattle.operator_runs.proofs.Products.{product_does}
use Rattle.operator_runs.proofs.Quotients.{divided_does, quotient_does}
use Rattle.operator_runs.proofs.Remainders.{modulo_does}
use Rattle.operator_runs.proofs.Signs.{absolute_does, negative_does, positive_does, sign_does}
use Rattle.operator_runs.proofs.laws.operators_do.Goals as goal

pub returns : goal.returns
returns c =
    record {
      product = product_does;
      quotient = quotient_does;
      divided = divided_does;
      modulo = modulo_does;
      positive = positive_does;
      negative = negative_does;
      absolute = absolute_does;
      extreme = extreme_does;
      sign = sign_does;
    }
