use Rattle.scalar_runs.proofs.Conversions.{converted_does}
use Rattle.scalar_runs.proofs.Quotients.{precise_does}
use Rattle.scalar_runs.proofs.ScalarPoints.{bit_does, number_does}
use Rattle.scalar_runs.proofs.laws.scalars_do.Goals as goal

pub returns : goal.returns
returns c = record { number = number_does; bit = bit_does; converted = converted_does; divided = precise_does }
