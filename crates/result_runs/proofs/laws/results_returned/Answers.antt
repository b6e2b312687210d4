use Rattle.result_runs.proofs.Returning.{bit_returned, number_returned}
use Rattle.result_runs.proofs.laws.results_returned.Goals as goal

pub returns : goal.returns
returns c = record { number = number_returned; bit = bit_returned }
