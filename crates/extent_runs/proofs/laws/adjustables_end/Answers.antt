use Rattle.extent_runs.proofs.PassedLimits.{bounds_end, passed_ends, passed_means}
use Rattle.extent_runs.proofs.laws.adjustables_end.Goals as goal

pub returns : goal.returns
returns c = record { means = passed_means; ends = passed_ends; bounds = bounds_end }
