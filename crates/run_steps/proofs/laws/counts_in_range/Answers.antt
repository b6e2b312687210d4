use Rattle.run_steps.proofs.Counting.{calls_count_once, runs_count_within}
use Rattle.run_steps.proofs.laws.counts_in_range.Goals as goal

pub returns-clause-call : goal.returns-clause-call
returns-clause-call c = calls_count_once

pub returns-clause-run : goal.returns-clause-run
returns-clause-run c = runs_count_within
