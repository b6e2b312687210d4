use Rattle.controlled_runs.specs.Rows.{stack_listed, stack_program}
use Rattle.controlled_headlines.proofs.StackRuns.{stack_layout, stack_program_runs}
use Rattle.controlled_headlines.proofs.laws.stack_kept.Goals as goal

pub returns : goal.returns
returns c = c.listed_headlines_kept.ensures stack_program stack_layout stack_listed stack_program_runs
