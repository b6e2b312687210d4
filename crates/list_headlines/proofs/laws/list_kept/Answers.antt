use Rattle.list_calls.specs.ListRows.{given_program}
use Rattle.list_headlines.proofs.GivenRuns.{given_layout, given_program_runs}
use Rattle.list_headlines.proofs.laws.list_kept.Goals as goal

pub returns : goal.returns
returns c = c.headlines_kept.ensures given_program given_layout given_program_runs
