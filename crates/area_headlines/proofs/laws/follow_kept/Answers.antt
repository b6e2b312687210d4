use Rattle.locator_runs.specs.Rows.{follow_program}
use Rattle.area_headlines.proofs.FollowRuns.{follow_layout, follow_program_runs}
use Rattle.area_headlines.proofs.laws.follow_kept.Goals as goal

pub returns : goal.returns
returns c = c.headlines_kept.ensures follow_program follow_layout follow_program_runs
