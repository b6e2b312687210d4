use Rattle.edit_runs.specs.SkipRows.{ruled_program}
use Rattle.edit_headlines.proofs.SkipRuns.{ruled_layout, ruled_program_runs}
use Rattle.edit_headlines.proofs.laws.ruled_kept.Goals as goal

pub returns : goal.returns
returns c = c.headlines_kept.ensures ruled_program ruled_layout ruled_program_runs
