use Rattle.area_assignments.specs.Rows.{clear_program}
use Rattle.area_headlines.proofs.ClearRuns.{clear_layout, clear_program_runs}
use Rattle.area_headlines.proofs.laws.clear_kept.Goals as goal

pub returns : goal.returns
returns c = c.headlines_kept.ensures clear_program clear_layout clear_program_runs
