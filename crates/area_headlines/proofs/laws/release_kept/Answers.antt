use Rattle.area_freeings.specs.Rows.{release_program}
use Rattle.area_headlines.proofs.ReleaseRuns.{release_layout, release_program_runs}
use Rattle.area_headlines.proofs.laws.release_kept.Goals as goal

pub returns : goal.returns
returns c = c.headlines_kept.ensures release_program release_layout release_program_runs
