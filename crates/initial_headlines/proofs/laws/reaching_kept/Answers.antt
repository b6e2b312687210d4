use Rattle.initial_headlines.specs.Rows.{reach_program}
use Rattle.initial_headlines.proofs.Rows.{reach_ends, reach_layout, reach_program_runs}
use Rattle.initial_headlines.proofs.laws.reaching_kept.Goals as goal

pub returns : goal.returns
returns c =
    record { kept = c.headlines_kept.ensures reach_program reach_layout reach_program_runs; ends = reach_ends }
