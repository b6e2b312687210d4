use Rattle.walked_headlines.specs.Rows.{walk_program}
use Rattle.walked_headlines.proofs.Ends.{walk_ends}
use Rattle.walked_headlines.proofs.Rows.{walk_layout, walk_program_runs}
use Rattle.walked_headlines.proofs.laws.walked_kept.Goals as goal

pub returns : goal.returns
returns c =
    record { kept = c.headlines_kept.ensures walk_program walk_layout walk_program_runs; ends = walk_ends }
