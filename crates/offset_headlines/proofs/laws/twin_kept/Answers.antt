use Rattle.offset_headlines.specs.Rows.{twin_program}
use Rattle.offset_headlines.proofs.Ends.{twin_ends}
use Rattle.offset_headlines.proofs.Rows.{twin_layout, twin_program_runs}
use Rattle.offset_headlines.proofs.laws.twin_kept.Goals as goal

pub returns : goal.returns
returns c =
    record { kept = c.headlines_kept.ensures twin_program twin_layout twin_program_runs; ends = twin_ends }
