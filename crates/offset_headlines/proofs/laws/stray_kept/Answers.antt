use Rattle.offset_headlines.specs.Strays.{stray_program}
use Rattle.offset_headlines.proofs.Ends.{stray_ends}
use Rattle.offset_headlines.proofs.Strays.{stray_layout, stray_program_runs}
use Rattle.offset_headlines.proofs.laws.stray_kept.Goals as goal

pub returns : goal.returns
returns c =
    record { kept = c.headlines_kept.ensures stray_program stray_layout stray_program_runs; ends = stray_ends }
