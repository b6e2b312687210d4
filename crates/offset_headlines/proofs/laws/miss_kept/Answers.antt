use Rattle.offset_headlines.specs.Strays.{miss_program}
use Rattle.offset_headlines.proofs.Ends.{miss_ends}
use Rattle.offset_headlines.proofs.Misses.{miss_layout, miss_program_runs}
use Rattle.offset_headlines.proofs.laws.miss_kept.Goals as goal

pub returns : goal.returns
returns c =
    record { kept = c.headlines_kept.ensures miss_program miss_layout miss_program_runs; ends = miss_ends }
