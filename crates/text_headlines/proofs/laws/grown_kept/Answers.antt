use Rattle.text_headlines.specs.Rows.{grow_program}
use Rattle.text_headlines.proofs.Rows.{grow_ends, grow_layout, grow_program_runs}
use Rattle.text_headlines.proofs.laws.grown_kept.Goals as goal

pub returns : goal.returns
returns c =
    record { kept = c.headlines_kept.ensures grow_program grow_layout grow_program_runs; ends = grow_ends }
