use Rattle.number_headlines.specs.GatheredRows.{gathered_program}
use Rattle.number_headlines.proofs.GatheredRows.{gathered_ends, gathered_fits, gathered_program_is}
use Rattle.number_headlines.proofs.laws.gathered_kept.Goals as goal

pub returns : goal.returns
returns c =
    record {
      headline = c.number_headlines_kept.ensures gathered_program gathered_program_is gathered_fits;
      ends = gathered_ends;
    }
