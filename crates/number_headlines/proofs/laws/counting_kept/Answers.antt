use Rattle.number_headlines.specs.CountRows.{counting_program}
use Rattle.number_headlines.proofs.CountRows.{counting_ends, counting_fits, counting_program_is}
use Rattle.number_headlines.proofs.laws.counting_kept.Goals as goal

pub returns : goal.returns
returns c =
    record {
      headline = c.number_headlines_kept.ensures counting_program counting_program_is counting_fits;
      ends = counting_ends;
    }
