use Rattle.number_headlines.specs.SumRows.{sum_program}
use Rattle.number_headlines.proofs.SumRows.{sum_ends, sum_fits, sum_program_is}
use Rattle.number_headlines.proofs.laws.sum_kept.Goals as goal

pub returns : goal.returns
returns c =
    record {
      headline = c.number_headlines_kept.ensures sum_program sum_program_is sum_fits;
      ends = sum_ends;
    }
