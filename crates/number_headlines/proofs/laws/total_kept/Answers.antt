use Rattle.number_headlines.specs.Rows.{total_program}
use Rattle.number_headlines.proofs.Rows.{total_ends, total_fits, total_program_is}
use Rattle.number_headlines.proofs.laws.total_kept.Goals as goal

pub returns : goal.returns
returns c =
    record {
      headline = c.number_headlines_kept.ensures total_program total_program_is total_fits;
      ends = total_ends;
    }
