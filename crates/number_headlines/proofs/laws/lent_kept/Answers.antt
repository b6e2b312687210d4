use Rattle.number_headlines.specs.LentRows.{lent_program}
use Rattle.number_headlines.proofs.LentRows.{lent_ends, lent_fits, lent_program_is}
use Rattle.number_headlines.proofs.laws.lent_kept.Goals as goal

pub returns : goal.returns
returns c =
    record {
      headline = c.number_headlines_kept.ensures lent_program lent_program_is lent_fits;
      ends = lent_ends;
    }
