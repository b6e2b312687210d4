use Rattle.number_headlines.specs.EuclidRows.{divided_program}
use Rattle.number_headlines.proofs.EuclidRows.{divided_ends, divided_fits, divided_program_is}
use Rattle.number_headlines.proofs.laws.euclid_kept.Goals as goal

pub returns : goal.returns
returns c =
    record {
      headline = c.number_headlines_kept.ensures divided_program divided_program_is divided_fits;
      ends = divided_ends;
    }
