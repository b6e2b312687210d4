use Rattle.number_headlines.specs.GivenRows.{fact_program}
use Rattle.number_headlines.proofs.GivenRows.{fact_ends, fact_fits, fact_program_is}
use Rattle.number_headlines.proofs.laws.fact_kept.Goals as goal

pub returns : goal.returns
returns c =
    record {
      headline = c.number_headlines_kept.ensures fact_program fact_program_is fact_fits;
      ends = fact_ends;
    }
