use Rattle.number_headlines.specs.InitialRows.{initial_program}
use Rattle.number_headlines.proofs.InitialRows.{initial_ends, initial_fits, initial_program_is}
use Rattle.number_headlines.proofs.laws.initial_kept.Goals as goal

pub returns : goal.returns
returns c =
    record {
      headline = c.number_headlines_kept.ensures initial_program initial_program_is initial_fits;
      ends = initial_ends;
    }
