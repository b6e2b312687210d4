use Rattle.number_headlines.specs.ReadRows.{pairs_program}
use Rattle.number_headlines.proofs.ReadRows.{pairs_end, pairs_fit, pairs_program_is, pairs_stop}
use Rattle.number_headlines.proofs.laws.pairs_kept.Goals as goal

pub returns : goal.returns
returns c =
    record {
      headline = c.number_headlines_kept.ensures pairs_program pairs_program_is pairs_fit;
      ends = pairs_end;
      stops = pairs_stop;
    }
