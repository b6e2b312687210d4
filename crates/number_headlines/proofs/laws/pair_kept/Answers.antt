use Rattle.number_headlines.specs.PairRows.{pair_program}
use Rattle.number_headlines.proofs.PairRows.{pair_end, pair_fit, pair_program_is}
use Rattle.number_headlines.proofs.laws.pair_kept.Goals as goal

pub returns : goal.returns
returns c =
    record {
      headline = c.number_headlines_kept.ensures pair_program pair_program_is pair_fit;
      ends = pair_end;
    }
