use Rattle.number_headlines.specs.FewerRows.{far_program}
use Rattle.number_headlines.proofs.FewerRows.{far_ends, far_fits, far_program_is}
use Rattle.number_headlines.proofs.laws.far_kept.Goals as goal

pub returns : goal.returns
returns c =
    record {
      headline = c.number_headlines_kept.ensures far_program far_program_is far_fits;
      ends = far_ends;
    }
