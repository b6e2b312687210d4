use Rattle.number_headlines.specs.PowerRows.{raised_program}
use Rattle.number_headlines.proofs.PowerRows.{raised_ends, raised_fits, raised_program_is}
use Rattle.number_headlines.proofs.laws.power_kept.Goals as goal

pub returns : goal.returns
returns c =
    record {
      headline = c.number_headlines_kept.ensures raised_program raised_program_is raised_fits;
      ends = raised_ends;
    }
