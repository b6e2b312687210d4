use Rattle.number_headlines.specs.HolderRows.{holder_program}
use Rattle.number_headlines.proofs.HolderRows.{holder_ends, holder_fits, holder_program_is}
use Rattle.number_headlines.proofs.laws.holder_kept.Goals as goal

pub returns : goal.returns
returns c =
    record {
      headline = c.number_headlines_kept.ensures holder_program holder_program_is holder_fits;
      ends = holder_ends;
    }
