use Rattle.number_headlines.specs.AreaRows.{gather_program}
use Rattle.number_headlines.proofs.AreaRows.{gather_end, gather_fit, gather_program_is}
use Rattle.number_headlines.proofs.laws.gather_kept.Goals as goal

pub returns : goal.returns
returns c =
    record {
      headline = c.number_headlines_kept.ensures gather_program gather_program_is gather_fit;
      ends = gather_end;
    }
