use Rattle.number_headlines.specs.FlagRows.{flag_program}
use Rattle.number_headlines.proofs.FlagRows.{flag_end, flag_fit, flag_program_is}
use Rattle.number_headlines.proofs.laws.flag_kept.Goals as goal

pub returns : goal.returns
returns c =
    record {
      headline = c.number_headlines_kept.ensures flag_program flag_program_is flag_fit;
      ends = flag_end;
    }
