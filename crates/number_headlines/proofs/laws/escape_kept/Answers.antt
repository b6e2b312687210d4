use Rattle.number_headlines.specs.EscapeRows.{escape_program}
use Rattle.number_headlines.proofs.EscapeRows.{escape_ends, escape_fits, escape_program_is}
use Rattle.number_headlines.proofs.laws.escape_kept.Goals as goal

pub returns : goal.returns
returns c =
    record {
      headline = c.number_headlines_kept.ensures escape_program escape_program_is escape_fits;
      ends = escape_ends;
    }
