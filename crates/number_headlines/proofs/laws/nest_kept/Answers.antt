use Rattle.number_headlines.specs.NestRows.{nest_program}
use Rattle.number_headlines.proofs.NestRows.{nest_ends, nest_fits, nest_program_is}
use Rattle.number_headlines.proofs.laws.nest_kept.Goals as goal

pub returns : goal.returns
returns c =
    record {
      headline = c.number_headlines_kept.ensures nest_program nest_program_is nest_fits;
      ends = nest_ends;
    }
