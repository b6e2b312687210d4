use Rattle.number_headlines.specs.BeginRows.{begins_program}
use Rattle.number_headlines.proofs.BeginRows.{begins_end, begins_fit, begins_program_is}
use Rattle.number_headlines.proofs.laws.begins_kept.Goals as goal

pub returns : goal.returns
returns c =
    record {
      headline = c.number_headlines_kept.ensures begins_program begins_program_is begins_fit;
      ends = begins_end;
    }
