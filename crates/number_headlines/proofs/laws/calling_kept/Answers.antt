use Rattle.number_headlines.specs.CallRows.{calling_program}
use Rattle.number_headlines.proofs.CallRows.{calling_ends, calling_fits, calling_program_is}
use Rattle.number_headlines.proofs.laws.calling_kept.Goals as goal

pub returns : goal.returns
returns c =
    record {
      headline = c.number_headlines_kept.ensures calling_program calling_program_is calling_fits;
      ends = calling_ends;
    }
