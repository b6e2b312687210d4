use Rattle.unit_numbers.specs.PleadRows.{plead_program}
use Rattle.unit_numbers.proofs.PleadRows.{plead_ends, plead_fits, plead_program_is}
use Rattle.unit_numbers.proofs.laws.plead_kept.Goals as goal

pub returns : goal.returns
returns c =
    record {
      headline = c.unit_number_headlines_kept.ensures plead_program plead_program_is plead_fits;
      ends = plead_ends;
    }
