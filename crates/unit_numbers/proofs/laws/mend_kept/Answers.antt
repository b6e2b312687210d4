use Rattle.unit_numbers.specs.MendRows.{mend_program}
use Rattle.unit_numbers.proofs.MendRows.{mend_ends, mend_fits, mend_program_is}
use Rattle.unit_numbers.proofs.laws.mend_kept.Goals as goal

pub returns : goal.returns
returns c =
    record {
      headline = c.unit_number_headlines_kept.ensures mend_program mend_program_is mend_fits;
      ends = mend_ends;
    }
