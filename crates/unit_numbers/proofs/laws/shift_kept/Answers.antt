use Rattle.unit_numbers.specs.ShiftRows.{shift_program}
use Rattle.unit_numbers.proofs.ShiftRows.{shift_ends, shift_fits, shift_program_is}
use Rattle.unit_numbers.proofs.laws.shift_kept.Goals as goal

pub returns : goal.returns
returns c =
    record {
      headline = c.unit_number_headlines_kept.ensures shift_program shift_program_is shift_fits;
      ends = shift_ends;
    }
