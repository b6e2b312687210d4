use Rattle.unit_numbers.specs.LodgeRows.{lodge_program}
use Rattle.unit_numbers.proofs.LodgeRows.{lodge_ends, lodge_fits, lodge_program_is}
use Rattle.unit_numbers.proofs.laws.lodge_kept.Goals as goal

pub returns : goal.returns
returns c =
    record {
      headline = c.unit_number_headlines_kept.ensures lodge_program lodge_program_is lodge_fits;
      ends = lodge_ends;
    }
