use Rattle.unit_numbers.specs.AgainRows.{again_program}
use Rattle.unit_numbers.proofs.AgainRows.{again_ends, again_fits, again_program_is}
use Rattle.unit_numbers.proofs.laws.again_kept.Goals as goal

pub returns : goal.returns
returns c =
    record {
      headline = c.unit_number_headlines_kept.ensures again_program again_program_is again_fits;
      ends = again_ends;
    }
