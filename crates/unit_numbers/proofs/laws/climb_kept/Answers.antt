use Rattle.unit_numbers.specs.ClimbRows.{climb_program}
use Rattle.unit_numbers.proofs.ClimbRows.{climb_ends, climb_fits, climb_program_is}
use Rattle.unit_numbers.proofs.laws.climb_kept.Goals as goal

pub returns : goal.returns
returns c =
    record {
      headline = c.unit_number_headlines_kept.ensures climb_program climb_program_is climb_fits;
      ends = climb_ends;
    }
