use Rattle.unit_numbers.specs.RescueRows.{rescue_program}
use Rattle.unit_numbers.proofs.RescueRows.{rescue_ends, rescue_fits, rescue_program_is}
use Rattle.unit_numbers.proofs.laws.rescue_kept.Goals as goal

pub returns : goal.returns
returns c =
    record {
      headline = c.unit_number_headlines_kept.ensures rescue_program rescue_program_is rescue_fits;
      ends = rescue_ends;
    }
