use Rattle.unit_numbers.specs.ResortRows.{resort_program}
use Rattle.unit_numbers.proofs.ResortRows.{resort_ends, resort_fits, resort_program_is}
use Rattle.unit_numbers.proofs.laws.resort_kept.Goals as goal

pub returns : goal.returns
returns c =
    record {
      headline = c.unit_number_headlines_kept.ensures resort_program resort_program_is resort_fits;
      ends = resort_ends;
    }
