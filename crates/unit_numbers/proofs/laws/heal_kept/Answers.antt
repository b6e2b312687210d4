use Rattle.unit_numbers.specs.Rows.{heal_program}
use Rattle.unit_numbers.proofs.Rows.{heal_ends, heal_fits, heal_program_is}
use Rattle.unit_numbers.proofs.laws.heal_kept.Goals as goal

pub returns : goal.returns
returns c =
    record {
      headline = c.unit_number_headlines_kept.ensures heal_program heal_program_is heal_fits;
      ends = heal_ends;
    }
