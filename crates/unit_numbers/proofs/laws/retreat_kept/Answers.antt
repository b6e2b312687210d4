use Rattle.unit_numbers.specs.RetreatRows.{retreat_program}
use Rattle.unit_numbers.proofs.RetreatRows.{retreat_ends, retreat_fits, retreat_program_is}
use Rattle.unit_numbers.proofs.laws.retreat_kept.Goals as goal

pub returns : goal.returns
returns c =
    record {
      headline = c.unit_number_headlines_kept.ensures retreat_program retreat_program_is retreat_fits;
      ends = retreat_ends;
    }
