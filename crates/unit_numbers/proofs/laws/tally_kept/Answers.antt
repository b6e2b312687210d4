use Rattle.unit_numbers.specs.TallyRows.{tally_program}
use Rattle.unit_numbers.proofs.TallyRows.{tally_ends, tally_fits, tally_program_is}
use Rattle.unit_numbers.proofs.laws.tally_kept.Goals as goal

pub returns : goal.returns
returns c =
    record {
      headline = c.unit_number_headlines_kept.ensures tally_program tally_program_is tally_fits;
      ends = tally_ends;
    }
