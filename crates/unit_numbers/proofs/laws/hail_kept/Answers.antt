use Rattle.unit_numbers.specs.HailRows.{hail_program}
use Rattle.unit_numbers.proofs.HailRows.{hail_ends, hail_fits, hail_program_is}
use Rattle.unit_numbers.proofs.laws.hail_kept.Goals as goal

pub returns : goal.returns
returns c =
    record {
      headline = c.unit_number_headlines_kept.ensures hail_program hail_program_is hail_fits;
      ends = hail_ends;
    }
