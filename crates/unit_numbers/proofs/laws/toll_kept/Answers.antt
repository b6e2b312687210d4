use Rattle.unit_numbers.specs.TollRows.{toll_program}
use Rattle.unit_numbers.proofs.TollRows.{toll_ends, toll_fits, toll_program_is}
use Rattle.unit_numbers.proofs.laws.toll_kept.Goals as goal

pub returns : goal.returns
returns c =
    record {
      headline = c.unit_number_headlines_kept.ensures toll_program toll_program_is toll_fits;
      ends = toll_ends;
    }
