use Rattle.unit_numbers.specs.GroupRows.{group_program}
use Rattle.unit_numbers.proofs.GroupRows.{group_ends, group_fits, group_program_is}
use Rattle.unit_numbers.proofs.laws.group_kept.Goals as goal

pub returns : goal.returns
returns c =
    record {
      headline = c.unit_number_headlines_kept.ensures group_program group_program_is group_fits;
      ends = group_ends;
    }
