use Rattle.unit_numbers.specs.GuardRows.{guard_program}
use Rattle.unit_numbers.proofs.GuardRows.{guard_ends, guard_fits, guard_program_is}
use Rattle.unit_numbers.proofs.laws.guard_kept.Goals as goal

pub returns : goal.returns
returns c =
    record {
      headline = c.unit_number_headlines_kept.ensures guard_program guard_program_is guard_fits;
      ends = guard_ends;
    }
