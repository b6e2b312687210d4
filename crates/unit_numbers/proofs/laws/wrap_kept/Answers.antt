use Rattle.unit_numbers.specs.WrapRows.{wrap_program}
use Rattle.unit_numbers.proofs.WrapRows.{wrap_ends, wrap_fits, wrap_program_is}
use Rattle.unit_numbers.proofs.laws.wrap_kept.Goals as goal

pub returns : goal.returns
returns c =
    record {
      headline = c.unit_number_headlines_kept.ensures wrap_program wrap_program_is wrap_fits;
      ends = wrap_ends;
    }
