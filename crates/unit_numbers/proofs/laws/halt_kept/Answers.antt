use Rattle.unit_numbers.specs.HaltRows.{halt_program}
use Rattle.unit_numbers.proofs.HaltRows.{halt_ends, halt_fits, halt_program_is}
use Rattle.unit_numbers.proofs.laws.halt_kept.Goals as goal

pub returns : goal.returns
returns c =
    record {
      headline = c.unit_number_headlines_kept.ensures halt_program halt_program_is halt_fits;
      ends = halt_ends;
    }
