use Rattle.number_headlines.specs.PutRows.{squares_program}
use Rattle.number_headlines.proofs.PutRows.{squares_end, squares_fit, squares_program_is}
use Rattle.number_headlines.proofs.laws.squares_kept.Goals as goal

pub returns : goal.returns
returns c =
    record {
      headline = c.number_headlines_kept.ensures squares_program squares_program_is squares_fit;
      ends = squares_end;
    }
