use Rattle.number_headlines.specs.GridRows.{triangle_program}
use Rattle.number_headlines.proofs.GridRows.{triangle_ends, triangle_fits, triangle_program_is}
use Rattle.number_headlines.proofs.laws.triangle_kept.Goals as goal

pub returns : goal.returns
returns c =
    record {
      headline = c.number_headlines_kept.ensures triangle_program triangle_program_is triangle_fits;
      ends = triangle_ends;
    }
