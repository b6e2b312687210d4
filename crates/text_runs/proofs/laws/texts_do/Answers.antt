use Rattle.text_runs.proofs.Parts.{from_cuts, part_cuts}
use Rattle.text_runs.proofs.Points.{above_does, alone_does}
use Rattle.text_runs.proofs.Pushing.{joined_pushes, number_pushes}
use Rattle.text_runs.proofs.Taking.{index_finds, length_measures, text_shows, verify_finds}
use Rattle.text_runs.proofs.laws.texts_do.Goals as goal

pub returns : goal.returns
returns c =
    record {
      above = above_does;
      alone = alone_does;
      number = number_pushes;
      joined = joined_pushes;
      rest = from_cuts;
      part = part_cuts;
      length = length_measures;
      index = index_finds;
      verify = verify_finds;
      shown = text_shows;
    }
