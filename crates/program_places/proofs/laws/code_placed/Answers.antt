use Rattle.program_runs.specs.Starts.{image_parts}
use Rattle.program_places.specs.Programs.{code_for}
use Rattle.program_places.proofs.Marks.{placed_back, placed_front, whole_placed}
use Rattle.program_places.proofs.laws.code_placed.Goals as goal

pub returns : goal.returns
returns c =
    record {
      whole = λ program h.
          whole_placed (code_for program) h.fits (c.marked_once.ensures image_parts program h.well_formed);
      front = λ links code i xs ys p. placed_front xs ys p;
      back = λ links code i xs ys p. placed_back xs ys p;
    }
