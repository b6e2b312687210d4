use Rattle.number_runs.proofs.AreaKnown.{all_held, held_area, held_array, held_narrow, held_pointer, held_word}
use Rattle.number_runs.proofs.laws.areas_made.Goals as goal

pub returns : goal.returns
returns c =
    record {
      all = all_held;
      pointer = held_pointer;
      area = held_area;
      number = held_word;
      array = held_array;
      narrow = held_narrow;
    }
