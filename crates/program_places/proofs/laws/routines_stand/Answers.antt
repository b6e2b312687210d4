use Rattle.program_places.proofs.Procedures.{condition_place, end_place, error_place, raise_routines, routines_at}
use Rattle.program_places.proofs.laws.routines_stand.Goals as goal

pub returns : goal.returns
returns c =
    let once = c.marked_once.ensures in
    record {
      routines = raise_routines once;
      at = routines_at once;
      condition = condition_place once;
      error = error_place once;
      end = end_place once;
    }
