use Rattle.edit_runs.proofs.Places.{begun_placed, call_placed, errorless_placed, number_placed, unraised_placed}
use Rattle.edit_runs.proofs.laws.places_wait.Goals as goal

pub returns : goal.returns
returns c =
    record {
      begun = begun_placed;
      number = number_placed;
      unraised = unraised_placed;
      errorless = errorless_placed;
      call = call_placed;
    }
