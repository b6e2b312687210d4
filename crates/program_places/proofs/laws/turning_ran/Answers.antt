use Rattle.program_places.proofs.Rows.{turning_goes_on, turning_runs}
use Rattle.program_places.proofs.laws.turning_ran.Goals as goal

pub returns : goal.returns
returns c =
    record {
      runs = turning_runs c.run_keeper_keeps.ensures c.marked_once.ensures c.table_differs.ensures;
      goes_on = turning_goes_on;
    }
