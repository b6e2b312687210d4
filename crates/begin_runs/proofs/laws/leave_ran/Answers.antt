use Rattle.begin_runs.proofs.LeaveRows.{leave_ends, leave_runs}
use Rattle.begin_runs.proofs.laws.leave_ran.Goals as goal

pub returns : goal.returns
returns c = record { runs = leave_runs c.run_keeper_keeps.ensures; ends = leave_ends }
