use Rattle.text_runs.specs.Waiting.{over}
use Rattle.unit_runs.proofs.UnitRuns.{overflow_returns}
use Rattle.text_units.proofs.Raises.{raised_waits}
use Rattle.text_units.proofs.laws.raises_wait.Goals as goal

pub returns : goal.returns
returns c =
    record {
      raised = raised_waits;
      overflow = λ entries k x more h does e. overflow_returns (over entries k) x more h does e;
    }
