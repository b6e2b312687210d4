use Rattle.unit_runs.proofs.Changing.{begun_after, changing_ends, changing_past}
use Rattle.unit_runs.proofs.OwnRaises.{own_raised, past_like, past_numbers}
use Rattle.unit_runs.proofs.laws.lists_change.Goals as goal

pub returns : goal.returns
returns c =
    record {
      past = changing_past;
      ends = changing_ends;
      raised = own_raised;
      begun = begun_after;
      numbers = past_numbers;
      like = past_like;
    }
