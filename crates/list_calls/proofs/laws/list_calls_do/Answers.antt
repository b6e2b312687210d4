use Rattle.list_calls.proofs.ListCalls.{listed_call_does}
use Rattle.list_calls.proofs.ListLimits.{beside_call_ends, deep_call_ends, full_call_ends}
use Rattle.list_calls.proofs.laws.list_calls_do.Goals as goal

pub returns : goal.returns
returns c =
    record {
      does = listed_call_does;
      ends = deep_call_ends;
      full = full_call_ends;
      beside = beside_call_ends;
    }
