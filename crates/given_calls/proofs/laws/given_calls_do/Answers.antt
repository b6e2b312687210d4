use Rattle.given_calls.proofs.DeepCalls.{deep_call_ends}
use Rattle.given_calls.proofs.FullBeside.{beside_call_ends}
use Rattle.given_calls.proofs.FullCalls.{full_call_ends}
use Rattle.given_calls.proofs.GivenCalls.{given_call_does}
use Rattle.given_calls.proofs.laws.given_calls_do.Goals as goal

pub returns : goal.returns
returns c =
    record {
      does = given_call_does;
      ends = deep_call_ends;
      full = full_call_ends;
      beside = beside_call_ends;
    }
