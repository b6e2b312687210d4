use Rattle.nested_calls.proofs.DeepCalls.{deep_call_ends}
use Rattle.nested_calls.proofs.FullCalls.{full_call_ends}
use Rattle.nested_calls.proofs.NestedCalls.{nested_call_does}
use Rattle.nested_calls.proofs.laws.nested_calls_do.Goals as goal

pub returns : goal.returns
returns c = record { does = nested_call_does; ends = deep_call_ends; full = full_call_ends }
