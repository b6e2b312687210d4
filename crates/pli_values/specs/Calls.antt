-- What is read of a service's call: where the parts of memory lie, and its bytes.
use Rattle.std.specs.Prelude.{ℕ, List, []}
use Rattle.area_keeper.specs.Chain.{chain}
use Rattle.pli_serving.specs.Bytes.{Layout}
use Rattle.pli_serving.specs.ServiceState.{first_services}
use Rattle.pli_serving.specs.Finding.{Call}
use Rattle.pli_values.specs.declared.source.Source.{Source}
use Rattle.pli_values.specs.View.{layout_of}

-- a call with these; its keeper and its state are read by no list
abbrev pub call_on : Layout → List ℕ → Call
call_on layout memory = record { keeper = chain; layout = layout; services = first_services [] []; memory = memory }

abbrev pub call_of : Source → Call
call_of s = call_on (layout_of s.layout) s.memory.now
