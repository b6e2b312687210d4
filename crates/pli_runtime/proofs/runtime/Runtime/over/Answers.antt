use Rattle.std.proofs.Common.{[], ap, refl, ◌∙◌}
use Rattle.area_keeper.specs.Chain.{chain}
use Rattle.pli_meaning.specs.InputLines.{first_input}
use Rattle.pli_serving.specs.Finding.{Call}
use Rattle.pli_services.specs.Flowing.{flow_seen}
use Rattle.pli_runtime.proofs.Beginnings.{first_of, standing_first}
use Rattle.pli_runtime.specs.Seen.{call_of, RunSeen}
use Rattle.pli_runtime.proofs.runtime.Runtime.over.Goals as goal

pub returns-clause-services : goal.returns-clause-services
returns-clause-services g c = λ gs are spelled bytes.
    let r : RunSeen = record {
      flow = flow_seen g.O.OutputStream.output c.new.result;
      held = c.in-Ok-first_held.held;
      in_use = c.new-2.result;
      input = first_input bytes;
      edits = c.over.result.edits.items;
      entries = c.new-3.result;
    } in
    let there = call_of chain r [] in
    let held = c.in-Ok-first_held.ensures in
    first_of r there gs bytes (ap (λ (it : Call). it.services) (c.new.ensures.unstarted there)) refl
    refl (held.1 ∙ c.in-Ok.ensures gs are spelled) held.2 held.3 held.4 c.new-3.ensures c.over.ensures.edits

pub returns-clause-standing : goal.returns-clause-standing
returns-clause-standing g c = λ k m laid.
    let held = c.in-Ok-first_held.ensures in
    let r : RunSeen = record {
      flow = flow_seen g.O.OutputStream.output c.new.result;
      held = c.in-Ok-first_held.held;
      in_use = c.new-2.result;
      input = first_input [];
      edits = c.over.result.edits.items;
      entries = c.new-3.result;
    } in
    standing_first k m r c.args.layout laid held.0 held.2 held.4 c.new-2.ensures.none (c.new-2.ensures.counted _)
