use Rattle.std.proofs.Common.{◌∷◌, length, option_map, refl}
use Rattle.std.specs.Prelude.{Vec}
use Rattle.std.specs.declared.alloc.Global.{Global}
use Rattle.pli_serving.specs.AggregateServices.{aggregate_served}
use Rattle.pli_serving.specs.Outcomes.{or_bad}
use Rattle.pli_storage.specs.Held.{with_held}
use Rattle.pli_transmission.specs.Transmitting.{on_entries}
use Rattle.pli_values.specs.Calls.{call_on}
use Rattle.pli_values.specs.View.{layout_of}
use Rattle.pli_aggregates.specs.Scalars.{with_all}
use Rattle.pli_aggregates.proofs.Parting.{answers_as}
use Rattle.pli_parts.specs.Found.{part_asked}
use Rattle.pli_parts.specs.Served.{entries_left, entry_of, taken_put}
use Rattle.pli_parts.specs.declared.leaf.PartLeaf.{PartLeaf}
use Rattle.pli_parts.proofs.Serves.{put_found_so, readable_if}
use Rattle.pli_parts.proofs.putting.put_aggregate.Goals as goal

pub put_found-requires : goal.put_found-requires
put_found-requires g c =
    let h = c.args.held.now in
    let m = c.args.memory.now in
    let w = c.args.asked in
    let some = with_held g.K.AreaKeeper.keeper h m (call_on (layout_of h.layout) m) in
    readable_if some (part_asked some w) w.first w.leaves h.layout.end (length m) c.in-Ok.found c.requires.end_within (c.in-Ok.ensures (call_on (layout_of h.layout) m))

pub returns-in-Ok : goal.returns-in-Ok
returns-in-Ok g c = λ c' below.
    let h = c.args.held.now in
    let m = c.args.memory.now in
    let w = c.args.asked in
    let ts = c.args.taken.now in
    let entries = entry_of ts ∷ below in
    let old = with_all g.K.AreaKeeper.keeper h m entries c' in
    let new = with_all g.K.AreaKeeper.keeper h c.put_found.new.memory (entries_left c.put_found.result entries) c' in
    answers_as (λ t. aggregate_served t w.at w.first w.leaves w.given 1)
    (λ t. or_bad (option_map (λ (v : Vec PartLeaf Global). v.items) c.in-Ok.found) (λ ls. taken_put w.at ls ts below t)) old new c.put_found.result
    (put_found_so old w h.layout.end c.in-Ok.found ts below (c.in-Ok.ensures (on_entries entries c')) refl) (c.put_found.ensures g.K.AreaKeeper.keeper h c' below)
