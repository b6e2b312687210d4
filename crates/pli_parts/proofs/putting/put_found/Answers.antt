use Rattle.std.proofs.Common.{◌∙◌, ◌∷◌, List, Option, ap, option_map, sym}
use Rattle.std.specs.Prelude.{Vec}
use Rattle.std.specs.declared.alloc.Global.{Global}
use Rattle.pli_serving.specs.Outcomes.{or_bad}
use Rattle.pli_aggregates.specs.Scalars.{with_all}
use Rattle.pli_aggregates.proofs.Parting.{answers_as}
use Rattle.pli_parts.specs.Served.{entries_left, entry_of, taken_put}
use Rattle.pli_parts.specs.declared.leaf.PartLeaf.{PartLeaf}
use Rattle.pli_parts.proofs.putting.put_found.Goals as goal

pub returns-in-Some : goal.returns-in-Some
returns-in-Some c = λ k h c' below.
    let m = c.args.memory.now in
    let ts = c.args.taken.now in
    let entries = entry_of ts ∷ below in
    let old = with_all k h m entries c' in
    let new = with_all k h c.put_part.new.memory (entries_left c.put_part.result entries) c' in
    answers_as (λ t. or_bad (option_map (λ (v : Vec PartLeaf Global). v.items) c.args.found) (λ ls. taken_put c.args.at ls ts below t)) (taken_put c.args.at c.deref.result.now ts below) old new c.put_part.result
    (ap (λ (o : Option (Vec PartLeaf Global)). or_bad (option_map (λ (v : Vec PartLeaf Global). v.items) o) (λ ls. taken_put c.args.at ls ts below old)) c.in-Some.is
    ∙ ap (λ (ls : List PartLeaf). taken_put c.args.at ls ts below old) (sym c.deref.ensures.value))
    (c.put_part.ensures k h c' below)
