use Rattle.std.proofs.Common.{◌∙◌, List, Option, ap, option_map, sym}
use Rattle.std.specs.Prelude.{Vec}
use Rattle.std.specs.declared.alloc.Global.{Global}
use Rattle.pli_serving.specs.Outcomes.{or_bad}
use Rattle.pli_aggregates.specs.Scalars.{with_all}
use Rattle.pli_aggregates.proofs.Parting.{answers_as}
use Rattle.pli_parts.specs.Served.{leaves_taken}
use Rattle.pli_parts.specs.declared.leaf.PartLeaf.{PartLeaf}
use Rattle.pli_parts.proofs.taking.take_found.Goals as goal

pub returns-in-Some : goal.returns-in-Some
returns-in-Some c = λ k h c'.
    let m = c.args.memory.now in
    let old = with_all k h m c.args.entries.now c' in
    let new = with_all k h m c.take_part.new.entries c' in
    answers_as (λ t. or_bad (option_map (λ (v : Vec PartLeaf Global). v.items) c.args.found) (λ ls. leaves_taken c.args.at ls t)) (leaves_taken c.args.at c.deref.result.now) old new c.take_part.result
    (ap (λ (o : Option (Vec PartLeaf Global)). or_bad (option_map (λ (v : Vec PartLeaf Global). v.items) o) (λ ls. leaves_taken c.args.at ls old)) c.in-Some.is
    ∙ ap (λ (ls : List PartLeaf). leaves_taken c.args.at ls old) (sym c.deref.ensures.value))
    (c.take_part.ensures k h c')
