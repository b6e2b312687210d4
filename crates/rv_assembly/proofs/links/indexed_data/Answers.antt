use Rattle.std.proofs.Common.{List, map, take, sym, ap, subst}
use Rattle.std.proofs.lemmas.List.{take_all}
use Rattle.pli_coding.specs.StaticData.{PlacedDatum}
use Rattle.rv_assembly.specs.contracts.statics.DatumRefPartialEq.TheImpl as borrowed
use Rattle.rv_assembly.specs.Placed.{placed_of}
use Rattle.rv_assembly.specs.Found.{FindsData}
use Rattle.rv_assembly.proofs.Same.{same_is}
use Rattle.rv_assembly.proofs.Finding.{data_put, data_none, shown_to}
use Rattle.rv_assembly.proofs.links.indexed_data.Goals as goal

pub loop-datum-init : goal.loop-datum-init
loop-datum-init c = data_none c.new-index.result c.new-index.ensures.empty

pub loop-datum-preserved : goal.loop-datum-preserved
loop-datum-preserved c =
    let i = c.loop-datum.datum-index in
    let all = c.args.placed.now in
    let p = c.datum-item.result in
    subst (λ (ps : List PlacedDatum). FindsData c.insert_first.new.places ps) (sym (shown_to placed_of all i p c.loop-datum-test.true c.datum-item.is))
    (data_put borrowed.ghosts.eq same_is c.loop-datum.index c.insert_first.new.places p.datum p.place (map placed_of (take i all)) c.in_ok-insert_first.ensures c.loop-datum.invariant)

pub returns : goal.returns
returns c =
    subst (λ (ps : List PlacedDatum). FindsData c.loop-datum.index ps) (ap (map placed_of) (take_all c.loop-datum.datum-index c.args.placed.now c.loop-datum-test.false)) c.loop-datum.invariant
