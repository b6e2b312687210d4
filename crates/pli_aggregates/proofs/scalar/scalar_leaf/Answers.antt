use Rattle.std.proofs.Common.{Option, Ok, refl, subst}
use Rattle.pli_serving.specs.Finding.{Call}
use Rattle.pli_serving.specs.Outcomes.{or_bad}
use Rattle.pli_signatures.specs.View.{leaf_in_force}
use Rattle.pli_serving.specs.Templates.{shape_at}
use Rattle.pli_storage.specs.Findings.{found_of}
use Rattle.pli_aggregates.specs.declared.part.PlacedLeaf.{PlacedLeaf}
use Rattle.pli_aggregates.specs.Parts.{IsLeafOf, IsPlaced}
use Rattle.pli_aggregates.specs.Records.{aggregate_shown, record_shown}
use Rattle.pli_aggregates.specs.Scalars.{scalar_of, with_all}
use Rattle.pli_aggregates.proofs.Parting.{answers_as, no_leaf_shown, ready_of, shape_there, shaped}
use Rattle.pli_aggregates.proofs.scalar.scalar_leaf.Goals as goal

pub returns-in-Some : goal.returns-in-Some
returns-in-Some g c = λ c' n.
    let a = c.args.aggregate in
    let templates = c.args.held.now.signatures in
    let end = c.args.held.now.layout.end in
    let placed : IsLeafOf (shape_at templates a.signature) a.extent c.args.leaf (found_of c.args.found) end c.in-Some.placed =
    subst (λ (o : Option PlacedLeaf). IsPlaced (shape_at templates a.signature) a.extent c.args.leaf (found_of c.args.found) end (Ok o)) c.in-Some.is c.requires.placed in
    let there = shape_there (shape_at templates a.signature) c.args.leaf a.extent (leaf_in_force c.in-Some.placed.in_force) placed.in_force in
    let s = there.0 in
    let old = with_all g.K.AreaKeeper.keeper c.args.held.now c.args.memory.now c.args.entries.now c' in
    let new = with_all g.K.AreaKeeper.keeper c.args.held.now c.scalar_placed.new.memory c.scalar_placed.new.entries c' in
    let service = λ (t : Call). scalar_of t c.args.first c.args.leaf c.args.value in
    answers_as (λ t. or_bad (aggregate_shown templates a) (service t)) (λ t. service t (record_shown a s)) old new c.scalar_placed.result
    (shaped templates a s (service old) there.1)
    (c.scalar_placed.ensures c' (record_shown a s) (found_of c.args.found) (ready_of old templates c.args.leaf end a (found_of c.args.found) c.in-Some.placed s there.1 n placed))

pub returns-in-None : goal.returns-in-None
returns-in-None g c = λ c' n.
    let a = c.args.aggregate in
    let templates = c.args.held.now.signatures in
    let end = c.args.held.now.layout.end in
    let old = with_all g.K.AreaKeeper.keeper c.args.held.now c.args.memory.now c.args.entries.now c' in (
      no_leaf_shown old c.args.first c.args.leaf c.args.value end templates a (found_of c.args.found)
          (subst (λ (o : Option PlacedLeaf). IsPlaced (shape_at templates a.signature) a.extent c.args.leaf (found_of c.args.found) end (Ok o)) c.in-None.is c.requires.placed),
      refl,
      refl,
    )
