use Rattle.std.proofs.Common.{◌≡◌, ◌∙◌, ℕ, List, Option, Some, ap, ap₂, sym, map}
use Rattle.std.specs.Prelude.{option_map}
use Rattle.pli_typing.specs.Signatures.{Bounds}
use Rattle.pli_serving.specs.Outcomes.{or_bad}
use Rattle.pli_serving.specs.SignatureService.{ExtentPlace, bounds_given, places_at}
use Rattle.pli_signatures.specs.View.{place_of}
use Rattle.pli_types.specs.View.{pair_of}
use Rattle.pli_values.specs.View.{layout_of}
use Rattle.pli_values.specs.declared.layout.Layout.{Layout}
use Rattle.pli_storage.specs.Extents.{extent_filled}
use Rattle.pli_storage.specs.Held.{holding, with_held}
use Rattle.pli_storage.proofs.Replying.{replies_by}
use Rattle.pli_storage.proofs.held.Held.signature.Goals as goal

pub returns-in-Some-clause-answers : goal.returns-in-Some-clause-answers
returns-in-Some-clause-answers g c = λ c'.
    let places_are : places_at (layout_of c.args.self.now.layout) c.args.places c.args.memory.now ≡ Some (map place_of c.deref.result.now) =
    ap₂ (λ (l : Layout) (m : List ℕ). places_at (layout_of l) c.args.places m) (sym c.new.ensures.layout) (sym c.new.ensures.memory)
    ∙ sym c.in_ok-list.ensures
    ∙ ap (option_map (λ places. map place_of places.items)) c.in-Some.is
    ∙ ap (λ items. Some (map place_of items)) (sym c.deref.ensures.value) in
    replies_by _ (extent_filled (with_held g.K.AreaKeeper.keeper c.args.self.now c.args.memory.now c') (pair_of c.bounds_given-extent.result) c.args.number (map place_of c.deref.result.now)) (holding c.args.self.now c'.services) c.args.memory.now c.fill.result (holding c.fill.new.self c'.services) c.args.memory.now
    (ap (λ (ps : Option (List ExtentPlace)). or_bad ps (λ ps. extent_filled (with_held g.K.AreaKeeper.keeper c.args.self.now c.args.memory.now c') (bounds_given c.args.lower c.args.upper) c.args.number ps)) places_are
    ∙ ap (λ (extent : Bounds). extent_filled (with_held g.K.AreaKeeper.keeper c.args.self.now c.args.memory.now c') extent c.args.number (map place_of c.deref.result.now)) (sym c.bounds_given-extent.ensures))
    (c.fill.ensures.answers c.args.memory.now c')
