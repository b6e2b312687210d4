use Rattle.std.proofs.Common.{◌∙◌, sym}
use Rattle.controlled_gens.specs.Rooted.{livings}
use Rattle.pli_meaning.specs.Contents.{footprint_of}
use Rattle.pli_serving.specs.Arguments.{capacity_of}
use Rattle.pli_serving.specs.Making.{limited}
use Rattle.pli_serving.specs.Templates.{shape_at}
use Rattle.pli_storage.specs.Held.{with_held}
use Rattle.pli_values.specs.Beginnings.{shape_of}
use Rattle.pli_making.specs.InUse.{newest_total}
use Rattle.pli_making.specs.Making.{fresh_of, prepared_with}
use Rattle.pli_making.proofs.Limits.{footprint_fresh, known_signature, not_prepared, past_limit, weight_is, within_limit}
use Rattle.pli_making.proofs.starting.start_begun.Goals as goal

pub returns-then-passes_limit-clause-answer : goal.returns-then-passes_limit-clause-answer
returns-then-passes_limit-clause-answer g c = λ m c'.
    let h = c.args.held.now in
    let b = c.args.begun.now in
    let C = with_held g.K.AreaKeeper.keeper h m c' in
    let limit = c.passes_limit.ensures.limit h.signatures (livings h.variables.roots) (footprint_of (fresh_of b)) c.requires.counted (footprint_fresh b c.data_size.result c.footprint-counts.result c.requires.first c.data_size.ensures c.footprint-counts.ensures) in
    past_limit C c.args.wanted c.args.owner (fresh_of b) (sym c.if-passes_limit.true ∙ limit)

pub returns-in-Ok-clause-answer : goal.returns-in-Ok-clause-answer
returns-in-Ok-clause-answer g c = λ m c'.
    let h = c.args.held.now in
    let b = c.args.begun.now in
    let C = with_held g.K.AreaKeeper.keeper h m c' in
    let limit = c.passes_limit.ensures.limit h.signatures (livings h.variables.roots) (footprint_of (fresh_of b)) c.requires.counted (footprint_fresh b c.data_size.result c.footprint-counts.result c.requires.first c.data_size.ensures c.footprint-counts.ensures) in
    within_limit C c.args.wanted c.args.owner (fresh_of b) (sym c.if-passes_limit.false ∙ limit) ∙ c.in-Ok.ensures.answer m c' c.args.owner

pub returns-in-Err-clause-answer : goal.returns-in-Err-clause-answer
returns-in-Err-clause-answer g c = λ m c'.
    let h = c.args.held.now in
    let b = c.args.begun.now in
    let w = c.args.wanted in
    let C = with_held g.K.AreaKeeper.keeper h m c' in
    let limit = c.passes_limit.ensures.limit h.signatures (livings h.variables.roots) (footprint_of (fresh_of b)) c.requires.counted (footprint_fresh b c.data_size.result c.footprint-counts.result c.requires.first c.data_size.ensures c.footprint-counts.ensures) in
    not_prepared (limited C w.name w.signature w.place c.args.owner (fresh_of b)) (prepared_with C w c.args.owner (fresh_of b) (capacity_of (shape_of b))) C w c.args.owner c.in-Err.refusal
    (within_limit C w c.args.owner (fresh_of b) (sym c.if-passes_limit.false ∙ limit)) (c.in-Err.ensures.answer m c' c.args.owner)

pub returns-in-Ok-clause-started : goal.returns-in-Ok-clause-started
returns-in-Ok-clause-started g c =
    let h = c.args.held.now in
    let b = c.args.begun.now in
    let w = c.args.wanted in
    let size = footprint_fresh b c.data_size.result c.footprint-counts.result c.requires.first c.data_size.ensures c.footprint-counts.ensures in (
      c.in-Ok.ensures.ready,
      record {
        known = known_signature h.signatures w.signature (shape_of b) c.requires.whole;
        weight = λ o. weight_is (shape_at h.signatures w.signature) b c.footprint-counts.result (newest_total c.args.in_use.now) c.requires.whole size (c.passes_limit.ensures.few c.if-passes_limit.false o);
        few = λ o. c.passes_limit.ensures.few c.if-passes_limit.false o;
      },
    )
