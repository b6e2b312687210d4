use Rattle.std.proofs.Common.{ℕ, Option, ap, sym, refl, ◌∙◌}
use Rattle.std.specs.Prelude.{option_map}
use Rattle.pli_serving.specs.Aggregates.{aggregate_of, signature_meant}
use Rattle.pli_serving.specs.Arguments.{shape_of_number}
use Rattle.pli_serving.specs.Outcomes.{then_found}
use Rattle.pli_storage.specs.Held.{with_held}
use Rattle.pli_values.specs.View.{name_of}
use Rattle.pli_aggregates.proofs.Parting.{shown_by}
use Rattle.pli_aggregates.proofs.record.record_of.Goals as goal

pub returns-in-Some : goal.returns-in-Some
returns-in-Some c = λ k c'.
    let old = with_held k c.args.held.now c.args.memory.now c' in
    let n = name_of c.args.name in
    ap (λ (o : Option ℕ). then_found o (λ s. option_map (aggregate_of old c.args.at n s) (shape_of_number old s))) (ap (signature_meant old.services n) (sym c.word_at.ensures) ∙ c.in-Some.ensures k c.args.memory.now c')
    ∙ shown_by old c.args.at n c.in-Some.signature c.args.held.now.signatures c.record_with.result c.record_with.ensures.signature (λ s. c.record_with.ensures.shown old s refl)

pub returns-in-None : goal.returns-in-None
returns-in-None c = λ k c'.
    let old = with_held k c.args.held.now c.args.memory.now c' in
    let n = name_of c.args.name in
    ap (λ (o : Option ℕ). then_found o (λ s. option_map (aggregate_of old c.args.at n s) (shape_of_number old s))) (ap (signature_meant old.services n) (sym c.word_at.ensures) ∙ c.in-None.ensures k c.args.memory.now c')
