use Rattle.std.proofs.Common.{◌+◌, ℕ, ℤ, List, ap, ap₂, sym, ◌∙◌, rules, SFits, w32}
use Rattle.std.proofs.lemmas.Int.{to_z-of_z}
use Rattle.rv_meaning.specs.Words.{signed}
use Rattle.pli_serving.specs.Bytes.{word_at}
use Rattle.pli_values.specs.View.{name_of}
use Rattle.pli_aggregates.proofs.Recording.{aggregate_by}
use Rattle.pli_aggregates.proofs.record.record_with.Goals as goal

pub returns-clause-shown : goal.returns-clause-shown
returns-clause-shown c = λ c' s m.
    let n = name_of c.args.name in
    let fits : SFits w32 c.extent_at-extent.result = search rules in
    c.aggregate_with.ensures.shown s
    ∙ (ap (λ (z : ℤ). aggregate_by n c.args.signature s c.word_at-place.result z) (to_z-of_z w32 c.extent_at-extent.result fits)
    ∙ (ap₂ (λ (p : ℕ) (z : ℤ). aggregate_by n c.args.signature s p z) c.word_at-place.ensures c.extent_at-extent.ensures
    ∙ ap (λ (b : List ℕ). aggregate_by n c.args.signature s (word_at (c.args.at + 8) b) (signed (word_at (c.args.at + 12) b))) (sym m)))
