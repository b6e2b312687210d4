use Rattle.std.proofs.Common.{◌≡◌, ℕ, List, false, sym, subst, ap, ◌∙◌}
use Rattle.std.specs.Prelude.{MatchOption, ⊤}
use Rattle.pli_edit.specs.Feeding.{Agrees}
use Rattle.pli_edit.specs.Fields.{IsLineField}
use Rattle.pli_edit.specs.Streams.{Held, has_failed, input_of}
use Rattle.pli_edit.proofs.FeedCalls.{field_there}
use Rattle.pli_edit.proofs.feed_input.FeedInput.line_field.Goals as goal

pub returns : goal.returns
returns g c =
    let h : Held = record { marked = c.self.inside.marks; column = c.self.inside.column } in
    subst (λ (h : Held). MatchOption c.line.result ⊤
    (λ field. (has_failed h ≡ false) ×
    ((all : List ℕ) → Agrees h.marked.fed all → IsLineField c.args.width (input_of h all) field.now)))
    c.self.view_is
    (field_there (λ line. line.now) c.line.result c.args.width h
    (ap has_failed c.self.view_is ∙ (sym c.has_failed.ensures ∙ c.if-has_failed.false)) c.line.ensures)
