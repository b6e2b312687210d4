use Rattle.std.proofs.Common.{sym, ◌∙◌}
use Rattle.std.specs.Prelude.{reverse}
use Rattle.pli_entries.proofs.Served.{Shown, told_ok, told_residual}
use Rattle.pli_entries.proofs.entries.Entries.tell_word.Goals as goal

pub returns-in_err-number : goal.returns-in_err-number
returns-in_err-number c = λ call e.
    let s : Shown 1 c.self.inside.texts (reverse c.self.inside.aggregates.items) c.args.self.now = record { placed = c.self.invariant; is = c.self.view_is; texts = sym c.are_texts.ensures ∙ c.if-not-are_texts.false } in
    told_residual call c.args.mode c.in_err-number.field-0.0 _ c.self.inside.texts c.to_word.new.texts (reverse c.self.inside.aggregates.items) c.args.self.now c.from_residual.result s e c.in_err-number.ensures c.from_residual.ensures

pub returns : goal.returns
returns c = λ call e.
    let s : Shown 1 c.self.inside.texts (reverse c.self.inside.aggregates.items) c.args.self.now = record { placed = c.self.invariant; is = c.self.view_is; texts = sym c.are_texts.ensures ∙ c.if-not-are_texts.false } in
    told_ok call c.args.mode c.in_ok-number.number c.self.inside.texts c.to_word.new.texts (reverse c.self.inside.aggregates.items) c.args.self.now s e c.in_ok-number.ensures
