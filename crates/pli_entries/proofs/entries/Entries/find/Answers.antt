use Rattle.std.proofs.Common.{sym, ◌∙◌}
use Rattle.std.specs.Prelude.{reverse}
use Rattle.pli_entries.proofs.Served.{Shown, enough}
use Rattle.pli_entries.proofs.entries.Entries.find.Goals as goal

pub find-requires : goal.find-requires
find-requires c =
    let s : Shown 2 c.self.inside.texts (reverse c.self.inside.aggregates.items) c.args.self.now = record { placed = c.self.invariant; is = c.self.view_is; texts = sym c.are_texts.ensures ∙ c.if-not-are_texts.false } in
    enough 2 c.self.inside.texts (reverse c.self.inside.aggregates.items) c.args.self.now s
