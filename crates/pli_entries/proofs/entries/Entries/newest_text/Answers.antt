use Rattle.std.proofs.Common.{sym, ap, Some, ◌∙◌}
use Rattle.std.specs.Prelude.{reverse}
use Rattle.pli_entries.proofs.Newest.{no_text, top_is}
use Rattle.pli_entries.proofs.Served.{Shown, enough}
use Rattle.pli_entries.proofs.entries.Entries.newest_text.Goals as goal

pub top-requires : goal.top-requires
top-requires c =
    let s : Shown 1 c.self.inside.texts (reverse c.self.inside.aggregates.items) c.args.self.now =
    record {
      placed = c.self.invariant;
      is = c.self.view_is;
      texts = sym c.are_texts.ensures ∙ c.if-not-are_texts.false;
    } in
    enough 1 c.self.inside.texts (reverse c.self.inside.aggregates.items) c.args.self.now s

pub returns-then-not-are_texts : goal.returns-then-not-are_texts
returns-then-not-are_texts c = sym (no_text c.args.self.now (sym c.are_texts.ensures ∙ c.if-not-are_texts.true))

pub returns : goal.returns
returns c =
    let s : Shown 1 c.self.inside.texts (reverse c.self.inside.aggregates.items) c.args.self.now =
    record {
      placed = c.self.invariant;
      is = c.self.view_is;
      texts = sym c.are_texts.ensures ∙ c.if-not-are_texts.false;
    } in
    ap Some c.top.ensures ∙ sym (top_is c.self.inside.texts (reverse c.self.inside.aggregates.items) c.args.self.now s)
