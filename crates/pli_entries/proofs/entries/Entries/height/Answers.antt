use Rattle.std.proofs.Common.{◌∙◌, ap, length, sym}
use Rattle.std.specs.Prelude.{reverse}
use Rattle.pli_entries.proofs.Stacks.{as_many}
use Rattle.pli_entries.proofs.entries.Entries.height.Goals as goal

pub returns : goal.returns
returns c = c.height.ensures ∙ sym (as_many c.self.inside.texts (reverse c.self.inside.aggregates.items)) ∙ ap length c.self.view_is
