use Rattle.std.proofs.Common.{◌≡◌, ◌-◌, ◌∙◌, ap, length, slice_get, sym, None, Some}
use Rattle.pli_serving.specs.Blocks.{are_texts}
use Rattle.pli_entries.proofs.Stacks.{above, alone}
use Rattle.pli_entries.proofs.entries.Entries.are_texts.Goals as goal

pub returns-in-None : goal.returns-in-None
returns-in-None c =
    let held = c.self.inside.aggregates.items in
    let none : slice_get held (length held - 1) ≡ None = sym (c.in-None.ensures.value ∙ ap (λ xs. slice_get xs (length xs - 1)) c.deref.ensures.value) in
    alone c.args.count c.height-height.result c.self.inside.texts held none c.height-height.ensures ∙ ap (are_texts c.args.count) c.self.view_is

pub returns-in-Some : goal.returns-in-Some
returns-in-Some c =
    let held = c.self.inside.aggregates.items in
    let there : slice_get held (length held - 1) ≡ Some c.in-Some.newest.now = sym (c.in-Some.ensures.value ∙ ap (λ xs. slice_get xs (length xs - 1)) c.deref.ensures.value) in
    above c.args.count c.height-height.result c.self.inside.texts held c.in-Some.newest.now there c.height-height.ensures c.self.invariant ∙ ap (are_texts c.args.count) c.self.view_is
