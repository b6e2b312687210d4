use Rattle.std.proofs.Common.{◌≡◌, ◌-◌, ◌∙◌, ap, length, slice_get, sym, map, None, Some}
use Rattle.pli_entries.specs.Kept.{leaf_of, leaves_on_top}
use Rattle.pli_entries.proofs.Tops.{aggregate_on_top, none_on_top, text_on_top}
use Rattle.pli_entries.proofs.entries.Entries.newest_leaves.Goals as goal

pub returns-in-None : goal.returns-in-None
returns-in-None c =
    let held = c.self.inside.aggregates.items in
    let none : slice_get held (length held - 1) ≡ None = sym (c.in-None.ensures.value ∙ ap (λ xs. slice_get xs (length xs - 1)) c.deref.ensures.value) in
    sym (none_on_top c.self.inside.texts held none) ∙ ap leaves_on_top c.self.view_is

pub returns-then-height-newest-gt1 : goal.returns-then-height-newest-gt1
returns-then-height-newest-gt1 c =
    let held = c.self.inside.aggregates.items in
    let there : slice_get held (length held - 1) ≡ Some c.in-Some.newest.now = sym (c.in-Some.ensures.value ∙ ap (λ xs. slice_get xs (length xs - 1)) c.deref.ensures.value) in
    sym (text_on_top c.height.result c.self.inside.texts held c.in-Some.newest.now there c.height.ensures c.self.invariant c.if-height-newest-gt1.true) ∙ ap leaves_on_top c.self.view_is

pub returns-else-height-newest-gt1 : goal.returns-else-height-newest-gt1
returns-else-height-newest-gt1 c =
    let held = c.self.inside.aggregates.items in
    let there : slice_get held (length held - 1) ≡ Some c.in-Some.newest.now = sym (c.in-Some.ensures.value ∙ ap (λ xs. slice_get xs (length xs - 1)) c.deref.ensures.value) in
    ap (λ ls. Some (map leaf_of ls)) c.as_slice.ensures.value
    ∙ sym (aggregate_on_top c.height.result c.self.inside.texts held c.in-Some.newest.now there c.height.ensures c.self.invariant c.if-height-newest-gt1.false) ∙ ap leaves_on_top c.self.view_is
