use Rattle.std.proofs.Common.{◌∙◌, ap, is_some, length, refl, rules, sym}
use Rattle.std.proofs.lemmas.Option.{slice_get_read}
use Rattle.pli_values.specs.Calls.{call_of}
use Rattle.pli_signatures.specs.View.{kind_of}
use Rattle.pli_values.proofs.LeafLists.{items_of_leaf}
use Rattle.pli_values.proofs.lists.leaf_list.Goals as goal

pub returns-then-not-are_items-clause-right : goal.returns-then-not-are_items-clause-right
returns-then-not-are_items-clause-right c =
    let leaves = c.args.leaves.now in
    let read = c.in_ok-found.ensures.lookup in
    let here = slice_get_read leaves (length leaves) c.args.leaf c.in_ok-found.found.now refl read.3.0 read.1 in
    sym c.if-not-are_items.true ∙ c.are_items.ensures
    ∙ ap is_some (items_of_leaf (call_of c.args.source.now) leaves c.args.leaf c.args.at c.word_at.result c.in_ok-found.found.now (kind_of c.element_kind.result) here c.element_kind.ensures (search (rules, c.is_data.ensures, c.if-not-is_data.false)) c.word_at.ensures)

pub returns-clause-right : goal.returns-clause-right
returns-clause-right c =
    let leaves = c.args.leaves.now in
    let read = c.in_ok-found.ensures.lookup in
    let here = slice_get_read leaves (length leaves) c.args.leaf c.in_ok-found.found.now refl read.3.0 read.1 in
    sym c.if-not-are_items.false ∙ c.are_items.ensures
    ∙ ap is_some (items_of_leaf (call_of c.args.source.now) leaves c.args.leaf c.args.at c.word_at.result c.in_ok-found.found.now (kind_of c.element_kind.result) here c.element_kind.ensures (search (rules, c.is_data.ensures, c.if-not-is_data.false)) c.word_at.ensures)
