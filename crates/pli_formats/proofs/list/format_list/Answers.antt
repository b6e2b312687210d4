use Rattle.std.proofs.Common.{◌≡◌, ◌<◌, ◌^◌, length, true, Some, None, ap, ◌∙◌, rules}
use Rattle.pli_edit.specs.FormatPlaces.{items_of}
use Rattle.pli_serving.specs.Bytes.{is_data}
use Rattle.pli_values.specs.View.{layout_of}
use Rattle.pli_values.specs.Calls.{call_of}
use Rattle.pli_formats.proofs.Nodes.{list_at, put_back}
use Rattle.pli_formats.proofs.list.format_list.Goals as goal

pub returns-in_default-clause-items : goal.returns-in_default-clause-items
returns-in_default-clause-items c =
    let there : is_data (layout_of c.args.source.now.layout) c.args.at 4 ≡ true = search (rules, c.is_data.ensures, c.if-not-is_data.false) in
    let read = c.in_ok-nodes.ensures.nodes in
    list_at (call_of c.args.source.now) c.args.at c.word_at-count.result None there c.word_at-count.ensures c.if-count-eq0.false (rw c.in_default.is at read)

pub put_sizes-requires : goal.put_sizes-requires
put_sizes-requires c =
    let few = c.in_ok-nodes.ensures.few in
    let here : length c.in-Some.nodes.items < 2 ^ 32 = rw c.in-Some.is at few in
    rw c.deref_mut.ensures.value here

pub returns-clause-items : goal.returns-clause-items
returns-clause-items c =
    let there : is_data (layout_of c.args.source.now.layout) c.args.at 4 ≡ true = search (rules, c.is_data.ensures, c.if-not-is_data.false) in
    let read = c.in_ok-nodes.ensures.nodes in
    let sizes = put_back c.put_sizes.new.nodes c.deref_mut.result.now c.in-Some.nodes.items c.in-Some.nodes.len c.put_sizes.ensures c.deref_mut.ensures.value c.in-Some.nodes.ok.0 in
    ap (λ ns. Some (items_of ns)) sizes ∙ list_at (call_of c.args.source.now) c.args.at c.word_at-count.result (Some c.in-Some.nodes.items) there c.word_at-count.ensures c.if-count-eq0.false (rw c.in-Some.is at read)
