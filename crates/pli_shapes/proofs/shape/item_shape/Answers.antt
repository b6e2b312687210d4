use Rattle.std.proofs.Common.{◌≡◌, ◌<◌, ◌^◌, length, true, None, rules}
use Rattle.pli_serving.specs.Bytes.{is_data}
use Rattle.pli_values.specs.View.{layout_of}
use Rattle.pli_values.specs.Calls.{call_of}
use Rattle.pli_shapes.proofs.Parts.{put_back, shape_at, shape_read}
use Rattle.pli_shapes.proofs.shape.item_shape.Goals as goal

pub returns-in_default-clause-shape : goal.returns-in_default-clause-shape
returns-in_default-clause-shape c =
    let there : is_data (layout_of c.args.source.now.layout) c.args.at 16 ≡ true = search (rules, c.is_data.ensures, c.if-not-is_data.false) in
    let read = c.in_ok-parts.ensures.parts in
    shape_at (call_of c.args.source.now) c.args.at None there (rw c.in_default.is at read)

pub put_sizes-requires : goal.put_sizes-requires
put_sizes-requires c =
    let few = c.in_ok-parts.ensures.few in
    let here : length c.in-Some.parts.items < 2 ^ 32 = rw c.in-Some.is at few in
    rw c.deref_mut.ensures.value here

pub returns-clause-shape : goal.returns-clause-shape
returns-clause-shape c =
    let there : is_data (layout_of c.args.source.now.layout) c.args.at 16 ≡ true = search (rules, c.is_data.ensures, c.if-not-is_data.false) in
    let read = c.in_ok-parts.ensures.parts in
    let sizes = put_back c.put_sizes.new.parts c.deref_mut.result.now c.in-Some.parts.items c.in-Some.parts.len c.put_sizes.ensures c.deref_mut.ensures.value c.in-Some.parts.ok.0 in
    shape_read (call_of c.args.source.now) c.args.at c.word_at.result c.word_at-2.result _ c.in-Some.parts.items there c.word_at.ensures c.word_at-2.ensures sizes (rw c.in-Some.is at read)
