use Rattle.std.proofs.Common.{◌≡◌, true, rules}
use Rattle.pli_serving.specs.Bytes.{is_data}
use Rattle.pli_values.specs.View.{layout_of}
use Rattle.pli_values.specs.Calls.{call_of}
use Rattle.pli_shapes.proofs.Parts.{one_read}
use Rattle.pli_shapes.proofs.shape.leaf_shape.Goals as goal

pub returns : goal.returns
returns c =
    let there : is_data (layout_of c.args.source.now.layout) c.args.at 16 ≡ true = search (rules, c.is_data.ensures, c.if-not-is_data.false) in
    one_read (call_of c.args.source.now) c.args.at c.word_at.result c.word_at-2.result c.in-Some.part there c.in-Some.ensures.part c.in-Some.ensures.within c.if-part-ne0.false c.word_at.ensures c.word_at-2.ensures
