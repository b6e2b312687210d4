use Rattle.std.proofs.Common.{◌<◌, ◌∙◌, arith, length}
use Rattle.pli_serving.specs.Templates.{shape_at}
use Rattle.pli_parts.proofs.Asked.{has_none, has_so}
use Rattle.pli_parts.proofs.part.has_leaves.Goals as goal

pub returns-then-count-eq0 : goal.returns-then-count-eq0
returns-then-count-eq0 c = λ s e. has_none (length s.signature.leaves) c.args.count c.if-count-eq0.true

pub returns : goal.returns
returns c = λ s e.
    let some : 0 < c.args.count = grind (arith, c.if-count-eq0.false) in
    c.is_some.ensures ∙ has_so s (shape_at c.args.held.now.signatures c.args.aggregate.signature) c.args.count c.leaf_place-last.result c.args.aggregate.extent some e (c.leaf_place-last.ensures c.args.aggregate.extent)
