use Rattle.pli_edit.proofs.FormatPieces.{left_three, weight_three}
use Rattle.pli_edit.proofs.pieces.put_split.Goals as goal

pub returns-in-Some-clause-left : goal.returns-in-Some-clause-left
returns-in-Some-clause-left c =
    let ns = c.args.nodes.now in
    left_three ns c.args.pieces.now.items c.put.new.pieces.items c.put-in-Some.new.pieces.items c.put-in-Some-2.new.pieces.items
    c.args.times c.args.start c.args.size c.in-Some.parts
    (c.put.ensures.left ns) (c.put-in-Some.ensures.left ns) (c.put-in-Some-2.ensures.left ns) c.in-Some.ensures

pub returns-in-Some-clause-lighter : goal.returns-in-Some-clause-lighter
returns-in-Some-clause-lighter c =
    let ns = c.args.nodes.now in
    weight_three ns c.args.pieces.now.items c.put.new.pieces.items c.put-in-Some.new.pieces.items c.put-in-Some-2.new.pieces.items
    c.args.times c.args.start c.args.size c.in-Some.parts
    (c.put.ensures.lighter ns) (c.put-in-Some.ensures.lighter ns) (c.put-in-Some-2.ensures.lighter ns) c.in-Some.ensures
