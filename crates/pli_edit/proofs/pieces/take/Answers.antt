use Rattle.pli_edit.specs.FormatPlaces.{left_of}
use Rattle.pli_edit.proofs.FormatPieces.{taken}
use Rattle.pli_edit.proofs.pieces.take.Goals as goal

pub returns : goal.returns
returns c =
    let ns = c.args.nodes.now in
    taken ns c.front.new.pieces.items c.put.new.pieces.items (left_of ns c.args.pieces.now.items)
    c.in_ok-times.field-0 c.in-Some.times c.in-Some.format c.in-Some.is c.in_ok-times.ensures.first (c.put.ensures.left ns)
