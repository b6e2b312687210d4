use Rattle.pli_edit.specs.FormatPlaces.{left_of}
use Rattle.pli_edit.proofs.FormatPieces.{kept}
use Rattle.pli_edit.proofs.pieces.peek.Goals as goal

pub returns-clause-same : goal.returns-clause-same
returns-clause-same c =
    kept c.args.nodes.now c.front.new.pieces.items c.push_reserved.new.self.items (left_of c.args.nodes.now c.args.pieces.now.items)
    c.in_ok-times.field-0 c.in-Some.times c.in-Some.format c.in-Some.is c.in_ok-times.ensures.first c.push_reserved.ensures.items
