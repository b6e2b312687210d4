use Rattle.pli_serving.specs.Templates.{shape_at}
use Rattle.pli_storage.specs.Findings.{found_of}
use Rattle.pli_parts.proofs.Placed.{found_if}
use Rattle.pli_parts.proofs.leaf.part_leaf.Goals as goal

pub returns-in-Ok : goal.returns-in-Ok
returns-in-Ok c = λ s e.
    let a = c.args.aggregate in
    found_if s a.extent (found_of c.args.found) c.args.given.now c.args.leaf c.args.held.now.layout.end (shape_at c.args.held.now.signatures a.signature) c.in-Ok.placed c.leaf_if.result e c.in-Ok.ensures c.leaf_if.ensures
