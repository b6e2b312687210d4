use Rattle.pli_serving.specs.Templates.{shape_at}
use Rattle.pli_signatures.specs.View.{kind_of}
use Rattle.pli_storage.specs.Findings.{found_of}
use Rattle.pli_aggregates.specs.Records.{record_shown}
use Rattle.pli_elements.proofs.Placing.{leaf_known, outcome_so}
use Rattle.pli_elements.proofs.standing.outcome_placed.Goals as goal

pub returns-in-Ok : goal.returns-in-Ok
returns-in-Ok c = λ c' s e k.
    let a = c.args.aggregate in
    let l = c.args.allocated.now in
    outcome_so c' c.args.register c.args.leaf c.in-Some.base (record_shown a s) c.args.subscripts.now (found_of c.args.found) l (kind_of c.args.kind) c.in-Ok.address c.outcome_with.result
    (record {
      had = leaf_known s c.args.found.extent c.args.leaf (shape_at c.args.held.now.signatures a.signature) l e c.requires;
      force = k;
      place = c.in-Some.ensures s e;
    })
    c.in-Ok.ensures c.outcome_with.ensures
