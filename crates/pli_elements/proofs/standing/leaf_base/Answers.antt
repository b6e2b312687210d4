use Rattle.pli_serving.specs.Templates.{shape_at}
use Rattle.pli_serving.specs.Values.{leaf_place}
use Rattle.pli_meaning.specs.Contents.{leaves_with}
use Rattle.pli_aggregates.proofs.Recording.{place_known}
use Rattle.pli_elements.proofs.standing.leaf_base.Goals as goal

pub returns-in-Some : goal.returns-in-Some
returns-in-Some c = λ s e.
    c.base_of.ensures (leaf_place (leaves_with c.args.found.extent s) c.args.leaf) (place_known (shape_at c.args.held.now.signatures c.args.aggregate.signature) c.args.leaf c.in-Some.behind c.args.found.extent s (c.in-Some.ensures c.args.found.extent) e)
