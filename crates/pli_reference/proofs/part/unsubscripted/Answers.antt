use Rattle.pli_typing.specs.TypedView.{reference_of}
use Rattle.pli_reference.proofs.Parts.{whole_shown}
use Rattle.pli_reference.proofs.part.unsubscripted.Goals as goal

pub returns : goal.returns
returns c = whole_shown c.args.shape.now (reference_of c.args.reference) c.leaves.result.now c.leaves.ensures
