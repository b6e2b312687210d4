use Rattle.pli_signatures.proofs.Capping.{within_uneven}
use Rattle.pli_signatures.proofs.element.is_within.Goals as goal

pub returns-then-dimensions-subscripts : goal.returns-then-dimensions-subscripts
returns-then-dimensions-subscripts c = within_uneven c.args.dimensions.now c.args.subscripts.now c.if-dimensions-subscripts.true
