use Rattle.pli_declare.specs.Shown.{held_of}
use Rattle.pli_variables.proofs.Dimensions.{counted}
use Rattle.pli_variables.proofs.leaf.count_of_dimensions.Goals as goal

pub returns : goal.returns
returns c = counted (held_of c.args.held.now) c.all_dimensions-count.result c.all_dimensions-count.ensures c.if-count.false
