use Rattle.std.proofs.Common.{sym, map}
use Rattle.pli_types.specs.View.{pair_of}
use Rattle.pli_signatures.proofs.Capping.{within_uneven, place_outside}
use Rattle.pli_signatures.proofs.element.element_place.Goals as goal

pub returns-then-dimensions-subscripts : goal.returns-then-dimensions-subscripts
returns-then-dimensions-subscripts c =
    sym (place_outside (map pair_of c.args.dimensions.now) c.args.subscripts.now (sym (within_uneven c.args.dimensions.now c.args.subscripts.now c.if-dimensions-subscripts.true)))
