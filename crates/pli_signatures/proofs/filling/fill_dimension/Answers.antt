use Rattle.pli_types.specs.View.{pair_of}
use Rattle.pli_signatures.proofs.Fillings.{pair_filled, pair_refused, pair_missing}
use Rattle.pli_signatures.proofs.filling.fill_dimension.Goals as goal

pub returns-then-at-pairs : goal.returns-then-at-pairs
returns-then-at-pairs c = pair_missing c.args.is_referred (pair_of c.args.given) c.args.dimension c.args.pairs.now c.if-at-pairs.true

pub returns-in_default : goal.returns-in_default
returns-in_default c = pair_refused c.args.is_referred (pair_of c.args.given) c.args.dimension c.args.pairs.now c.if-at-pairs.false c.in_default.ensures

pub returns : goal.returns
returns c = pair_filled c.args.is_referred (pair_of c.args.given) c.args.dimension c.args.pairs.now c.in-Some.pair c.if-at-pairs.false c.in-Some.ensures
