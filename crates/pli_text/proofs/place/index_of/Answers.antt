use Rattle.std.proofs.Common.{◌<◌, length, arith}
use Rattle.pli_text.proofs.Finding.{index-none, index-some}
use Rattle.pli_text.proofs.place.index_of.Goals as goal

pub returns-in-None-clause-place : goal.returns-in-None-clause-place
returns-in-None-clause-place c = index-none _ _ (grind arith) c.in-None.ensures

pub returns-in-Some-clause-place : goal.returns-in-Some-clause-place
returns-in-Some-clause-place c = index-some _ _ _ (grind arith) c.in-Some.ensures

pub returns-in-Some-clause-within : goal.returns-in-Some-clause-within
returns-in-Some-clause-within c = let nonempty : 0 < length c.args.pattern.now = grind arith in omega (arith, c.in-Some.ensures.1.fits)
