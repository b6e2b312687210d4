use Rattle.pli_declaring.specs.Statics.{taken_of}
use Rattle.std.proofs.Common.{map}
use Rattle.pli_declaring.proofs.Storing.{none_static, static_on}
use Rattle.pli_declaring.proofs.statics.noted_statics.Goals as goal

pub returns-then-is_all_within : goal.returns-then-is_all_within
returns-then-is_all_within c = none_static c.args.found (map taken_of c.args.statics.now) c.if-is_all_within.ensures

pub loop-taken-preserved : goal.loop-taken-preserved
loop-taken-preserved c =
    static_on c.loop-taken.found c.noted-found.result _ c.args.statics.now c.loop-taken.taken-index _ c.is_past_limit-broken.result c.loop-taken-test.true c.loop-taken.invariant c.is_past_limit-broken.ensures c.noted-found.ensures
