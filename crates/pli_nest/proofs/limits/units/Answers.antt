use Rattle.std.proofs.Common.{ap, arith}
use Rattle.pli_language.specs.Nesting as N
use Rattle.pli_phrase.proofs.Newest.{newest_none}
use Rattle.pli_nest.proofs.Lists.{nothing}
use Rattle.pli_nest.specs.View.{frame_of, frames_of}
use Rattle.pli_nest.proofs.limits.units.Goals as goal

pub returns : goal.returns
returns c =
    let none = ap (λ fs. N.units (frames_of fs)) (nothing c.loop-last.around.now c.in_default.ensures.cases) in
    let zero = ap N.units (newest_none frame_of) in
    omega (arith, c.loop-last.invariant.0, none, zero)
