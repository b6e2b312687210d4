use Rattle.std.proofs.Common.{ap, sym, ◌∙◌}
use Rattle.pli_language.specs.Nesting as N
use Rattle.pli_phrase.proofs.Newest.{newest_none}
use Rattle.pli_nest.proofs.Lists.{nothing}
use Rattle.pli_nest.specs.View.{frame_of, frames_of}
use Rattle.pli_nest.proofs.limits.may_return.Goals as goal

pub returns : goal.returns
returns c =
    let none = ap (λ fs. N.may_return (frames_of fs)) (nothing c.loop-last.around.now c.in_default.ensures.cases) in
    sym (ap N.may_return (newest_none frame_of)) ∙ sym none ∙ c.loop-last.invariant
