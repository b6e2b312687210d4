use Rattle.std.proofs.Common.{ap, sym, ◌∙◌}
use Rattle.pli_language.specs.Nesting as N
use Rattle.pli_phrase.proofs.Newest.{newest_none}
use Rattle.pli_nest.proofs.Lists.{nothing}
use Rattle.pli_nest.specs.View.{frame_of, frames_of}
use Rattle.pli_nest.proofs.limits.labels_ended.Goals as goal

pub returns-in-None : goal.returns-in-None
returns-in-None c =
    sym (ap (λ fs. N.labels_ended (frames_of fs)) (nothing c.args.frames.now c.in-None.ensures.cases) ∙ ap N.labels_ended (newest_none frame_of))
