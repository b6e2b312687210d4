use Rattle.std.proofs.Common.{ap, sym, ◌∙◌}
use Rattle.pli_phrase.proofs.Newest.{newest_none}
use Rattle.pli_nest.proofs.Lists.{nothing}
use Rattle.pli_nest.specs.Steps as S
use Rattle.pli_nest.specs.View.{frame_of, frames_of}
use Rattle.pli_nest.proofs.settle.is_then_whole.Goals as goal

pub returns-in-None : goal.returns-in-None
returns-in-None c =
    sym (ap (λ fs. S.is_then_whole (frames_of fs)) (nothing c.args.frames.now c.in-None.ensures.cases) ∙ ap S.is_then_whole (newest_none frame_of))
