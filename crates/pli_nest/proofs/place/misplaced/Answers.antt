use Rattle.std.proofs.Common.{map, ap, sym, ◌∙◌}
use Rattle.pli_language.specs.Nesting as N
use Rattle.pli_language.specs.View.{name_of}
use Rattle.pli_phrase.proofs.Newest.{newest_none}
use Rattle.pli_nest.proofs.Lists.{nothing}
use Rattle.pli_nest.specs.View.{frame_of, frames_of}
use Rattle.pli_nest.proofs.place.misplaced.Goals as goal

pub returns-in-None : goal.returns-in-None
returns-in-None c =
    let labels = map name_of c.args.labels.now in
    sym (ap (λ fs. N.misplaced (frames_of fs) labels c.args.at) (nothing c.args.frames.now c.in-None.ensures.cases) ∙ ap (λ fs. N.misplaced fs labels c.args.at) (newest_none frame_of))
