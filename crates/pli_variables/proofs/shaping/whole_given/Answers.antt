use Rattle.std.proofs.Common.{◌∙◌, ap, Some}
use Rattle.pli_variables.specs.ShownShapes.{home_of}
use Rattle.pli_variables.proofs.Shaped.{whole_first}
use Rattle.pli_variables.proofs.shaping.whole_given.Goals as goal

pub returns-in_ok-shape_among-in-len1-up : goal.returns-in_ok-shape_among-in-len1-up
returns-in_ok-shape_among-in-len1-up c =
    ap Some c.in_ok-shape_among-in-len1-up.ensures
    ∙ whole_first (home_of c.args.home.now) c.args.members.now c.held-item.result c.in-len1-up.len_at_least c.held-item.is
