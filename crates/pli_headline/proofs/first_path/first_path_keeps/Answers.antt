use Rattle.pli_headline.proofs.FirstPathFits.{first_path_keeps}
use Rattle.pli_headline.proofs.first_path.first_path_keeps.Goals as goal

pub returns : goal.returns
returns c = first_path_keeps c.headline_so_far.ensures
