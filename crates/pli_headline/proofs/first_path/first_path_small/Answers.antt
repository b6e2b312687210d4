use Rattle.pli_headline.proofs.FirstPathSmall.{first_path_small}
use Rattle.pli_headline.proofs.first_path.first_path_small.Goals as goal

pub returns : goal.returns
returns c = first_path_small
