use Rattle.pli_headline.proofs.FirstPathFits.{first_path_fits}
use Rattle.pli_headline.proofs.first_path.first_path_fits.Goals as goal

pub returns : goal.returns
returns c = first_path_fits
