use Rattle.pli_headline.proofs.FirstPathProved.{first_path_proved}
use Rattle.pli_headline.proofs.first_path.first_path_proved.Goals as goal

pub returns : goal.returns
returns c = first_path_proved
