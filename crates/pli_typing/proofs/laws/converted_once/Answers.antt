use Rattle.pli_typing.proofs.Conversions.{once}
use Rattle.pli_typing.proofs.laws.converted_once.Goals as goal

pub returns : goal.returns
returns c = once
