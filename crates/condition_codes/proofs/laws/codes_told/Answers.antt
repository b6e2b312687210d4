use Rattle.condition_codes.proofs.Codes.{code_does}
use Rattle.condition_codes.proofs.laws.codes_told.Goals as goal

pub returns : goal.returns
returns c = code_does
