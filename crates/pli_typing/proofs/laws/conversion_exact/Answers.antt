use Rattle.pli_typing.proofs.Conversions.{computed, converts}
use Rattle.pli_typing.proofs.laws.conversion_exact.Goals as goal

pub returns : goal.returns
returns c = λ from to d. (λ h. computed h, converts from to d)
