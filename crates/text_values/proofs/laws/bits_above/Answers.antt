use Rattle.text_values.proofs.Comparisons.{above_bit, alone_bit}
use Rattle.text_values.proofs.laws.bits_above.Goals as goal

pub returns : goal.returns
returns c = record { above = above_bit; alone = alone_bit }
