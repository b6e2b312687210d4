use Rattle.std.proofs.Common.{Bool}
use Rattle.text_runs.proofs.Errors.{error_ends}
use Rattle.text_values.proofs.Conversions.{bit_pushes, number_of_bit, text_tells}
use Rattle.text_values.proofs.laws.bit_texts_do.Goals as goal

pub returns : goal.returns
returns c = record { text = bit_pushes; number = number_of_bit; shown = text_tells; ends = error_ends Bool }
