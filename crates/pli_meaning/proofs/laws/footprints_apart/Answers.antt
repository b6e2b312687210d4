use Rattle.std.proofs.Common.{arith}
use Rattle.pli_meaning.proofs.Gaps.{placed_in_order, freed_in_order, copied_in_order}
use Rattle.pli_meaning.proofs.laws.footprints_apart.Goals as goal

pub returns : goal.returns
returns c = record { placed = placed_in_order; freed = λ capacity offset placed i. freed_in_order 0 capacity offset placed i; assigned = λ capacity into placed i g. copied_in_order 0 capacity into placed i (omega arith) g }
