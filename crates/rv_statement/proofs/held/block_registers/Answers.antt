use Rattle.std.proofs.Common.{ap}
use Rattle.pli_coding.specs.Environments.{Taken}
use Rattle.rv_statement.proofs.held.block_registers.Goals as goal

pub returns : goal.returns
returns c = ap (λ (t : Taken). t.registers) c.in_ok-taken.ensures
