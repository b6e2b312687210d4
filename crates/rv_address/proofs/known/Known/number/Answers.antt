use Rattle.std.proofs.Common.{arith}
use Rattle.pli_typing.specs.TypedStatementView.{program_of}
use Rattle.rv_address.proofs.Tabled.{truly, number_here}
use Rattle.rv_address.proofs.known.Known.number.Goals as goal

pub returns : goal.returns
returns c =
    number_here (program_of c.args.self.now.typed.now) c.args.self.now.numbers.items c.args.variable.block c.args.variable.index c.index.result.now c.index-row.result.now
    (truly _ _ c.args.self.now.exact_numbers) (omega arith) c.index-row.ensures (omega arith) c.index.ensures
