use Rattle.rv_program.proofs.Steps.{image_is}
use Rattle.rv_program.proofs.Holding.{code_holds}
use Rattle.rv_program.proofs.generate.generate.Goals as goal

pub returns : goal.returns
returns c = record {
  image_is = image_is _ _ _ c.in_ok-known.known.typed.now c.args.typed.now c.in_ok-known.ensures c.in_ok-code.ensures c.in_ok-table.ensures c.in_ok-image_with.ensures;
  holds = code_holds c.in_ok-code.code c.in_ok-known.known.typed.now c.args.typed.now c.in_ok-known.ensures c.in_ok-code.ensures c.holds_numbers.ensures;
}
