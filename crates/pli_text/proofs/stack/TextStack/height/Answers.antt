use Rattle.std.proofs.Common.{ap, length, arith}
use Rattle.pli_text.proofs.Cuts.{length-pieces}
use Rattle.pli_text.proofs.stack.TextStack.height.Goals as goal

pub returns : goal.returns
returns c = omega (arith, length-pieces c.self.inside.starts.items c.self.inside.bytes.items, ap length c.self.view_is)
