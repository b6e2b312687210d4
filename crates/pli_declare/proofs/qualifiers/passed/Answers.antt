use Rattle.std.proofs.Common.{◌<◌, sym, ◌∙◌, arith}
use Rattle.pli_declare.proofs.Parts.{found_on, found_off}
use Rattle.pli_declare.proofs.qualifiers.passed.Goals as goal

pub returns-then-same_bytes-clause-step : goal.returns-then-same_bytes-clause-step
returns-then-same_bytes-clause-step c ns =
    let some : 0 < c.args.left = omega (arith, c.if-left-eq0.false) in
    found_on c.args.qualifiers.now c.args.left _ c.args.name.now ns some c.requires (sym c.same_bytes.ensures ∙ c.if-same_bytes.true)

pub returns-clause-step : goal.returns-clause-step
returns-clause-step c ns =
    let some : 0 < c.args.left = omega (arith, c.if-left-eq0.false) in
    found_off c.args.qualifiers.now c.args.left _ c.args.name.now ns some c.requires (sym c.same_bytes.ensures ∙ c.if-same_bytes.false)
