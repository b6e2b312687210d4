use Rattle.std.proofs.Common.{◌<◌, ◌^◌, ◌∙◌, arith, rules, sym}
use Rattle.pli_typing.specs.Signatures.{leaves_size}
use Rattle.pli_values.specs.Beginnings.{leaves_of}
use Rattle.pli_values.specs.View.{layout_of}
use Rattle.pli_making.proofs.Fittings.{begun_short, data_inside, uncapped}
use Rattle.pli_making.proofs.content.written.Goals as goal

pub returns-clause-fits : goal.returns-clause-fits
returns-clause-fits c = λ k.
    let l = layout_of c.args.layout in
    let b = c.args.begun.now in
    let size = c.data_size-size.result in
    let small : c.args.layout.end < 2 ^ 32 = search rules in
    let there = sym c.if-not-is_data.false ∙ c.is_data.ensures in
    let few = begun_short b c.in_ok-bytes.bytes.items size c.in_ok-bytes.ensures (uncapped l c.args.at (leaves_size (leaves_of b)) size small c.data_size-size.ensures there) in
    let inside = data_inside l c.args.at size there in
    omega (arith, few, inside)
