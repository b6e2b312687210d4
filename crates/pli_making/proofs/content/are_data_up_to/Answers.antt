use Rattle.std.proofs.Common.{◌<◌, ◌^◌, rules}
use Rattle.pli_values.specs.View.{layout_of}
use Rattle.pli_making.proofs.Fittings.{capped_places}
use Rattle.pli_making.proofs.content.are_data_up_to.Goals as goal

pub returns : goal.returns
returns c = λ n e.
    let small : c.args.layout.end < 2 ^ 32 = search rules in
    capped_places (layout_of c.args.layout) c.args.wanted.place n c.args.wanted.name c.args.size c.are_data.result small e c.are_data.ensures
