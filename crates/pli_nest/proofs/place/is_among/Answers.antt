use Rattle.std.proofs.Common.{map, ap, sym, ◌∙◌}
use Rattle.pli_language.specs.View.{name_of}
use Rattle.pli_nest.specs.Steps.{is_among}
use Rattle.pli_nest.proofs.EndNames.{among_none}
use Rattle.pli_nest.proofs.Lists.{nothing}
use Rattle.pli_nest.proofs.place.is_among.Goals as goal

pub returns : goal.returns
returns c =
    let n = name_of c.args.name.now in
    let none = ap (λ ls. is_among n (map name_of ls)) (nothing c.loop-first.rest.now c.in_default.ensures.cases) in
    sym (among_none n) ∙ sym none ∙ c.loop-first.invariant
