use Rattle.std.proofs.Common.{arith, ap, length, ◌-◌, ◌∙◌, ◌++◌, map}
use Rattle.pli_typing.specs.TypedView.{bounds_of}
use Rattle.rv_start.specs.Pieces.{first_filled}
use Rattle.rv_start.proofs.Steps.{last_there}
use Rattle.rv_start.proofs.statics.last_filled.Goals as goal

pub returns : goal.returns
returns c =
    let last = length c.args.leaves.now - 1 in
    last_there c.args.leaves.now c.index-leaves-last.result last _ _ c.args.number c.args.block c.args.index (omega (arith, c.if-leaves-eq0.false)) c.index-leaves-last.is
    (c.in_ok-first_filled.ensures ∙ ap (λ bs. c.args.code.now ++ first_filled c.args.number c.args.block c.args.index last (map bounds_of bs)) c.deref.ensures.value)
