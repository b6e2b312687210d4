use Rattle.std.proofs.Common.{◌++◌, ◌∙◌, ap, append_assoc}
use Rattle.std.proofs.Math.Facts.{to_z-of_z}
use Rattle.pli_frames.specs.TakenView.{taken_of}
use Rattle.rv_operation.specs.Pieces.{constant_checked, constant_summed}
use Rattle.rv_operation.proofs.arithmetic.constant_added.Goals as goal

pub returns : goal.returns
unfolding constant_checked constant_summed
returns c =
    let old = c.args.code.now in
    let t = taken_of c.args.taken in
    let checked = constant_checked t c.args.constant in
    let kept = to_z-of_z c.ranges.constant in
    c.in_ok-constant_checked.ensures
    ∙ ap (λ z. c.constant_summed.new.code ++ constant_checked t z) kept
    ∙ ap (λ u. u ++ checked) c.in_ok-constant_summed.ensures
    ∙ ap (λ z. (old ++ constant_summed z) ++ checked) kept
    ∙ append_assoc old (constant_summed c.args.constant) checked
