use Rattle.std.proofs.Common.{◌≡◌, ◌-◌, ◌<◌, ◌∙◌, ◌∷◌, ap, arith, length, subst, sym}
use Rattle.pli_making.specs.InUse.{IsCounted}
use Rattle.pli_making.proofs.Counts.{added, unowned, written_last}
use Rattle.pli_making.proofs.in_use.InUse.add.Goals as goal

pub returns-then-owner-eq0-clause-counted : goal.returns-then-owner-eq0-clause-counted
returns-then-owner-eq0-clause-counted c = λ templates ls l counted owner known same. unowned templates ls c.args.self.now l counted (owner ∙ c.if-owner-eq0.true) known

pub returns-clause-counted : goal.returns-clause-counted
returns-clause-counted c = λ templates ls l counted owner known same.
    let items = c.self.inside.totals.items in
    let totals = c.args.self.now in
    let other = c.if-owner-eq0.false in
    let many : c.len-last.result ≡ length items = grind (arith, c.len-last.ensures) in
    let last = c.requires.last other in
    let view = ap length c.self.view_is in
    let is : c.len-last.result - 1 ≡ length items - 1 = ap (λ n. n - 1) many in
    let inside : c.len-last.result - 1 < length items = omega (arith, many, last, view, other) in
    subst (IsCounted templates (l ∷ ls)) (sym (written_last items totals (c.len-last.result - 1) c.index_mut.result.now c.args.bytes c.self.view_is is inside c.index_mut.ensures.value))
    (added templates ls totals l c.args.bytes counted (owner ∙ last) known (same other))
