use Rattle.std.proofs.Common.{◌≡◌, ◌-◌, ◌≤◌, ◌∙◌, ap, arith, length, subst, sym}
use Rattle.std.specs.Vec.{vec_len}
use Rattle.pli_making.specs.InUse.{IsCounted, newest_total}
use Rattle.pli_making.proofs.Counts.{filled_up, newest_filled, resized, resized_length}
use Rattle.pli_making.proofs.in_use.InUse.reach.Goals as goal

pub returns-clause-long : goal.returns-clause-long
returns-clause-long c =
    let v = c.self.inside.totals in
    let totals = c.args.self.now in
    let told : c.len-count.result ≡ length v.items = grind (arith, c.len-count.ensures) in
    let many : vec_len v ≡ length v.items = sym c.len-count.ensures ∙ told in
    let within : vec_len v ≤ c.args.height = omega (arith, c.if-height-count.false, c.len-count.ensures) in
    resized_length totals c.resize.new.self.items c.args.height (vec_len v) (many ∙ ap length c.self.view_is) within
    (resized v.items totals c.resize.new.self.items c.args.height (vec_len v) c.all-all.result c.self.view_is many within c.all-all.ensures.newest c.in_ok-resize.ensures.items)

pub returns-clause-newest : goal.returns-clause-newest
returns-clause-newest c =
    let v = c.self.inside.totals in
    let totals = c.args.self.now in
    let told : c.len-count.result ≡ length v.items = grind (arith, c.len-count.ensures) in
    let many : vec_len v ≡ length v.items = sym c.len-count.ensures ∙ told in
    let within : vec_len v ≤ c.args.height = omega (arith, c.if-height-count.false, c.len-count.ensures) in
    ap newest_total (resized v.items totals c.resize.new.self.items c.args.height (vec_len v) c.all-all.result c.self.view_is many within c.all-all.ensures.newest c.in_ok-resize.ensures.items)
    ∙ newest_filled totals (c.args.height - vec_len v)

pub returns-clause-counted : goal.returns-clause-counted
returns-clause-counted c = λ templates ls counted.
    let v = c.self.inside.totals in
    let totals = c.args.self.now in
    let told : c.len-count.result ≡ length v.items = grind (arith, c.len-count.ensures) in
    let many : vec_len v ≡ length v.items = sym c.len-count.ensures ∙ told in
    let within : vec_len v ≤ c.args.height = omega (arith, c.if-height-count.false, c.len-count.ensures) in
    subst (IsCounted templates ls) (sym (resized v.items totals c.resize.new.self.items c.args.height (vec_len v) c.all-all.result c.self.view_is many within c.all-all.ensures.newest c.in_ok-resize.ensures.items))
    (filled_up templates ls totals (c.args.height - vec_len v) counted)

pub returns-in_err-resize-clause-counted : goal.returns-in_err-resize-clause-counted
returns-in_err-resize-clause-counted c = λ templates ls counted. subst (IsCounted templates ls) (sym (c.in_err-resize.ensures.items ∙ c.self.view_is)) counted

pub returns-in_err-resize-clause-newest : goal.returns-in_err-resize-clause-newest
returns-in_err-resize-clause-newest c = ap newest_total (c.in_err-resize.ensures.items ∙ c.self.view_is)
