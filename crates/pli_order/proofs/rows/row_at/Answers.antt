use Rattle.std.proofs.Common.{◌∙◌, ◌++◌, ap, option_map, sym}
use Rattle.pli_order.proofs.Bounding.{row_missing, row_past, row_there}
use Rattle.pli_order.proofs.rows.row_at.Goals as goal

pub returns-in_default : goal.returns-in_default
returns-in_default c = row_missing c.args.bounds.now c.behind.result.now c.args.dimensions c.args.given.now c.args.row c.behind.ensures c.in_default.ensures

pub returns-in_default-2 : goal.returns-in_default-2
returns-in_default-2 c =
    row_past c.args.bounds.now c.in-Some.own.now c.behind.result.now c.args.dimensions c.args.given.now c.args.row c.behind.ensures c.in-Some.ensures.0 c.in-Some.ensures.1
    (ap (option_map (λ s. s.items)) (sym c.in_default-2.is) ∙ c.in_ok-more.ensures)

pub returns : goal.returns
returns c =
    row_there c.args.bounds.now c.in-Some.own.now c.behind.result.now c.args.dimensions c.args.given.now c.in-Some-2.more.items c.in_ok-all.all.items c.args.row c.behind.ensures c.in-Some.ensures.0 c.in-Some.ensures.1
    (ap (option_map (λ s. s.items)) (sym c.in-Some-2.is) ∙ c.in_ok-more.ensures)
    (c.in_ok-all.ensures ∙ ap (λ js. c.args.given.now ++ js) c.as_slice.ensures)
