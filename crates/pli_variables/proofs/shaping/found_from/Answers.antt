use Rattle.std.proofs.Common.{◌∙◌, map, sym, ap, arith}
use Rattle.std.proofs.lemmas.List.{take_rest}
use Rattle.pli_declare.specs.Shown.{held_of}
use Rattle.pli_variables.proofs.Ascending.{found_ascending}
use Rattle.pli_variables.proofs.shaping.found_from.Goals as goal

pub returns-then-is_at : goal.returns-then-is_at
returns-then-is_at c =
    ap (map held_of) (take_rest c.args.all.now c.likely_member-index.result)
    ∙ found_ascending c.args.place c.args.all.now c.likely_member-index.result c.index-all-index.result (c.requires c.if-in_order.true) (omega arith) c.index-all-index.is (sym c.is_at.ensures ∙ c.if-is_at.true)
