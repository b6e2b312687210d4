use Rattle.std.proofs.Common.{map, arith, ap, ◌∙◌}
use Rattle.rv_address.specs.Rows.{items_of, place_in}
use Rattle.rv_address.proofs.Tabled.{already_there}
use Rattle.rv_address.proofs.known.put_words.Goals as goal

pub returns-then-place_in-len : goal.returns-then-place_in-len
returns-then-place_in-len c =
    already_there c.args.words.items c.args.table.now.items c.place_in.result
    (c.place_in.ensures.place ∙ ap (λ w. place_in w (map items_of c.deref-2.result.now)) c.deref.ensures.value ∙ ap (λ t. place_in c.args.words.items (map items_of t)) c.deref-2.ensures.value)
    (omega arith)
