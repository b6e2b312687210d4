use Rattle.std.proofs.Common.{◌∷◌}
use Rattle.pli_serving.specs.Edits.{text_by}
use Rattle.pli_edit.specs.FormatPlaces.{item_of}
use Rattle.pli_services.specs.Shown.{world_of}
use Rattle.pli_transmission.specs.Transmitting.{text_of, on_edit, on_entries}
use Rattle.pli_transmission.proofs.Replying.{answers_as, text_so}
use Rattle.pli_transmission.proofs.text.text_next.Goals as goal

pub returns-in-Some-clause-answers : goal.returns-in-Some-clause-answers
returns-in-Some-clause-answers g c = λ c' all agrees whole n below e d i.
    let x = c.args.first in
    let y = c.args.second in
    let place = c.args.edit.now.place in
    let old = on_entries c.args.entries.now (on_edit (world_of g.O.OutputStream.output c.args.shown.now)
    (g.I.InputStream.input c.args.input.now all) c.args.edit.now below c') in
    let new = on_entries c.text_field.new.entries (on_edit (world_of g.O.OutputStream.output c.text_field.new.shown)
    (g.I.InputStream.input c.text_field.new.input all) c.text_field.new.edit below c') in
    answers_as
    (λ t. text_by t x y n.behind.direction n.item (n.behind ∷ below))
    (λ t. text_of t x y place.direction c.in-Some.width (n.behind ∷ below)) old new c.text_field.result
    (text_so old x y c.in-Some.width n.behind.direction place.direction n.item (item_of c.args.format)
    (n.behind ∷ below) d i c.in-Some.ensures)
    (c.text_field.ensures.answers c' all agrees whole n below e)
