use Rattle.std.proofs.Common.{◌≡◌, ◌++◌, ap, sym, ◌∙◌}
use Rattle.rv_meaning.specs.Memory.{bytes_of_words}
use Rattle.pli_language.specs.Tree.{Formats, FormatThen}
use Rattle.pli_language.specs.View.{format_of, formats_of}
use Rattle.pli_language.proofs.Views.{formats_of-More}
use Rattle.pli_coding.specs.StaticForms.{formats_words}
use Rattle.rv_data.specs.Waiting.{inside_words, waiting_words}
use Rattle.rv_data.proofs.Waits.{one_waits, turn}
use Rattle.rv_data.proofs.formats.put_first.Goals as goal

pub returns-in_ok-wait_inside-in-More-clause-words : goal.returns-in_ok-wait_inside-in-More-clause-words
returns-in_ok-wait_inside-in-More-clause-words c =
    let f = format_of c.in-More.first in
    let rest : Formats = formats_of c.deref.result.now in
    let waited = waiting_words c.args.waiting.now.items in
    let behind = one_waits c.args.waiting.now.items c.push.new.self.items c.deref.result c.in_ok-push-in-More.ensures.items in
    let shown : formats_of c.args.formats.now ≡ FormatThen c.in-More.place c.in-More.repetition f rest =
    ap formats_of c.in-More.is ∙ formats_of-More _ _ _ _ _ ∙ ap (λ r. FormatThen c.in-More.place c.in-More.repetition f (formats_of r)) (sym c.deref.ensures) in
    turn c.args.bytes.now.items (waiting_words c.wait_inside.new.waiting.items) c.put_item.new.bytes.items c.in-More.repetition c.in-More.place f rest waited
    c.in_ok-put_item-in-More.ensures (c.in_ok-wait_inside-in-More.ensures.words ∙ ap (λ u. inside_words f ++ u) behind)
    ∙ ap (λ fs. c.args.bytes.now.items ++ bytes_of_words (formats_words fs ++ waited)) (sym shown)
