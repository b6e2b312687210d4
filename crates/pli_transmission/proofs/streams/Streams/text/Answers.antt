use Rattle.std.proofs.Common.{◌≡◌, ◌+◌, length, take, arith}
use Rattle.pli_serving.specs.Edits.{text_served}
use Rattle.pli_services.specs.Shown.{world_of}
use Rattle.pli_transmission.specs.Transmitting.{places_of}
use Rattle.pli_transmission.proofs.Newest.{newest_puts, newest_with_entries}
use Rattle.pli_transmission.proofs.streams.Streams.text.Goals as goal

pub returns-clause-answers : goal.returns-clause-answers
returns-clause-answers g c = λ c' all agrees whole.
    let edits = c.args.self.now.edits.items in
    let newest = c.in-Some.newest in
    let is_newest : newest + 1 ≡ length edits = omega (arith, c.in-Some.ensures) in
    newest_with_entries (λ t. text_served t c.args.first c.args.second) (world_of g.O.OutputStream.output c.args.shown.now)
    (world_of g.O.OutputStream.output c.text.new.shown) (g.I.InputStream.input c.args.self.now.input all)
    (g.I.InputStream.input c.text.new.input all) c.args.entries.now c.text.new.entries edits newest
    c.index_mut.result.now c.text.new.edit c' c.text.result
    is_newest c.index_mut.ensures.value (c.text.ensures.answers c' all agrees whole (places_of (take newest edits)))

pub returns-clause-unread : goal.returns-clause-unread
returns-clause-unread g c = λ none.
    let edits = c.args.self.now.edits.items in
    let newest = c.in-Some.newest in
    let is_newest : newest + 1 ≡ length edits = omega (arith, c.in-Some.ensures) in
    c.text.ensures.unread (newest_puts edits newest c.index_mut.result.now is_newest c.index_mut.ensures.value none)
