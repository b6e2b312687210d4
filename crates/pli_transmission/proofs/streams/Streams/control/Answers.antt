use Rattle.std.proofs.Common.{◌≡◌, ◌+◌, length, take, arith}
use Rattle.pli_serving.specs.Edits.{control_served}
use Rattle.pli_services.specs.Shown.{world_of}
use Rattle.pli_transmission.specs.Transmitting.{places_of}
use Rattle.pli_transmission.proofs.Newest.{newest_answers, newest_puts}
use Rattle.pli_transmission.proofs.streams.Streams.control.Goals as goal

pub returns-clause-answers : goal.returns-clause-answers
returns-clause-answers g c = λ c' all agrees whole.
    let edits = c.args.self.now.edits.items in
    let newest = c.in-Some.newest in
    let is_newest : newest + 1 ≡ length edits = omega (arith, c.in-Some.ensures) in
    newest_answers (λ t. control_served t c.args.second) (world_of g.O.OutputStream.output c.args.shown.now)
    (world_of g.O.OutputStream.output c.control.new.shown) (g.I.InputStream.input c.args.self.now.input all)
    (g.I.InputStream.input c.control.new.input all) edits newest c.index_mut.result.now c.control.new.edit c'
    c.control.result
    is_newest c.index_mut.ensures.value (c.control.ensures.answers c' all agrees whole (places_of (take newest edits)))

pub returns-clause-unread : goal.returns-clause-unread
returns-clause-unread g c = λ none.
    let edits = c.args.self.now.edits.items in
    let newest = c.in-Some.newest in
    let is_newest : newest + 1 ≡ length edits = omega (arith, c.in-Some.ensures) in
    c.control.ensures.unread (newest_puts edits newest c.index_mut.result.now is_newest c.index_mut.ensures.value none)
