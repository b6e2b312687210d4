use Rattle.std.proofs.Common.{ℕ, Ok, Err}
use Rattle.std.specs.Prelude.{Vec, ℤ}
use Rattle.std.specs.declared.alloc.Global.{Global}
use Rattle.pli_meaning.specs.InputLines.{has_character}
use Rattle.pli_edit.specs.Fields.{TakesNumber, TakesText}
use Rattle.pli_edit.specs.Streams.{input_of, wants_field}
use Rattle.pli_edit.proofs.FeedCalls.{number_is_no_read, reaches_map, reaches_tells, reaches_unread, tells_map}
use Rattle.pli_edit.proofs.Taking.{number-refused, number-taken, number-there}
use Rattle.pli_edit.proofs.feed_input.FeedInput.get_f.Goals as goal

pub returns-in-Some : goal.returns-in-Some
returns-in-Some g c =
    let w = c.args.width in
    let h = c.args.self.now in
    let k = c.pass_line_field.new.self in
    let r = c.number_told-told.result in
    reaches_tells (wants_field w) (λ i j. TakesNumber w i (has_character i.marks) r j) r h k
    (number_is_no_read _ r c.number_told-told.ensures)
    (reaches_unread (wants_field w) (λ i j. TakesNumber w i (has_character i.marks) r j) h k c.in-Some.ensures.0
    c.pass_line_field.ensures.fed
    (λ all agrees.
    let there = c.in-Some.ensures.1 all agrees in
    number-there w (input_of h all) (input_of k all) _ c.in-Some.field.now r there.1 there
    (c.pass_line_field.ensures.passed all agrees) c.number_told-told.ensures))

pub returns-in-Ok : goal.returns-in-Ok
returns-in-Ok g c =
    let w = c.args.width in
    let h = c.args.self.now in
    let k = c.get_a.new.self in
    let r = c.number_told.result in
    let told = rw c.deref.ensures.value at c.number_told.ensures in
    reaches_tells (wants_field w) (λ i j. TakesNumber w i (has_character i.marks) r j) r h k
    (number_is_no_read _ r c.number_told.ensures)
    (reaches_map (wants_field w) (λ i j. TakesText w i (has_character i.marks) (Ok c.in-Ok.field) j)
    (λ i j. TakesNumber w i (has_character i.marks) r j) h k c.in-Ok.ensures
    (λ i j e. number-taken w i j (has_character i.marks) c.in-Ok.field r e told))

pub returns-in-Err : goal.returns-in-Err
returns-in-Err g c =
    let w = c.args.width in
    let f = c.in-Err.fault in
    tells_map (Vec ℕ Global) ℤ (wants_field w) (λ i j. TakesText w i (has_character i.marks) (Err f) j)
    (λ i j. TakesNumber w i (has_character i.marks) (Err f) j) f c.args.self.now c.get_a.new.self c.in-Err.ensures
    (λ i j e. number-refused w i j (has_character i.marks) f e)
