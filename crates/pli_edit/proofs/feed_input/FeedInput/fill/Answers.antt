use Rattle.std.proofs.Common.{◌≡◌, ℕ, List, ◌++◌, [], length, replicate, true, Ok, subst, ap, ◌∙◌}
use Rattle.std.proofs.Common.{arith, length-append}
use Rattle.std.proofs.lemmas.List.{length-replicate, length-take-le}
use Rattle.pli_meaning.specs.InputLines.{characters}
use Rattle.pli_meaning.specs.Texts.{fitted}
use Rattle.pli_edit.specs.Fields.{TakesText}
use Rattle.pli_edit.specs.KnownMarks.{marks_left, wants_characters}
use Rattle.pli_edit.specs.ReadChains.{agrees_now}
use Rattle.pli_edit.specs.Streams.{Held, Reaches}
use Rattle.pli_edit.proofs.FeedCalls.{field_taken, reaches_gone, reaches_unread}
use Rattle.pli_edit.proofs.Passing.{put}
use Rattle.pli_edit.proofs.feed_input.FeedInput.fill.Goals as goal

fitted_length : (width : ℕ) (text : List ℕ) → length (fitted width text) ≡ width
fitted_length width text =
    let size = length-append text (replicate width 32) in
    let blanks = length-replicate {A = ℕ} width 32 in
    length-take-le width (text ++ replicate width 32) (omega (arith, size, blanks))

pub unwrap-requires : goal.unwrap-requires
unwrap-requires g c =
    let w = c.args.width in
    let h = c.args.self.now in
    let all = h.marked.fed.history.bytes ++ [] in
    let there = c.in-Some.ensures.1 all (agrees_now h.marked.fed) in
    let size : length c.in-Some.line.now ≡ w =
    ap length there.2 ∙ fitted_length w (characters w (marks_left h.marked all)) in
    let none = c.requires.empty.1 in
    let room = c.requires.capacity in
    c.extend_from_slice.ensures.succeeds (omega (arith, size, none, room))

pub returns-in-Some : goal.returns-in-Some
returns-in-Some g c =
    let w = c.args.width in
    let h = c.args.self.now in
    let k = c.pass_line_field.new.self in
    let filled = rw c.unwrap.ensures at c.extend_from_slice.ensures.items in
    reaches_unread (wants_characters w) (λ i j. TakesText w i true (Ok c.extend_from_slice.new.self) j) h k
    c.in-Some.ensures.0 c.pass_line_field.ensures.fed
    (λ all agrees. (
      filled ∙ (ap (λ l. l ++ c.in-Some.line.now) c.requires.empty.0 ∙ (c.in-Some.ensures.1 all agrees).2),
      c.pass_line_field.ensures.passed all agrees,
    ))

pub returns : goal.returns
returns g c =
    let w = c.args.width in
    let s = c.self.inside in
    let t = c.take_characters in
    let column = c.in_ok-self-inside.field-0 in
    let h : Held = record { marked = s.marks; column = s.column } in
    let k : Held = record { marked = t.new.marks; column = column } in
    let resized = rw c.unwrap-2.ensures at c.resize.ensures.items in
    subst (λ (h : Held). Reaches (wants_characters w) (λ i j. TakesText w i true (Ok c.resize.new.self) j) h k)
    c.self.view_is
    (reaches_gone (wants_characters w) (put w s.column c.args.empty.items column t.new.field.items)
    (λ i j. TakesText w i true (Ok c.resize.new.self) j) h k
    c.in_ok-self-inside.ensures.reached c.in_ok-self-inside.ensures.room.1
    (λ old new e. (
      field_taken w _ c.args.empty.items t.new.field.items c.resize.new.self.items old
          c.requires.empty.0 e.1 (omega arith) resized,
      e.0,
    )))
