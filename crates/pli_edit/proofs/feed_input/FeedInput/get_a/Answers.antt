use Rattle.std.proofs.Common.{◌≡◌, [], true, false, Err, refl}
use Rattle.std.proofs.Common.{subst, ◌∙◌, arith}
use Rattle.std.proofs.lemmas.Result.{err_from_is_err_and}
use Rattle.pli_meaning.specs.InputLines.{has_character}
use Rattle.pli_edit.specs.Fields.{TakesText}
use Rattle.pli_edit.specs.KnownMarks.{wants_characters}
use Rattle.pli_edit.specs.Streams.{Breaks, Held, Reaches, Tells, wants_field}
use Rattle.pli_edit.specs.declared.fault.EditFault.TheVariants as E
use Rattle.pli_edit.proofs.FeedCalls.{fails_at_once, field_wanted, no_field_left, reaches_at, reaches_left, tells_then}
use Rattle.pli_edit.proofs.FeedCalls.{text_left, width_wanted}
use Rattle.pli_edit.proofs.Moving.{breaks_weaken, moves_weaken}
use Rattle.pli_edit.proofs.feed_input.FeedInput.get_a.Goals as goal

pub returns-in_err-check : goal.returns-in_err-check
returns-in_err-check g c =
    let p = err_from_is_err_and c.from_residual.result c.from_residual.ensures.1 in
    rw (p.1, p.2, c.in_err-check.ensures.0)
    (fails_at_once (wants_field c.args.width) c.args.self.now c.in_err-check.ensures.1)

pub returns-in_err-has_character : goal.returns-in_err-has_character
returns-in_err-has_character g c =
    let w = c.args.width in
    let p = err_from_is_err_and c.from_residual-in_err-has_character.result
    c.from_residual-in_err-has_character.ensures.1 in
    rw (p.1, p.2, c.in_err-has_character.ensures.0)
    (subst (λ (h : Held). Breaks (wants_field w) h.marked c.has_character.new.self) c.self.view_is
    (breaks_weaken (wants_characters 1) (wants_field w) c.self.inside.marks c.has_character.new.self
    c.in_err-has_character.ensures.1 (λ ms t. field_wanted w ms t)))

pub returns-then-not-branch : goal.returns-then-not-branch
returns-then-not-branch g c =
    let w = c.args.width in
    let is_left = c.in_ok-has_character.field-0 in
    let none : is_left ≡ false = grind arith in
    let h : Held = record { marked = c.self.inside.marks; column = c.self.inside.column } in
    let k : Held = record { marked = c.has_character.new.self; column = c.self.inside.column } in
    let left = c.in_ok-has_character.ensures in
    subst (λ (h : Held). Reaches (wants_field w) (λ i j. TakesText w i (has_character i.marks) (Err E.AtEnd) j) h k)
    c.self.view_is
    (reaches_at (wants_characters 1) (wants_field w) (λ i j. (j ≡ i) × (has_character i.marks ≡ is_left))
    (λ i j. TakesText w i (has_character i.marks) (Err E.AtEnd) j) h k
    (reaches_left is_left h.marked k.marked c.self.inside.column left.0 left.1) (λ ms t. field_wanted w ms t)
    (λ old new e. no_field_left w _ _ (e.1 ∙ none) e.0))

pub returns : goal.returns
returns g c =
    let w = c.args.width in
    let is_left = c.in_ok-has_character.field-0 in
    let some : is_left ≡ true = grind arith in
    let h : Held = record { marked = c.self.inside.marks; column = c.self.inside.column } in
    let m : Held = record { marked = c.has_character.new.self; column = c.self.inside.column } in
    let k = c.take_field.new.self in
    let r = c.take_field.result in
    let left = c.in_ok-has_character.ensures in
    subst (λ (h : Held). Tells (wants_field w) (λ i j. TakesText w i (has_character i.marks) r j) r h k) c.self.view_is
    (tells_then (wants_characters w) (wants_field w) (λ ms. has_character ms ≡ true) (λ i j. TakesText w i true r j)
    (λ i j. TakesText w i (has_character i.marks) r j) r h m k
    (moves_weaken (wants_characters 1) (wants_field w) [] h.marked m.marked left.0 (λ ms t. field_wanted w ms t)) refl
    (λ all agrees. left.1 all agrees ∙ some)
    c.take_field.ensures (λ ms t. width_wanted w ms t) (λ i j e told. text_left w r i j e told))
