use Rattle.std.proofs.Common.{◌≡◌, [], Some, refl, sym, subst, ap, ◌∙◌, get_or, true, false}
use Rattle.std.proofs.lemmas.Result.{err_from_is_err_and}
use Rattle.pli_edit.specs.KnownMarks.{Marked, wants_characters}
use Rattle.pli_edit.specs.Feeding.{is_broken}
use Rattle.pli_edit.specs.Streams.{IsKnownMark, LooksAt, Moves}
use Rattle.pli_edit.specs.declared.mark.Mark.TheVariants as M
use Rattle.pli_edit.proofs.Looking.{IsLeft, front_known, left_behind, left_none, left_over, left_some, left_vain}
use Rattle.pli_edit.proofs.Looking.{vain_behind, waits_none}
use Rattle.pli_edit.proofs.Moving.{moves_then}
use Rattle.pli_edit.proofs.feed_marks.FeedMarks.has_character.Goals as goal

pub returns-then-begins_with_character : goal.returns-then-begins_with_character
returns-then-begins_with_character g c =
    let s = c.self.inside in
    let p = c.pending.result.now in
    let a : Marked = record { fed = s.bytes.fed; lines = s.lines; is_begun = s.is_begun; pending = s.bytes.pending } in
    let plain = c.begins_with_character.ensures c.if-begins_with_character.true in
    let there = subst (λ q. IsKnownMark q (Some (M.Character (get_or p 0 0), 1))) c.pending.ensures plain in
    let whole = subst (λ (m : Marked). is_broken m.fed.standing ≡ false) (sym c.self.view_is) c.requires in
    subst (λ (m : Marked). IsLeft true m m) c.self.view_is
    (left_some (get_or p 0 0) 1 a a
    (waits_none a, front_known (Some (M.Character (get_or p 0 0), 1)) a refl there, whole))

pub returns-in_err-mark : goal.returns-in_err-mark
returns-in_err-mark g c =
    let p = err_from_is_err_and c.from_residual.result c.from_residual.ensures.1 in
    rw (p.1, p.2) (
      c.in_err-mark.ensures.0,
      vain_behind c.args.self.now c.loop-mark.self c.first.new.self c.loop-mark.invariant
          (left_vain c.loop-mark.self c.first.new.self c.in_err-mark.ensures.1),
    )

pub returns-in-Character : goal.returns-in-Character
returns-in-Character g c =
    let n = c.in-Some.size in
    let found = c.in-Some.is ∙ ap (λ m. Some (m, n)) c.in-Character.is in
    left_behind true c.args.self.now c.loop-mark.self c.first.new.self c.loop-mark.invariant
    (left_some c.in-Character.field-0 n c.loop-mark.self c.first.new.self
    (subst (λ f. LooksAt f c.loop-mark.self c.first.new.self) found c.in_ok-mark.ensures))

pub loop-mark-preserved : goal.loop-mark-preserved
loop-mark-preserved g c =
    let n = c.in-Some.size in
    let found = c.in-Some.is ∙ ap (λ m. Some (m, n)) c.in-LineEnd.is in
    moves_then (wants_characters 1) (wants_characters 1) [] [] _ c.loop-mark.self c.look_over.new.self
    c.loop-mark.invariant
    (subst (λ (m : Marked). Moves (wants_characters 1) [] c.loop-mark.self m) (sym c.look_over.ensures)
    (left_over n c.loop-mark.self c.first.new.self
    (subst (λ f. LooksAt f c.loop-mark.self c.first.new.self) found c.in_ok-mark.ensures)))
    (λ _ ms t. t)

pub returns : goal.returns
returns g c =
    left_behind false c.args.self.now c.loop-mark.self c.first.new.self c.loop-mark.invariant
    (left_none c.loop-mark.self c.first.new.self
    (subst (λ f. LooksAt f c.loop-mark.self c.first.new.self) c.in_default.is c.in_ok-mark.ensures))
