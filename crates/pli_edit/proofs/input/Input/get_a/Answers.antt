use Rattle.std.proofs.Common.{◌≡◌, true, length, take, replicate, ◌-◌, ◌++◌, vec_len, sym, ap, ◌∙◌, arith}
use Rattle.pli_meaning.specs.InputLines.{has_character, field_of, behind_field, characters}
use Rattle.pli_edit.proofs.Taking.{text-taken, field-padded}
use Rattle.pli_edit.proofs.input.Input.get_a.Goals as goal

pub returns : goal.returns
returns c =
    let w = c.args.width in
    let marks = c.self.inside.marks in
    let field = c.take_characters-self-inside.new.field in
    let some : c.has_character.result ≡ true = grind arith in
    let is_left : has_character c.args.self.now.marks ≡ true = sym (ap (λ i. has_character i.marks) c.self.view_is) ∙ (sym c.has_character.ensures ∙ some) in
    let taken : field.items ≡ characters w marks = c.take_characters-self-inside.ensures.taken ∙ ap (λ l. l ++ characters w marks) c.in_ok-field.ensures.items in
    let count : vec_len field ≡ length (characters w marks) = omega (arith, ap length taken) in
    let resized = rw c.unwrap.ensures at c.resize.ensures.items in
    text-taken w c.args.self.now _ _ _ is_left
    (resized
    ∙ (ap (λ l. take w l ++ replicate (w - vec_len field) 32) taken
    ∙ (field-padded w (vec_len field) (characters w marks) count ∙ ap (field_of w) c.self.view_is)))
    (c.take_characters-self-inside.ensures.reached ∙ ap (behind_field w) c.self.view_is)
