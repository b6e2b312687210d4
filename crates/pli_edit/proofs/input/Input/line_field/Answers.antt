use Rattle.std.proofs.Common.{◌≡◌, List, ℕ, Option, Some, None, subst}
use Rattle.std.specs.Prelude.{MatchOption, ⊤}
use Rattle.pli_meaning.specs.InputLines.{Input, characters}
use Rattle.pli_edit.specs.Fields.{IsLineField}
use Rattle.pli_edit.specs.Marks.{IsInLine}
use Rattle.pli_edit.proofs.Lines.{field_so}
use Rattle.pli_edit.proofs.input.Input.line_field.Goals as goal

told :
    {R : Type 0} (now : R → List ℕ) (found : Option R) (n : ℕ) (i : Input) →
    MatchOption found ⊤ (λ line. IsInLine n i.marks × (now line ≡ characters n i.marks)) → MatchOption found ⊤ (λ field. IsLineField n i (now field))
told now None n i h = h
told now (Some line) n i h = field_so n i (now line) h

pub returns : goal.returns
returns c =
    subst (λ (i : Input). MatchOption c.line.result ⊤ (λ field. IsLineField c.args.width i field.now)) c.self.view_is
    (told (λ line. line.now) c.line.result c.args.width (record { marks = c.self.inside.marks; column = c.self.inside.column }) c.line.ensures)
