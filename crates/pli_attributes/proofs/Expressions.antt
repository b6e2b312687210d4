-- Laws of the reader of expressions, in the form of this crate's.
use Rattle.std.proofs.Common.{◌≡◌, ℕ, List, Ok, arith}
use Rattle.pli_language.specs.declared.token.Token.{Token}
use Rattle.pli_language.specs.Marks.{Marks, expr_marks}
use Rattle.pli_language.specs.Spells.{SpellsExpr}
use Rattle.pli_language.specs.Tree as T
use Rattle.pli_phrase.specs.Cursor.{Cursor}
use Rattle.pli_phrase.specs.Reading.{expr_from}
use Rattle.pli_phrase.proofs.Expressions as E
use Rattle.pli_attributes.proofs.Posts.{Post, Never, post_from}
use Rattle.pli_attributes.proofs.Lists.{Reads}

pub expr_post : (s : List ℕ) (c : Cursor) → Post (Reads (SpellsExpr s) expr_marks c) Never (expr_from s c)
expr_post s c =
    post_from (expr_from s c) (λ x e. let g = E.expr_sound s c x e in record { spelled = g.spelled; marked = g.marks; shorter = omega (arith, g.shorter) }) (λ d e. E.expr_stays s c d e)

pub expr_complete : {s : List ℕ} {ts rest : List Token} {e : T.Expr} (m : Marks) → SpellsExpr s ts e rest → expr_from s (record { tokens = ts; marks = m }) ≡ Ok (e, record { tokens = rest; marks = expr_marks e m })
expr_complete m h = E.expr_complete h m
