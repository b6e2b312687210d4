-- Laws of the reader of lists of expressions, in the form of this crate's.
use Rattle.std.proofs.Common.{ℕ, zero, suc, List, [], ◌∷◌, length, false, arith, Ok}
use Rattle.pli_language.specs.declared.token.Symbol.TheVariants as S
use Rattle.pli_language.specs.declared.token.Kind.TheVariants as K
use Rattle.pli_language.specs.Marks.{exprs_marks}
use Rattle.pli_language.specs.Spells.{SpellsExprs}
use Rattle.pli_language.specs.Tree as T
use Rattle.pli_phrase.specs.Cursor.{Cursor, ◌>>=◌}
use Rattle.pli_phrase.specs.Tokens.{starts, taken}
use Rattle.pli_phrase.specs.Reading.{items_from, exprs_from, exprs_with}
use Rattle.pli_phrase.proofs.Arguments.{exprs_sound}
use Rattle.pli_attributes.proofs.Posts.{Post, Never, post_ok, post_ended, post_bind, post_if, post_from, post_leaves}
use Rattle.pli_attributes.proofs.Tokens.{taken_post}
use Rattle.pli_attributes.proofs.Expressions.{expr_post}
use Rattle.pli_attributes.proofs.Lists.{Reads}

-- nothing is left out, whatever is read
items_stay : (n : ℕ) (s : List ℕ) (before : List T.Expr) (c : Cursor) → Post (λ x. Unit {0}) Never (items_from n false s before c)
unfolding items_from
items_stay zero s before c = post_ended
items_stay (suc n) s before c =
    post_bind _ _ (expr_post s c) (λ e g. post_if (starts (K.Symbol S.Comma) e.1.tokens) (taken (K.Symbol S.Comma) e.1 >>= λ comma. items_from n false s (e.0 ∷ before) comma.1) (Ok (exprs_with (e.0 ∷ before) T.NoExpr, e.1)) (λ b. post_bind _ _ (taken_post (K.Symbol S.Comma) e.1) (λ comma k. items_stay n s (e.0 ∷ before) comma.1)) (λ b. post_ok tt))

exprs_stay : (s : List ℕ) (c : Cursor) → Post (λ x. Unit {0}) Never (exprs_from s c)
unfolding exprs_from
exprs_stay s c = items_stay (suc (length c.tokens)) s [] c

pub exprs_post : (s : List ℕ) (c : Cursor) → Post (Reads (SpellsExprs s) exprs_marks c) Never (exprs_from s c)
exprs_post s c =
    post_from (exprs_from s c) (λ x e. let g = exprs_sound s c x e in record { spelled = g.spelled; marked = g.marks; shorter = omega (arith, g.shorter) }) (λ d e. post_leaves (exprs_stay s c) e)
