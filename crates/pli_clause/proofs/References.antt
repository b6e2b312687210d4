-- Laws of the readers of references and arguments, and of what stands in parentheses, in the form of this crate's.
use Rattle.std.proofs.Common.{◌≡◌, ℕ, zero, suc, List, [], ◌∷◌, length, Bool, true, Option, Some, None, Ok, refl, ap, ◌∙◌, arith}
use Rattle.pli_language.specs.declared.token.Symbol.TheVariants as S
use Rattle.pli_language.specs.declared.token.Kind.TheVariants as K
use Rattle.pli_language.specs.declared.token.Token.{Token}
use Rattle.pli_language.specs.Marks.{Marks, expr_marks, reference_marks, arguments_marks}
use Rattle.pli_language.specs.Spells.{SpellsExpr, SpellsReference, SpellsArguments}
use Rattle.pli_language.specs.Heads as G
use Rattle.pli_language.specs.Heads.{SpellsInParentheses, SpellsInto, SpellsReturn, marks_if}
use Rattle.pli_language.specs.Tree as T
use Rattle.pli_phrase.specs.Cursor.{Cursor, ◌>>=◌}
use Rattle.pli_phrase.specs.Tokens.{starts, taken}
use Rattle.pli_phrase.specs.Reading.{expr_from, reference_from, items_from, item_due, exprs_with, listed_from, arguments_from}
use Rattle.pli_phrase.proofs.Expressions as E
use Rattle.pli_phrase.proofs.Arguments as A
use Rattle.pli_attributes.proofs.Posts.{Post, Never, post_ok, post_ended, post_bind, post_if, post_weaken, post_from, post_leaves}
use Rattle.pli_attributes.proofs.Tokens.{taken_post}
use Rattle.pli_attributes.proofs.Lists.{Reads}
use Rattle.pli_attributes.proofs.Enclosed.{EnclosedBy, enclosed, enclosed_post, enclosed_read, optional_post, optional_read, optional_absent}
use Rattle.pli_attributes.proofs.Expressions.{expr_post, expr_complete}
use Rattle.pli_clause.specs.Reading.{in_parentheses_from, into_from, some_expr_from, value_from}

-- ---- references and arguments

pub reference_post : (s : List ℕ) (c : Cursor) → Post (Reads (SpellsReference s) reference_marks c) Never (reference_from s c)
reference_post s c =
    post_from (reference_from s c) (λ x e. let g = E.reference_sound s c x e in record { spelled = g.spelled; marked = g.marks; shorter = omega (arith, g.shorter) }) (λ d e. E.reference_stays s c d e)

pub reference_complete : {s : List ℕ} {ts rest : List Token} {r : T.Reference} (m : Marks) → SpellsReference s ts r rest → reference_from s (record { tokens = ts; marks = m }) ≡ Ok (r, record { tokens = rest; marks = reference_marks r m })
reference_complete m h = E.reference_complete h m

abbrev Any : {X : Type 0} → X × Cursor → Type 0
Any x = Unit {0}

items_never : (n : ℕ) (are : Bool) (s : List ℕ) (before : List T.Expr) (c : Cursor) → Post Any Never (items_from n are s before c)
unfolding items_from
items_never zero are s before c = post_ended
items_never (suc n) are s before c =
    post_bind _ _ (expr_post s (item_due are c)) (λ e g. post_if (starts (K.Symbol S.Comma) e.1.tokens) (taken (K.Symbol S.Comma) e.1 >>= λ comma. items_from n are s (e.0 ∷ before) comma.1) (Ok (exprs_with (e.0 ∷ before) T.NoExpr, e.1)) (λ b. post_bind _ _ (taken_post (K.Symbol S.Comma) e.1) (λ comma k. items_never n are s (e.0 ∷ before) comma.1)) (λ b. post_ok tt))

listed_never : (s : List ℕ) (c : Cursor) → Post Any Never (listed_from s c)
listed_never s c =
    post_if (starts (K.Symbol S.CloseParenthesis) c.tokens) (taken (K.Symbol S.CloseParenthesis) c >>= λ u. Ok (T.Listed T.NoExpr, u.1)) (items_from (suc (length c.tokens)) true s [] c >>= λ es. taken (K.Symbol S.CloseParenthesis) es.1 >>= λ u. Ok (T.Listed es.0, u.1))
    (λ b. post_bind _ _ (taken_post (K.Symbol S.CloseParenthesis) c) (λ u z. post_ok tt))
    (λ b. post_bind _ _ (items_never (suc (length c.tokens)) true s [] c) (λ es i. post_bind _ _ (taken_post (K.Symbol S.CloseParenthesis) es.1) (λ u z. post_ok tt)))

arguments_never : (s : List ℕ) (c : Cursor) → Post Any Never (arguments_from s c)
unfolding arguments_from
arguments_never s c =
    post_if (starts (K.Symbol S.OpenParenthesis) c.tokens) (taken (K.Symbol S.OpenParenthesis) c >>= λ t. listed_from s t.1) (Ok (T.Absent, c))
    (λ b. post_bind _ _ (taken_post (K.Symbol S.OpenParenthesis) c) (λ t o. listed_never s t.1))
    (λ b. post_ok tt)

pub arguments_post : (s : List ℕ) (c : Cursor) → Post (Reads (SpellsArguments s) arguments_marks c) Never (arguments_from s c)
arguments_post s c =
    post_from (arguments_from s c) (λ x e. let g = A.arguments_sound s c x e in record { spelled = g.spelled; marked = g.marks; shorter = g.no_longer }) (λ d e. post_leaves (arguments_never s c) e)

pub arguments_complete : {s : List ℕ} {ts rest : List Token} {a : T.Arguments} (m : Marks) → SpellsArguments s ts a rest → arguments_from s (record { tokens = ts; marks = m }) ≡ Ok (a, record { tokens = rest; marks = arguments_marks a m })
arguments_complete m h = A.arguments_complete h m

-- ---- in parentheses

in_parentheses_spelled : (s : List ℕ) (c : Cursor) (x : T.Expr × Cursor) → EnclosedBy (Reads (SpellsExpr s) expr_marks) c x → Reads (SpellsInParentheses s) expr_marks c x
in_parentheses_spelled s c x (enclosed t y u o r z) = record {
  spelled = G.in_parentheses c.tokens t.1.tokens y.1.tokens u.1.tokens t.0 u.0 y.0 o.take r.spelled z.take;
  marked = z.marked ∙ r.marked ∙ ap (expr_marks y.0) o.marked;
  shorter = omega (arith, o.shorter, r.shorter, z.shorter);
}

pub in_parentheses_post : (s : List ℕ) (c : Cursor) → Post (Reads (SpellsInParentheses s) expr_marks c) Never (in_parentheses_from s c)
in_parentheses_post s c =
    post_weaken _ (enclosed_post (expr_from s) c (expr_post s)) (λ x k. in_parentheses_spelled s c x k) (λ d l. l)

pub in_parentheses_complete : {s : List ℕ} {ts rest : List Token} {e : T.Expr} (m : Marks) → SpellsInParentheses s ts e rest → in_parentheses_from s (record { tokens = ts; marks = m }) ≡ Ok (e, record { tokens = rest; marks = expr_marks e m })
in_parentheses_complete {s} m (G.in_parentheses ts after mid rest t u e o h z) =
    enclosed_read (expr_from s) e m (expr_marks e m) o (expr_complete m h) z

into_spelled : (s : List ℕ) (c : Cursor) (x : T.Reference × Cursor) → EnclosedBy (Reads (SpellsReference s) reference_marks) c x → Reads (SpellsInto s) reference_marks c x
into_spelled s c x (enclosed t y u o r z) = record {
  spelled = G.into c.tokens t.1.tokens y.1.tokens u.1.tokens t.0 u.0 y.0 o.take r.spelled z.take;
  marked = z.marked ∙ r.marked ∙ ap (reference_marks y.0) o.marked;
  shorter = omega (arith, o.shorter, r.shorter, z.shorter);
}

pub into_post : (s : List ℕ) (c : Cursor) → Post (Reads (SpellsInto s) reference_marks c) Never (into_from s c)
into_post s c =
    post_weaken _ (enclosed_post (reference_from s) c (reference_post s)) (λ x k. into_spelled s c x k) (λ d l. l)

pub into_complete : {s : List ℕ} {ts rest : List Token} {r : T.Reference} (m : Marks) → SpellsInto s ts r rest → into_from s (record { tokens = ts; marks = m }) ≡ Ok (r, record { tokens = rest; marks = reference_marks r m })
into_complete {s} m (G.into ts after mid rest t u r o h z) =
    enclosed_read (reference_from s) r m (reference_marks r m) o (reference_complete m h) z

-- ---- values that are returned

-- a value that is present
data Present (s : List ℕ) (c : Cursor) : Option T.Expr × Cursor → Type 0 where
  present : (y : T.Expr × Cursor) → Reads (SpellsExpr s) expr_marks c y → Present s c (Some y.0, y.1)

value_spelled : (s : List ℕ) (c : Cursor) (x : Option T.Expr × Cursor) → EnclosedBy (Present s) c x → Reads (SpellsReturn s) (marks_if expr_marks) c x
value_spelled s c x (enclosed t y u o (present e r) z) = record {
  spelled = G.value c.tokens u.1.tokens e.0 (G.in_parentheses c.tokens t.1.tokens e.1.tokens u.1.tokens t.0 u.0 e.0 o.take r.spelled z.take);
  marked = z.marked ∙ r.marked ∙ ap (expr_marks e.0) o.marked;
  shorter = omega (arith, o.shorter, r.shorter, z.shorter);
}

pub value_post : (s : List ℕ) (c : Cursor) → Post (Reads (SpellsReturn s) (marks_if expr_marks) c) Never (value_from s c)
unfolding value_from
value_post s c =
    optional_post {P = Present s} None (some_expr_from s) c (λ d. post_bind _ _ (expr_post s d) (λ e r. post_ok (present e r))) (λ n. record { spelled = G.no_value c.tokens n; marked = refl; shorter = omega arith }) (λ x k. value_spelled s c x k)

some_expr : {s : List ℕ} {ts rest : List Token} {e : T.Expr} (m : Marks) → SpellsExpr s ts e rest → some_expr_from s (record { tokens = ts; marks = m }) ≡ Ok (Some e, record { tokens = rest; marks = expr_marks e m })
some_expr m h = rw (expr_complete m h) refl

pub value_complete : {s : List ℕ} {ts rest : List Token} {v : Option T.Expr} (m : Marks) → SpellsReturn s ts v rest → value_from s (record { tokens = ts; marks = m }) ≡ Ok (v, record { tokens = rest; marks = marks_if expr_marks v m })
unfolding value_from
value_complete {s} m (G.no_value ts n) = optional_absent None (some_expr_from s) ts m n
value_complete {s} m (G.value ts rest e (G.in_parentheses ts' after mid rest' t u e' o h z)) =
    optional_read None (some_expr_from s) (Some e) m (expr_marks e m) o (some_expr m h) z
