-- Ranges and countings: what is read is spelled so, and what is spelled is read.
use Rattle.std.proofs.Common.{◌≡◌, ◌≢◌, ℕ, List, Option, Some, true, refl, sym, ap, ◌∙◌, subst, arith, Ok}
use Rattle.pli_language.specs.declared.token.Word.TheVariants as W
use Rattle.pli_language.specs.declared.token.Symbol.TheVariants as S
use Rattle.pli_language.specs.declared.token.Kind.{Kind}
use Rattle.pli_language.specs.declared.token.Kind.TheVariants as K
use Rattle.pli_language.specs.declared.token.Token.{Token}
use Rattle.pli_language.specs.Marks.{Marks, expr_marks, reference_marks}
use Rattle.pli_language.specs.Spells.{next_kind, SpellsExpr}
use Rattle.pli_language.specs.Heads as G
use Rattle.pli_language.specs.Heads.{Range, SpellsRange, SpellsWhile, SpellsInParentheses, SpellsCounting, ends_range, no_range, marks_if}
use Rattle.pli_language.specs.Tree as T
use Rattle.pli_phrase.specs.Cursor.{Cursor}
use Rattle.pli_phrase.specs.Reading.{expr_from}
use Rattle.pli_attributes.proofs.Posts.{Post, Never, post_ok, post_bind, post_weaken}
use Rattle.pli_attributes.proofs.Tokens.{taken_post, symbol_read}
use Rattle.pli_attributes.proofs.Lists.{Reads}
use Rattle.pli_attributes.proofs.Expressions.{expr_post, expr_complete}
use Rattle.pli_clause.specs.Reading.{in_parentheses_from, range_from, while_from, counting_from}
use Rattle.pli_clause.proofs.Parts.{Behind, no_word, behind, Stops, ReadsMarked, behind_post, both_post, behind_read, still_read, still_ends, still_first, still_second, still_all, order_spelled}
use Rattle.pli_clause.proofs.References.{reference_post, reference_complete, in_parentheses_post, in_parentheses_complete}

-- ---- ranges

abbrev range : Option T.Expr → Option T.Expr → Range
range e f = record { limit = e; step = f }

range_stop : (k : Option Kind) → k ≢ Some (K.Name W.To) → k ≢ Some (K.Name W.By) → ends_range k ≡ true
range_stop (Some (K.Name W.To)) f g = absurd (f refl)
range_stop (Some (K.Name W.By)) f g = absurd (g refl)
range_stop _ f g = refl

stop_range : (ts : List Token) → ends_range (next_kind ts) ≡ true → Stops W.To W.By ts
stop_range ts h = record { no_first = λ e. cc (ap ends_range e, h); no_second = λ e. cc (ap ends_range e, h) }

abbrev SpellsBounds : List ℕ → Option T.Expr → Option T.Expr → List Token → Marks → Option T.Expr × Option T.Expr → List Token → Marks → Type 0
SpellsBounds s x y ts m p rest m' = SpellsRange s (range x y) ts m (range p.0 p.1) rest m'

pub range_post : (s : List ℕ) (c : Cursor) → Post (ReadsMarked (λ ts m p rest m'. SpellsRange s no_range ts m (range p.0 p.1) rest m') c) Never (range_from s c)
unfolding range_from
range_post s c =
    post_weaken _ (both_post (SpellsExpr s) expr_marks (expr_from s) (expr_post s) W.To W.By c) (λ x g. record {
      spelled = order_spelled (SpellsExpr s) expr_marks W.To W.By (SpellsBounds s) (λ x y ts m stop. G.range_ends (range x y) ts m (range_stop (next_kind ts) stop.no_first stop.no_second)) (λ y p ts after mid rest m m' t e k r more. G.to y (range p.0 p.1) ts after mid rest m m' t e k r more) (λ x p ts after mid rest m m' t e k r more. G.by x (range p.0 p.1) ts after mid rest m m' t e k r more) g.spelled;
      shorter = g.shorter;
    }) (λ d l. l)

range_still : (s : List ℕ) {b r : Range} {ts rest : List Token} {m m' : Marks} → SpellsRange s b ts m r rest m' → still_read (expr_from s) W.To W.By b.limit b.step (record { tokens = ts; marks = m }) ≡ Ok ((r.limit, r.step), record { tokens = rest; marks = m' })
range_still s (G.range_ends b ts m h) =
    still_ends (SpellsExpr s) expr_marks (expr_from s) (λ ts rest e m a. expr_complete m a) W.To W.By b.limit b.step ts m (stop_range ts h)
range_still s (G.to step b ts after mid rest m m' t e k a more) =
    still_first (SpellsExpr s) expr_marks (expr_from s) (λ ts rest e m a. expr_complete m a) W.To W.By step m k a ∙ range_still s more
range_still s (G.by limit b ts after mid rest m m' t e k a more) =
    still_second (SpellsExpr s) expr_marks (expr_from s) (λ ts rest e m a. expr_complete m a) W.To W.By limit m (λ z. cc z) k a ∙ range_still s more

pub range_complete : {s : List ℕ} {r : Range} {ts rest : List Token} {m m' : Marks} → SpellsRange s no_range ts m r rest m' → range_from s (record { tokens = ts; marks = m }) ≡ Ok ((r.limit, r.step), record { tokens = rest; marks = m' })
unfolding range_from
range_complete {s} {r} {ts} {rest} {m} h =
    sym (still_all (SpellsExpr s) expr_marks (expr_from s) (λ ts rest e m a. expr_complete m a) W.To W.By (record { tokens = ts; marks = m })) ∙ range_still s h

-- ---- WHILE

while_spelled : {s : List ℕ} {ts rest : List Token} {w : Option T.Expr} → Behind (SpellsInParentheses s) W.While ts w rest → SpellsWhile s ts w rest
while_spelled (no_word ts n) = G.no_while ts n
while_spelled (behind ts after rest t e k a) = G.while ts after rest t e k a

spelled_while : {s : List ℕ} {ts rest : List Token} {w : Option T.Expr} → SpellsWhile s ts w rest → Behind (SpellsInParentheses s) W.While ts w rest
spelled_while (G.no_while ts n) = no_word ts n
spelled_while (G.while ts after rest t e k a) = behind ts after rest t e k a

pub while_post : (s : List ℕ) (c : Cursor) → Post (Reads (SpellsWhile s) (marks_if expr_marks) c) Never (while_from s c)
unfolding while_from
while_post s c =
    post_weaken _ (behind_post (SpellsInParentheses s) expr_marks (in_parentheses_from s) (in_parentheses_post s) W.While c) (λ x g. record { spelled = while_spelled g.spelled; marked = g.marked; shorter = g.shorter }) (λ d l. l)

pub while_complete : {s : List ℕ} {ts rest : List Token} {w : Option T.Expr} (m : Marks) → SpellsWhile s ts w rest → while_from s (record { tokens = ts; marks = m }) ≡ Ok (w, record { tokens = rest; marks = marks_if expr_marks w m })
unfolding while_from
while_complete {s} m h =
    behind_read (SpellsInParentheses s) expr_marks (in_parentheses_from s) (λ ts rest e m a. in_parentheses_complete m a) W.While m (spelled_while h)

-- ---- countings

pub counting_post : (s : List ℕ) (c : Cursor) → Post (ReadsMarked (SpellsCounting s) c) Never (counting_from s c)
unfolding counting_from
counting_post s c =
    post_bind _ _ (reference_post s c) (λ v g.
    post_bind _ _ (taken_post (K.Symbol S.Equal) v.1) (λ t k.
    post_bind _ _ (expr_post s t.1) (λ e a.
    post_bind _ _ (range_post s e.1) (λ r b.
    post_bind _ _ (while_post s r.1) (λ w h.
    post_ok (record {
      spelled = subst (λ n. SpellsCounting s c.tokens c.marks (record { variable = v.0; start = e.0; limit = r.0.0; step = r.0.1; condition = w.0 }) w.1.tokens n) (sym h.marked) (G.counting c.tokens v.1.tokens t.1.tokens e.1.tokens r.1.tokens w.1.tokens c.marks r.1.marks t.0 v.0 e.0 (range r.0.0 r.0.1) w.0 g.spelled k.take a.spelled (subst (λ n. SpellsRange s no_range e.1.tokens n (range r.0.0 r.0.1) r.1.tokens r.1.marks) (a.marked ∙ ap (expr_marks e.0) (k.marked ∙ g.marked)) b.spelled) h.spelled);
      shorter = omega (arith, g.shorter, k.shorter, a.shorter, b.shorter, h.shorter);
    }))))))

pub counting_complete : {s : List ℕ} {ts rest : List Token} {x : T.Counting} {m m' : Marks} → SpellsCounting s ts m x rest m' → counting_from s (record { tokens = ts; marks = m }) ≡ Ok (x, record { tokens = rest; marks = m' })
unfolding counting_from
counting_complete (G.counting ts mid after later at rest m m' t v e r w g k a b h) =
    let p = reference_complete m g in
    let q = symbol_read S.Equal (reference_marks v m) k in
    let i = expr_complete (reference_marks v m) a in
    let j = range_complete b in
    let l = while_complete m' h in
    rw (p, q, i, j, l) refl
