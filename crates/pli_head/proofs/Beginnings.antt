-- What decides between assignments and words: it is decided as the rules say.
use Rattle.std.proofs.Common.{◌≡◌, ◌≢◌, ℕ, List, [], ◌∷◌, Some, Bool, true, false, refl, sym, ap, ◌∙◌, Ok, Err}
use Rattle.std.specs.Prelude.{if◌then◌else◌}
use Rattle.pli_language.specs.declared.token.Word.TheVariants as W
use Rattle.pli_language.specs.declared.token.Symbol.TheVariants as S
use Rattle.pli_language.specs.declared.token.Kind.TheVariants as K
use Rattle.pli_language.specs.declared.token.Token.{Token}
use Rattle.pli_language.specs.Spells.{next_kind, SpellsExpr}
use Rattle.pli_language.specs.Heads.{BeginsIf, Assigns}
use Rattle.pli_language.specs.Tree as T
use Rattle.pli_phrase.specs.Cursor.{Cursor, Read, onto}
use Rattle.pli_phrase.specs.Tokens.{is_terminal, begins}
use Rattle.pli_phrase.specs.declared.expression.Beginning.{Beginning}
use Rattle.pli_phrase.specs.declared.expression.Beginning.TheVariants.{Begins, Differs}
use Rattle.pli_phrase.specs.Reading.{expr_from, assignment_begins}
use Rattle.pli_phrase.proofs.Beginnings.{begins_sound, begins_complete}
use Rattle.pli_attributes.proofs.Posts.{post_is}
use Rattle.pli_attributes.proofs.Tokens.{terminal_is, is_word}
use Rattle.pli_attributes.proofs.Expressions.{expr_post, expr_complete}
use Rattle.pli_clause.proofs.Parts.{starts_next, next_starts, next_symbol, symbol_next}
use Rattle.pli_head.specs.Reading.{then_behind, condition_then, if_at, begins_if, assigns}

first_true : (b x : Bool) → (if b then x else false) ≡ true → b ≡ true
first_true true x e = refl
first_true false x e = e

second_true : (b x : Bool) → (if b then x else false) ≡ true → x ≡ true
second_true true x e = e
second_true false x e = absurd (cc e)

-- ---- IF

-- THEN behind the longest expression
record Condition (s : List ℕ) (ts : List Token) : Type 0 where
  condition : T.Expr
  mid : List Token
  spelled : SpellsExpr s ts condition mid
  then_follows : next_kind mid ≡ Some (K.Name W.Then)

then_sound : (s : List ℕ) (c : Cursor) (r : Read T.Expr) → expr_from s c ≡ r → then_behind r ≡ true → Condition s c.tokens
then_sound s c (Ok x) h e =
    record { condition = x.0; mid = x.1.tokens; spelled = (post_is (expr_post s c) h).spelled; then_follows = starts_next W.Then x.1.tokens e }
then_sound s c (Err m) h e = absurd (cc e)

if_at_sound : (s : List ℕ) (c : Cursor) (ts : List Token) → c.tokens ≡ ts → if_at s ts c ≡ true → BeginsIf s c.tokens
if_at_sound s c [] i e = absurd (cc e)
if_at_sound s c (t ∷ ts) i e =
    let word = terminal_is (K.Name W.If) t.kind (first_true (is_terminal (K.Name W.If) t.kind) (condition_then s (onto ts c)) e) in
    let inside = second_true (is_terminal (K.Name W.If) t.kind) (condition_then s (onto ts c)) e in
    let opened = next_symbol S.OpenParenthesis ts (first_true (begins (K.Symbol S.OpenParenthesis) (onto ts c)) (then_behind (expr_from s (onto ts c))) inside) in
    let follows = second_true (begins (K.Symbol S.OpenParenthesis) (onto ts c)) (then_behind (expr_from s (onto ts c))) inside in
    let k = then_sound s (onto ts c) (expr_from s (onto ts c)) refl follows in
    record { after = ts; mid = k.mid; word = t; condition = k.condition; is_if = record { is = i; of_kind = word }; opened = opened; spelled = k.spelled; then_follows = k.then_follows }

pub if_sound : (s : List ℕ) (c : Cursor) → begins_if s c ≡ true → BeginsIf s c.tokens
unfolding begins_if
if_sound s c e = if_at_sound s c c.tokens refl e

pub if_complete : (s : List ℕ) (c : Cursor) → BeginsIf s c.tokens → begins_if s c ≡ true
unfolding begins_if
if_complete s c b =
    let k : is_terminal (K.Name W.If) b.word.kind ≡ true = ap (is_terminal (K.Name W.If)) b.is_if.of_kind ∙ is_word W.If in
    let o = symbol_next S.OpenParenthesis b.after b.opened in
    let e = expr_complete c.marks b.spelled in
    let w = next_starts W.Then b.mid b.then_follows in
    let front : if_at s (b.word ∷ b.after) c ≡ true = rw (k, o, e, w) refl in
    ap (λ u. if_at s u c) b.is_if.is ∙ front

-- ---- assignments

assigned : (s : List ℕ) (c : Cursor) (b : Bool) → begins_if s c ≡ b → (if b then Differs else assignment_begins s c) ≡ Begins → Assigns s c.tokens
assigned s c true h e = absurd (cc e)
assigned s c false h e =
    record { begins = begins_sound s c e; no_if = λ i. (let k : true ≡ false = sym (if_complete s c i) ∙ h in cc k) }

pub assigns_sound : (s : List ℕ) (c : Cursor) → assigns s c ≡ Begins → Assigns s c.tokens
unfolding assigns
assigns_sound s c e = assigned s c (begins_if s c) refl e

no_if_begins : (s : List ℕ) (c : Cursor) (b : Bool) → begins_if s c ≡ b → ¬ BeginsIf s c.tokens → b ≡ false
no_if_begins s c true h n = absurd (n (if_sound s c h))
no_if_begins s c false h n = refl

pub assigns_complete : (s : List ℕ) (c : Cursor) → Assigns s c.tokens → assigns s c ≡ Begins
unfolding assigns
assigns_complete s c a =
    ap (λ u. if u then Differs else assignment_begins s c) (no_if_begins s c (begins_if s c) refl a.no_if) ∙ begins_complete s c a.begins

pub assigns_not : (s : List ℕ) (c : Cursor) (b : Beginning) → assigns s c ≡ b → b ≢ Begins → ¬ Assigns s c.tokens
assigns_not s c b h n a = n (sym h ∙ assigns_complete s c a)

pub not_assigns : (s : List ℕ) (c : Cursor) → ¬ Assigns s c.tokens → assigns s c ≢ Begins
not_assigns s c n e = n (assigns_sound s c e)
