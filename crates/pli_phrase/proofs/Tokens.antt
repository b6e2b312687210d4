-- Readers of single tokens, and what they take.
use denote.Enum.Bare.{same_true, true_same}
use Rattle.std.specs.Prelude.{if◌then◌else◌}
use Rattle.std.proofs.Common.{rules, ◌≡◌, ◌≢◌, List, [], ◌∷◌, Some, Bool, true, false, Ok, Err, refl, sym, ap, ◌∙◌, subst}
use Rattle.pli_language.specs.declared.token.Word.{Word}
use Rattle.pli_language.specs.contracts.token.Word.{the_type as the_word}
use Rattle.pli_language.specs.declared.token.Symbol.{Symbol}
use Rattle.pli_language.specs.contracts.token.Symbol.{the_type as the_symbol}
use Rattle.pli_language.specs.declared.token.Kind.{Kind}
use Rattle.pli_language.specs.declared.token.Kind.TheVariants as K
use Rattle.pli_language.specs.declared.token.Token.{Token}
use Rattle.pli_language.specs.Marks.{Marks}
use Rattle.pli_language.specs.Spells.{Takes, next_kind}
use Rattle.pli_phrase.specs.Cursor.{Cursor, Stuck}
use Rattle.pli_phrase.specs.Tokens.{is_terminal, starts, taken}

-- ---- words and symbols

pub terminal_kind : (terminal k : Kind) → is_terminal terminal k ≡ true → k ≡ terminal
terminal_kind (K.Name w) (K.Name v) e = ap K.Name (same_true the_word (search rules) v w e)
terminal_kind (K.Symbol y) (K.Symbol z) e = ap K.Symbol (same_true the_symbol (search rules) z y e)
terminal_kind _ _ e = absurd (cc e)

pub word_is : (w : Word) → is_terminal (K.Name w) (K.Name w) ≡ true
word_is w = true_same the_word w w refl

pub symbol_is : (y : Symbol) → is_terminal (K.Symbol y) (K.Symbol y) ≡ true
symbol_is y = true_same the_symbol y y refl

starts_front : (terminal : Kind) (t : Token) (ts : List Token) (b : Bool) → is_terminal terminal t.kind ≡ b → next_kind (t ∷ ts) ≢ Some terminal → b ≡ false
starts_front terminal t ts true e n = absurd (n (ap Some (terminal_kind terminal t.kind e)))
starts_front terminal t ts false e n = refl

pub starts_not : (terminal : Kind) (ts : List Token) → next_kind ts ≢ Some terminal → starts terminal ts ≡ false
starts_not terminal [] n = refl
starts_not terminal (t ∷ ts) n = starts_front terminal t ts (is_terminal terminal t.kind) refl n

differs_front : (terminal : Kind) (t : Token) → is_terminal terminal terminal ≡ true → is_terminal terminal t.kind ≡ false → Some t.kind ≡ Some terminal → ⊥
differs_front terminal t h e i =
    let k : t.kind ≡ terminal = cc i in
    let c : true ≡ false = sym h ∙ ap (is_terminal terminal) (sym k) ∙ e in
    cc c

pub starts_differs : (terminal : Kind) (ts : List Token) → is_terminal terminal terminal ≡ true → starts terminal ts ≡ false → next_kind ts ≢ Some terminal
starts_differs terminal [] h e i = cc i
starts_differs terminal (t ∷ ts) h e i = differs_front terminal t h e i

-- ---- single tokens

-- a token was taken, with the same marks
pub record Took (terminal : Kind) (c : Cursor) (t : Token) (behind : Cursor) : Type 0 where
  pub take : Takes c.tokens terminal t behind.tokens
  pub marks : behind.marks ≡ c.marks

took_if : (terminal : Kind) (t : Token) (ts : List Token) (m : Marks) (b : Bool) (x : Token × Cursor) → is_terminal terminal t.kind ≡ b → (if b then Ok (t, record { tokens = ts; marks = m }) else Err Stuck) ≡ Ok x → Took terminal (record { tokens = t ∷ ts; marks = m }) x.0 x.1
took_if terminal t ts m true x e h =
    let same : (t, record { tokens = ts; marks = m }) ≡ x = cc h in
    subst (λ u. Took terminal (record { tokens = t ∷ ts; marks = m }) u.0 u.1) same (record { take = record { is = refl; of_kind = terminal_kind terminal t.kind e }; marks = refl })
took_if terminal t ts m false x e h = absurd (cc h)

took_at : (terminal : Kind) (ts : List Token) (m : Marks) (x : Token × Cursor) → taken terminal (record { tokens = ts; marks = m }) ≡ Ok x → Took terminal (record { tokens = ts; marks = m }) x.0 x.1
unfolding taken
took_at terminal [] m x h = absurd (cc h)
took_at terminal (t ∷ ts) m x h = took_if terminal t ts m (is_terminal terminal t.kind) x refl h

pub taken_takes : (terminal : Kind) (c : Cursor) (x : Token × Cursor) → taken terminal c ≡ Ok x → Took terminal c x.0 x.1
taken_takes terminal c x h = took_at terminal c.tokens c.marks x h

if_true : {A : Type 0} (b : Bool) (x y : A) → b ≡ true → (if b then x else y) ≡ x
if_true true x y e = refl
if_true false x y e = absurd (cc e)

taken_front : (terminal : Kind) (t : Token) (ts : List Token) (m : Marks) → is_terminal terminal terminal ≡ true → t.kind ≡ terminal → taken terminal (record { tokens = t ∷ ts; marks = m }) ≡ Ok (t, record { tokens = ts; marks = m })
unfolding taken
taken_front terminal t ts m h e =
    if_true (is_terminal terminal t.kind) (Ok (t, record { tokens = ts; marks = m })) (Err Stuck) (ap (is_terminal terminal) e ∙ h)

pub takes_taken : (terminal : Kind) {ts rest : List Token} {t : Token} (m : Marks) → is_terminal terminal terminal ≡ true → Takes ts terminal t rest → taken terminal (record { tokens = ts; marks = m }) ≡ Ok (t, record { tokens = rest; marks = m })
takes_taken terminal {ts} {rest} {t} m h take =
    let at : List Token → Cursor = λ u. record { tokens = u; marks = m } in
    ap (λ u. taken terminal (at u)) take.is ∙ taken_front terminal t rest m h take.of_kind

pub takes_starts : (terminal : Kind) {ts rest : List Token} {t : Token} → is_terminal terminal terminal ≡ true → Takes ts terminal t rest → starts terminal ts ≡ true
takes_starts terminal h take = ap (starts terminal) take.is ∙ ap (is_terminal terminal) take.of_kind ∙ h
