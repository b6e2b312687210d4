-- Laws of the readers of single tokens.
use Rattle.std.proofs.Common.{◌≡◌, ◌≢◌, ℕ, ◌<◌, List, [], ◌∷◌, length, Some, Bool, true, false, refl, ap, ◌∙◌, arith, Ok, Err}
use Rattle.std.specs.Prelude.{if◌then◌else◌}
use denote.Enum.Bare.{same_true, true_same}
use Rattle.pli_language.specs.contracts.token.Word.{the_type as the_word}
use Rattle.pli_language.specs.contracts.token.Symbol.{the_type as the_symbol}
use Rattle.pli_language.specs.declared.token.Word.{Word}
use Rattle.pli_language.specs.declared.token.Symbol.{Symbol}
use Rattle.pli_language.specs.declared.token.Kind.{Kind}
use Rattle.pli_language.specs.declared.token.Kind.TheVariants as K
use Rattle.pli_language.specs.declared.token.Token.{Token}
use Rattle.pli_language.specs.declared.token.Symbol.TheVariants as S
use Rattle.pli_language.specs.Marks.{Marks}
use Rattle.pli_language.specs.Spells.{Takes, next_kind, name_at, SpellsCount}
use Rattle.pli_language.specs.Tree as T
use Rattle.pli_phrase.specs.Cursor.{Cursor, Stuck, onto}
use Rattle.pli_phrase.specs.Tokens.{is_terminal, starts, taken, taken_at, named, name_at_front, name_from, numbered, number_at_front, number_from, count_from}
use Rattle.pli_attributes.proofs.Posts.{Post, Never, post_ok, post_stuck, post_ended, post_bind, post_if}

-- ---- words and symbols

pub terminal_is : (k j : Kind) → is_terminal k j ≡ true → j ≡ k
terminal_is (K.Symbol y) (K.Symbol z) e = ap K.Symbol (same_true the_symbol tt z y e)
terminal_is (K.Name w) (K.Name v) e = ap K.Name (same_true the_word tt v w e)
terminal_is _ _ e = absurd (cc e)

pub is_symbol : (y : Symbol) → is_terminal (K.Symbol y) (K.Symbol y) ≡ true
is_symbol y = true_same the_symbol y y refl

pub is_word : (w : Word) → is_terminal (K.Name w) (K.Name w) ≡ true
is_word w = true_same the_word w w refl

-- the first token is of another kind
pub begins_not : (k : Kind) → is_terminal k k ≡ true → (ts : List Token) → starts k ts ≡ false → next_kind ts ≢ Some k
begins_not k h [] e i = absurd (cc i)
begins_not k h (t ∷ ts) e i =
    let j : t.kind ≡ k = cc i in
    let a : is_terminal k t.kind ≡ is_terminal k k = ap (is_terminal k) j in
    absurd (cc (a, e, h))

pub not_begins : (k : Kind) (ts : List Token) → next_kind ts ≢ Some k → starts k ts ≡ false
not_begins k [] n = refl
not_begins k (t ∷ ts) n = by_test (is_terminal k t.kind) refl
  where
    by_test : (b : Bool) → is_terminal k t.kind ≡ b → is_terminal k t.kind ≡ false
    by_test true h = absurd (n (ap Some (terminal_is k t.kind h)))
    by_test false h = h

pub not_symbol : (y : Symbol) (ts : List Token) → starts (K.Symbol y) ts ≡ false → next_kind ts ≢ Some (K.Symbol y)
not_symbol y ts e = begins_not (K.Symbol y) (is_symbol y) ts e

pub not_word : (w : Word) (ts : List Token) → starts (K.Name w) ts ≡ false → next_kind ts ≢ Some (K.Name w)
not_word w ts e = begins_not (K.Name w) (is_word w) ts e

pub takes_next : {ts r : List Token} {t : Token} {k : Kind} → Takes ts k t r → next_kind ts ≡ Some k
takes_next a = ap next_kind a.is ∙ ap Some a.of_kind

pub takes_starts : (k : Kind) → is_terminal k k ≡ true → {ts r : List Token} {t : Token} → Takes ts k t r → starts k ts ≡ true
takes_starts k h a = ap (starts k) a.is ∙ ap (is_terminal k) a.of_kind ∙ h

pub begins_symbol : (y : Symbol) {ts r : List Token} {t : Token} → Takes ts (K.Symbol y) t r → starts (K.Symbol y) ts ≡ true
begins_symbol y a = takes_starts (K.Symbol y) (is_symbol y) a

pub begins_word : (w : Word) {ts r : List Token} {t : Token} → Takes ts (K.Name w) t r → starts (K.Name w) ts ≡ true
begins_word w a = takes_starts (K.Name w) (is_word w) a

-- ---- what is read

-- a word or a symbol was taken
pub record TakenBy (k : Kind) (c : Cursor) (x : Token × Cursor) : Type 0 where
  pub take : Takes c.tokens k x.0 x.1.tokens
  pub marked : x.1.marks ≡ c.marks
  pub shorter : length x.1.tokens < length c.tokens

taken_at_post : (k : Kind) (c : Cursor) (ts : List Token) → c.tokens ≡ ts → Post (TakenBy k c) Never (taken_at k ts c)
taken_at_post k c [] e = post_ended
taken_at_post k c (t ∷ ts) e = post_if (is_terminal k t.kind) (Ok (t, onto ts c)) (Err Stuck) (λ b. post_ok (record { take = record { is = e; of_kind = terminal_is k t.kind b }; marked = refl; shorter = omega (arith, ap length e) })) (λ b. post_stuck)

pub taken_post : (k : Kind) (c : Cursor) → Post (TakenBy k c) Never (taken k c)
unfolding taken
taken_post k c = taken_at_post k c c.tokens refl

-- a name was read
pub record NameBy (s : List ℕ) (c : Cursor) (x : T.Name × Cursor) : Type 0 where
  pub token : Token
  pub word : Word
  pub take : Takes c.tokens (K.Name word) token x.1.tokens
  pub is : x.0 ≡ name_at s token word
  pub marked : x.1.marks ≡ c.marks
  pub shorter : length x.1.tokens < length c.tokens

named_post : (s : List ℕ) (c : Cursor) (t : Token) (ts : List Token) (k : Kind) → c.tokens ≡ t ∷ ts → t.kind ≡ k → Post (NameBy s c) Never (named s t k (onto ts c))
named_post s c t ts (K.Name w) e h = post_ok (record { token = t; word = w; take = record { is = e; of_kind = h }; is = refl; marked = refl; shorter = omega (arith, ap length e) })
named_post s c t ts (K.Number n) e h = post_stuck
named_post s c t ts K.Text e h = post_stuck
named_post s c t ts (K.Bit b) e h = post_stuck
named_post s c t ts (K.Symbol y) e h = post_stuck

name_at_post : (s : List ℕ) (c : Cursor) (ts : List Token) → c.tokens ≡ ts → Post (NameBy s c) Never (name_at_front s ts c)
name_at_post s c [] e = post_ended
name_at_post s c (t ∷ ts) e = named_post s c t ts t.kind e refl

pub name_post : (s : List ℕ) (c : Cursor) → Post (NameBy s c) Never (name_from s c)
unfolding name_from
name_post s c = name_at_post s c c.tokens refl

-- a number was read
pub record NumberBy (c : Cursor) (x : ℕ × Cursor) : Type 0 where
  pub token : Token
  pub take : Takes c.tokens (K.Number x.0) token x.1.tokens
  pub marked : x.1.marks ≡ c.marks
  pub shorter : length x.1.tokens < length c.tokens

numbered_post : (c : Cursor) (t : Token) (ts : List Token) (k : Kind) → c.tokens ≡ t ∷ ts → t.kind ≡ k → Post (NumberBy c) Never (numbered t k (onto ts c))
numbered_post c t ts (K.Number n) e h = post_ok (record { token = t; take = record { is = e; of_kind = h }; marked = refl; shorter = omega (arith, ap length e) })
numbered_post c t ts (K.Name w) e h = post_stuck
numbered_post c t ts K.Text e h = post_stuck
numbered_post c t ts (K.Bit b) e h = post_stuck
numbered_post c t ts (K.Symbol y) e h = post_stuck

number_at_post : (c : Cursor) (ts : List Token) → c.tokens ≡ ts → Post (NumberBy c) Never (number_at_front ts c)
number_at_post c [] e = post_ended
number_at_post c (t ∷ ts) e = numbered_post c t ts t.kind e refl

pub number_post : (c : Cursor) → Post (NumberBy c) Never (number_from c)
unfolding number_from
number_post c = number_at_post c c.tokens refl

-- a number in parentheses was read
pub record CountBy (c : Cursor) (x : ℕ × Cursor) : Type 0 where
  pub spelled : SpellsCount c.tokens x.0 x.1.tokens
  pub marked : x.1.marks ≡ c.marks
  pub shorter : length x.1.tokens < length c.tokens

pub count_post : (c : Cursor) → Post (CountBy c) Never (count_from c)
unfolding count_from
count_post c =
    post_bind _ _ (taken_post (K.Symbol S.OpenParenthesis) c) (λ t o.
    post_bind _ _ (number_post t.1) (λ n i.
    post_bind _ _ (taken_post (K.Symbol S.CloseParenthesis) n.1) (λ u z.
    post_ok (record {
      spelled = record { after = t.1.tokens; mid = n.1.tokens; open_token = t.0; number_token = i.token; close_token = u.0; opened = o.take; counted = i.take; closed = z.take };
      marked = cc;
      shorter = omega arith;
    }))))

-- ---- what is spelled is read

terminal_read : (k : Kind) → is_terminal k k ≡ true → {ts rest : List Token} {t : Token} (m : Marks) → Takes ts k t rest → taken k (record { tokens = ts; marks = m }) ≡ Ok (t, record { tokens = rest; marks = m })
unfolding taken
terminal_read k h {ts} {rest} {t} m a =
    let front : taken k (record { tokens = t ∷ rest; marks = m }) ≡ Ok (t, record { tokens = rest; marks = m }) = ap (λ b. if b then Ok (t, record { tokens = rest; marks = m }) else Err Stuck) (ap (is_terminal k) a.of_kind ∙ h) in
    ap (λ u. taken k (record { tokens = u; marks = m })) a.is ∙ front

pub symbol_read : (y : Symbol) {ts rest : List Token} {t : Token} (m : Marks) → Takes ts (K.Symbol y) t rest → taken (K.Symbol y) (record { tokens = ts; marks = m }) ≡ Ok (t, record { tokens = rest; marks = m })
symbol_read y m a = terminal_read (K.Symbol y) (is_symbol y) m a

pub word_read : (w : Word) {ts rest : List Token} {t : Token} (m : Marks) → Takes ts (K.Name w) t rest → taken (K.Name w) (record { tokens = ts; marks = m }) ≡ Ok (t, record { tokens = rest; marks = m })
word_read w m a = terminal_read (K.Name w) (is_word w) m a

pub name_read : (s : List ℕ) {ts rest : List Token} {t : Token} {word : Word} (m : Marks) → Takes ts (K.Name word) t rest → name_from s (record { tokens = ts; marks = m }) ≡ Ok (name_at s t word, record { tokens = rest; marks = m })
unfolding name_from
name_read s {ts} {rest} {t} {word} m a =
    let front : name_from s (record { tokens = t ∷ rest; marks = m }) ≡ Ok (name_at s t word, record { tokens = rest; marks = m }) = ap (λ k. named s t k (record { tokens = rest; marks = m })) a.of_kind in
    ap (λ u. name_from s (record { tokens = u; marks = m })) a.is ∙ front

pub number_read : {ts rest : List Token} {t : Token} {n : ℕ} (m : Marks) → Takes ts (K.Number n) t rest → number_from (record { tokens = ts; marks = m }) ≡ Ok (n, record { tokens = rest; marks = m })
unfolding number_from
number_read {ts} {rest} {t} {n} m a =
    let front : number_from (record { tokens = t ∷ rest; marks = m }) ≡ Ok (n, record { tokens = rest; marks = m }) = ap (λ k. numbered t k (record { tokens = rest; marks = m })) a.of_kind in
    ap (λ u. number_from (record { tokens = u; marks = m })) a.is ∙ front

pub count_read : {ts rest : List Token} {n : ℕ} (m : Marks) → SpellsCount ts n rest → count_from (record { tokens = ts; marks = m }) ≡ Ok (n, record { tokens = rest; marks = m })
unfolding count_from
count_read m a =
    let o = symbol_read S.OpenParenthesis m a.opened in
    let i = number_read m a.counted in
    let z = symbol_read S.CloseParenthesis m a.closed in
    rw (o, i, z) refl
