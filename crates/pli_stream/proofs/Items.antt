-- Numbers, and items of format lists that are no lists: what is read is spelled so, and what is spelled is read.
use Rattle.std.proofs.Common.{◌≡◌, ◌≢◌, ℕ, ◌<◌, ◌≤◌, List, [], ◌∷◌, length, Option, Some, None, Bool, true, false, refl, ap, ◌∙◌, arith, Ok}
use Rattle.pli_language.specs.declared.token.Word.{Word}
use Rattle.pli_language.specs.declared.token.Word.TheVariants as W
use Rattle.pli_language.specs.declared.token.Symbol.TheVariants as S
use Rattle.pli_language.specs.declared.token.Kind.{Kind}
use Rattle.pli_language.specs.declared.token.Kind.TheVariants as K
use Rattle.pli_language.specs.declared.token.Token.{Token}
use Rattle.pli_language.specs.declared.expr.Place.{Place}
use Rattle.pli_language.specs.Marks.{Marks, no_marks}
use Rattle.pli_language.specs.Spells.{Takes, next_kind}
use Rattle.pli_language.specs.Formats as D
use Rattle.pli_language.specs.Formats.{SpellsTimes, SpellsNumberOrOne, SpellsWidth, SpellsFormat, is_width, is_times, Direction, Getting, Putting, format_marks, format_moves_data}
use Rattle.pli_language.specs.Tree as T
use Rattle.pli_language.proofs.UniqueFormats.{count_stands}
use Rattle.pli_phrase.specs.Cursor.{Cursor, onto}
use Rattle.pli_attributes.specs.Reading.{starts_number}
use Rattle.pli_attributes.proofs.Posts.{Post, Never, post_ok, post_stuck, post_ended, post_bind, post_if, post_weaken, post_is}
use Rattle.pli_attributes.proofs.Tokens.{number_post, count_post, not_symbol, not_begins, begins_symbol, number_read, count_read, takes_next}
use Rattle.pli_attributes.proofs.Lists.{Reads}
use Rattle.pli_attributes.proofs.Items.{no_number, number_no}
use Rattle.pli_attributes.proofs.Words.{unmarked}
use Rattle.pli_stream.specs.Reading.{checked, repetition_from, number_or_one_from, width_from, is_text_width, worded, format_of_kind, format_at, format_from, is_data}

-- ---- numbers

pub repetition_post : (c : Cursor) → Post (Reads (λ ts n rest. SpellsTimes ts n rest) unmarked c) Never (repetition_from c)
unfolding repetition_from
repetition_post c =
    post_if _ _ _
    (λ b. post_weaken _ (number_post c) (λ n i. record { spelled = D.number c.tokens n.1.tokens i.token n.0 i.take; marked = i.marked; shorter = omega (arith, i.shorter) }) (λ at l. l))
    (λ b. post_if _ _ _
    (λ e. post_weaken _ (count_post c) (λ n i. record { spelled = D.in_parentheses c.tokens n.1.tokens n.0 i.spelled; marked = i.marked; shorter = omega (arith, i.shorter) }) (λ at l. l))
    (λ e. post_ok (record { spelled = D.once c.tokens (no_number (next_kind c.tokens) b) e; marked = refl; shorter = omega arith })))

pub repetition_complete : {ts rest : List Token} {n : ℕ} (m : Marks) → SpellsTimes ts n rest → repetition_from (record { tokens = ts; marks = m }) ≡ Ok (n, record { tokens = rest; marks = m })
unfolding repetition_from
repetition_complete m (D.once ts none e) = rw (number_no (next_kind ts) none, e) refl
repetition_complete m (D.number ts rest t n a) =
    let b : starts_number (next_kind ts) ≡ true = ap starts_number (takes_next a) in
    rw (b, number_read m a) refl
repetition_complete m (D.in_parentheses ts rest n h) =
    let b : starts_number (next_kind ts) ≡ false = ap starts_number (takes_next h.opened) in
    rw (b, count_stands h, count_read m h) refl

pub number_or_one_post : (c : Cursor) → Post (Reads (λ ts n rest. SpellsNumberOrOne ts n rest) unmarked c) Never (number_or_one_from c)
unfolding number_or_one_from
number_or_one_post c =
    post_if _ _ _
    (λ b. post_weaken _ (count_post c) (λ n i. record { spelled = D.given c.tokens n.1.tokens n.0 i.spelled; marked = i.marked; shorter = omega (arith, i.shorter) }) (λ at l. l))
    (λ b. post_ok (record { spelled = D.one c.tokens (not_symbol S.OpenParenthesis c.tokens b); marked = refl; shorter = omega arith }))

pub number_or_one_complete : {ts rest : List Token} {n : ℕ} (m : Marks) → SpellsNumberOrOne ts n rest → number_or_one_from (record { tokens = ts; marks = m }) ≡ Ok (n, record { tokens = rest; marks = m })
unfolding number_or_one_from
number_or_one_complete m (D.one ts none) = rw (not_begins (K.Symbol S.OpenParenthesis) ts none) refl
number_or_one_complete m (D.given ts rest n h) = rw (begins_symbol S.OpenParenthesis h.opened, count_read m h) refl

width_post : (c : Cursor) → Post (Reads (λ ts n rest. SpellsWidth ts n rest) unmarked c) Never (width_from c)
unfolding width_from
width_post c =
    post_if _ _ _
    (λ b. post_bind _ _ (count_post c) (λ n i. post_ok (record { spelled = D.width c.tokens n.1.tokens n.0 i.spelled; marked = i.marked; shorter = omega (arith, i.shorter) })))
    (λ b. post_ok (record { spelled = D.no_width c.tokens (not_symbol S.OpenParenthesis c.tokens b); marked = refl; shorter = omega arith }))

width_complete : {ts rest : List Token} {n : Option ℕ} (m : Marks) → SpellsWidth ts n rest → width_from (record { tokens = ts; marks = m }) ≡ Ok (n, record { tokens = rest; marks = m })
unfolding width_from
width_complete m (D.no_width ts none) = rw (not_begins (K.Symbol S.OpenParenthesis) ts none) refl
width_complete m (D.width ts rest n h) = rw (begins_symbol S.OpenParenthesis h.opened, count_read m h) refl

-- ---- items that are no lists

abbrev pub is_plain : T.Format → Bool
is_plain (T.FormatList fs) = false
is_plain _ = true

pub record PlainBy (d : Direction) (p : Place) (c : Cursor) (x : T.Format × Cursor) : Type 0 where
  pub spelled : SpellsFormat c.tokens x.0 x.1.tokens
  pub marked : x.1.marks ≡ format_marks d x.0 p c.marks
  pub plain : is_plain x.0 ≡ true
  pub shorter : length x.1.tokens < length c.tokens

text_marked : (d : Direction) (w : Option ℕ) (p : Place) (ts : List Token) (m : Marks) → (checked (is_text_width d w) p (record { tokens = ts; marks = m })).marks ≡ D.text_marks d w p m
text_marked d (Some w) p ts m = refl
text_marked Getting None p ts m = refl
text_marked Putting None p ts m = refl

module _ (d : Direction) (p : Place) (c : Cursor) (t : Token) (ts : List Token) (e : c.tokens ≡ t ∷ ts) where
  worded_post : (word : Word) → t.kind ≡ K.Name word → Post (PlainBy d p c) Never (worded d p word (onto ts c))
  unfolding format_marks
  worded_post W.F h =
      post_bind _ _ (count_post (onto ts c)) (λ w i. post_ok (record { spelled = D.fixed c.tokens ts w.1.tokens t w.0 (record { is = e; of_kind = h }) i.spelled; marked = ap (λ m. D.width_marks w.0 p m) i.marked; plain = refl; shorter = omega (arith, ap length e, i.shorter) }))
  worded_post W.A h =
      post_bind _ _ (width_post (onto ts c)) (λ w i. post_ok (record { spelled = D.text c.tokens ts w.1.tokens t w.0 (record { is = e; of_kind = h }) i.spelled; marked = text_marked d w.0 p w.1.tokens w.1.marks ∙ ap (λ m. D.text_marks d w.0 p m) i.marked; plain = refl; shorter = omega (arith, ap length e, i.shorter) }))
  worded_post W.X h =
      post_bind _ _ (count_post (onto ts c)) (λ n i. post_ok (record { spelled = D.space c.tokens ts n.1.tokens t n.0 (record { is = e; of_kind = h }) i.spelled; marked = ap (λ m. D.times_marks n.0 p m) i.marked; plain = refl; shorter = omega (arith, ap length e, i.shorter) }))
  worded_post W.Skip h =
      post_bind _ _ (number_or_one_post (onto ts c)) (λ n i. post_ok (record { spelled = D.skip c.tokens ts n.1.tokens t n.0 (record { is = e; of_kind = h }) i.spelled; marked = ap (λ m. D.times_marks n.0 p m) i.marked; plain = refl; shorter = omega (arith, ap length e, i.shorter) }))
  worded_post W.Column h =
      post_bind _ _ (count_post (onto ts c)) (λ n i. post_ok (record { spelled = D.column c.tokens ts n.1.tokens t n.0 (record { is = e; of_kind = h }) i.spelled; marked = ap (λ m. D.times_marks n.0 p m) i.marked; plain = refl; shorter = omega (arith, ap length e, i.shorter) }))
  worded_post _ h = post_stuck

  kind_post : (k : Kind) → t.kind ≡ k → Post (PlainBy d p c) Never (format_of_kind d p k (onto ts c))
  kind_post (K.Name word) h = worded_post word h
  kind_post _ h = post_stuck

format_at_post : (d : Direction) (p : Place) (c : Cursor) (ts : List Token) → c.tokens ≡ ts → Post (PlainBy d p c) Never (format_at d p ts c)
format_at_post d p c [] e = post_ended
format_at_post d p c (t ∷ ts) e = kind_post d p c t ts e t.kind refl

pub format_post : (d : Direction) (p : Place) (c : Cursor) → Post (PlainBy d p c) Never (format_from d p c)
unfolding format_from
format_post d p c = format_at_post d p c c.tokens refl

format_worded : (d : Direction) (p : Place) {ts rest : List Token} {t : Token} {word : Word} (m : Marks) → Takes ts (K.Name word) t rest → format_from d p (record { tokens = ts; marks = m }) ≡ worded d p word (record { tokens = rest; marks = m })
unfolding format_from
format_worded d p {ts} {rest} {t} {word} m a =
    ap (λ u. format_at d p u (record { tokens = u; marks = m })) a.is ∙ ap (λ k. format_of_kind d p k (record { tokens = rest; marks = m })) a.of_kind

pub format_complete : (d : Direction) (p : Place) {ts rest : List Token} {f : T.Format} (m : Marks) → SpellsFormat ts f rest → is_plain f ≡ true → format_from d p (record { tokens = ts; marks = m }) ≡ Ok (f, record { tokens = rest; marks = format_marks d f p m })
unfolding format_marks
format_complete d p m (D.nested ts rest fs h) e = absurd (cc e)
format_complete d p m (D.fixed ts after rest t w a h) e = format_worded d p m a ∙ rw (count_read m h) refl
format_complete d p m (D.text ts after rest t w a h) e =
    format_worded d p m a ∙ rw (width_complete m h) refl ∙ ap (λ k. Ok (T.TextFormat w, record { tokens = rest; marks = k })) (text_marked d w p rest m)
format_complete d p m (D.space ts after rest t n a h) e = format_worded d p m a ∙ rw (count_read m h) refl
format_complete d p m (D.skip ts after rest t n a h) e = format_worded d p m a ∙ rw (number_or_one_complete m h) refl
format_complete d p m (D.column ts after rest t n a h) e = format_worded d p m a ∙ rw (count_read m h) refl

word_no_open : {ts rest : List Token} {t : Token} {word : Word} → Takes ts (K.Name word) t rest → next_kind ts ≢ Some (K.Symbol S.OpenParenthesis)
word_no_open a e = absurd (cc (takes_next a, e))

-- an item that is no list begins with no parenthesis
pub plain_no_open : {ts rest : List Token} {f : T.Format} → SpellsFormat ts f rest → is_plain f ≡ true → next_kind ts ≢ Some (K.Symbol S.OpenParenthesis)
plain_no_open (D.nested ts rest fs h) e = absurd (cc e)
plain_no_open (D.fixed ts after rest t w a h) e = word_no_open a
plain_no_open (D.text ts after rest t w a h) e = word_no_open a
plain_no_open (D.space ts after rest t n a h) e = word_no_open a
plain_no_open (D.skip ts after rest t n a h) e = word_no_open a
plain_no_open (D.column ts after rest t n a h) e = word_no_open a

pub plain_moves : (f : T.Format) → is_plain f ≡ true → is_data f ≡ format_moves_data f
unfolding format_moves_data
plain_moves (T.FormatList fs) e = absurd (cc e)
plain_moves (T.FixedFormat w) e = refl
plain_moves (T.TextFormat w) e = refl
plain_moves (T.SpaceFormat n) e = refl
plain_moves (T.SkipFormat n) e = refl
plain_moves (T.ColumnFormat n) e = refl

pub repetition_shorter : {ts rest : List Token} {n : ℕ} → SpellsTimes ts n rest → length rest ≤ length ts
repetition_shorter {ts} h = (post_is (repetition_post (record { tokens = ts; marks = no_marks })) (repetition_complete no_marks h)).shorter
