-- Format lists: what is read is spelled so.
use Rattle.std.proofs.Common.{◌≡◌, ℕ, zero, suc, ◌<◌, ◌≤◌, List, [], ◌∷◌, length, Bool, true, false, refl, subst, arith}
use Rattle.pli_language.specs.declared.token.Symbol.TheVariants as S
use Rattle.pli_language.specs.declared.token.Kind.TheVariants as K
use Rattle.pli_language.specs.declared.token.Token.{Token}
use Rattle.pli_language.specs.Spells.{Takes, place_of}
use Rattle.pli_language.specs.Formats as D
use Rattle.pli_language.specs.Formats.{SpellsTimes, SpellsFormat, SpellsFormatItems, is_times, Direction}
use Rattle.pli_language.specs.Tree as T
use Rattle.pli_phrase.specs.Cursor.{Cursor}
use Rattle.pli_attributes.proofs.Posts.{Post, Never, post_ok, post_ended, post_bind, post_if, post_weaken}
use Rattle.pli_attributes.proofs.Tokens.{TakenBy, taken_post}
use Rattle.pli_attributes.proofs.Lists.{Reads}
use Rattle.pli_attributes.proofs.Words.{unmarked}
use Rattle.pli_stream.specs.Reading.{checked, Item, Outer, State, formats_with, listed, Turn, On, Closed, with_item, opened, further, closed, item_at, item_from, behind_item, turn, follow, run}
use Rattle.pli_stream.proofs.Items.{PlainBy, repetition_post, format_post}

-- what stands behind an item: the parenthesis that closes the list, or further items behind a comma
pub data Behind : List Token → T.Formats → List Token → Type 0 where
  ends : (ts rest : List Token) (u : Token) → Takes ts (K.Symbol S.CloseParenthesis) u rest → Behind ts T.NoFormat rest
  goes_on : (ts after rest : List Token) (u : Token) (fs : T.Formats) → Takes ts (K.Symbol S.Comma) u after → SpellsFormatItems after fs rest → Behind ts fs rest

-- an item before what stands behind it
joined : {ts behind at mid rest : List Token} {t : Token} {n : ℕ} {f : T.Format} {fs : T.Formats} → ts ≡ t ∷ behind → SpellsTimes ts n at → SpellsFormat at f mid → Behind mid fs rest → SpellsFormatItems ts (T.FormatThen (place_of t) n f fs) rest
joined {ts} {behind} {at} {t = t} {n = n} {f = f} e times h (ends mid rest u z) = D.last_item ts behind mid rest t u n f e at times h z
joined {ts} {behind} {at} {t = t} {n = n} {f = f} e times h (goes_on mid after rest u fs k others) = D.further_items ts behind mid after rest t u n f fs e at times h k others

-- a list ends here that stands in these others; P is what has to hold of the whole list and of where it ends
abbrev pub Closing : (T.Formats → List Token → Type 0) → List Outer → T.Formats → List Token → Type 0
Closing P [] fs rest = P fs rest
Closing P (o ∷ k) fs mid =
    (gs : T.Formats) (rest : List Token) → Behind mid gs rest → Closing P k (formats_with o.items (T.FormatThen o.place o.repetition (T.FormatList fs) gs)) rest

-- where an item is due, and behind one
abbrev pub Inside : (T.Formats → List Token → Type 0) → Bool → List Item → List Outer → List Token → Type 0
Inside P true items k ts = (fs : T.Formats) (rest : List Token) → SpellsFormatItems ts fs rest → Closing P k (formats_with items fs) rest
Inside P false items k ts = (fs : T.Formats) (rest : List Token) → Behind ts fs rest → Closing P k (formats_with items fs) rest

abbrev pub At : (T.Formats → List Token → Type 0) → State → List Token → Type 0
At P st ts = Inside P st.is_due st.items st.outer ts

abbrev pub TurnOk : (T.Formats → List Token → Type 0) → Turn → List Token → Type 0
TurnOk P (On st) ts = At P st ts
TurnOk P (Closed fs moves) ts = P fs ts

pub record TurnBy (P : T.Formats → List Token → Type 0) (c : Cursor) (x : Turn × Cursor) : Type 0 where
  pub ok : TurnOk P x.0 x.1.tokens
  pub shorter : length x.1.tokens < length c.tokens

module _ (P : T.Formats → List Token → Type 0) (d : Direction) (st : State) where
  -- an item that began at the token, behind its repetition
  list_by : (c : Cursor) (t : Token) (ts : List Token) (n : ℕ × Cursor) (u : Token × Cursor) → c.tokens ≡ t ∷ ts → Inside P true st.items st.outer c.tokens → Reads (λ us k rest. SpellsTimes us k rest) unmarked c n → TakenBy (K.Symbol S.OpenParenthesis) (checked (is_times n.0) (place_of t) n.1) u → TurnBy P c (On (opened st (place_of t) n.0), u.1)
  list_by c t ts n u e a r o = record {
    ok = λ fs mid h gs rest g. a (T.FormatThen (place_of t) n.0 (T.FormatList fs) gs) rest (joined e r.spelled (D.nested n.1.tokens mid fs (D.formats n.1.tokens u.1.tokens mid u.0 fs o.take h)) g);
    shorter = omega (arith, r.shorter, o.shorter);
  }

  plain_by : (c : Cursor) (t : Token) (ts : List Token) (n : ℕ × Cursor) (f : T.Format × Cursor) → c.tokens ≡ t ∷ ts → Inside P true st.items st.outer c.tokens → Reads (λ us k rest. SpellsTimes us k rest) unmarked c n → PlainBy d (place_of t) (checked (is_times n.0) (place_of t) n.1) f → TurnBy P c (On (with_item st (place_of t) n.0 f.0), f.1)
  plain_by c t ts n f e a r g = record {
    ok = λ gs rest h. a (T.FormatThen (place_of t) n.0 f.0 gs) rest (joined e r.spelled g.spelled h);
    shorter = omega (arith, r.shorter, g.shorter);
  }

  item_at_post : (c : Cursor) (ts : List Token) → c.tokens ≡ ts → Inside P true st.items st.outer c.tokens → Post (TurnBy P c) Never (item_at d st ts c)
  item_at_post c [] e a = post_ended
  item_at_post c (t ∷ ts) e a =
      post_bind _ _ (repetition_post c) (λ n r. post_if _ _ _
      (λ b. post_bind _ _ (taken_post (K.Symbol S.OpenParenthesis) (checked (is_times n.0) (place_of t) n.1)) (λ u o. post_ok (list_by c t ts n u e a r o)))
      (λ b. post_bind _ _ (format_post d (place_of t) (checked (is_times n.0) (place_of t) n.1)) (λ f g. post_ok (plain_by c t ts n f e a r g))))

  item_post : (c : Cursor) → Inside P true st.items st.outer c.tokens → Post (TurnBy P c) Never (item_from d st c)
  unfolding item_from
  item_post c a = item_at_post c c.tokens refl a

  comma_by : (c : Cursor) (u : Token × Cursor) → Inside P false st.items st.outer c.tokens → TakenBy (K.Symbol S.Comma) c u → TurnBy P c (On (further st), u.1)
  comma_by c u a k = record { ok = λ fs rest h. a fs rest (goes_on c.tokens u.1.tokens rest u.0 fs k.take h); shorter = k.shorter }

  closed_ok : (items : List Item) (k : List Outer) (moves : Bool) (rest : List Token) → Closing P k (listed items) rest → TurnOk P (closed items k moves) rest
  closed_ok items [] moves rest h = h
  closed_ok items (o ∷ k) moves rest h = h

  close_by : (c : Cursor) (u : Token × Cursor) → Inside P false st.items st.outer c.tokens → TakenBy (K.Symbol S.CloseParenthesis) c u → TurnBy P c (closed st.items st.outer st.moves_data, u.1)
  close_by c u a z = record { ok = closed_ok st.items st.outer st.moves_data u.1.tokens (a T.NoFormat u.1.tokens (ends c.tokens u.1.tokens u.0 z.take)); shorter = z.shorter }

  behind_post : (c : Cursor) → Inside P false st.items st.outer c.tokens → Post (TurnBy P c) Never (behind_item st c)
  unfolding behind_item
  behind_post c a =
      post_if _ _ _
      (λ b. post_bind _ _ (taken_post (K.Symbol S.Comma) c) (λ u k. post_ok (comma_by c u a k)))
      (λ b. post_bind _ _ (taken_post (K.Symbol S.CloseParenthesis) c) (λ u z. post_ok (close_by c u a z)))

  pub turn_post : (c : Cursor) → At P st c.tokens → Post (TurnBy P c) Never (turn d st c)
  turn_post c a =
      post_if _ _ _
      (λ b. item_post c (subst (λ u. Inside P u st.items st.outer c.tokens) b a))
      (λ b. behind_post c (subst (λ u. Inside P u st.items st.outer c.tokens) b a))

-- a whole list was read
pub record RunBy (P : T.Formats → List Token → Type 0) (c : Cursor) (x : (T.Formats × Bool) × Cursor) : Type 0 where
  pub good : P x.0.0 x.1.tokens
  pub shorter : length x.1.tokens ≤ length c.tokens

run_by : (P : T.Formats → List Token → Type 0) (c b : Cursor) (x : (T.Formats × Bool) × Cursor) → length b.tokens < length c.tokens → RunBy P b x → RunBy P c x
run_by P c b x l r = record { good = r.good; shorter = omega (arith, l, r.shorter) }

follow_post : (P : T.Formats → List Token → Type 0) (n : ℕ) (d : Direction) (z : Turn) (c b : Cursor) → ((st : State) → At P st b.tokens → Post (RunBy P b) Never (run n d st b)) → TurnOk P z b.tokens → length b.tokens < length c.tokens → Post (RunBy P c) Never (follow (run n d) z b)
follow_post P n d (On st) c b more ok l = post_weaken _ (more st ok) (λ x r. run_by P c b x l r) (λ at e. e)
follow_post P n d (Closed fs moves) c b more ok l = post_ok (record { good = ok; shorter = omega (arith, l) })

pub run_post : (P : T.Formats → List Token → Type 0) (n : ℕ) (d : Direction) (st : State) (c : Cursor) → At P st c.tokens → Post (RunBy P c) Never (run n d st c)
unfolding run
run_post P zero d st c a = post_ended
run_post P (suc n) d st c a =
    post_bind _ _ (turn_post P d st c a) (λ z g. follow_post P n d z.0 c z.1 (λ st' a'. run_post P n d st' z.1 a') g.ok g.shorter)

-- ---- that a turn takes a token

any_closing : (k : List Outer) (fs : T.Formats) (rest : List Token) → Closing (λ gs us. Unit {0}) k fs rest
any_closing [] fs rest = tt
any_closing (o ∷ k) fs mid = λ gs rest b. any_closing k (formats_with o.items (T.FormatThen o.place o.repetition (T.FormatList fs) gs)) rest

any_inside : (due : Bool) (items : List Item) (k : List Outer) (ts : List Token) → Inside (λ gs us. Unit {0}) due items k ts
any_inside true items k ts = λ fs rest h. any_closing k (formats_with items fs) rest
any_inside false items k ts = λ fs rest h. any_closing k (formats_with items fs) rest

pub any_at : (st : State) (ts : List Token) → At (λ gs us. Unit {0}) st ts
any_at st ts = any_inside st.is_due st.items st.outer ts
