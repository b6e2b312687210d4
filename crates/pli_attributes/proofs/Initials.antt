-- Initial values: what is read is spelled so, and what is spelled is read.
use Rattle.std.proofs.Common.{◌≡◌, ℕ, ◌≤◌, List, [], ◌∷◌, length, Option, Some, None, refl, sym, ap, ◌∙◌, subst, arith, Ok, suc}
use Rattle.std.specs.Prelude.{slice_range}
use Rattle.pli_language.specs.declared.token.Word.TheVariants as W
use Rattle.pli_language.specs.declared.token.Symbol.TheVariants as S
use Rattle.pli_language.specs.declared.token.Kind.{Kind}
use Rattle.pli_language.specs.declared.token.Kind.TheVariants as K
use Rattle.pli_language.specs.declared.token.Token.{Token}
use Rattle.pli_language.specs.Marks.{Marks, no_marks}
use Rattle.pli_language.specs.Spells.{Takes}
use Rattle.pli_language.specs.Attributes as D
use Rattle.pli_language.specs.Attributes.{SpellsRepetition, SpellsNoArguments, SpellsInitialValue, SpellsInitialItem, SpellsInitialItems}
use Rattle.pli_language.specs.Tree as T
use Rattle.pli_phrase.specs.Cursor.{Cursor, onto}
use Rattle.pli_phrase.specs.Tokens.{number_from, text_of}
use Rattle.pli_phrase.proofs.TextValues.{text_spelled, text_sound}
use Rattle.pli_attributes.specs.Reading.{repetition_from, bare_from, text_value, value_behind, value_at, value_from, initial_item_from, initial_items_from}
use Rattle.pli_attributes.proofs.Posts.{Post, Never, post_ok, post_stuck, post_ended, post_bind, post_if, post_weaken, post_is}
use Rattle.pli_attributes.proofs.Tokens.{NumberBy, taken_post, number_post, not_symbol, not_begins, begins_symbol, symbol_read, number_read}
use Rattle.pli_attributes.proofs.Lists.{Reads, Listed, one, further, list_marks, list_post, list_complete}
use Rattle.pli_attributes.proofs.Enclosed.{EnclosedBy, enclosed, optional_post, optional_read, optional_absent}
use Rattle.pli_attributes.proofs.Words.{unmarked}

-- ---- repetitions

repetition_spelled : (c : Cursor) (x : ℕ × Cursor) → EnclosedBy NumberBy c x → Reads (λ ts n rest. SpellsRepetition ts n rest) unmarked c x
repetition_spelled c x (enclosed t n u o i z) = record {
  spelled = D.repeated c.tokens u.1.tokens n.0 (record { after = t.1.tokens; mid = n.1.tokens; open_token = t.0; number_token = i.token; close_token = u.0; opened = o.take; counted = i.take; closed = z.take });
  marked = z.marked ∙ i.marked ∙ o.marked;
  shorter = omega (arith, o.shorter, i.shorter, z.shorter);
}

repetition_post : (c : Cursor) → Post (Reads (λ ts n rest. SpellsRepetition ts n rest) unmarked c) Never (repetition_from c)
unfolding repetition_from
repetition_post c =
    optional_post 1 number_from c number_post (λ n. record { spelled = D.once c.tokens n; marked = refl; shorter = omega arith }) (λ x k. repetition_spelled c x k)

repetition_complete : {ts rest : List Token} {n : ℕ} (m : Marks) → SpellsRepetition ts n rest → repetition_from (record { tokens = ts; marks = m }) ≡ Ok (n, record { tokens = rest; marks = m })
unfolding repetition_from
repetition_complete m (D.once ts n) = optional_absent 1 number_from ts m n
repetition_complete m (D.repeated ts rest n h) = optional_read 1 number_from n m m h.opened (number_read m h.counted) h.closed

-- ---- values

-- the value whose word is before these tokens
pub record SpellsBare (v : T.InitialValue) (ts : List Token) (x : T.InitialValue) (rest : List Token) : Type 0 where
  pub is : x ≡ v
  pub spelled : SpellsNoArguments ts rest

bare_post : (v : T.InitialValue) (c : Cursor) → Post (Reads (SpellsBare v) unmarked c) Never (bare_from v c)
unfolding bare_from
bare_post v c =
    post_if _ _ _
    (λ b. post_bind _ _ (taken_post (K.Symbol S.OpenParenthesis) c) (λ t o. post_bind _ _ (taken_post (K.Symbol S.CloseParenthesis) t.1) (λ u z. post_ok (record { spelled = record { is = refl; spelled = D.empty c.tokens t.1.tokens u.1.tokens t.0 u.0 o.take z.take }; marked = z.marked ∙ o.marked; shorter = omega (arith, o.shorter, z.shorter) }))))
    (λ b. post_ok (record { spelled = record { is = refl; spelled = D.bare c.tokens (not_symbol S.OpenParenthesis c.tokens b) }; marked = refl; shorter = omega arith }))

bare_complete : {ts rest : List Token} (v : T.InitialValue) (m : Marks) → SpellsNoArguments ts rest → bare_from v (record { tokens = ts; marks = m }) ≡ Ok (v, record { tokens = rest; marks = m })
unfolding bare_from
bare_complete v m (D.bare ts n) = rw (not_begins (K.Symbol S.OpenParenthesis) ts n) refl
bare_complete v m (D.empty ts mid rest t u o z) =
    rw (begins_symbol S.OpenParenthesis o, symbol_read S.OpenParenthesis m o, symbol_read S.CloseParenthesis m z) refl

module _ (s : List ℕ) (c : Cursor) (t : Token) (ts : List Token) (e : c.tokens ≡ t ∷ ts) where
  text_post : (o : Option (List ℕ)) → t.kind ≡ K.Text → text_of (slice_range s t.start t.end) ≡ o → Post (Reads (SpellsInitialValue s) unmarked c) Never (text_value o (onto ts c))
  text_post None h w = post_stuck
  text_post (Some v) h w = post_ok (record { spelled = D.text c.tokens ts t v (record { is = e; of_kind = h }) (text_sound (slice_range s t.start t.end) v w); marked = refl; shorter = omega (arith, ap length e) })

  value_behind_post : (k : Kind) → t.kind ≡ k → Post (Reads (SpellsInitialValue s) unmarked c) Never (value_behind s t k (onto ts c))
  value_behind_post (K.Number n) h = post_ok (record { spelled = D.unsigned c.tokens ts t n (record { is = e; of_kind = h }); marked = refl; shorter = omega (arith, ap length e) })
  value_behind_post (K.Symbol S.Plus) h =
      post_bind _ _ (number_post (onto ts c)) (λ n i. post_ok (record { spelled = D.positive c.tokens ts n.1.tokens t i.token n.0 (record { is = e; of_kind = h }) i.take; marked = i.marked; shorter = omega (arith, ap length e, i.shorter) }))
  value_behind_post (K.Symbol S.Minus) h =
      post_bind _ _ (number_post (onto ts c)) (λ n i. post_ok (record { spelled = D.negative c.tokens ts n.1.tokens t i.token n.0 (record { is = e; of_kind = h }) i.take; marked = i.marked; shorter = omega (arith, ap length e, i.shorter) }))
  value_behind_post K.Text h = text_post (text_of (slice_range s t.start t.end)) h refl
  value_behind_post (K.Bit b) h = post_ok (record { spelled = D.bit c.tokens ts t b (record { is = e; of_kind = h }); marked = refl; shorter = omega (arith, ap length e) })
  value_behind_post (K.Symbol S.Times) h = post_ok (record { spelled = D.skipped c.tokens ts t (record { is = e; of_kind = h }); marked = refl; shorter = omega (arith, ap length e) })
  value_behind_post (K.Name W.Null) h =
      post_weaken _ (bare_post T.InitialNull (onto ts c)) (λ x r. record { spelled = subst (λ v. SpellsInitialValue s c.tokens v x.1.tokens) (sym r.spelled.is) (D.null c.tokens ts x.1.tokens t (record { is = e; of_kind = h }) r.spelled.spelled); marked = r.marked; shorter = omega (arith, ap length e, r.shorter) }) (λ at l. l)
  value_behind_post (K.Name W.Empty) h =
      post_weaken _ (bare_post T.InitialEmpty (onto ts c)) (λ x r. record { spelled = subst (λ v. SpellsInitialValue s c.tokens v x.1.tokens) (sym r.spelled.is) (D.empty_area c.tokens ts x.1.tokens t (record { is = e; of_kind = h }) r.spelled.spelled); marked = r.marked; shorter = omega (arith, ap length e, r.shorter) }) (λ at l. l)
  value_behind_post _ h = post_stuck

value_at_post : (s : List ℕ) (c : Cursor) (ts : List Token) → c.tokens ≡ ts → Post (Reads (SpellsInitialValue s) unmarked c) Never (value_at s ts c)
value_at_post s c [] e = post_ended
value_at_post s c (t ∷ ts) e = value_behind_post s c t ts e t.kind refl

value_post : (s : List ℕ) (c : Cursor) → Post (Reads (SpellsInitialValue s) unmarked c) Never (value_from s c)
unfolding value_from
value_post s c = value_at_post s c c.tokens refl

value_front : (s : List ℕ) {ts rest : List Token} {t : Token} {k : Kind} (m : Marks) → Takes ts k t rest → value_from s (record { tokens = ts; marks = m }) ≡ value_behind s t k (record { tokens = rest; marks = m })
unfolding value_from
value_front s {ts} {rest} {t} {k} m a =
    ap (λ u. value_at s u (record { tokens = u; marks = m })) a.is ∙ ap (λ k. value_behind s t k (record { tokens = rest; marks = m })) a.of_kind

value_complete : {s : List ℕ} {ts rest : List Token} {v : T.InitialValue} (m : Marks) → SpellsInitialValue s ts v rest → value_from s (record { tokens = ts; marks = m }) ≡ Ok (v, record { tokens = rest; marks = m })
value_complete {s} m (D.unsigned ts rest t n a) = value_front s m a
value_complete {s} m (D.positive ts mid rest t u n a i) = value_front s m a ∙ rw (number_read m i) refl
value_complete {s} m (D.negative ts mid rest t u n a i) = value_front s m a ∙ rw (number_read m i) refl
value_complete {s} m (D.text ts rest t v a w) =
    value_front s m a ∙ ap (λ o. text_value o (record { tokens = rest; marks = m })) (text_spelled v (slice_range s t.start t.end) w)
value_complete {s} m (D.bit ts rest t b a) = value_front s m a
value_complete {s} m (D.skipped ts rest t a) = value_front s m a
value_complete {s} m (D.null ts mid rest t a n) = value_front s m a ∙ bare_complete T.InitialNull m n
value_complete {s} m (D.empty_area ts mid rest t a n) = value_front s m a ∙ bare_complete T.InitialEmpty m n

-- ---- items

pub initial_item_post : (s : List ℕ) (c : Cursor) → Post (Reads (SpellsInitialItem s) unmarked c) Never (initial_item_from s c)
unfolding initial_item_from
initial_item_post s c =
    post_bind _ _ (repetition_post c) (λ n g. post_bind _ _ (value_post s n.1) (λ v r. post_ok (record { spelled = D.initial_item c.tokens n.1.tokens v.1.tokens n.0 v.0 g.spelled r.spelled; marked = r.marked ∙ g.marked; shorter = omega (arith, g.shorter, r.shorter) })))

initial_item_complete : {s : List ℕ} {ts rest : List Token} {x : T.InitialItem} (m : Marks) → SpellsInitialItem s ts x rest → initial_item_from s (record { tokens = ts; marks = m }) ≡ Ok (x, record { tokens = rest; marks = m })
unfolding initial_item_from
initial_item_complete m (D.initial_item ts mid rest n v g r) = rw (repetition_complete m g, value_complete m r) refl

initial_item_shorter : {s : List ℕ} {ts rest : List Token} {x : T.InitialItem} → SpellsInitialItem s ts x rest → length rest ≤ length ts
initial_item_shorter {s} {ts} h = (post_is (initial_item_post s (record { tokens = ts; marks = no_marks })) (initial_item_complete no_marks h)).shorter

items_listed : {s : List ℕ} {ts rest : List Token} {xs : List T.InitialItem} → Listed (SpellsInitialItem s) ts xs rest → SpellsInitialItems s ts xs rest
items_listed (one ts rest x h n) = D.one_value ts rest x h n
items_listed (further ts mid after rest t x xs h k others) = D.further_values ts mid after rest t x xs h k (items_listed others)

listed_items : {s : List ℕ} {ts rest : List Token} {xs : List T.InitialItem} → SpellsInitialItems s ts xs rest → Listed (SpellsInitialItem s) ts xs rest
listed_items (D.one_value ts rest x h n) = one ts rest x h n
listed_items (D.further_values ts mid after rest t x xs h k others) = further ts mid after rest t x xs h k (listed_items others)

items_unmarked : (i : ℕ) (xs : List T.InitialItem) (m : Marks) → list_marks (λ i x m. m) i xs m ≡ m
items_unmarked i [] m = refl
items_unmarked i (x ∷ xs) m = items_unmarked (suc i) xs m

pub initial_items_post : (s : List ℕ) (c : Cursor) → Post (Reads (SpellsInitialItems s) unmarked c) Never (initial_items_from s c)
unfolding initial_items_from
initial_items_post s c =
    post_weaken _ (list_post (λ before. initial_item_from s) (SpellsInitialItem s) (λ i x m. m) (λ d. Never) (λ i d. initial_item_post s d) (λ i d x comma at g k l. l) c) (λ x r. record { spelled = items_listed r.spelled; marked = r.marked ∙ items_unmarked 0 x.0 c.marks; shorter = r.shorter }) (λ at l. l)

pub initial_items_complete : {s : List ℕ} {ts rest : List Token} {x : List T.InitialItem} (m : Marks) → SpellsInitialItems s ts x rest → initial_items_from s (record { tokens = ts; marks = m }) ≡ Ok (x, record { tokens = rest; marks = m })
unfolding initial_items_from
initial_items_complete {s} {ts} {rest} {x} m h =
    list_complete (λ before. initial_item_from s) (SpellsInitialItem s) (λ i x m. m) (λ i ts rest x m h. initial_item_complete m h) (λ ts rest x h. initial_item_shorter h) ts rest x m (listed_items h) ∙ ap (λ k. Ok (x, record { tokens = rest; marks = k })) (items_unmarked 0 x m)
