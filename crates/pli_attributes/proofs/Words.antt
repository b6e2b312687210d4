-- What may stand behind an attribute's word: what is read is spelled so, and what is spelled is read.
use Rattle.std.proofs.Common.{◌≡◌, ◌≢◌, ℕ, List, Option, Some, None, Bool, true, false, refl, sym, ap, ◌∙◌, subst, arith, Ok, Err, eqb-true}
use Rattle.std.specs.Prelude.{◌==◌, if◌then◌else◌}
use Rattle.std.proofs.lemmas.Bool.{eq-eqb}
use Rattle.pli_language.specs.declared.token.Symbol.TheVariants as S
use Rattle.pli_language.specs.declared.token.Kind.TheVariants as K
use Rattle.pli_language.specs.declared.token.Token.{Token}
use Rattle.pli_language.specs.Marks.{Marks}
use Rattle.pli_language.specs.Spells.{Takes, SpellsCount, next_kind, place_of, name_at}
use Rattle.pli_language.specs.Attributes as D
use Rattle.pli_language.specs.Attributes.{SpellsExtent, SpellsPrecision, SpellsSize, SpellsOwner, SpellsBitLength, extent_marks, size_marks}
use Rattle.pli_language.specs.Tree as T
use Rattle.pli_phrase.specs.Cursor.{Cursor, Stuck, Ended, LeavesOut, Read, onto}
use Rattle.pli_phrase.specs.Tokens.{taken}
use Rattle.pli_attributes.specs.Reading.{whole_or_stuck, scale_from, precision_from, bit_from, length_from, some_length_from, size_from, some_name_from, owner_from}
use Rattle.pli_attributes.proofs.Posts.{Post, Never, never, post_ok, post_stuck, post_left, post_bind, post_if}
use Rattle.pli_attributes.proofs.Tokens.{TakenBy, NameBy, NumberBy, taken_post, name_post, number_post, count_post, not_symbol, not_begins, begins_symbol, symbol_read, name_read, number_read, count_read}
use Rattle.pli_attributes.proofs.Lists.{Reads}
use Rattle.pli_attributes.proofs.Enclosed.{EnclosedBy, enclosed, optional_post, optional_read, optional_absent}
use Rattle.pli_attributes.proofs.Extents.{extent_post, extent_complete, extent_no_star}

abbrev pub unmarked : {X : Type 0} → X → Marks → Marks
unmarked x m = m

-- ---- a precision

-- a scale other than 0 in parentheses that are open before the digits
pub record Scaled (ts : List Token) : Type 0 where
  pub after : List Token
  pub mid : List Token
  pub behind : List Token
  pub inside : List Token
  pub rest : List Token
  pub u : Token
  pub v : Token
  pub w : Token
  pub x : Token
  pub y : Token
  pub n : ℕ
  pub q : ℕ
  pub opened : Takes ts (K.Symbol S.OpenParenthesis) u after
  pub digits : Takes after (K.Number n) v mid
  pub comma : Takes mid (K.Symbol S.Comma) w behind
  pub scale : Takes behind (K.Number q) x inside
  pub other : q ≢ 0
  pub closed : Takes inside (K.Symbol S.CloseParenthesis) y rest

-- the word at the first of the tokens is left out, with these marks before it
pub record LeavesAt (P : Type 0) (at : List Token) (c : Cursor) (d : Cursor) : Type 0 where
  pub why : P
  pub is : d ≡ onto at c

eqb_other : (a b : ℕ) → a == b ≡ false → a ≢ b
eqb_other a b e h = let t = eq-eqb a b h in absurd (cc (t, e))

other_eqb : (a b : ℕ) → a ≢ b → a == b ≡ false
other_eqb a b n = by_test (a == b) refl
  where
    by_test : (t : Bool) → a == b ≡ t → a == b ≡ false
    by_test true e = absurd (n (eqb-true a b e))
    by_test false e = e

-- what is read whole is read
whole_post : {X : Type 0} {P : X × Cursor → Type 0} {L : Cursor → Type 0} (b : Bool) (r : Read X) → Post P L r → Post P L (whole_or_stuck b r)
whole_post true r h = h
whole_post false (Ok x) h = h
whole_post false (Err Stuck) h = h
whole_post false (Err Ended) h = post_stuck
whole_post false (Err (LeavesOut d)) h = h

scale_post : (at : List Token) (c : Cursor) (t : Token × Cursor) (n : ℕ × Cursor) → TakenBy (K.Symbol S.OpenParenthesis) c t → NumberBy t.1 n → Post (Reads (λ ts p rest. SpellsPrecision ts p rest) unmarked c) (LeavesAt (Scaled c.tokens) at c) (scale_from at n.0 n.1)
unfolding scale_from
scale_post at c t n o i =
    post_if _ _ _
    (λ b. post_bind _ _ (never _ _ (taken_post (K.Symbol S.Comma) n.1)) (λ comma k. post_bind _ _ (never _ _ (number_post comma.1)) (λ q j. post_bind _ _ (never _ _ (whole_post (q.0 == 0) (taken (K.Symbol S.CloseParenthesis) q.1) (taken_post (K.Symbol S.CloseParenthesis) q.1))) (λ u z. post_if _ _ _
    (λ e. post_ok (record { spelled = D.digits_and_scale c.tokens t.1.tokens n.1.tokens comma.1.tokens q.1.tokens u.1.tokens t.0 i.token comma.0 j.token u.0 n.0 o.take i.take k.take (subst (λ v. Takes comma.1.tokens (K.Number v) j.token q.1.tokens) (eqb-true q.0 0 e) j.take) z.take; marked = z.marked ∙ j.marked ∙ k.marked ∙ i.marked ∙ o.marked; shorter = omega (arith, o.shorter, i.shorter, k.shorter, j.shorter, z.shorter) }))
    (λ e. post_left (record { why = record { after = t.1.tokens; mid = n.1.tokens; behind = comma.1.tokens; inside = q.1.tokens; rest = u.1.tokens; u = t.0; v = i.token; w = comma.0; x = j.token; y = u.0; n = n.0; q = q.0; opened = o.take; digits = i.take; comma = k.take; scale = j.take; other = eqb_other q.0 0 e; closed = z.take }; is = ap (λ m. record { tokens = at; marks = m }) (z.marked ∙ j.marked ∙ k.marked ∙ i.marked ∙ o.marked) }))))))
    (λ b. post_bind _ _ (never _ _ (taken_post (K.Symbol S.CloseParenthesis) n.1)) (λ u z. post_ok (record { spelled = D.digits c.tokens u.1.tokens n.0 (record { after = t.1.tokens; mid = n.1.tokens; open_token = t.0; number_token = i.token; close_token = u.0; opened = o.take; counted = i.take; closed = z.take }); marked = z.marked ∙ i.marked ∙ o.marked; shorter = omega (arith, o.shorter, i.shorter, z.shorter) })))

pub precision_post : (at : List Token) (c : Cursor) → Post (Reads (λ ts p rest. SpellsPrecision ts p rest) unmarked c) (LeavesAt (Scaled c.tokens) at c) (precision_from at c)
unfolding precision_from
precision_post at c =
    post_if _ _ _
    (λ b. post_bind _ _ (never _ _ (taken_post (K.Symbol S.OpenParenthesis) c)) (λ t o. post_bind _ _ (never _ _ (number_post t.1)) (λ n i. scale_post at c t n o i)))
    (λ b. post_ok (record { spelled = D.no_precision c.tokens (not_symbol S.OpenParenthesis c.tokens b); marked = refl; shorter = omega arith }))

closes_no_comma : {ts rest : List Token} {t : Token} → Takes ts (K.Symbol S.CloseParenthesis) t rest → next_kind ts ≢ Some (K.Symbol S.Comma)
closes_no_comma z e = absurd (cc (ap next_kind z.is, z.of_kind, e))

pub precision_complete : {ts rest : List Token} {x : Option ℕ} (at : List Token) (m : Marks) → SpellsPrecision ts x rest → precision_from at (record { tokens = ts; marks = m }) ≡ Ok (x, record { tokens = rest; marks = m })
unfolding precision_from scale_from
precision_complete at m (D.no_precision ts n) = rw (not_begins (K.Symbol S.OpenParenthesis) ts n) refl
precision_complete at m (D.digits ts rest n h) =
    let a = begins_symbol S.OpenParenthesis h.opened in
    let b = symbol_read S.OpenParenthesis m h.opened in
    let d = number_read m h.counted in
    let e = not_begins (K.Symbol S.Comma) h.mid (closes_no_comma h.closed) in
    let f = symbol_read S.CloseParenthesis m h.closed in
    rw (a, b, d, e, f) refl
precision_complete at m (D.digits_and_scale ts after mid behind inside rest t u v w x n o i k j z) =
    let a = begins_symbol S.OpenParenthesis o in
    let b = symbol_read S.OpenParenthesis m o in
    let d = number_read m i in
    let e = begins_symbol S.Comma k in
    let f = symbol_read S.Comma m k in
    let g = number_read m j in
    let h = symbol_read S.CloseParenthesis m z in
    rw (a, b, d, e, f, g, h) refl

pub precision_left_out : {ts : List Token} (at : List Token) (m : Marks) → Scaled ts → precision_from at (record { tokens = ts; marks = m }) ≡ Err (LeavesOut (record { tokens = at; marks = m }))
unfolding precision_from scale_from
precision_left_out at m s =
    let a = begins_symbol S.OpenParenthesis s.opened in
    let b = symbol_read S.OpenParenthesis m s.opened in
    let d = number_read m s.digits in
    let e = begins_symbol S.Comma s.comma in
    let f = symbol_read S.Comma m s.comma in
    let g = number_read m s.scale in
    let h = symbol_read S.CloseParenthesis m s.closed in
    let i = other_eqb s.q 0 s.other in
    rw (a, b, d, e, f, g, h, i) refl

-- ---- a length of BIT

-- another length than 1
pub record Bits (ts : List Token) : Type 0 where
  pub n : ℕ
  pub rest : List Token
  pub spelled : SpellsCount ts n rest
  pub other : n ≢ 1

-- BIT, whose word is before these tokens
pub record SpellsBit (ts : List Token) (a : T.Attribute) (rest : List Token) : Type 0 where
  pub is : a ≡ T.BitOne
  pub spelled : SpellsBitLength ts rest

-- a length in its parentheses, which is 1 or another one
bit_closed : (at : List Token) (c : Cursor) (t : Token × Cursor) (n : ℕ × Cursor) (u : Token × Cursor) → TakenBy (K.Symbol S.OpenParenthesis) c t → NumberBy t.1 n → TakenBy (K.Symbol S.CloseParenthesis) n.1 u → Post (Reads (λ ts a rest. SpellsBit ts a rest) unmarked c) (LeavesAt (Bits c.tokens) at c) (if n.0 == 1 then Ok (T.BitOne, u.1) else Err (LeavesOut (onto at u.1)))
bit_closed at c t n u o i z =
    let count : SpellsCount c.tokens n.0 u.1.tokens = record { after = t.1.tokens; mid = n.1.tokens; open_token = t.0; number_token = i.token; close_token = u.0; opened = o.take; counted = i.take; closed = z.take } in
    post_if _ _ _
    (λ e. post_ok (record { spelled = record { is = refl; spelled = D.bit_length c.tokens u.1.tokens (subst (λ v. SpellsCount c.tokens v u.1.tokens) (eqb-true n.0 1 e) count) }; marked = z.marked ∙ i.marked ∙ o.marked; shorter = omega (arith, o.shorter, i.shorter, z.shorter) }))
    (λ e. post_left (record { why = record { n = n.0; rest = u.1.tokens; spelled = count; other = eqb_other n.0 1 e }; is = ap (λ m. record { tokens = at; marks = m }) (z.marked ∙ i.marked ∙ o.marked) }))

pub bit_post : (at : List Token) (c : Cursor) → Post (Reads (λ ts a rest. SpellsBit ts a rest) unmarked c) (LeavesAt (Bits c.tokens) at c) (bit_from at c)
unfolding bit_from
bit_post at c =
    post_if _ _ _
    (λ b. post_bind _ _ (never _ _ (taken_post (K.Symbol S.OpenParenthesis) c)) (λ t o. post_bind _ _ (never _ _ (number_post t.1)) (λ n i. post_bind _ _ (never _ _ (whole_post (n.0 == 1) (taken (K.Symbol S.CloseParenthesis) n.1) (taken_post (K.Symbol S.CloseParenthesis) n.1))) (λ u z. bit_closed at c t n u o i z))))
    (λ b. post_ok (record { spelled = record { is = refl; spelled = D.no_bit_length c.tokens (not_symbol S.OpenParenthesis c.tokens b) }; marked = refl; shorter = omega arith }))

pub bit_complete : {ts rest : List Token} (at : List Token) (m : Marks) → SpellsBitLength ts rest → bit_from at (record { tokens = ts; marks = m }) ≡ Ok (T.BitOne, record { tokens = rest; marks = m })
unfolding bit_from
bit_complete at m (D.no_bit_length ts n) = rw (not_begins (K.Symbol S.OpenParenthesis) ts n) refl
bit_complete at m (D.bit_length ts rest h) =
    let a = begins_symbol S.OpenParenthesis h.opened in
    let b = symbol_read S.OpenParenthesis m h.opened in
    let d = number_read m h.counted in
    let e = symbol_read S.CloseParenthesis m h.closed in
    rw (a, b, d, e) refl

pub bit_left_out : {ts : List Token} (at : List Token) (m : Marks) → Bits ts → bit_from at (record { tokens = ts; marks = m }) ≡ Err (LeavesOut (record { tokens = at; marks = m }))
unfolding bit_from
bit_left_out at m h =
    let a = begins_symbol S.OpenParenthesis h.spelled.opened in
    let b = symbol_read S.OpenParenthesis m h.spelled.opened in
    let d = number_read m h.spelled.counted in
    let e = symbol_read S.CloseParenthesis m h.spelled.closed in
    let i = other_eqb h.n 1 h.other in
    rw (a, b, d, e, i) refl

-- ---- a size

-- `*` or an extent
pub data SpellsLength (s : List ℕ) : List Token → T.Size → List Token → Type 0 where
  star : (ts rest : List Token) (t : Token) → Takes ts (K.Symbol S.Times) t rest → SpellsLength s ts (T.StarSize (place_of t)) rest
  given : (ts rest : List Token) (e : T.Extent) → SpellsExtent s ts e rest → SpellsLength s ts (T.Given e) rest

length_post : (s : List ℕ) (c : Cursor) → Post (Reads (SpellsLength s) (λ n m. size_marks (Some n) m) c) Never (length_from s c)
unfolding length_from
length_post s c =
    post_if _ _ _
    (λ b. post_bind _ _ (taken_post (K.Symbol S.Times) c) (λ t k. post_ok (record { spelled = star c.tokens t.1.tokens t.0 k.take; marked = k.marked; shorter = omega (arith, k.shorter) })))
    (λ b. post_bind _ _ (extent_post s c) (λ e g. post_ok (record { spelled = given c.tokens e.1.tokens e.0 g.spelled; marked = g.marked; shorter = g.shorter })))

length_complete : {s : List ℕ} {ts rest : List Token} {x : T.Size} (m : Marks) → SpellsLength s ts x rest → length_from s (record { tokens = ts; marks = m }) ≡ Ok (x, record { tokens = rest; marks = size_marks (Some x) m })
unfolding length_from
length_complete m (star ts rest t k) = rw (begins_symbol S.Times k, symbol_read S.Times m k) refl
length_complete m (given ts rest e h) = rw (not_begins (K.Symbol S.Times) ts (extent_no_star h), extent_complete m h) refl

-- a value that is present
pub data Present {X : Type 0} (P : Cursor → X × Cursor → Type 0) (c : Cursor) : Option X × Cursor → Type 0 where
  present : (y : X × Cursor) → P c y → Present P c (Some y.0, y.1)

size_spelled : (s : List ℕ) (c : Cursor) (x : Option T.Size × Cursor) → EnclosedBy (Present (Reads (SpellsLength s) (λ n m. size_marks (Some n) m))) c x → Reads (SpellsSize s) size_marks c x
size_spelled s c x (enclosed t y u o (present n r) z) = record {
  spelled = spelled_as n.0 r.spelled;
  marked = z.marked ∙ r.marked ∙ ap (size_marks (Some n.0)) o.marked;
  shorter = omega (arith, o.shorter, r.shorter, z.shorter);
}
  where
    spelled_as : (n' : T.Size) → SpellsLength s t.1.tokens n' n.1.tokens → SpellsSize s c.tokens (Some n') u.1.tokens
    spelled_as n' (star ts rest v k) = D.star_size c.tokens t.1.tokens n.1.tokens u.1.tokens t.0 v u.0 o.take k z.take
    spelled_as n' (given ts rest e h) = D.given_size c.tokens t.1.tokens n.1.tokens u.1.tokens t.0 u.0 e o.take h z.take

pub size_post : (s : List ℕ) (c : Cursor) → Post (Reads (SpellsSize s) size_marks c) Never (size_from s c)
unfolding size_from
size_post s c =
    optional_post {P = Present (Reads (SpellsLength s) (λ n m. size_marks (Some n) m))} None (some_length_from s) c (λ d. post_bind _ _ (length_post s d) (λ n r. post_ok (present n r))) (λ n. record { spelled = D.no_size c.tokens n; marked = refl; shorter = omega arith }) (λ x k. size_spelled s c x k)

some_length : {s : List ℕ} {ts rest : List Token} {x : T.Size} (m : Marks) → SpellsLength s ts x rest → some_length_from s (record { tokens = ts; marks = m }) ≡ Ok (Some x, record { tokens = rest; marks = size_marks (Some x) m })
some_length m h = rw (length_complete m h) refl

pub size_complete : {s : List ℕ} {ts rest : List Token} {x : Option T.Size} (m : Marks) → SpellsSize s ts x rest → size_from s (record { tokens = ts; marks = m }) ≡ Ok (x, record { tokens = rest; marks = size_marks x m })
unfolding size_from
size_complete {s} m (D.no_size ts n) = optional_absent None (some_length_from s) ts m n
size_complete {s} m (D.star_size ts after mid rest t u v o k z) =
    optional_read None (some_length_from s) (Some (T.StarSize (place_of u))) m m o (some_length m (star after mid u k)) z
size_complete {s} m (D.given_size ts after mid rest t u e o h z) =
    optional_read None (some_length_from s) (Some (T.Given e)) m (extent_marks e m) o (some_length m (given after mid e h)) z

-- ---- an area or a locator

owner_spelled : (s : List ℕ) (c : Cursor) (x : Option T.Name × Cursor) → EnclosedBy (Present (NameBy s)) c x → Reads (SpellsOwner s) unmarked c x
owner_spelled s c x (enclosed t y u o (present n i) z) = record {
  spelled = subst (λ w. SpellsOwner s c.tokens (Some w) u.1.tokens) (sym i.is) (D.owner c.tokens t.1.tokens n.1.tokens u.1.tokens t.0 i.token u.0 i.word o.take i.take z.take);
  marked = z.marked ∙ i.marked ∙ o.marked;
  shorter = omega (arith, o.shorter, i.shorter, z.shorter);
}

pub owner_post : (s : List ℕ) (c : Cursor) → Post (Reads (SpellsOwner s) unmarked c) Never (owner_from s c)
unfolding owner_from
owner_post s c =
    optional_post {P = Present (NameBy s)} None (some_name_from s) c (λ d. post_bind _ _ (name_post s d) (λ n i. post_ok (present n i))) (λ n. record { spelled = D.no_owner c.tokens n; marked = refl; shorter = omega arith }) (λ x k. owner_spelled s c x k)

pub owner_complete : {s : List ℕ} {ts rest : List Token} {x : Option T.Name} (m : Marks) → SpellsOwner s ts x rest → owner_from s (record { tokens = ts; marks = m }) ≡ Ok (x, record { tokens = rest; marks = m })
unfolding owner_from
owner_complete {s} m (D.no_owner ts n) = optional_absent None (some_name_from s) ts m n
owner_complete {s} m (D.owner ts after mid rest t u v word o i z) =
    let a : some_name_from s (record { tokens = after; marks = m }) ≡ Ok (Some (name_at s u word), record { tokens = mid; marks = m }) = rw (name_read s m i) refl in
    optional_read None (some_name_from s) (Some (name_at s u word)) m m o a z
