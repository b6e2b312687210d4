-- Attributes: what is read is spelled so, what is spelled is read, and what is left out is where it is said to be.
use Rattle.std.proofs.Common.{◌≡◌, ℕ, zero, suc, ◌<◌, List, [], ◌∷◌, length, Option, Some, None, true, refl, sym, ap, ◌∙◌, subst, arith, Ok, Err}
use Rattle.std.specs.Prelude.{if◌then◌else◌}
use Rattle.pli_language.specs.declared.token.Word.{Word}
use Rattle.pli_language.specs.declared.token.Word.TheVariants as W
use Rattle.pli_language.specs.declared.token.Kind.{Kind}
use Rattle.pli_language.specs.declared.token.Kind.TheVariants as K
use Rattle.pli_language.specs.declared.token.Token.{Token}
use Rattle.pli_language.specs.Marks.{Marks, no_marks}
use Rattle.pli_language.specs.Spells.{Takes, next_kind}
use Rattle.pli_language.specs.Attributes as D
use Rattle.pli_language.specs.Attributes.{SpellsInitialItems, SpellsAttribute, SpellsAttributes, LeavesOutAttribute, LeavesOutAttributes, attribute_marks, attributes_marks, size_marks, plain_attribute, is_left_out_attribute, has_precision, is_name}
use Rattle.pli_language.specs.Tree as T
use Rattle.pli_phrase.specs.Cursor.{Cursor, ◌>>=◌, Stuck, LeavesOut, onto}
use Rattle.pli_phrase.specs.Tokens.{starts_name}
use Rattle.pli_attributes.specs.Reading.{initial_items_from, worded, plain_or, attribute_of_kind, attribute_at, attribute_from, attributes_at, attributes_from}
use Rattle.pli_attributes.proofs.Posts.{Post, never, post_ok, post_stuck, post_ended, post_left, post_bind, post_if, post_weaken, post_is}
use Rattle.pli_attributes.proofs.Lists.{Reads}
use Rattle.pli_attributes.proofs.Enclosed.{EnclosedBy, enclosed, enclosed_post, enclosed_read}
use Rattle.pli_attributes.proofs.Words.{unmarked, Scaled, LeavesAt, precision_post, precision_complete, precision_left_out, bit_post, bit_complete, bit_left_out, size_post, size_complete, owner_post, owner_complete}
use Rattle.pli_attributes.proofs.Initials.{initial_items_post, initial_items_complete}

-- ---- one attribute

-- an attribute was read, and its word taken
pub record AttributeBy (s : List ℕ) (c : Cursor) (x : T.Attribute × Cursor) : Type 0 where
  pub spelled : SpellsAttribute s c.tokens x.0 x.1.tokens
  pub marked : x.1.marks ≡ attribute_marks x.0 c.marks
  pub shorter : length x.1.tokens < length c.tokens

abbrev pub LeavesHere : Cursor → Cursor → Type 0
LeavesHere c d = LeavesAt (LeavesOutAttribute c.tokens) c.tokens c d

scaled_out : (c : Cursor) (t : Token) (ts : List Token) (word : Word) → Takes c.tokens (K.Name word) t ts → has_precision word ≡ true → Scaled ts → LeavesOutAttribute c.tokens
scaled_out c t ts word a p z =
    D.scale c.tokens ts z.after z.mid z.behind z.inside z.rest t z.u z.v z.w z.x z.y word z.n z.q a p z.opened z.digits z.comma z.scale z.other z.closed

initial_spelled : (s : List ℕ) (c : Cursor) (t : Token) (ts : List Token) (x : List T.InitialItem × Cursor) → Takes c.tokens (K.Name W.Initial) t ts → length ts < length c.tokens → EnclosedBy (Reads (SpellsInitialItems s) unmarked) (onto ts c) x → AttributeBy s c (T.Initial x.0, x.1)
initial_spelled s c t ts x a l (enclosed o y u k r z) = record {
  spelled = D.initial c.tokens ts o.1.tokens y.1.tokens u.1.tokens t o.0 u.0 y.0 a k.take r.spelled z.take;
  marked = z.marked ∙ r.marked ∙ k.marked;
  shorter = omega (arith, l, k.shorter, r.shorter, z.shorter);
}

-- the attributes of one word say nothing that the limits count
plain_unmarked : (word : Word) (a : T.Attribute) (m : Marks) → plain_attribute word ≡ Some a → attribute_marks a m ≡ m
plain_unmarked W.Varying a m p = let k : T.Varying ≡ a = cc p in ap (λ u. attribute_marks u m) (sym k)
plain_unmarked W.Pointer a m p = let k : T.Pointer ≡ a = cc p in ap (λ u. attribute_marks u m) (sym k)
plain_unmarked W.Ptr a m p = let k : T.Pointer ≡ a = cc p in ap (λ u. attribute_marks u m) (sym k)
plain_unmarked W.Automatic a m p = let k : T.Automatic ≡ a = cc p in ap (λ u. attribute_marks u m) (sym k)
plain_unmarked W.Static a m p = let k : T.Static ≡ a = cc p in ap (λ u. attribute_marks u m) (sym k)
plain_unmarked W.Controlled a m p = let k : T.Controlled ≡ a = cc p in ap (λ u. attribute_marks u m) (sym k)
plain_unmarked W.Builtin a m p = let k : T.Builtin ≡ a = cc p in ap (λ u. attribute_marks u m) (sym k)
plain_unmarked W.Aligned a m p = let k : T.Aligned ≡ a = cc p in ap (λ u. attribute_marks u m) (sym k)
plain_unmarked W.Unaligned a m p = let k : T.Unaligned ≡ a = cc p in ap (λ u. attribute_marks u m) (sym k)
plain_unmarked W.Internal a m p = let k : T.Internal ≡ a = cc p in ap (λ u. attribute_marks u m) (sym k)
plain_unmarked _ a m p = absurd (cc p)

module _ (s : List ℕ) (c : Cursor) (t : Token) (ts : List Token) (e : c.tokens ≡ t ∷ ts) where
  other_post : (word : Word) → t.kind ≡ K.Name word → Post (AttributeBy s c) (LeavesHere c) (if is_left_out_attribute word then Err (LeavesOut (onto (t ∷ ts) (onto ts c))) else Err Stuck)
  other_post word h =
      post_if _ _ _
      (λ b. post_left (record { why = D.word c.tokens ts t word (record { is = e; of_kind = h }) b; is = ap (λ u. onto u c) (sym e) }))
      (λ b. post_stuck)

  worded_post : (word : Word) → t.kind ≡ K.Name word → Post (AttributeBy s c) (LeavesHere c) (worded s (t ∷ ts) word (onto ts c))
  worded_post W.Fixed h =
      let a : Takes c.tokens (K.Name W.Fixed) t ts = record { is = e; of_kind = h } in
      post_bind _ _ (post_weaken _ (precision_post (t ∷ ts) (onto ts c)) (λ p r. r) (λ d l. record { why = scaled_out c t ts W.Fixed a refl l.why; is = l.is ∙ ap (λ u. onto u c) (sym e) })) (λ p r. post_ok (record { spelled = D.fixed c.tokens ts p.1.tokens t p.0 a r.spelled; marked = r.marked; shorter = omega (arith, ap length e, r.shorter) }))
  worded_post W.Binary h =
      let a : Takes c.tokens (K.Name W.Binary) t ts = record { is = e; of_kind = h } in
      post_bind _ _ (post_weaken _ (precision_post (t ∷ ts) (onto ts c)) (λ p r. r) (λ d l. record { why = scaled_out c t ts W.Binary a refl l.why; is = l.is ∙ ap (λ u. onto u c) (sym e) })) (λ p r. post_ok (record { spelled = D.binary c.tokens ts p.1.tokens t p.0 a r.spelled; marked = r.marked; shorter = omega (arith, ap length e, r.shorter) }))
  worded_post W.Character h =
      post_bind _ _ (never _ _ (size_post s (onto ts c))) (λ n r. post_ok (record { spelled = D.character c.tokens ts n.1.tokens t n.0 (record { is = e; of_kind = h }) r.spelled; marked = r.marked; shorter = omega (arith, ap length e, r.shorter) }))
  worded_post W.Bit h =
      let a : Takes c.tokens (K.Name W.Bit) t ts = record { is = e; of_kind = h } in
      post_weaken _ (bit_post (t ∷ ts) (onto ts c)) (λ x r. record { spelled = subst (λ v. SpellsAttribute s c.tokens v x.1.tokens) (sym r.spelled.is) (D.bit c.tokens ts x.1.tokens t a r.spelled.spelled); marked = r.marked ∙ ap (λ v. attribute_marks v c.marks) (sym r.spelled.is); shorter = omega (arith, ap length e, r.shorter) }) (λ d l. record { why = D.bits c.tokens ts l.why.rest t l.why.n a l.why.spelled l.why.other; is = l.is ∙ ap (λ u. onto u c) (sym e) })
  worded_post W.Offset h =
      post_bind _ _ (never _ _ (owner_post s (onto ts c))) (λ n r. post_ok (record { spelled = D.offset c.tokens ts n.1.tokens t n.0 (record { is = e; of_kind = h }) r.spelled; marked = r.marked; shorter = omega (arith, ap length e, r.shorter) }))
  worded_post W.Area h =
      post_bind _ _ (never _ _ (size_post s (onto ts c))) (λ n r. post_ok (record { spelled = D.area c.tokens ts n.1.tokens t n.0 (record { is = e; of_kind = h }) r.spelled; marked = r.marked; shorter = omega (arith, ap length e, r.shorter) }))
  worded_post W.Based h =
      post_bind _ _ (never _ _ (owner_post s (onto ts c))) (λ n r. post_ok (record { spelled = D.based c.tokens ts n.1.tokens t n.0 (record { is = e; of_kind = h }) r.spelled; marked = r.marked; shorter = omega (arith, ap length e, r.shorter) }))
  worded_post W.Initial h =
      post_bind _ _ (never _ _ (enclosed_post (initial_items_from s) (onto ts c) (initial_items_post s))) (λ x k. post_ok (initial_spelled s c t ts x (record { is = e; of_kind = h }) (omega (arith, ap length e)) k))
  worded_post word h = other_post word h

  plain_post : (word : Word) (o : Option T.Attribute) → t.kind ≡ K.Name word → plain_attribute word ≡ o → Post (AttributeBy s c) (LeavesHere c) (plain_or o (onto ts c) (worded s (t ∷ ts) word (onto ts c)))
  plain_post word (Some a) h p = post_ok (record { spelled = D.plain c.tokens ts t word a (record { is = e; of_kind = h }) p; marked = sym (plain_unmarked word a c.marks p); shorter = omega (arith, ap length e) })
  plain_post word None h p = worded_post word h

  kind_post : (k : Kind) → t.kind ≡ k → Post (AttributeBy s c) (LeavesHere c) (attribute_of_kind s (t ∷ ts) k (onto ts c))
  kind_post (K.Name word) h = plain_post word (plain_attribute word) h refl
  kind_post _ h = post_stuck

attribute_at_post : (s : List ℕ) (c : Cursor) (ts : List Token) → c.tokens ≡ ts → Post (AttributeBy s c) (LeavesHere c) (attribute_at s ts c)
attribute_at_post s c [] e = post_ended
attribute_at_post s c (t ∷ ts) e = kind_post s c t ts e t.kind refl

pub attribute_post : (s : List ℕ) (c : Cursor) → Post (AttributeBy s c) (LeavesHere c) (attribute_from s c)
unfolding attribute_from
attribute_post s c = attribute_at_post s c c.tokens refl

attribute_named : (s : List ℕ) {ts rest : List Token} {t : Token} {word : Word} (m : Marks) → Takes ts (K.Name word) t rest → attribute_from s (record { tokens = ts; marks = m }) ≡ plain_or (plain_attribute word) (record { tokens = rest; marks = m }) (worded s ts word (record { tokens = rest; marks = m }))
unfolding attribute_from
attribute_named s {ts} {rest} {t} {word} m a =
    let d : Cursor = record { tokens = rest; marks = m } in
    ap (λ u. attribute_at s u (record { tokens = u; marks = m })) a.is ∙ ap (λ k. attribute_of_kind s (t ∷ rest) k d) a.of_kind ∙ ap (λ u. plain_or (plain_attribute word) d (worded s u word d)) (sym a.is)

pub attribute_complete : {s : List ℕ} {ts rest : List Token} {x : T.Attribute} (m : Marks) → SpellsAttribute s ts x rest → attribute_from s (record { tokens = ts; marks = m }) ≡ Ok (x, record { tokens = rest; marks = attribute_marks x m })
attribute_complete {s} m (D.plain ts rest t word x a p) =
    attribute_named s m a ∙ ap (λ o. plain_or o (record { tokens = rest; marks = m }) (worded s ts word (record { tokens = rest; marks = m }))) p ∙ ap (λ k. Ok (x, record { tokens = rest; marks = k })) (sym (plain_unmarked word x m p))
attribute_complete {s} m (D.fixed ts after rest t p a h) = attribute_named s m a ∙ rw (precision_complete ts m h) refl
attribute_complete {s} m (D.binary ts after rest t p a h) = attribute_named s m a ∙ rw (precision_complete ts m h) refl
attribute_complete {s} m (D.character ts after rest t n a h) = attribute_named s m a ∙ rw (size_complete m h) refl
attribute_complete {s} m (D.bit ts after rest t a h) = attribute_named s m a ∙ bit_complete ts m h
attribute_complete {s} m (D.offset ts after rest t n a h) = attribute_named s m a ∙ rw (owner_complete m h) refl
attribute_complete {s} m (D.area ts after rest t n a h) = attribute_named s m a ∙ rw (size_complete m h) refl
attribute_complete {s} m (D.based ts after rest t n a h) = attribute_named s m a ∙ rw (owner_complete m h) refl
attribute_complete {s} m (D.initial ts after mid behind rest t u v is a o h z) =
    let i = enclosed_read (initial_items_from s) is m m o (initial_items_complete m h) z in
    attribute_named s m a ∙ ap (λ r. r >>= λ x. Ok (T.Initial x.0, x.1)) i

word_left_out : (s : List ℕ) (at : List Token) (word : Word) (c : Cursor) → is_left_out_attribute word ≡ true → plain_or (plain_attribute word) c (worded s at word c) ≡ Err (LeavesOut (onto at c))
word_left_out s at W.Decimal c e = refl
word_left_out s at W.Float c e = refl
word_left_out s at W.Picture c e = refl
word_left_out s at W.Complex c e = refl
word_left_out s at W.Label c e = refl
word_left_out s at W.Entry c e = refl
word_left_out s at W.File c e = refl
word_left_out s at W.External c e = refl
word_left_out s at W.Like c e = refl
word_left_out s at W.Defined c e = refl
word_left_out s at W.Union c e = refl
word_left_out s at W.Generic c e = refl
word_left_out s at _ c e = absurd (cc e)

scale_left_out : (s : List ℕ) (at after : List Token) (word : Word) (m : Marks) → has_precision word ≡ true → Scaled after → plain_or (plain_attribute word) (record { tokens = after; marks = m }) (worded s at word (record { tokens = after; marks = m })) ≡ Err (LeavesOut (record { tokens = at; marks = m }))
scale_left_out s at after W.Fixed m e z = rw (precision_left_out at m z) refl
scale_left_out s at after W.Binary m e z = rw (precision_left_out at m z) refl
scale_left_out s at after _ m e z = absurd (cc e)

pub attribute_left_out : (s : List ℕ) {ts : List Token} (m : Marks) → LeavesOutAttribute ts → attribute_from s (record { tokens = ts; marks = m }) ≡ Err (LeavesOut (record { tokens = ts; marks = m }))
attribute_left_out s m (D.word ts rest t word a e) = attribute_named s m a ∙ word_left_out s ts word (record { tokens = rest; marks = m }) e
attribute_left_out s m (D.bits ts after rest t n a h other) =
    attribute_named s m a ∙ bit_left_out ts m (record { n = n; rest = rest; spelled = h; other = other })
attribute_left_out s m (D.scale ts at after mid behind inside rest t u v w x y word n q a p o i k j other z) =
    attribute_named s m a ∙ scale_left_out s ts at word m p (record { after = after; mid = mid; behind = behind; inside = inside; rest = rest; u = u; v = v; w = w; x = x; y = y; n = n; q = q; opened = o; digits = i; comma = k; scale = j; other = other; closed = z })

-- ---- attributes

-- where something is left out stands a token
pub record Begun (ts : List Token) : Type 0 where
  pub token : Token
  pub behind : List Token
  pub is : ts ≡ token ∷ behind

names_same : (k : Option Kind) → starts_name k ≡ is_name k
names_same (Some (K.Name word)) = refl
names_same (Some (K.Number n)) = refl
names_same (Some K.Text) = refl
names_same (Some (K.Bit b)) = refl
names_same (Some (K.Symbol y)) = refl
names_same None = refl

takes_starts_name : {ts rest : List Token} {t : Token} {word : Word} → Takes ts (K.Name word) t rest → starts_name (next_kind ts) ≡ true
takes_starts_name a = ap (λ u. starts_name (next_kind u)) a.is ∙ ap (λ k. starts_name (Some k)) a.of_kind

pub attribute_named_first : {s : List ℕ} {ts rest : List Token} {x : T.Attribute} → SpellsAttribute s ts x rest → starts_name (next_kind ts) ≡ true
attribute_named_first (D.plain ts rest t word x a p) = takes_starts_name a
attribute_named_first (D.fixed ts after rest t p a h) = takes_starts_name a
attribute_named_first (D.binary ts after rest t p a h) = takes_starts_name a
attribute_named_first (D.character ts after rest t n a h) = takes_starts_name a
attribute_named_first (D.bit ts after rest t a h) = takes_starts_name a
attribute_named_first (D.offset ts after rest t n a h) = takes_starts_name a
attribute_named_first (D.area ts after rest t n a h) = takes_starts_name a
attribute_named_first (D.based ts after rest t n a h) = takes_starts_name a
attribute_named_first (D.initial ts after mid behind rest t u v is a o h z) = takes_starts_name a

left_out_named : {ts : List Token} → LeavesOutAttribute ts → starts_name (next_kind ts) ≡ true
left_out_named (D.word ts rest t word a e) = takes_starts_name a
left_out_named (D.bits ts after rest t n a h other) = takes_starts_name a
left_out_named (D.scale ts at after mid behind inside rest t u v w x y word n q a p o i k j other z) = takes_starts_name a

left_out_begun : {ts : List Token} → LeavesOutAttribute ts → Begun ts
left_out_begun (D.word ts rest t word a e) = record { token = t; behind = rest; is = a.is }
left_out_begun (D.bits ts after rest t n a h other) = record { token = t; behind = after; is = a.is }
left_out_begun (D.scale ts at after mid behind inside rest t u v w x y word n q a p o i k j other z) = record { token = t; behind = at; is = a.is }

-- an attribute from these tokens on is left out
pub record LeavesAmong (s : List ℕ) (c : Cursor) (d : Cursor) : Type 0 where
  pub leaves : LeavesOutAttributes s c.tokens c.marks d.tokens d.marks
  pub begun : Begun d.tokens

leaves_here : (s : List ℕ) (c d : Cursor) → LeavesHere c d → LeavesAmong s c d
leaves_here s c d l =
    subst (λ u. LeavesAmong s c u) (sym l.is) (record { leaves = D.here c.tokens c.marks l.why; begun = left_out_begun l.why })

leaves_later : (s : List ℕ) (c d : Cursor) (a : T.Attribute × Cursor) → AttributeBy s c a → LeavesAmong s a.1 d → LeavesAmong s c d
leaves_later s c d a g l = record {
  leaves = D.later c.tokens a.1.tokens d.tokens c.marks d.marks a.0 g.spelled (subst (λ m. LeavesOutAttributes s a.1.tokens m d.tokens d.marks) g.marked l.leaves);
  begun = l.begun;
}

attributes_at_post : (n : ℕ) (s : List ℕ) (c : Cursor) → Post (Reads (SpellsAttributes s) attributes_marks c) (LeavesAmong s c) (attributes_at n s c)
unfolding attributes_at
attributes_at_post zero s c = post_ended
attributes_at_post (suc n) s c =
    post_if _ _ _
    (λ b. post_bind _ _ (post_weaken _ (attribute_post s c) (λ a g. g) (leaves_here s c)) (λ a g. post_bind _ _ (post_weaken _ (attributes_at_post n s a.1) (λ others r. r) (λ d l. leaves_later s c d a g l)) (λ others r. post_ok (record { spelled = D.attribute c.tokens a.1.tokens others.1.tokens a.0 others.0 g.spelled r.spelled; marked = r.marked ∙ ap (attributes_marks others.0) g.marked; shorter = omega (arith, g.shorter, r.shorter) }))))
    (λ b. post_ok (record { spelled = D.no_attribute c.tokens (sym (names_same (next_kind c.tokens)) ∙ b); marked = refl; shorter = omega arith }))

pub attributes_post : (s : List ℕ) (c : Cursor) → Post (Reads (SpellsAttributes s) attributes_marks c) (LeavesAmong s c) (attributes_from s c)
unfolding attributes_from
attributes_post s c = attributes_at_post (suc (length c.tokens)) s c

attribute_shorter : {s : List ℕ} {ts rest : List Token} {x : T.Attribute} → SpellsAttribute s ts x rest → length rest < length ts
attribute_shorter {s} {ts} h = (post_is (attribute_post s (record { tokens = ts; marks = no_marks })) (attribute_complete no_marks h)).shorter

attributes_at_complete : {s : List ℕ} {ts rest : List Token} {xs : List T.Attribute} (n : ℕ) (m : Marks) → SpellsAttributes s ts xs rest → length ts < n → attributes_at n s (record { tokens = ts; marks = m }) ≡ Ok (xs, record { tokens = rest; marks = attributes_marks xs m })
unfolding attributes_at
attributes_at_complete zero m h l = absurd (omega arith)
attributes_at_complete (suc n) m (D.no_attribute ts e) l =
    let b = names_same (next_kind ts) ∙ e in
    rw b refl
attributes_at_complete (suc n) m (D.attribute ts mid rest a others h more) l =
    let b = attribute_named_first h in
    let d = attribute_complete m h in
    let i = attribute_shorter h in
    let e = attributes_at_complete n (attribute_marks a m) more (omega (arith, i, l)) in
    rw (b, d, e) refl

pub attributes_complete : {s : List ℕ} {ts rest : List Token} {xs : List T.Attribute} (m : Marks) → SpellsAttributes s ts xs rest → attributes_from s (record { tokens = ts; marks = m }) ≡ Ok (xs, record { tokens = rest; marks = attributes_marks xs m })
unfolding attributes_from
attributes_complete {ts = ts} m h = attributes_at_complete (suc (length ts)) m h (omega arith)

attributes_at_left_out : (s : List ℕ) (n : ℕ) {ts at : List Token} {m m' : Marks} → LeavesOutAttributes s ts m at m' → length ts < n → attributes_at n s (record { tokens = ts; marks = m }) ≡ Err (LeavesOut (record { tokens = at; marks = m' }))
unfolding attributes_at
attributes_at_left_out s zero h l = absurd (omega arith)
attributes_at_left_out s (suc n) (D.here ts m h) l = rw (left_out_named h, attribute_left_out s m h) refl
attributes_at_left_out s (suc n) (D.later ts mid at m m' a h more) l =
    let b = attribute_named_first h in
    let d = attribute_complete m h in
    let i = attribute_shorter h in
    let e = attributes_at_left_out s n more (omega (arith, i, l)) in
    rw (b, d, e) refl

pub attributes_left_out : {s : List ℕ} {ts at : List Token} {m m' : Marks} → LeavesOutAttributes s ts m at m' → attributes_from s (record { tokens = ts; marks = m }) ≡ Err (LeavesOut (record { tokens = at; marks = m' }))
unfolding attributes_from
attributes_left_out {s} {ts = ts} h = attributes_at_left_out s (suc (length ts)) h (omega arith)
