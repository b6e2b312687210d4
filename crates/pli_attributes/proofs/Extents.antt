-- Extents, bounds and dimensions: what is read is spelled so, and what is spelled is read.
use Rattle.std.proofs.Common.{◌≡◌, ◌≢◌, ℕ, suc, ◌≤◌, List, [], ◌∷◌, length, Some, refl, sym, ap, ◌∙◌, subst, arith, Ok, Err}
use Rattle.std.specs.Prelude.{nat_le}
use Rattle.pli_language.specs.declared.token.Word.TheVariants as W
use Rattle.pli_language.specs.declared.token.Symbol.TheVariants as S
use Rattle.pli_language.specs.declared.token.Kind.TheVariants as K
use Rattle.pli_language.specs.declared.token.Token.{Token}
use Rattle.pli_language.specs.declared.expr.Place.{Place}
use Rattle.pli_language.specs.declared.fault.SourceKind.TheVariants.{TooLarge}
use Rattle.pli_language.specs.Marks.{Marks, no_marks, note_if, expr_marks, first_place}
use Rattle.pli_language.specs.Spells.{SpellsExpr, next_kind}
use Rattle.pli_language.specs.Attributes as D
use Rattle.pli_language.specs.Attributes.{SpellsExtent, SpellsBound, SpellsBounds, SpellsDimensions, extent_marks, bound_marks, bound_place, bounds_marks, most_dimensions}
use Rattle.pli_language.specs.Tree as T
use Rattle.pli_phrase.specs.Cursor.{Cursor}
use Rattle.pli_phrase.specs.Tokens.{name_from}
use Rattle.pli_phrase.specs.Cursor.{Stuck}
use Rattle.pli_phrase.specs.Reading.{expr_from, run, follow, operand_due}
use Rattle.pli_phrase.proofs.Spelled.{Starts, at_first}
use Rattle.pli_attributes.specs.Reading.{referring, refer_from, extent_from, upper_from, bound_from, dimension_at, dimension_due, one_bound, bounds_from, dimensions_from}
use Rattle.pli_attributes.proofs.Posts.{Post, Never, post_ok, post_bind, post_if, post_weaken, post_is}
use Rattle.pli_attributes.proofs.Tokens.{TakenBy, NameBy, taken_post, name_post, not_symbol, not_word, not_begins, begins_symbol, begins_word, symbol_read, word_read, name_read}
use Rattle.pli_attributes.proofs.Lists.{Reads, Listed, one, further, list_marks, list_post, list_complete}
use Rattle.pli_attributes.proofs.Enclosed.{EnclosedBy, enclosed, enclosed_post, optional_post, optional_read, optional_absent}
use Rattle.pli_attributes.proofs.Expressions.{expr_post, expr_complete}

-- ---- extents

referred : (s : List ℕ) (c : Cursor) (e : T.Expr × Cursor) (t : Token × Cursor) (member : T.Name × Cursor) → Reads (SpellsExpr s) expr_marks c e → TakenBy (K.Name W.Refer) e.1 t → EnclosedBy (NameBy s) t.1 member → Reads (SpellsExtent s) extent_marks c (referring e.0 t.0 member.0, member.1)
referred s c e t member g r (enclosed o n u p i z) = record {
  spelled =
      subst (λ w. SpellsExtent s c.tokens (referring e.0 t.0 w) u.1.tokens) (sym i.is) (D.referring c.tokens e.1.tokens t.1.tokens o.1.tokens n.1.tokens u.1.tokens t.0 o.0 i.token u.0 e.0 i.word g.spelled r.take p.take i.take z.take);
  marked = z.marked ∙ i.marked ∙ p.marked ∙ r.marked ∙ g.marked;
  shorter = omega (arith, g.shorter, r.shorter, p.shorter, i.shorter, z.shorter);
}

refer_post : (s : List ℕ) (c : Cursor) (e : T.Expr × Cursor) → Reads (SpellsExpr s) expr_marks c e → Post (Reads (SpellsExtent s) extent_marks c) Never (refer_from s e.0 e.1)
refer_post s c e g =
    post_if _ _ _
    (λ b. post_bind _ _ (taken_post (K.Name W.Refer) e.1) (λ t r. post_bind _ _ (enclosed_post (name_from s) t.1 (name_post s)) (λ member k. post_ok (referred s c e t member g r k))))
    (λ b. post_ok (record { spelled = D.alone c.tokens e.1.tokens e.0 g.spelled (not_word W.Refer e.1.tokens b); marked = g.marked; shorter = g.shorter }))

pub extent_post : (s : List ℕ) (c : Cursor) → Post (Reads (SpellsExtent s) extent_marks c) Never (extent_from s c)
unfolding extent_from
extent_post s c = post_bind _ _ (expr_post s c) (λ e g. refer_post s c e g)

pub extent_complete : {s : List ℕ} {ts rest : List Token} {x : T.Extent} (m : Marks) → SpellsExtent s ts x rest → extent_from s (record { tokens = ts; marks = m }) ≡ Ok (x, record { tokens = rest; marks = extent_marks x m })
unfolding extent_from
extent_complete m (D.alone ts rest e h n) =
    let a = expr_complete m h in
    let b = not_begins (K.Name W.Refer) rest n in
    rw (a, b) refl
extent_complete {s} m (D.referring ts mid after inside behind rest t u v w e word h r o n z) =
    let a = expr_complete m h in
    let b = begins_word W.Refer r in
    let d = word_read W.Refer (expr_marks e m) r in
    let f = symbol_read S.OpenParenthesis (expr_marks e m) o in
    let g = name_read s (expr_marks e m) n in
    let i = symbol_read S.CloseParenthesis (expr_marks e m) z in
    rw (a, b, d, f, g, i) refl

pub extent_shorter : {s : List ℕ} {ts rest : List Token} {x : T.Extent} → SpellsExtent s ts x rest → length rest ≤ length ts
extent_shorter {s} {ts} h = (post_is (extent_post s (record { tokens = ts; marks = no_marks })) (extent_complete no_marks h)).shorter

-- ---- the first token

pub extent_first : {s : List ℕ} {ts rest : List Token} {x : T.Extent} → SpellsExtent s ts x rest → Starts ts (first_place x.value)
extent_first (D.alone ts rest e h n) = at_first h
extent_first (D.referring ts mid after inside behind rest t u v w e word h r o n z) = at_first h

bound_first : {s : List ℕ} {ts rest : List Token} {b : T.Bound} → SpellsBound s ts b rest → Starts ts (bound_place b)
bound_first (D.star ts rest t k) = record { token = t; behind = rest; is = k.is; place = refl }
bound_first (D.upper ts rest e h n) = extent_first h
bound_first (D.both ts mid after rest t lower above h k i) = extent_first h

-- no expression begins with a star
star_fails : (s : List ℕ) (t : Token) (ts : List Token) (m : Marks) → t.kind ≡ K.Symbol S.Times → expr_from s (record { tokens = t ∷ ts; marks = m }) ≡ Err Stuck
unfolding expr_from run
star_fails s t ts m h = ap (λ k. follow (λ next frames marks. run s next frames marks ts) (operand_due s [] m t k) t ts) h

no_extent : (s : List ℕ) (t : Token) (ts : List Token) → t.kind ≡ K.Symbol S.Times → extent_from s (record { tokens = t ∷ ts; marks = no_marks }) ≡ Err Stuck
unfolding extent_from
no_extent s t ts h = rw (star_fails s t ts no_marks h) refl

pub extent_no_star : {s : List ℕ} {ts rest : List Token} {x : T.Extent} → SpellsExtent s ts x rest → next_kind ts ≢ Some (K.Symbol S.Times)
extent_no_star {s} {ts} {rest} {x} h e =
    let f = extent_first h in
    let k : f.token.kind ≡ K.Symbol S.Times = cc (ap next_kind f.is, e) in
    let a = ap (λ u. extent_from s (record { tokens = u; marks = no_marks })) f.is in
    let b = no_extent s f.token f.behind k in
    absurd (cc (a, b, extent_complete no_marks h))

-- ---- bounds

upper_post : (s : List ℕ) (c : Cursor) (e : T.Extent × Cursor) → Reads (SpellsExtent s) extent_marks c e → Post (Reads (SpellsBound s) bound_marks c) Never (upper_from s e.0 e.1)
upper_post s c e g =
    post_if _ _ _
    (λ b. post_bind _ _ (taken_post (K.Symbol S.Colon) e.1) (λ t k. post_bind _ _ (extent_post s t.1) (λ above r. post_ok (record { spelled = D.both c.tokens e.1.tokens t.1.tokens above.1.tokens t.0 e.0 above.0 g.spelled k.take r.spelled; marked = r.marked ∙ ap (extent_marks above.0) (k.marked ∙ g.marked); shorter = omega (arith, g.shorter, k.shorter, r.shorter) }))))
    (λ b. post_ok (record { spelled = D.upper c.tokens e.1.tokens e.0 g.spelled (not_symbol S.Colon e.1.tokens b); marked = g.marked; shorter = g.shorter }))

pub bound_post : (s : List ℕ) (c : Cursor) → Post (Reads (SpellsBound s) bound_marks c) Never (bound_from s c)
unfolding bound_from
bound_post s c =
    post_if _ _ _
    (λ b. post_bind _ _ (taken_post (K.Symbol S.Times) c) (λ t k. post_ok (record { spelled = D.star c.tokens t.1.tokens t.0 k.take; marked = k.marked; shorter = omega (arith, k.shorter) })))
    (λ b. post_bind _ _ (extent_post s c) (λ e g. upper_post s c e g))

pub bound_complete : {s : List ℕ} {ts rest : List Token} {x : T.Bound} (m : Marks) → SpellsBound s ts x rest → bound_from s (record { tokens = ts; marks = m }) ≡ Ok (x, record { tokens = rest; marks = bound_marks x m })
unfolding bound_from
bound_complete m (D.star ts rest t k) =
    let a = begins_symbol S.Times k in
    let b = symbol_read S.Times m k in
    rw (a, b) refl
bound_complete m (D.upper ts rest e h n) =
    let a = not_begins (K.Symbol S.Times) ts (extent_no_star h) in
    let b = extent_complete m h in
    let d = not_begins (K.Symbol S.Colon) rest n in
    rw (a, b, d) refl
bound_complete m (D.both ts mid after rest t lower above h k i) =
    let a = not_begins (K.Symbol S.Times) ts (extent_no_star h) in
    let b = extent_complete m h in
    let d = begins_symbol S.Colon k in
    let e = symbol_read S.Colon (extent_marks lower m) k in
    let f = extent_complete (extent_marks lower m) i in
    rw (a, b, d, e, f) refl

-- ---- dimensions

abbrev dimension_marks : ℕ → T.Bound → Marks → Marks
dimension_marks before b m = bound_marks b (note_if (nat_le most_dimensions before) (bound_place b) TooLarge m)

dimension_first : (i : ℕ) (ts : List Token) (p : Place) (m : Marks) → Starts ts p → dimension_at i ts m ≡ note_if (nat_le most_dimensions i) p TooLarge m
dimension_first i ts p m f = ap (λ u. dimension_at i u m) f.is ∙ ap (λ q. note_if (nat_le most_dimensions i) q TooLarge m) (sym f.place)

pub one_bound_post : (s : List ℕ) (i : ℕ) (c : Cursor) → Post (Reads (SpellsBound s) (dimension_marks i) c) Never (one_bound s i c)
one_bound_post s i c = post_weaken _ (bound_post s (dimension_due i c)) (λ x r. record { spelled = r.spelled; marked = r.marked ∙ ap (bound_marks x.0) (dimension_first i c.tokens (bound_place x.0) c.marks (bound_first r.spelled)); shorter = r.shorter }) (λ at l. l)

one_bound_complete : (s : List ℕ) (i : ℕ) (ts rest : List Token) (x : T.Bound) (m : Marks) → SpellsBound s ts x rest → one_bound s i (record { tokens = ts; marks = m }) ≡ Ok (x, record { tokens = rest; marks = dimension_marks i x m })
one_bound_complete s i ts rest x m h =
    bound_complete (dimension_at i ts m) h ∙ ap (λ k. Ok (x, record { tokens = rest; marks = bound_marks x k })) (dimension_first i ts (bound_place x) m (bound_first h))

bound_shorter : {s : List ℕ} {ts rest : List Token} {x : T.Bound} → SpellsBound s ts x rest → length rest ≤ length ts
bound_shorter {s} {ts} h = (post_is (bound_post s (record { tokens = ts; marks = no_marks })) (bound_complete no_marks h)).shorter

bounds_listed : {s : List ℕ} {ts rest : List Token} {bs : List T.Bound} → Listed (SpellsBound s) ts bs rest → SpellsBounds s ts bs rest
bounds_listed (one ts rest x h n) = D.one_bound ts rest x h n
bounds_listed (further ts mid after rest t x xs h k others) = D.further_bounds ts mid after rest t x xs h k (bounds_listed others)

listed_bounds : {s : List ℕ} {ts rest : List Token} {bs : List T.Bound} → SpellsBounds s ts bs rest → Listed (SpellsBound s) ts bs rest
listed_bounds (D.one_bound ts rest x h n) = one ts rest x h n
listed_bounds (D.further_bounds ts mid after rest t x xs h k others) = further ts mid after rest t x xs h k (listed_bounds others)

bounds_marked : (i : ℕ) (bs : List T.Bound) (m : Marks) → list_marks dimension_marks i bs m ≡ bounds_marks i bs m
bounds_marked i [] m = refl
bounds_marked i (b ∷ bs) m = bounds_marked (suc i) bs (dimension_marks i b m)

pub bounds_post : (s : List ℕ) (c : Cursor) → Post (Reads (SpellsBounds s) (bounds_marks 0) c) Never (bounds_from s c)
unfolding bounds_from
bounds_post s c =
    post_weaken _ (list_post (one_bound s) (SpellsBound s) dimension_marks (λ d. Never) (one_bound_post s) (λ i d x comma at g k l. l) c) (λ x r. record { spelled = bounds_listed r.spelled; marked = r.marked ∙ bounds_marked 0 x.0 c.marks; shorter = r.shorter }) (λ at l. l)

pub bounds_complete : {s : List ℕ} {ts rest : List Token} {x : List T.Bound} (m : Marks) → SpellsBounds s ts x rest → bounds_from s (record { tokens = ts; marks = m }) ≡ Ok (x, record { tokens = rest; marks = bounds_marks 0 x m })
unfolding bounds_from
bounds_complete {s} {ts} {rest} {x} m h =
    list_complete (one_bound s) (SpellsBound s) dimension_marks (one_bound_complete s) (λ ts rest x h. bound_shorter h) ts rest x m (listed_bounds h) ∙ ap (λ k. Ok (x, record { tokens = rest; marks = k })) (bounds_marked 0 x m)

dimensions_enclosed : (s : List ℕ) (c : Cursor) (x : List T.Bound × Cursor) → EnclosedBy (Reads (SpellsBounds s) (bounds_marks 0)) c x → Reads (SpellsDimensions s) (bounds_marks 0) c x
dimensions_enclosed s c x (enclosed t y u o r z) = record {
  spelled = D.dimensions c.tokens t.1.tokens y.1.tokens u.1.tokens t.0 u.0 y.0 o.take r.spelled z.take;
  marked = z.marked ∙ r.marked ∙ ap (bounds_marks 0 y.0) o.marked;
  shorter = omega (arith, o.shorter, r.shorter, z.shorter);
}

pub dimensions_post : (s : List ℕ) (c : Cursor) → Post (Reads (SpellsDimensions s) (bounds_marks 0) c) Never (dimensions_from s c)
unfolding dimensions_from
dimensions_post s c =
    optional_post [] (bounds_from s) c (bounds_post s) (λ n. record { spelled = D.no_dimension c.tokens n; marked = refl; shorter = omega arith }) (λ x k. dimensions_enclosed s c x k)

pub dimensions_complete : {s : List ℕ} {ts rest : List Token} {x : List T.Bound} (m : Marks) → SpellsDimensions s ts x rest → dimensions_from s (record { tokens = ts; marks = m }) ≡ Ok (x, record { tokens = rest; marks = bounds_marks 0 x m })
unfolding dimensions_from
dimensions_complete {s} m (D.no_dimension ts n) = optional_absent [] (bounds_from s) ts m n
dimensions_complete {s} m (D.dimensions ts after mid rest t u bs o h z) = optional_read [] (bounds_from s) bs m (bounds_marks 0 bs m) o (bounds_complete m h) z
