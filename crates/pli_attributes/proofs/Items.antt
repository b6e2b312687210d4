-- Items of DECLARE: what is read is spelled so, what is spelled is read, and what is left out is where it is said to be.
use Rattle.std.proofs.Common.{◌≡◌, ◌≢◌, ℕ, zero, suc, ◌<◌, ◌≤◌, List, [], ◌∷◌, length, Option, Some, None, true, false, refl, sym, ap, ◌∙◌, subst, arith, Ok, Err}
use Rattle.pli_language.specs.declared.token.Symbol.TheVariants as S
use Rattle.pli_language.specs.declared.token.Kind.{Kind}
use Rattle.pli_language.specs.declared.token.Kind.TheVariants as K
use Rattle.pli_language.specs.declared.token.Token.{Token}
use Rattle.pli_language.specs.Marks.{Marks, no_marks}
use Rattle.pli_language.specs.Spells.{next_kind}
use Rattle.pli_language.specs.Attributes as D
use Rattle.pli_language.specs.Attributes.{ItemFront, SpellsDeclaredName, SpellsDeclaredNames, SpellsLevel, SpellsFront, SpellsAttributes, SpellsDeclareItem, SpellsDeclareItems, LeavesOutAttributes, LeavesOutItems, bounds_marks, attributes_marks, declared_names_marks, front_marks, declare_item_marks, declare_items_marks}
use Rattle.pli_language.specs.Tree as T
use Rattle.pli_phrase.specs.Cursor.{Cursor, LeavesOut}
use Rattle.pli_attributes.specs.Lists.{list_at, list_from}
use Rattle.pli_attributes.specs.Reading.{declared_name_from, declared_names_from, starts_number, level_from, front, names_from, front_from, declare_item_from, declare_items_from}
use Rattle.pli_attributes.proofs.Posts.{Post, Never, never, post_ok, post_bind, post_if, post_weaken, post_is}
use Rattle.pli_attributes.proofs.Tokens.{TakenBy, name_post, number_post, not_begins, begins_symbol, name_read, number_read, takes_next}
use Rattle.pli_attributes.proofs.Lists.{Reads, Listed, one, further, list_marks, list_post, list_complete, list_fails, list_fails_behind}
use Rattle.pli_attributes.proofs.Enclosed.{EnclosedBy, enclosed, enclosed_post, enclosed_read}
use Rattle.pli_attributes.proofs.Extents.{dimensions_post, dimensions_complete}
use Rattle.pli_attributes.proofs.Words.{unmarked}
use Rattle.pli_attributes.proofs.AttributeLaws.{Begun, LeavesAmong, attributes_post, attributes_complete, attributes_left_out}

-- ---- declared names

abbrev declared_name_marks : T.DeclaredName → Marks → Marks
declared_name_marks d m = bounds_marks 0 d.dimensions m

declared : T.Name → List T.Bound → T.DeclaredName
declared n bs = record { name = n; dimensions = bs }

pub declared_name_post : (s : List ℕ) (c : Cursor) → Post (Reads (SpellsDeclaredName s) declared_name_marks c) Never (declared_name_from s c)
unfolding declared_name_from declared
declared_name_post s c =
    post_bind _ _ (name_post s c) (λ n i. post_bind _ _ (dimensions_post s n.1) (λ bs r. post_ok (record { spelled = subst (λ w. SpellsDeclaredName s c.tokens (declared w bs.0) bs.1.tokens) (sym i.is) (D.declared_name c.tokens n.1.tokens bs.1.tokens i.token i.word bs.0 i.take r.spelled); marked = r.marked ∙ ap (bounds_marks 0 bs.0) i.marked; shorter = omega (arith, i.shorter, r.shorter) })))

declared_name_complete : {s : List ℕ} {ts rest : List Token} {x : T.DeclaredName} (m : Marks) → SpellsDeclaredName s ts x rest → declared_name_from s (record { tokens = ts; marks = m }) ≡ Ok (x, record { tokens = rest; marks = declared_name_marks x m })
unfolding declared_name_from
declared_name_complete {s} m (D.declared_name ts after rest t word bs a h) = rw (name_read s m a, dimensions_complete m h) refl

declared_name_shorter : {s : List ℕ} {ts rest : List Token} {x : T.DeclaredName} → SpellsDeclaredName s ts x rest → length rest ≤ length ts
declared_name_shorter {s} {ts} h = (post_is (declared_name_post s (record { tokens = ts; marks = no_marks })) (declared_name_complete no_marks h)).shorter

names_listed : {s : List ℕ} {ts rest : List Token} {xs : List T.DeclaredName} → Listed (SpellsDeclaredName s) ts xs rest → SpellsDeclaredNames s ts xs rest
names_listed (one ts rest x h n) = D.one_name ts rest x h n
names_listed (further ts mid after rest t x xs h k others) = D.further_names ts mid after rest t x xs h k (names_listed others)

listed_names : {s : List ℕ} {ts rest : List Token} {xs : List T.DeclaredName} → SpellsDeclaredNames s ts xs rest → Listed (SpellsDeclaredName s) ts xs rest
listed_names (D.one_name ts rest x h n) = one ts rest x h n
listed_names (D.further_names ts mid after rest t x xs h k others) = further ts mid after rest t x xs h k (listed_names others)

names_marked : (i : ℕ) (xs : List T.DeclaredName) (m : Marks) → list_marks (λ i d m. declared_name_marks d m) i xs m ≡ declared_names_marks xs m
names_marked i [] m = refl
names_marked i (x ∷ xs) m = names_marked (suc i) xs (declared_name_marks x m)

declared_names_post : (s : List ℕ) (c : Cursor) → Post (Reads (SpellsDeclaredNames s) declared_names_marks c) Never (declared_names_from s c)
unfolding declared_names_from
declared_names_post s c =
    post_weaken _ (list_post (λ before. declared_name_from s) (SpellsDeclaredName s) (λ i d m. declared_name_marks d m) (λ d. Never) (λ i d. declared_name_post s d) (λ i d x comma at g k l. l) c) (λ x r. record { spelled = names_listed r.spelled; marked = r.marked ∙ names_marked 0 x.0 c.marks; shorter = r.shorter }) (λ at l. l)

declared_names_complete : {s : List ℕ} {ts rest : List Token} {x : List T.DeclaredName} (m : Marks) → SpellsDeclaredNames s ts x rest → declared_names_from s (record { tokens = ts; marks = m }) ≡ Ok (x, record { tokens = rest; marks = declared_names_marks x m })
unfolding declared_names_from
declared_names_complete {s} {ts} {rest} {x} m h =
    list_complete (λ before. declared_name_from s) (SpellsDeclaredName s) (λ i d m. declared_name_marks d m) (λ i ts rest x m h. declared_name_complete m h) (λ ts rest x h. declared_name_shorter h) ts rest x m (listed_names h) ∙ ap (λ k. Ok (x, record { tokens = rest; marks = k })) (names_marked 0 x m)

-- ---- levels

pub no_number : (k : Option Kind) → starts_number k ≡ false → (n : ℕ) → k ≢ Some (K.Number n)
no_number k b n e = let f = ap starts_number e in absurd (cc (f, b))

pub number_no : (k : Option Kind) → ((n : ℕ) → k ≢ Some (K.Number n)) → starts_number k ≡ false
number_no None h = refl
number_no (Some (K.Number n)) h = absurd (h n refl)
number_no (Some (K.Name w)) h = refl
number_no (Some K.Text) h = refl
number_no (Some (K.Bit b)) h = refl
number_no (Some (K.Symbol y)) h = refl

level_post : (c : Cursor) → Post (Reads (λ ts n rest. SpellsLevel ts n rest) unmarked c) Never (level_from c)
unfolding level_from
level_post c =
    post_if _ _ _
    (λ b. post_bind _ _ (number_post c) (λ n i. post_ok (record { spelled = D.level c.tokens n.1.tokens i.token n.0 i.take; marked = i.marked; shorter = omega (arith, i.shorter) })))
    (λ b. post_ok (record { spelled = D.no_level c.tokens (no_number (next_kind c.tokens) b); marked = refl; shorter = omega arith }))

level_complete : {ts rest : List Token} {x : Option ℕ} (m : Marks) → SpellsLevel ts x rest → level_from (record { tokens = ts; marks = m }) ≡ Ok (x, record { tokens = rest; marks = m })
unfolding level_from
level_complete m (D.no_level ts h) = rw (number_no (next_kind ts) h) refl
level_complete m (D.level ts rest t n a) =
    let b : starts_number (next_kind ts) ≡ true = ap starts_number (takes_next a) in
    rw (b, number_read m a) refl

-- ---- fronts

names_enclosed : (s : List ℕ) (c : Cursor) (n : Option ℕ × Cursor) (ds : List T.DeclaredName × Cursor) (bs : List T.Bound × Cursor) → Reads (λ ts n rest. SpellsLevel ts n rest) unmarked c n → EnclosedBy (Reads (SpellsDeclaredNames s) declared_names_marks) n.1 ds → Reads (D.SpellsDimensions s) (bounds_marks 0) ds.1 bs → Reads (SpellsFront s) front_marks c (front n.0 ds.0 bs.0, bs.1)
names_enclosed s c n ds bs g (enclosed t y u o r z) h = record {
  spelled = D.factored c.tokens n.1.tokens t.1.tokens y.1.tokens u.1.tokens bs.1.tokens t.0 u.0 n.0 y.0 bs.0 g.spelled o.take r.spelled z.take h.spelled;
  marked = h.marked ∙ ap (bounds_marks 0 bs.0) (z.marked ∙ r.marked ∙ ap (declared_names_marks y.0) (o.marked ∙ g.marked));
  shorter = omega (arith, g.shorter, o.shorter, r.shorter, z.shorter, h.shorter);
}

names_post : (s : List ℕ) (c : Cursor) (n : Option ℕ × Cursor) → Reads (λ ts n rest. SpellsLevel ts n rest) unmarked c n → Post (Reads (SpellsFront s) front_marks c) Never (names_from s n.0 n.1)
unfolding names_from
names_post s c n g =
    post_if _ _ _
    (λ b. post_bind _ _ (enclosed_post (declared_names_from s) n.1 (declared_names_post s)) (λ ds k. post_bind _ _ (dimensions_post s ds.1) (λ bs h. post_ok (names_enclosed s c n ds bs g k h))))
    (λ b. post_bind _ _ (declared_name_post s n.1) (λ d r. post_ok (record { spelled = D.single c.tokens n.1.tokens d.1.tokens n.0 d.0 g.spelled r.spelled; marked = r.marked ∙ ap (declared_name_marks d.0) g.marked; shorter = omega (arith, g.shorter, r.shorter) })))

pub front_post : (s : List ℕ) (c : Cursor) → Post (Reads (SpellsFront s) front_marks c) Never (front_from s c)
unfolding front_from
front_post s c = post_bind _ _ (level_post c) (λ n g. names_post s c n g)

name_no_open : {s : List ℕ} {ts rest : List Token} {d : T.DeclaredName} → SpellsDeclaredName s ts d rest → next_kind ts ≢ Some (K.Symbol S.OpenParenthesis)
name_no_open (D.declared_name ts after rest t word bs a h) e = absurd (cc (takes_next a, e))

pub front_complete : {s : List ℕ} {ts rest : List Token} {x : ItemFront} (m : Marks) → SpellsFront s ts x rest → front_from s (record { tokens = ts; marks = m }) ≡ Ok (x, record { tokens = rest; marks = front_marks x m })
unfolding front_from names_from
front_complete m (D.single ts mid rest n d g h) =
    rw (level_complete m g, not_begins (K.Symbol S.OpenParenthesis) mid (name_no_open h), declared_name_complete m h) refl
front_complete {s} m (D.factored ts mid after inside behind rest t u n ds bs g o h z k) =
    let a = level_complete m g in
    let b = begins_symbol S.OpenParenthesis o in
    let d = enclosed_read (declared_names_from s) ds m (declared_names_marks ds m) o (declared_names_complete m h) z in
    let e = dimensions_complete (declared_names_marks ds m) k in
    rw (a, b, d, e) refl

-- ---- items

-- an attribute of these items is left out
pub record LeavesItems (s : List ℕ) (c : Cursor) (d : Cursor) : Type 0 where
  pub leaves : LeavesOutItems s c.tokens c.marks d.tokens d.marks
  pub begun : Begun d.tokens

leaves_in_item : (s : List ℕ) (c d : Cursor) (f : ItemFront × Cursor) → Reads (SpellsFront s) front_marks c f → LeavesAmong s f.1 d → LeavesItems s c d
leaves_in_item s c d f g l = record {
  leaves = D.in_item c.tokens f.1.tokens d.tokens c.marks d.marks f.0 g.spelled (subst (λ m. LeavesOutAttributes s f.1.tokens m d.tokens d.marks) g.marked l.leaves);
  begun = l.begun;
}

pub declare_item_post : (s : List ℕ) (c : Cursor) → Post (Reads (SpellsDeclareItem s) declare_item_marks c) (LeavesItems s c) (declare_item_from s c)
unfolding declare_item_from
declare_item_post s c =
    post_bind _ _ (never (LeavesItems s c) _ (front_post s c)) (λ f g. post_bind _ _ (post_weaken _ (attributes_post s f.1) (λ others r. r) (λ d l. leaves_in_item s c d f g l)) (λ others r. post_ok (record { spelled = D.declare_item c.tokens f.1.tokens others.1.tokens f.0 others.0 g.spelled r.spelled; marked = r.marked ∙ ap (attributes_marks others.0) g.marked; shorter = omega (arith, g.shorter, r.shorter) })))

pub declare_item_complete : {s : List ℕ} {ts rest : List Token} {x : T.DeclareItem} (m : Marks) → SpellsDeclareItem s ts x rest → declare_item_from s (record { tokens = ts; marks = m }) ≡ Ok (x, record { tokens = rest; marks = declare_item_marks x m })
unfolding declare_item_from
declare_item_complete m (D.declare_item ts mid rest f others g h) = rw (front_complete m g, attributes_complete (front_marks f m) h) refl

declare_item_left_out : {s : List ℕ} {ts mid at : List Token} {f : ItemFront} (m : Marks) {m' : Marks} → SpellsFront s ts f mid → LeavesOutAttributes s mid (front_marks f m) at m' → declare_item_from s (record { tokens = ts; marks = m }) ≡ Err (LeavesOut (record { tokens = at; marks = m' }))
unfolding declare_item_from
declare_item_left_out m g h = rw (front_complete m g, attributes_left_out h) refl

declare_item_shorter : {s : List ℕ} {ts rest : List Token} {x : T.DeclareItem} → SpellsDeclareItem s ts x rest → length rest ≤ length ts
declare_item_shorter {s} {ts} h = (post_is (declare_item_post s (record { tokens = ts; marks = no_marks })) (declare_item_complete no_marks h)).shorter

items_listed : {s : List ℕ} {ts rest : List Token} {xs : List T.DeclareItem} → Listed (SpellsDeclareItem s) ts xs rest → SpellsDeclareItems s ts xs rest
items_listed (one ts rest x h n) = D.one_item ts rest x h n
items_listed (further ts mid after rest t x xs h k others) = D.further_items ts mid after rest t x xs h k (items_listed others)

listed_items : {s : List ℕ} {ts rest : List Token} {xs : List T.DeclareItem} → SpellsDeclareItems s ts xs rest → Listed (SpellsDeclareItem s) ts xs rest
listed_items (D.one_item ts rest x h n) = one ts rest x h n
listed_items (D.further_items ts mid after rest t x xs h k others) = further ts mid after rest t x xs h k (listed_items others)

items_marked : (i : ℕ) (xs : List T.DeclareItem) (m : Marks) → list_marks (λ i d m. declare_item_marks d m) i xs m ≡ declare_items_marks xs m
items_marked i [] m = refl
items_marked i (x ∷ xs) m = items_marked (suc i) xs (declare_item_marks x m)

leaves_behind : (s : List ℕ) (c : Cursor) (x : T.DeclareItem × Cursor) (comma : Token × Cursor) (d : Cursor) → Reads (SpellsDeclareItem s) declare_item_marks c x → TakenBy (K.Symbol S.Comma) x.1 comma → LeavesItems s comma.1 d → LeavesItems s c d
leaves_behind s c x comma d g k l = record {
  leaves = D.behind_item c.tokens x.1.tokens comma.1.tokens d.tokens comma.0 c.marks d.marks x.0 g.spelled k.take (subst (λ m. LeavesOutItems s comma.1.tokens m d.tokens d.marks) (k.marked ∙ g.marked) l.leaves);
  begun = l.begun;
}

pub declare_items_post : (s : List ℕ) (c : Cursor) → Post (Reads (SpellsDeclareItems s) declare_items_marks c) (LeavesItems s c) (declare_items_from s c)
unfolding declare_items_from
declare_items_post s c =
    post_weaken _ (list_post (λ before. declare_item_from s) (SpellsDeclareItem s) (λ i d m. declare_item_marks d m) (LeavesItems s) (λ i d. declare_item_post s d) (λ i d x comma at g k l. leaves_behind s d x comma at g k l) c) (λ x r. record { spelled = items_listed r.spelled; marked = r.marked ∙ items_marked 0 x.0 c.marks; shorter = r.shorter }) (λ at l. l)

pub declare_items_complete : {s : List ℕ} {ts rest : List Token} {x : List T.DeclareItem} (m : Marks) → SpellsDeclareItems s ts x rest → declare_items_from s (record { tokens = ts; marks = m }) ≡ Ok (x, record { tokens = rest; marks = declare_items_marks x m })
unfolding declare_items_from
declare_items_complete {s} {ts} {rest} {x} m h =
    list_complete (λ before. declare_item_from s) (SpellsDeclareItem s) (λ i d m. declare_item_marks d m) (λ i ts rest x m h. declare_item_complete m h) (λ ts rest x h. declare_item_shorter h) ts rest x m (listed_items h) ∙ ap (λ k. Ok (x, record { tokens = rest; marks = k })) (items_marked 0 x m)

items_at_left_out : (s : List ℕ) (n i : ℕ) {ts at : List Token} {m m' : Marks} → LeavesOutItems s ts m at m' → length ts < n → list_at (λ before. declare_item_from s) n i (record { tokens = ts; marks = m }) ≡ Err (LeavesOut (record { tokens = at; marks = m' }))
items_at_left_out s zero i h l = absurd (omega arith)
items_at_left_out s (suc n) i (D.in_item ts mid at m m' f g h) l =
    list_fails (λ before. declare_item_from s) (SpellsDeclareItem s) (λ i d m. declare_item_marks d m) (λ i ts rest x m h. declare_item_complete m h) (λ ts rest x h. declare_item_shorter h) n i (record { tokens = ts; marks = m }) (LeavesOut (record { tokens = at; marks = m' })) (declare_item_left_out m g h)
items_at_left_out s (suc n) i (D.behind_item ts mid after at t m m' d g k more) l =
    let j = declare_item_shorter g in
    let e = items_at_left_out s n (suc i) more (omega (arith, ap length k.is, j, l)) in
    list_fails_behind (λ before. declare_item_from s) (SpellsDeclareItem s) (λ i d m. declare_item_marks d m) (λ i ts rest x m h. declare_item_complete m h) (λ ts rest x h. declare_item_shorter h) n i ts mid after t d m (LeavesOut (record { tokens = at; marks = m' })) g k e

pub declare_items_left_out : {s : List ℕ} {ts at : List Token} {m m' : Marks} → LeavesOutItems s ts m at m' → declare_items_from s (record { tokens = ts; marks = m }) ≡ Err (LeavesOut (record { tokens = at; marks = m' }))
unfolding declare_items_from list_from
declare_items_left_out {s} {ts} h = items_at_left_out s (suc (length ts)) 0 h (omega arith)
