-- Allocations and freeings: what is read is spelled so, and what is spelled is read.
use Rattle.std.proofs.Common.{◌≡◌, ◌≢◌, ℕ, zero, suc, ◌<◌, ◌≤◌, List, [], ◌∷◌, length, Option, Some, None, true, refl, sym, ap, ◌∙◌, subst, arith, Ok}
use Rattle.pli_language.specs.declared.token.Word.TheVariants as W
use Rattle.pli_language.specs.declared.token.Symbol.TheVariants as S
use Rattle.pli_language.specs.declared.token.Kind.{Kind}
use Rattle.pli_language.specs.declared.token.Kind.TheVariants as K
use Rattle.pli_language.specs.declared.token.Token.{Token}
use Rattle.pli_language.specs.Marks.{Marks, no_marks, reference_marks}
use Rattle.pli_language.specs.Spells.{next_kind, SpellsReference}
use Rattle.pli_language.specs.Heads as G
use Rattle.pli_language.specs.Heads.{SpellsInto, SpellsPlacing, SpellsAllocation, SpellsAllocations, SpellsFreeing, SpellsFreeings, ends_allocation, unplaced, freeing_marks, freeings_marks, marks_if}
use Rattle.pli_language.specs.Tree as T
use Rattle.pli_phrase.specs.Cursor.{Cursor}
use Rattle.pli_attributes.specs.Lists.{list_at, list_from}
use Rattle.pli_attributes.proofs.Posts.{Post, Never, post_ok, post_ended, post_bind, post_if, post_weaken, post_is}
use Rattle.pli_attributes.proofs.Tokens.{TakenBy, taken_post, name_post, name_read, not_symbol, not_begins, begins_symbol, symbol_read}
use Rattle.pli_attributes.proofs.Lists.{Reads, Listed, one, further, list_marks, list_post, list_complete}
use Rattle.pli_clause.specs.Reading.{into_from, placing_from, placed, allocation_from, allocations_from, freeing_from, freeings_from}
use Rattle.pli_clause.proofs.Parts.{Behind, no_word, behind, Stops, ReadsMarked, behind_post, both_post, behind_read, still_read, still_ends, still_first, still_second, still_all, order_spelled}
use Rattle.pli_clause.proofs.References.{reference_post, reference_complete, into_post, into_complete}

-- ---- IN and SET

allocation : T.Name → Option T.Reference → Option T.Reference → T.Allocation
allocation n a l = record { variable = n; area = a; locator = l }

placing_stop : (k : Option Kind) → k ≢ Some (K.Name W.In) → k ≢ Some (K.Name W.Set) → ends_allocation k ≡ true
placing_stop (Some (K.Name W.In)) f g = absurd (f refl)
placing_stop (Some (K.Name W.Set)) f g = absurd (g refl)
placing_stop _ f g = refl

stop_placing : (ts : List Token) → ends_allocation (next_kind ts) ≡ true → Stops W.In W.Set ts
stop_placing ts h = record { no_first = λ e. cc (ap ends_allocation e, h); no_second = λ e. cc (ap ends_allocation e, h) }

abbrev SpellsPlaces : List ℕ → T.Name → Option T.Reference → Option T.Reference → List Token → Marks → Option T.Reference × Option T.Reference → List Token → Marks → Type 0
SpellsPlaces s n x y ts m p rest m' =
    SpellsPlacing s (record { variable = n; area = x; locator = y }) ts m (record { variable = n; area = p.0; locator = p.1 }) rest m'

placing_post : (s : List ℕ) (n : T.Name) (c : Cursor) → Post (ReadsMarked (SpellsPlaces s n None None) c) Never (placing_from s c)
unfolding placing_from
placing_post s n c =
    post_weaken _ (both_post (SpellsInto s) reference_marks (into_from s) (into_post s) W.In W.Set c) (λ x g. record {
      spelled = order_spelled (SpellsInto s) reference_marks W.In W.Set (SpellsPlaces s n) (λ x y ts m stop. G.placing_ends (record { variable = n; area = x; locator = y }) ts m (placing_stop (next_kind ts) stop.no_first stop.no_second)) (λ y p ts after mid rest m m' t e k r more. G.in_area n y (record { variable = n; area = p.0; locator = p.1 }) ts after mid rest m m' t e k r more) (λ x p ts after mid rest m m' t e k r more. G.set_locator n x (record { variable = n; area = p.0; locator = p.1 }) ts after mid rest m m' t e k r more) g.spelled;
      shorter = g.shorter;
    }) (λ d l. l)

placing_still : (s : List ℕ) {a b : T.Allocation} {ts rest : List Token} {m m' : Marks} → SpellsPlacing s a ts m b rest m' → still_read (into_from s) W.In W.Set a.area a.locator (record { tokens = ts; marks = m }) ≡ Ok ((b.area, b.locator), record { tokens = rest; marks = m' })
placing_still s (G.placing_ends a ts m h) =
    still_ends (SpellsInto s) reference_marks (into_from s) (λ ts rest r m i. into_complete m i) W.In W.Set a.area a.locator ts m (stop_placing ts h)
placing_still s (G.in_area n l b ts after mid rest m m' t r k i more) =
    still_first (SpellsInto s) reference_marks (into_from s) (λ ts rest r m i. into_complete m i) W.In W.Set l m k i ∙ placing_still s more
placing_still s (G.set_locator n a b ts after mid rest m m' t r k i more) =
    still_second (SpellsInto s) reference_marks (into_from s) (λ ts rest r m i. into_complete m i) W.In W.Set a m (λ z. cc z) k i ∙ placing_still s more

placing_variable : {s : List ℕ} {a b : T.Allocation} {ts rest : List Token} {m m' : Marks} → SpellsPlacing s a ts m b rest m' → b.variable ≡ a.variable
placing_variable (G.placing_ends a ts m h) = refl
placing_variable (G.in_area n l b ts after mid rest m m' t r k i more) = placing_variable more
placing_variable (G.set_locator n a b ts after mid rest m m' t r k i more) = placing_variable more

placing_complete : {s : List ℕ} {n : T.Name} {a : T.Allocation} {ts rest : List Token} {m m' : Marks} → SpellsPlacing s (unplaced n) ts m a rest m' → placing_from s (record { tokens = ts; marks = m }) ≡ Ok ((a.area, a.locator), record { tokens = rest; marks = m' })
unfolding placing_from
placing_complete {s} {n} {a} {ts} {rest} {m} h =
    sym (still_all (SpellsInto s) reference_marks (into_from s) (λ ts rest r m i. into_complete m i) W.In W.Set (record { tokens = ts; marks = m })) ∙ placing_still s h

-- ---- allocations

pub allocation_post : (s : List ℕ) (c : Cursor) → Post (ReadsMarked (SpellsAllocation s) c) Never (allocation_from s c)
unfolding allocation_from
allocation_post s c =
    post_bind _ _ (name_post s c) (λ n k. post_bind _ _ (placing_post s n.0 n.1) (λ p g. post_ok (record {
      spelled = G.allocation c.tokens n.1.tokens p.1.tokens c.marks p.1.marks k.token k.word (placed n.0 p.0) k.take (subst (λ i. SpellsPlacing s (unplaced i) n.1.tokens c.marks (placed n.0 p.0) p.1.tokens p.1.marks) k.is (subst (λ i. SpellsPlacing s (unplaced n.0) n.1.tokens i (placed n.0 p.0) p.1.tokens p.1.marks) k.marked g.spelled));
      shorter = omega (arith, k.shorter, g.shorter);
    })))

pub allocation_complete : {s : List ℕ} {ts rest : List Token} {a : T.Allocation} {m m' : Marks} → SpellsAllocation s ts m a rest m' → allocation_from s (record { tokens = ts; marks = m }) ≡ Ok (a, record { tokens = rest; marks = m' })
unfolding allocation_from
allocation_complete {s} (G.allocation ts mid rest m m' t word a k h) =
    let b = name_read s m k in
    let d = placing_complete h in
    rw (b, d) (ap (λ n. Ok (placed n (a.area, a.locator), record { tokens = rest; marks = m' })) (sym (placing_variable h)))

-- further allocations behind one
data Further (s : List ℕ) (c : Cursor) : List T.Allocation × Cursor → Type 0 where
  none : next_kind c.tokens ≢ Some (K.Symbol S.Comma) → Further s c ([], c)
  some : (xs : List T.Allocation × Cursor) (comma : Token × Cursor) → TakenBy (K.Symbol S.Comma) c comma → ReadsMarked (SpellsAllocations s) comma.1 xs → Further s c xs

joined : (s : List ℕ) (c : Cursor) (x : T.Allocation × Cursor) (xs : List T.Allocation × Cursor) → ReadsMarked (SpellsAllocation s) c x → Further s x.1 xs → ReadsMarked (SpellsAllocations s) c (x.0 ∷ xs.0, xs.1)
joined s c x xs g (none n) = record { spelled = G.one_allocation c.tokens x.1.tokens c.marks x.1.marks x.0 g.spelled n; shorter = g.shorter }
joined s c x xs g (some ys comma k r) = record {
  spelled = G.further_allocations c.tokens x.1.tokens comma.1.tokens xs.1.tokens c.marks x.1.marks xs.1.marks comma.0 x.0 xs.0 g.spelled k.take (subst (λ m. SpellsAllocations s comma.1.tokens m xs.0 xs.1.tokens xs.1.marks) k.marked r.spelled);
  shorter = omega (arith, g.shorter, k.shorter, r.shorter);
}

allocations_at_post : (s : List ℕ) (n i : ℕ) (c : Cursor) → Post (ReadsMarked (SpellsAllocations s) c) Never (list_at (λ before. allocation_from s) n i c)
unfolding list_at
allocations_at_post s zero i c = post_ended
allocations_at_post s (suc n) i c =
    post_bind _ _ (allocation_post s c) (λ x g.
    post_bind {P = Further s x.1} _ _
    (post_if _ _ _
    (λ b. post_bind _ _ (taken_post (K.Symbol S.Comma) x.1) (λ comma k. post_weaken _ (allocations_at_post s n (suc i) comma.1) (λ xs r. some xs comma k r) (λ at l. l)))
    (λ b. post_ok (none (not_symbol S.Comma x.1.tokens b))))
    (λ xs f. post_ok (joined s c x xs g f)))

pub allocations_post : (s : List ℕ) (c : Cursor) → Post (ReadsMarked (SpellsAllocations s) c) Never (allocations_from s c)
unfolding allocations_from list_from
allocations_post s c = allocations_at_post s (suc (length c.tokens)) 0 c

allocation_shorter : {s : List ℕ} {ts rest : List Token} {a : T.Allocation} {m m' : Marks} → SpellsAllocation s ts m a rest m' → length rest ≤ length ts
allocation_shorter {s} {ts} {m = m} h = (post_is (allocation_post s (record { tokens = ts; marks = m })) (allocation_complete h)).shorter

allocations_at_complete : (s : List ℕ) (n i : ℕ) {ts rest : List Token} {xs : List T.Allocation} {m m' : Marks} → SpellsAllocations s ts m xs rest m' → length ts < n → list_at (λ before. allocation_from s) n i (record { tokens = ts; marks = m }) ≡ Ok (xs, record { tokens = rest; marks = m' })
unfolding list_at
allocations_at_complete s zero i h l = absurd (omega arith)
allocations_at_complete s (suc n) i (G.one_allocation ts rest m m' a h ends) l =
    let d = allocation_complete h in
    let b = not_begins (K.Symbol S.Comma) rest ends in
    rw (d, b) refl
allocations_at_complete s (suc n) i (G.further_allocations ts mid after rest m m' m'' t a others h k more) l =
    let d = allocation_complete h in
    let b = begins_symbol S.Comma k in
    let e = symbol_read S.Comma m' k in
    let j = allocation_shorter h in
    let f = allocations_at_complete s n (suc i) more (omega (arith, ap length k.is, j, l)) in
    rw (d, b, e, f) refl

pub allocations_complete : {s : List ℕ} {ts rest : List Token} {xs : List T.Allocation} {m m' : Marks} → SpellsAllocations s ts m xs rest m' → allocations_from s (record { tokens = ts; marks = m }) ≡ Ok (xs, record { tokens = rest; marks = m' })
unfolding allocations_from list_from
allocations_complete {s} {ts} h = allocations_at_complete s (suc (length ts)) 0 h (omega arith)

-- ---- freeings

freeing_spelled : {s : List ℕ} {ts mid rest : List Token} {r : T.Reference} {a : Option T.Reference} → SpellsReference s ts r mid → Behind (SpellsInto s) W.In mid a rest → SpellsFreeing s ts (record { generation = r; area = a }) rest
freeing_spelled {ts = ts} {r = r} g (no_word mid n) = G.free ts mid r g n
freeing_spelled {ts = ts} {r = r} g (behind mid after rest t a k i) = G.free_in ts mid after rest t r a g k i

pub freeing_post : (s : List ℕ) (c : Cursor) → Post (Reads (SpellsFreeing s) freeing_marks c) Never (freeing_from s c)
unfolding freeing_from
freeing_post s c =
    post_bind _ _ (reference_post s c) (λ r g. post_bind _ _ (behind_post (SpellsInto s) reference_marks (into_from s) (into_post s) W.In r.1) (λ a h. post_ok (record { spelled = freeing_spelled g.spelled h.spelled; marked = h.marked ∙ ap (marks_if reference_marks a.0) g.marked; shorter = omega (arith, g.shorter, h.shorter) })))

pub freeing_complete : {s : List ℕ} {ts rest : List Token} {x : T.Freeing} (m : Marks) → SpellsFreeing s ts x rest → freeing_from s (record { tokens = ts; marks = m }) ≡ Ok (x, record { tokens = rest; marks = freeing_marks x m })
unfolding freeing_from
freeing_complete {s} m (G.free ts rest r g n) =
    let a = reference_complete m g in
    let b = behind_read (SpellsInto s) reference_marks (into_from s) (λ ts rest r m i. into_complete m i) W.In (reference_marks r m) (no_word rest n) in
    rw (a, b) refl
freeing_complete {s} m (G.free_in ts mid after rest t r a g k i) =
    let d = reference_complete m g in
    let b = behind_read (SpellsInto s) reference_marks (into_from s) (λ ts rest r m i. into_complete m i) W.In (reference_marks r m) (behind mid after rest t a k i) in
    rw (d, b) refl

freeing_shorter : {s : List ℕ} {ts rest : List Token} {x : T.Freeing} → SpellsFreeing s ts x rest → length rest ≤ length ts
freeing_shorter {s} {ts} h = (post_is (freeing_post s (record { tokens = ts; marks = no_marks })) (freeing_complete no_marks h)).shorter

freeings_listed : {s : List ℕ} {ts rest : List Token} {xs : List T.Freeing} → Listed (SpellsFreeing s) ts xs rest → SpellsFreeings s ts xs rest
freeings_listed (one ts rest x h n) = G.one_freeing ts rest x h n
freeings_listed (further ts mid after rest t x xs h k others) = G.further_freeings ts mid after rest t x xs h k (freeings_listed others)

listed_freeings : {s : List ℕ} {ts rest : List Token} {xs : List T.Freeing} → SpellsFreeings s ts xs rest → Listed (SpellsFreeing s) ts xs rest
listed_freeings (G.one_freeing ts rest x h n) = one ts rest x h n
listed_freeings (G.further_freeings ts mid after rest t x xs h k others) = further ts mid after rest t x xs h k (listed_freeings others)

freeings_marked : (i : ℕ) (xs : List T.Freeing) (m : Marks) → list_marks (λ i f m. freeing_marks f m) i xs m ≡ freeings_marks xs m
freeings_marked i [] m = refl
freeings_marked i (x ∷ xs) m = freeings_marked (suc i) xs (freeing_marks x m)

pub freeings_post : (s : List ℕ) (c : Cursor) → Post (Reads (SpellsFreeings s) freeings_marks c) Never (freeings_from s c)
unfolding freeings_from
freeings_post s c =
    post_weaken _ (list_post (λ before. freeing_from s) (SpellsFreeing s) (λ i f m. freeing_marks f m) (λ d. Never) (λ i d. freeing_post s d) (λ i d x comma at g k l. l) c) (λ x r. record { spelled = freeings_listed r.spelled; marked = r.marked ∙ freeings_marked 0 x.0 c.marks; shorter = r.shorter }) (λ at l. l)

pub freeings_complete : {s : List ℕ} {ts rest : List Token} {xs : List T.Freeing} (m : Marks) → SpellsFreeings s ts xs rest → freeings_from s (record { tokens = ts; marks = m }) ≡ Ok (xs, record { tokens = rest; marks = freeings_marks xs m })
unfolding freeings_from
freeings_complete {s} {ts} {rest} {xs} m h =
    list_complete (λ before. freeing_from s) (SpellsFreeing s) (λ i f m. freeing_marks f m) (λ i ts rest x m h. freeing_complete m h) (λ ts rest x h. freeing_shorter h) ts rest xs m (listed_freeings h) ∙ ap (λ k. Ok (xs, record { tokens = rest; marks = k })) (freeings_marked 0 xs m)
