-- A datum that code names is one of its static data.
use Rattle.std.proofs.Common.{◌≡◌, ℕ, List, [], ◌∷◌, ◌++◌, ◌⊎◌, inl, inr, Bool, true, false, refl, sym, ap, ◌∙◌, subst}
use Rattle.std.specs.Prelude.{cond, ◌==◌, ◌&&◌, ◌+◌, ◌||◌}
use Rattle.std.specs.List.{flat_map, filter, list_any}
use Rattle.std.proofs.lemmas.Bool.{eqb-true, eq-eqb, and_parts, and_from, or_cases, or_left, or_right}
use Rattle.std.proofs.lemmas.List.Folds.{list_any-append}
use Rattle.pli_language.specs.Keywords.{same_bytes}
use Rattle.pli_coding.specs.Assembly.{InitialLeaf, Datum, ConstantBytes, InitialValues, NumberWord, StaticStorage}
use Rattle.pli_coding.specs.Assembly.{same_initial, same_datum, Plain, BaseIn, OffsetOf, OffsetAhead, JumpTo, CallTo}
use Rattle.pli_coding.specs.Assembly.{JumpAhead, JumpBack, Mark, Code}
use Rattle.pli_coding.specs.Linking.{data_start}
use Rattle.pli_coding.specs.StaticData.{PlacedDatum, begins_at, datum_size, placed_from, data_of_symbol, data_named}
use Rattle.pli_coding.specs.StaticData.{once, is_initial, is_constant, is_word, is_storage, values_of, ordered}
use Rattle.pli_coding.specs.StaticData.{static_data}
use Rattle.code_marks.specs.CodeData.{Has, DataStand}

-- ---- equal data

pub same_bytes-equal : (a b : List ℕ) → same_bytes a b ≡ true → a ≡ b
same_bytes-equal [] [] h = refl
same_bytes-equal [] (y ∷ ys) h = absurd (cc h)
same_bytes-equal (x ∷ xs) [] h = absurd (cc h)
same_bytes-equal (x ∷ xs) (y ∷ ys) h =
    let parts = and_parts (x == y) (same_bytes xs ys) h in
    λ k. eqb-true x y parts.0 k ∷ same_bytes-equal xs ys parts.1 k

pub same_bytes-same : (a : List ℕ) → same_bytes a a ≡ true
same_bytes-same [] = refl
same_bytes-same (x ∷ xs) = and_from _ _ (eq-eqb x x refl) (same_bytes-same xs)

same_initial-equal : (a b : List InitialLeaf) → same_initial a b ≡ true → a ≡ b
same_initial-equal [] [] h = refl
same_initial-equal [] (y ∷ ys) h = absurd (cc h)
same_initial-equal (x ∷ xs) [] h = absurd (cc h)
same_initial-equal (x ∷ xs) (y ∷ ys) h =
    let parts = and_parts (x.leaf == y.leaf) (same_bytes x.values y.values && same_initial xs ys) h in
    let more = and_parts (same_bytes x.values y.values) (same_initial xs ys) parts.1 in
    λ k. record {
      leaf = eqb-true x.leaf y.leaf parts.0 k;
      values = same_bytes-equal x.values y.values more.0 k;
    } ∷ same_initial-equal xs ys more.1 k

same_initial-same : (a : List InitialLeaf) → same_initial a a ≡ true
same_initial-same [] = refl
same_initial-same (x ∷ xs) =
    and_from _ _ (eq-eqb x.leaf x.leaf refl) (and_from _ _ (same_bytes-same x.values) (same_initial-same xs))

pub same_datum-equal : (d e : Datum) → same_datum d e ≡ true → d ≡ e
same_datum-equal (ConstantBytes a) (ConstantBytes b) h = ap ConstantBytes (same_bytes-equal a b h)
same_datum-equal (InitialValues a) (InitialValues b) h = ap InitialValues (same_initial-equal a b h)
same_datum-equal (NumberWord b i) (NumberWord c j) h =
    let parts = and_parts (b == c) (i == j) h in
    λ k. NumberWord (eqb-true b c parts.0 k) (eqb-true i j parts.1 k)
same_datum-equal (StaticStorage b i m) (StaticStorage c j n) h =
    let parts = and_parts (b == c) ((i == j) && (m == n)) h in
    let more = and_parts (i == j) (m == n) parts.1 in
    λ k. StaticStorage (eqb-true b c parts.0 k) (eqb-true i j more.0 k) (eqb-true m n more.1 k)
same_datum-equal _ _ h = absurd (cc h)

pub same_datum-same : (d : Datum) → same_datum d d ≡ true
same_datum-same (ConstantBytes a) = same_bytes-same a
same_datum-same (InitialValues a) = same_initial-same a
same_datum-same (NumberWord b i) = and_from _ _ (eq-eqb b b refl) (eq-eqb i i refl)
same_datum-same (StaticStorage b i m) =
    and_from _ _ (eq-eqb b b refl) (and_from _ _ (eq-eqb i i refl) (eq-eqb m m refl))

-- ---- lists of data

pub has_front : (xs ys : List Datum) (d : Datum) → Has xs d → Has (xs ++ ys) d
has_front xs ys d h = list_any-append (same_datum d) xs ys ∙ or_left _ _ h

pub has_back : (xs ys : List Datum) (d : Datum) → Has ys d → Has (xs ++ ys) d
has_back xs ys d h = list_any-append (same_datum d) xs ys ∙ or_right (list_any (same_datum d) xs) _ h

filtered_by : (q : Bool) (p : Datum → Bool) (x : Datum) (ds : List Datum) (d : Datum) → p d ≡ true → p x ≡ q
    → (same_datum d x ≡ true) ⊎ Has (filter p ds) d → Has (cond q (x ∷ filter p ds) (filter p ds)) d
filtered_by true p x ds d yes' e (inl s) = or_left _ _ s
filtered_by true p x ds d yes' e (inr h) = or_right (same_datum d x) _ h
filtered_by false p x ds d yes' e (inl s) = let same = ap p (same_datum-equal d x s) in absurd (cc (yes', e, same))
filtered_by false p x ds d yes' e (inr h) = h

or_else : {P Q R : Type 0} → (Q → R) → P ⊎ Q → P ⊎ R
or_else f (inl h) = inl h
or_else f (inr h) = inr (f h)

has_filtered : (p : Datum → Bool) (ds : List Datum) (d : Datum) → p d ≡ true → Has ds d → Has (filter p ds) d
has_filtered p [] d yes' h = h
has_filtered p (x ∷ ds) d yes' h =
    filtered_by (p x) p x ds d yes' refl (or_else (λ i. has_filtered p ds d yes' i) (or_cases (same_datum d x)
    (list_any (same_datum d) ds) h))

-- each datum once, beside those seen

behind_seen : (x d : Datum) (seen rest : List Datum) → Has (x ∷ seen) d ⊎ Has rest d → Has seen d ⊎ Has (x ∷ rest) d
behind_seen x d seen rest (inl h) = by (or_cases (same_datum d x) (list_any (same_datum d) seen) h)
  where
    by : (same_datum d x ≡ true) ⊎ Has seen d → Has seen d ⊎ Has (x ∷ rest) d
    by (inl s) = inr (or_left _ _ s)
    by (inr i) = inl i
behind_seen x d seen rest (inr h) = inr (or_right (same_datum d x) _ h)

once_by : (q : Bool) (seen ds : List Datum) (x d : Datum) → list_any (same_datum x) seen ≡ q →
    (same_datum d x ≡ true) ⊎ Has ds d → ((all : List Datum) → Has ds d → Has all d ⊎ Has (once all ds) d)
    → Has seen d ⊎ Has (cond q (once seen ds) (x ∷ once (x ∷ seen) ds)) d
once_by true seen ds x d e (inl s) rest =
    inl (subst (λ u. list_any (same_datum u) seen ≡ true) (sym (same_datum-equal d x s)) e)
once_by true seen ds x d e (inr h) rest = rest seen h
once_by false seen ds x d e (inl s) rest = inr (or_left _ _ s)
once_by false seen ds x d e (inr h) rest = behind_seen x d seen (once (x ∷ seen) ds) (rest (x ∷ seen) h)

once_has : (seen ds : List Datum) (d : Datum) → Has ds d → Has seen d ⊎ Has (once seen ds) d
once_has seen [] d h = absurd (cc h)
once_has seen (x ∷ ds) d h =
    once_by (list_any (same_datum x) seen) seen ds x d refl (or_cases (same_datum d x) (list_any (same_datum d) ds) h)
    (λ all i. once_has all ds d i)

has_once : (ds : List Datum) (d : Datum) → Has ds d → Has (once [] ds) d
has_once ds d h = by (once_has [] ds d h)
  where
    by : Has [] d ⊎ Has (once [] ds) d → Has (once [] ds) d
    by (inl e) = absurd (cc e)
    by (inr i) = i

-- ---- in order

has_ordered : (named : List Datum) (d : Datum) → Has named d → Has (ordered named) d
has_ordered named (InitialValues leaves) h =
    has_front (filter is_initial named) _ (InitialValues leaves) (has_filtered is_initial named
    (InitialValues leaves) refl h)
has_ordered named (ConstantBytes bytes) h =
    let d = ConstantBytes bytes in
    let constants = filter is_constant named in
    has_back (filter is_initial named) _ d
    (has_front (once [] (constants ++ flat_map values_of named)) _ d
    (has_once (constants ++ flat_map values_of named) d
    (has_front constants (flat_map values_of named) d (has_filtered is_constant named d refl h))))
has_ordered named (NumberWord block index) h =
    let d = NumberWord block index in
    let constants = once [] (filter is_constant named ++ flat_map values_of named) in
    has_back (filter is_initial named) _ d
    (has_back constants _ d
    (has_front (filter is_word named) (filter is_storage named) d (has_filtered is_word named d refl h)))
has_ordered named (StaticStorage block index bytes) h =
    let d = StaticStorage block index bytes in
    let constants = once [] (filter is_constant named ++ flat_map values_of named) in
    has_back (filter is_initial named) _ d
    (has_back constants _ d
    (has_back (filter is_word named) (filter is_storage named) d (has_filtered is_storage named d refl h)))

-- what is named is there
pub static_has : (code : Code) (d : Datum) → Has (data_named code) d → Has (static_data code) d
static_has code d h = has_ordered (once [] (data_named code)) d (has_once (data_named code) d h)

-- ---- INITIAL values

-- lists of INITIAL values alone
abbrev pub AreInitial : List Datum → Type 0
AreInitial [] = Unit {0}
AreInitial (d ∷ ds) = (is_initial d ≡ true) × AreInitial ds

pub filtered_initial : (ds : List Datum) → AreInitial (filter is_initial ds)
filtered_initial [] = tt
filtered_initial (d ∷ ds) = by_test (is_initial d) refl (filtered_initial ds)
  where
    by_test : (q : Bool) → is_initial d ≡ q → AreInitial (filter is_initial ds) → AreInitial (cond q
        (d ∷ filter is_initial ds) (filter is_initial ds))
    by_test true e more = (e, more)
    by_test false e more = more

-- each of them once
abbrev pub named_once : Code → List Datum
named_once code = once [] (data_named code)

pub initial_has : (code : Code) (leaves : List InitialLeaf) → Has (data_named code) (InitialValues leaves)
    → Has (filter is_initial (named_once code)) (InitialValues leaves)
initial_has code leaves h =
    has_filtered is_initial (named_once code) (InitialValues leaves) refl
    (has_once (data_named code) (InitialValues leaves) h)

has_flat : (ds : List Datum) (d v : Datum) → Has ds d → Has (values_of d) v → Has (flat_map values_of ds) v
has_flat [] d v h k = absurd (cc h)
has_flat (x ∷ ds) d v h k =
    by_case (or_cases (same_datum d x) (list_any (same_datum d) ds) h) (λ i. has_flat ds d v i k)
  where
    by_case : (same_datum d x ≡ true) ⊎ Has ds d → (Has ds d → Has (flat_map values_of ds) v) → Has
        (values_of x ++ flat_map values_of ds) v
    by_case (inl s) later =
        has_front (values_of x) (flat_map values_of ds) v (subst (λ u. Has (values_of u) v) (same_datum-equal d x s) k)
    by_case (inr i) later = has_back (values_of x) (flat_map values_of ds) v (later i)

-- the values of a list that is named stand among the data
pub values_has : (code : Code) (leaves : List InitialLeaf) (v : Datum) → Has (data_named code) (InitialValues leaves)
    → Has (values_of (InitialValues leaves)) v → Has (static_data code) v
values_has code leaves v h k =
    let named = named_once code in
    let constants = filter is_constant named in
    let all = has_once (data_named code) (InitialValues leaves) h in
    has_back (filter is_initial named) _ v
    (has_front (once [] (constants ++ flat_map values_of named)) _ v
    (has_once (constants ++ flat_map values_of named) v
    (has_back constants (flat_map values_of named) v (has_flat named (InitialValues leaves) v all k))))

-- what is there has a place
pub placed_same : (d : Datum) (at : ℕ) (ds : List Datum) → list_any (λ (p : PlacedDatum). same_datum d p.datum)
    (placed_from at ds) ≡ list_any (same_datum d) ds
placed_same d at [] = refl
placed_same d at (x ∷ ds) = ap (λ q. same_datum d x || q) (placed_same d (begins_at x at + datum_size x) ds)

-- ---- the law

pub data_stand : DataStand
data_stand =
    record {
      named = static_has;
      values = values_has;
      placed = λ code d h. placed_same d (data_start code) (static_data code) ∙ h;
    }
