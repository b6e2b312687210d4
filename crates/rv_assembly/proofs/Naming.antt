-- The loops over what the code names.
use Rattle.std.proofs.Common.{◌≡◌, ℕ, suc, ◌+◌, ◌<◌, Bool, true, false, ◌||◌, List, [], ◌∷◌, ◌++◌, map, filter, length, drop, get_or, refl, sym, ap, ◌∙◌, append_assoc, add-one, drop-cons}
use Rattle.std.specs.Prelude.{if◌then◌else◌}
use Rattle.std.specs.List.{list_any}
use Rattle.std.proofs.lemmas.List.{map_push}
use Rattle.indexmap.specs.IndexSet.{insert_key}
use Rattle.pli_coding.specs.Assembly.{Datum, same_datum, Item, Plain, BaseIn, OffsetOf, OffsetAhead, JumpTo, CallTo, JumpAhead, JumpBack, Mark, Code}
use Rattle.pli_coding.specs.StaticData.{data_named, once}
use Rattle.rv_assembly.specs.declared.item.Item.{Item as Held}
use Rattle.rv_assembly.specs.declared.statics.DatumRef.{DatumRef}
use Rattle.rv_assembly.specs.declared.statics.Sort.{Sort}
use Rattle.rv_assembly.specs.View.{item_of}
use Rattle.rv_assembly.specs.Borrowed.{datum, is_sort, data_at}
use Rattle.rv_assembly.proofs.Marking.{items_from}

-- the elements from a place on, with the one there
pub shown_from : {X Y : Type 0} (f : X → Y) (xs : List X) (i : ℕ) (x : X) → i < length xs → x ≡ get_or xs i x → map f (drop i xs) ≡ f x ∷ map f (drop (i + 1) xs)
shown_from f xs i x h e =
    ap (map f) (drop-cons xs i x h ∙ ap (λ y. y ∷ drop (suc i) xs) (sym e) ∙ ap (λ k. x ∷ drop k xs) (sym (add-one i)))

named_step : (i : Item) (is : Code) → data_named (i ∷ is) ≡ data_at i ++ data_named is
named_step (OffsetOf r s) is = refl
named_step (Plain i) is = refl
named_step (BaseIn r) is = refl
named_step (OffsetAhead r words) is = refl
named_step (JumpTo s) is = refl
named_step (CallTo s) is = refl
named_step (JumpAhead words) is = refl
named_step (JumpBack words) is = refl
named_step (Mark s) is = refl

pub next_named : (done target : List Datum) (xs : List Held) (i : ℕ) (x : Held) → i < length xs → x ≡ get_or xs i x → done ++ data_named (map item_of (drop i xs)) ≡ target → (done ++ data_at (item_of x)) ++ data_named (map item_of (drop (i + 1) xs)) ≡ target
next_named done target xs i x h e is =
    append_assoc done (data_at (item_of x)) (data_named (map item_of (drop (i + 1) xs)))
    ∙ ap (λ u. done ++ u) (sym (ap data_named (items_from xs i x h e) ∙ named_step (item_of x) (map item_of (drop (i + 1) xs))))
    ∙ is

-- ---- each datum once

SameAmong : List Datum → List Datum → Type 0
SameAmong xs ys = (q : Datum) → list_any (same_datum q) xs ≡ list_any (same_datum q) ys

once_among : (xs ys ds : List Datum) → SameAmong xs ys → once xs ds ≡ once ys ds
unfolding SameAmong
once_among xs ys [] h = refl
once_among xs ys (d ∷ ds) h =
    ap (λ b. if b then once xs ds else d ∷ once (d ∷ xs) ds) (h d)
    ∙ ap (λ u. if list_any (same_datum d) ys then u else d ∷ once (d ∷ xs) ds) (once_among xs ys ds h)
    ∙ ap (λ u. if list_any (same_datum d) ys then once ys ds else d ∷ u) (once_among (d ∷ xs) (d ∷ ys) ds (λ q. ap (λ b. same_datum q d || b) (h q)))

or_last : (a b c : Bool) → ((a || b) || c) ≡ (a || (b || c))
or_last true b c = refl
or_last false b c = refl

or_none : (b : Bool) → (b || false) ≡ b
or_none true = refl
or_none false = refl

or_turned : (a b : Bool) → (a || b) ≡ (b || a)
or_turned true true = refl
or_turned true false = refl
or_turned false true = refl
or_turned false false = refl

any_append : (t : Datum → Bool) (xs ys : List Datum) → list_any t (xs ++ ys) ≡ (list_any t xs || list_any t ys)
any_append t [] ys = refl
any_append t (x ∷ xs) ys = ap (λ b. t x || b) (any_append t xs ys) ∙ sym (or_last (t x) (list_any t xs) (list_any t ys))

last_or_first : (d : Datum) (ks : List Datum) → SameAmong (d ∷ ks) (ks ++ d ∷ [])
unfolding SameAmong
last_or_first d ks q =
    or_turned (same_datum q d) (list_any (same_datum q) ks)
    ∙ ap (λ b. list_any (same_datum q) ks || b) (sym (or_none (same_datum q d)))
    ∙ sym (any_append (same_datum q) ks (d ∷ []))

-- a datum put behind those seen, unless it is one of them
seen_with : List Datum → Datum → List Datum
seen_with ks d = if list_any (same_datum d) ks then ks else ks ++ d ∷ []

once_step : (ks : List Datum) (d : Datum) (ds : List Datum) → ks ++ once ks (d ∷ ds) ≡ seen_with ks d ++ once (seen_with ks d) ds
unfolding seen_with
once_step ks d ds = go (list_any (same_datum d) ks)
  where
    go : (b : Bool) → ks ++ (if b then once ks ds else d ∷ once (d ∷ ks) ds) ≡ (if b then ks else ks ++ d ∷ []) ++ once (if b then ks else ks ++ d ∷ []) ds
    go true = refl
    go false = ap (λ u. ks ++ (d ∷ u)) (once_among (d ∷ ks) (ks ++ d ∷ []) ds (last_or_first d ks)) ∙ sym (append_assoc ks (d ∷ []) (once (ks ++ d ∷ []) ds))

any_shown : (eq : DatumRef → DatumRef → Bool) → ((a b : DatumRef) → eq a b ≡ same_datum (datum a) (datum b)) → (ks : List DatumRef) (x : DatumRef) → list_any (eq x) ks ≡ list_any (same_datum (datum x)) (map datum ks)
any_shown eq is [] x = refl
any_shown eq is (k ∷ ks) x = ap (λ b. b || list_any (eq x) ks) (is x k) ∙ ap (λ b. same_datum (datum x) (datum k) || b) (any_shown eq is ks x)

inserted : (eq : DatumRef → DatumRef → Bool) → ((a b : DatumRef) → eq a b ≡ same_datum (datum a) (datum b)) → (ks : List DatumRef) (x : DatumRef) → map datum (insert_key eq ks x) ≡ seen_with (map datum ks) (datum x)
unfolding seen_with
inserted eq is ks x = go (list_any (eq x) ks) refl
  where
    go : (b : Bool) → list_any (eq x) ks ≡ b → map datum (if b then ks else ks ++ x ∷ []) ≡ (if list_any (same_datum (datum x)) (map datum ks) then map datum ks else map datum ks ++ datum x ∷ [])
    go true e = ap (λ b. if b then map datum ks else map datum ks ++ datum x ∷ []) (sym e ∙ any_shown eq is ks x)
    go false e = map_push datum ks x ∙ ap (λ b. if b then map datum ks else map datum ks ++ datum x ∷ []) (sym e ∙ any_shown eq is ks x)

pub next_once : (eq : DatumRef → DatumRef → Bool) → ((a b : DatumRef) → eq a b ≡ same_datum (datum a) (datum b)) → (target : List Datum) (ks new : List DatumRef) (xs : List DatumRef) (i : ℕ) (x : DatumRef) → i < length xs → x ≡ get_or xs i x → new ≡ insert_key eq ks x
    → map datum ks ++ once (map datum ks) (map datum (drop i xs)) ≡ target
    → map datum new ++ once (map datum new) (map datum (drop (i + 1) xs)) ≡ target
next_once eq same target ks new xs i x h e n is =
    let shown : map datum new ≡ seen_with (map datum ks) (datum x) = ap (map datum) n ∙ inserted eq same ks x in
    ap (λ u. u ++ once u (map datum (drop (i + 1) xs))) shown
    ∙ sym (once_step (map datum ks) (datum x) (map datum (drop (i + 1) xs)))
    ∙ ap (λ u. map datum ks ++ once (map datum ks) u) (sym (shown_from datum xs i x h e))
    ∙ is

-- ---- lists made of data

filter_step : (t : Datum → Bool) (done : List Datum) (d : Datum) (ds : List Datum) → (if t d then done ++ d ∷ [] else done) ++ filter t ds ≡ done ++ filter t (d ∷ ds)
filter_step t done d ds = go (t d) refl
  where
    go : (b : Bool) → t d ≡ b → (if b then done ++ d ∷ [] else done) ++ filter t ds ≡ done ++ filter t (d ∷ ds)
    go true e = append_assoc done (d ∷ []) (filter t ds) ∙ ap (λ b. done ++ (if b then d ∷ filter t ds else filter t ds)) (sym e)
    go false e = ap (λ b. done ++ (if b then d ∷ filter t ds else filter t ds)) (sym e)

pub next_kept : (sort : Sort) (done target : List Datum) (xs : List DatumRef) (i : ℕ) (x : DatumRef) → i < length xs → x ≡ get_or xs i x → is_sort sort (datum x) ≡ true → done ++ filter (is_sort sort) (map datum (drop i xs)) ≡ target → (done ++ datum x ∷ []) ++ filter (is_sort sort) (map datum (drop (i + 1) xs)) ≡ target
next_kept sort done target xs i x h e t is =
    ap (λ b. (if b then done ++ datum x ∷ [] else done) ++ filter (is_sort sort) (map datum (drop (i + 1) xs))) (sym t)
    ∙ filter_step (is_sort sort) done (datum x) (map datum (drop (i + 1) xs))
    ∙ ap (λ u. done ++ filter (is_sort sort) u) (sym (shown_from datum xs i x h e))
    ∙ is

pub next_passed : (sort : Sort) (done target : List Datum) (xs : List DatumRef) (i : ℕ) (x : DatumRef) → i < length xs → x ≡ get_or xs i x → is_sort sort (datum x) ≡ false → done ++ filter (is_sort sort) (map datum (drop i xs)) ≡ target → done ++ filter (is_sort sort) (map datum (drop (i + 1) xs)) ≡ target
next_passed sort done target xs i x h e t is =
    ap (λ b. (if b then done ++ datum x ∷ [] else done) ++ filter (is_sort sort) (map datum (drop (i + 1) xs))) (sym t)
    ∙ filter_step (is_sort sort) done (datum x) (map datum (drop (i + 1) xs))
    ∙ ap (λ u. done ++ filter (is_sort sort) u) (sym (shown_from datum xs i x h e))
    ∙ is
