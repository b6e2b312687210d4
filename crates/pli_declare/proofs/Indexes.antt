-- A block's map of names, as declarations are added.
use Rattle.std.proofs.Common.{◌≡◌, ◌<◌, take, map, ℕ, suc, ◌+◌, Bool, true, false, List, [], ◌∷◌, ◌++◌, length, Option, Some, refl, sym, ap, ◌∙◌, append-nil, add-zero, arith, nat_eq, Bor, Vec, cond, true≢false}
use Rattle.std.specs.Map.{lookup}
use Rattle.std.proofs.lemmas.List.{length-map, length-take-le}
use Rattle.std.specs.Prelude.{if◌then◌else◌}
use Rattle.std.specs.Option.{option_map_or}
use Rattle.std.specs.Cmp.Lexicographic.{pointwise, bytes_decides}
use Rattle.std.specs.declared.alloc.Global.{Global}
use Rattle.indexmap.specs.IndexMap.{IndexMap, get_by, Updates}
use Rattle.pli_language.specs.Declarations.{Declaration}
use Rattle.pli_language.specs.Means.{places}
use Rattle.pli_declare.specs.Index.{places_at, IsIndex}

one_if : Bool → ℕ → List ℕ
one_if true n = n ∷ []
one_if false n = []

if_one : (b : Bool) (n m : ℕ) → n ≡ m → (if b then n ∷ [] else []) ≡ one_if b m
unfolding one_if
if_one true n m e = ap (λ k. k ∷ []) e
if_one false n m e = refl

if_more : (b : Bool) (n : ℕ) (xs ys zs : List ℕ) → xs ≡ ys ++ zs → (if b then n ∷ xs else xs) ≡ (if b then n ∷ ys else ys) ++ zs
if_more true n xs ys zs e = ap (λ u. n ∷ u) e
if_more false n xs ys zs e = e

next_place : (n k : ℕ) → n + 1 + k ≡ n + suc k
next_place n k = omega arith

places_push : (test : Declaration → Bool) (n : ℕ) (ds : List Declaration) (d : Declaration) → places test n (ds ++ d ∷ []) ≡ places test n ds ++ one_if (test d) (n + length ds)
places_push test n [] d = if_one (test d) n (n + 0) (sym (add-zero n))
places_push test n (e ∷ ds) d =
    if_more (test e) n (places test (n + 1) (ds ++ d ∷ [])) (places test (n + 1) ds) (one_if (test d) (n + suc (length ds)))
    (places_push test (n + 1) ds d ∙ ap (λ k. places test (n + 1) ds ++ one_if (test d) k) (next_place n (length ds)))

same_from_test : (a b : List ℕ) → pointwise nat_eq a b ≡ true → a ≡ b
same_from_test a b h = (bytes_decides a b).0 h

test_from_same : (a b : List ℕ) → a ≡ b → pointwise nat_eq a b ≡ true
test_from_same a b h = (bytes_decides a b).1 h

apart : (a b : List ℕ) → pointwise nat_eq a b ≡ false → pointwise nat_eq b a ≡ false
apart a b h = go (pointwise nat_eq b a) refl
  where
    go : (t : Bool) → pointwise nat_eq b a ≡ t → t ≡ false
    go true e = absurd (true≢false (sym (test_from_same a b (sym (same_from_test b a e))) ∙ h))
    go false e = refl

one_true : (b : Bool) (n m : ℕ) → b ≡ true → n ≡ m → one_if b n ≡ m ∷ []
unfolding one_if
one_true b n m h e = ap (λ c. one_if c n) h ∙ ap (λ k. k ∷ []) e

one_false : (b : Bool) (n : ℕ) → b ≡ false → one_if b n ≡ []
unfolding one_if
one_false b n h = ap (λ c. one_if c n) h

from_zero : (n : ℕ) → 0 + n ≡ n
from_zero n = omega arith

-- the test of a name
abbrev named : List ℕ → Declaration → Bool
named q d = pointwise nat_eq q d.name.letters

pub index_push : {S : Type 0} (m n : IndexMap (Bor (List ℕ)) (Vec ℕ Global) S) (k : Bor (List ℕ)) (v : Vec ℕ Global) (ds : List Declaration) (d : Declaration) → Updates (λ x y. pointwise nat_eq x.now y.now) m n k (Some v) → IsIndex m ds → v.items ≡ places_at m k.now ++ length ds ∷ [] → d.name.letters ≡ k.now → IsIndex n (ds ++ d ∷ [])
index_push {S} m n k v ds d u index e same q = go (pointwise nat_eq k.now q) refl
  where
    key : Bor (List ℕ)
    key = record { ref_ptr = k.ref_ptr; now = q }

    found : Option (Vec ℕ Global)
    found = get_by (λ x. pointwise nat_eq q x.now) m

    after : get_by (λ x. pointwise nat_eq q x.now) n ≡ cond (pointwise nat_eq k.now q) (Some v) (get_by (λ x. pointwise nat_eq q x.now) m)
    after = u.0 (record { ref_ptr = k.ref_ptr; now = q })

    items : Option (Vec ℕ Global) → List ℕ
    items o = option_map_or (λ (w : Vec ℕ Global). w.items) o []

    go : (t : Bool) → pointwise nat_eq k.now q ≡ t → places_at n q ≡ places (named q) 0 (ds ++ d ∷ [])
    go true p =
        let kq : k.now ≡ q = same_from_test k.now q p in
        let is_v : get_by (λ x. pointwise nat_eq q x.now) n ≡ Some v = after ∙ ap (λ b. cond b (Some v) (get_by (λ x. pointwise nat_eq q x.now) m)) p in
        let one : one_if (named q d) (0 + length ds) ≡ length ds ∷ [] = one_true (named q d) (0 + length ds) (length ds) (test_from_same q d.name.letters (sym kq ∙ sym same)) (from_zero (length ds)) in
        ap (λ o. option_map_or (λ (w : Vec ℕ Global). w.items) o []) is_v ∙ e ∙ ap (λ u. u ++ length ds ∷ []) (index k.now) ∙ ap (λ r. places (named r) 0 ds ++ length ds ∷ []) kq ∙ ap (λ u. places (named q) 0 ds ++ u) (sym one) ∙ sym (places_push (named q) 0 ds d)
    go false p =
        let is_old : get_by (λ x. pointwise nat_eq q x.now) n ≡ get_by (λ x. pointwise nat_eq q x.now) m = after ∙ ap (λ b. cond b (Some v) (get_by (λ x. pointwise nat_eq q x.now) m)) p in
        let other : named q d ≡ false = ap (λ r. pointwise nat_eq q r) same ∙ apart k.now q p in
        ap (λ o. option_map_or (λ (w : Vec ℕ Global). w.items) o []) is_old ∙ index q ∙ sym (append-nil (places (named q) 0 ds)) ∙ ap (λ u. places (named q) 0 ds ++ u) (sym (one_false (named q d) (0 + length ds) other)) ∙ sym (places_push (named q) 0 ds d)

pub index_none : {S : Type 0} (m : IndexMap (Bor (List ℕ)) (Vec ℕ Global) S) → m.entries ≡ [] → IsIndex m []
index_none m e q = ap (λ es. option_map_or (λ (w : Vec ℕ Global). w.items) (lookup (λ (k : Bor (List ℕ)). pointwise nat_eq q k.now) es) []) e

pub length_front : {X Y : Type 0} (f : X → Y) (xs : List X) (i : ℕ) → i < length xs → length (map f (take i xs)) ≡ i
length_front f xs i h = length-map (take i xs) f ∙ length-take-le i xs (omega arith)
