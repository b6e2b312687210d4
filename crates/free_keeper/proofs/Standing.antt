-- What the front of bytes says, and that they stand for what map, headers and links tell.
use Rattle.std.proofs.Common.{◌≡◌, ◌⊎◌, inl, inr, ℕ, ◌+◌, ◌*◌, ◌%◌, ◌^◌, ◌<◌, ◌≤◌, ℤ, pos, negsuc, List, [], ◌∷◌}
use Rattle.std.proofs.Common.{length, Option, Some, None, Bool, true, false, refl, ap, ◌∙◌, subst, arith}
use Rattle.std.specs.Prelude.{FitsSigned, cond, nat_le, nat_lt, ◌&&◌, ◌==◌}
use Rattle.std.specs.Int.{w32}
use Rattle.std.proofs.lemmas.Int.{to_z-of_z}
use Rattle.rv_meaning.specs.Words.{signed, word}
use Rattle.area_keeper.specs.Keeper.{Kept, KeptArea}
use Rattle.area_keeper.specs.KeptAreas.{InOrder, with_kept}
use Rattle.area_keeper.specs.KeeperLaws.{greatest_capacity}
use Rattle.area_keeper.specs.Chain.{word_at, with_word, capacity_in}
use Rattle.area_keeper.proofs.Agreement.{Agrees, agrees_twice, agrees_word, length_word, word_same}
use Rattle.free_keeper.proofs.Tests.{both, and_true, eq_tells, eq_true, le_tells, le_true}
use Rattle.free_keeper.proofs.Links.{Listed, listed_tells, listed_true}
use Rattle.free_keeper.proofs.Marking.{order_tells, order_true, Marked, marked_by, Headers, headers_read, placed_by}
use Rattle.free_keeper.proofs.Relisting.{word_there, word_other}
use Rattle.free_keeper.specs.FreeList.{mark, map_for, front_for, bytes_for, has_front, link_behind, gaps, kept_in}
use Rattle.free_keeper.specs.FreeList.{placed_in, in_order, is_listed, is_whole, free_list_area, with_header}

pub record Front (bytes : List ℕ) (capacity : ℕ) : Type 0 where
  pub marked : word_at 0 bytes ≡ mark
  pub capacity_is : capacity_in bytes ≡ capacity
  pub rounded : capacity % 16 ≡ 0
  pub bounded : capacity ≤ greatest_capacity
  pub as_many : length bytes ≡ bytes_for capacity

pub record Stands (bytes : List ℕ) (capacity : ℕ) (gs : List Kept) : Type 0 where
  pub front : Front bytes capacity
  pub ordered : InOrder 0 capacity gs
  pub marked : Marked (8 * map_for capacity) bytes gs
  pub headers : Headers (front_for capacity) bytes gs
  pub listed : Listed (front_for capacity) (link_behind (front_for capacity) 0 bytes) bytes (gaps 0 capacity gs)

pub front_true : (bytes : List ℕ) → has_front bytes ≡ true → Front bytes (capacity_in bytes)
front_true bytes e =
    let c = capacity_in bytes in
    let t = both (word_at 0 bytes == mark) ((c % 16 == 0) && (nat_le c greatest_capacity && (length bytes == bytes_for
    c))) e in
    let u = both (c % 16 == 0) (nat_le c greatest_capacity && (length bytes == bytes_for c)) t.1 in
    let v = both (nat_le c greatest_capacity) (length bytes == bytes_for c) u.1 in
    record {
      marked = eq_tells (word_at 0 bytes) mark true t.0;
      capacity_is = refl;
      rounded = eq_tells (c % 16) 0 true u.0;
      bounded = le_tells c greatest_capacity true v.0;
      as_many = eq_tells (length bytes) (bytes_for c) true v.1;
    }

true_front : (bytes : List ℕ) → Front bytes (capacity_in bytes) → has_front bytes ≡ true
true_front bytes f =
    let a = eq_true (word_at 0 bytes) mark f.marked in
    let b = eq_true (capacity_in bytes % 16) 0 f.rounded in
    let c = le_true (capacity_in bytes) greatest_capacity f.bounded in
    let d = eq_true (length bytes) (bytes_for (capacity_in bytes)) f.as_many in
    rw (a, b, c, d) refl

area_of : List ℕ → KeptArea
area_of bytes = record { capacity = capacity_in bytes; placed = placed_in bytes }

pub stands_from : (bytes : List ℕ) (a : KeptArea) → free_list_area bytes ≡ Some a → Stands bytes a.capacity a.placed
stands_from bytes a e =
    by_test (has_front bytes && is_whole (front_for (capacity_in bytes)) (capacity_in bytes) bytes (placed_in bytes))
    refl e
  where
    by_test :
        (t : Bool) →
        (has_front bytes && is_whole (front_for (capacity_in bytes)) (capacity_in bytes) bytes (placed_in bytes)) ≡ t →
        cond t (Some (record {
          capacity =
              capacity_in bytes;
          placed = placed_in bytes;
        })) None ≡ Some a → Stands bytes a.capacity a.placed
    by_test true t e =
        let c = capacity_in bytes in
        let f = front_for c in
        let gs = placed_in bytes in
        let k : record { capacity = c; placed = gs } ≡ a = cc e in
        let P : KeptArea → Type 0 = λ b. Stands bytes b.capacity b.placed in
        let u = both (has_front bytes) (is_whole f c bytes gs) t in
        let v = both (in_order 0 c gs) (is_listed f (link_behind f 0 bytes) bytes (gaps 0 c gs)) u.1 in
        subst P k (record {
          front = front_true bytes u.0;
          ordered = order_tells 0 c gs v.0;
          marked = marked_by f (8 * map_for c) bytes;
          headers = headers_read f (8 * map_for c) 0 bytes;
          listed = listed_tells f (link_behind f 0 bytes) bytes (gaps 0 c gs) v.1;
        })
    by_test false t e = absurd (cc e)

pub stands_for :
    (bytes : List ℕ) (capacity : ℕ) (gs : List Kept) → Stands bytes capacity gs →
    free_list_area bytes ≡ Some (record { capacity = capacity; placed = gs })
stands_for bytes capacity gs s =
    let P : ℕ → Type 0 = λ c. Stands bytes c gs → free_list_area bytes ≡ Some (record { capacity = c; placed = gs }) in
    subst P s.front.capacity_is (λ h.
    let c = capacity_in bytes in
    let f = front_for c in
    let p : placed_in bytes ≡ gs = placed_by f (8 * map_for c) c bytes gs h.ordered (omega arith) h.marked h.headers in
    let w : is_whole f c bytes gs ≡ true =
    and_true (in_order 0 c gs) (is_listed f (link_behind f 0 bytes) bytes (gaps 0 c gs)) (order_true 0 c gs h.ordered)
    (listed_true f (link_behind f 0 bytes) bytes (gaps 0 c gs) h.listed)
    in
    let t : (has_front bytes && is_whole f c bytes (placed_in bytes)) ≡ true =
    and_true (has_front bytes) (is_whole f c bytes (placed_in bytes)) (true_front bytes h.front) (ap (is_whole f c
    bytes) p ∙ w)
    in
    ap (λ b. cond b (Some (record { capacity = c; placed = placed_in bytes })) None) t
    ∙ ap (λ (xs : List Kept). let a : Option KeptArea = Some (record { capacity = c; placed = xs }) in a) p) s

pub front_same :
    (old new : List ℕ) (capacity : ℕ) → Front old capacity → length new ≡ length old → Agrees old new 0 8 →
    Front new capacity
front_same old new capacity f n h =
    record {
      marked = word_same old new 0 8 0 h (omega arith) (omega arith) ∙ f.marked;
      capacity_is = word_same old new 0 8 4 h (omega arith) (omega arith) ∙ f.capacity_is;
      rounded = f.rounded;
      bounded = f.bounded;
      as_many = n ∙ f.as_many;
    }

pub made_front :
    (capacity : ℕ) (m : List ℕ) → capacity % 16 ≡ 0 → capacity ≤ greatest_capacity → length m ≡ bytes_for capacity →
    Front (with_word 4 capacity (with_word 0 mark m)) capacity
made_front capacity m r b n =
    let a = with_word 0 mark m in
    let na : length a ≡ length m = length_word m 0 mark in
    let nc : length (with_word 4 capacity a) ≡ length a = length_word a 4 capacity in
    record {
      marked = word_other a 4 capacity 0 (inl (omega arith)) ∙ word_there m 0 mark (omega arith) (omega (arith, n));
      capacity_is = word_there a 4 capacity (omega (arith, b)) (omega (arith, na, n));
      rounded = r;
      bounded = b;
      as_many = nc ∙ (na ∙ n);
    }

-- ---- a generation's header

extent_word : (z : ℤ) → FitsSigned w32 z → word z < 2 ^ 32
extent_word (pos n) h = let f : n < 2 ^ 31 = h.sfits in omega (arith, f)
extent_word (negsuc n) h = omega arith

pub record Fits (g : Kept) : Type 0 where
  pub size : g.size < 2 ^ 32
  pub signature : g.signature < 2 ^ 32
  pub extent : FitsSigned w32 g.extent

pub length_header : (at : ℕ) (g : Kept) (m : List ℕ) → length (with_header at g m) ≡ length m
length_header at g m =
    let a = with_word at g.size m in
    let b = with_word (4 + at) g.signature a in
    length_word b (8 + at) (word g.extent) ∙ (length_word a (4 + at) g.signature ∙ length_word m at g.size)

pub agrees_header :
    (at : ℕ) (g : Kept) (m : List ℕ) (from to : ℕ) → (to ≤ at) ⊎ (12 + at ≤ from) →
    Agrees m (with_header at g m) from to
agrees_header at g m from to h =
    let a = with_word at g.size m in
    let b = with_word (4 + at) g.signature a in
    let c = with_word (8 + at) (word g.extent) b in
    agrees_twice m b c from to (agrees_twice m a b from to (agrees_word m at g.size from to (first h)) (agrees_word a
    (4 + at) g.signature from to (beside 4 (omega arith) h))) (agrees_word b (8 + at) (word g.extent) from to (beside
    8 (omega arith) h))
  where
    first : (to ≤ at) ⊎ (12 + at ≤ from) → (to ≤ at) ⊎ (at + 4 ≤ from)
    first (inl x) = inl x
    first (inr x) = inr (omega (arith, x))

    beside : (k : ℕ) → k ≤ 8 → (to ≤ at) ⊎ (12 + at ≤ from) → (to ≤ k + at) ⊎ (k + at + 4 ≤ from)
    beside k b (inl x) = inl (omega (arith, x))
    beside k b (inr x) = inr (omega (arith, b, x))

pub header_kept :
    (at : ℕ) (g : Kept) (m : List ℕ) → Fits g → 12 + at ≤ length m → kept_in at g.offset (with_header at g m) ≡ g
header_kept at g m f i =
    let a = with_word at g.size m in
    let b = with_word (4 + at) g.signature a in
    let na : length a ≡ length m = length_word m at g.size in
    let nb : length b ≡ length m = length_word a (4 + at) g.signature ∙ na in
    let x : word_at at (with_header at g m) ≡ g.size =
    word_other b (8 + at) (word g.extent) at (inl (omega arith))
    ∙ (word_other a (4 + at) g.signature at (inl (omega arith)) ∙ word_there m at g.size f.size (omega (arith, i)))
    in
    let y : word_at (4 + at) (with_header at g m) ≡ g.signature =
    word_other b (8 + at) (word g.extent) (4 + at) (inl (omega arith))
    ∙ word_there a (4 + at) g.signature f.signature (omega (arith, na, i))
    in
    let z : word_at (8 + at) (with_header at g m) ≡ word g.extent =
    word_there b (8 + at) (word g.extent) (extent_word g.extent f.extent) (omega (arith, nb, i))
    in
    let e : signed (word_at (8 + at) (with_header at g m)) ≡ g.extent = ap signed z ∙ to_z-of_z w32 g.extent f.extent in
    made x y e
  where
    made :
        {s t : ℕ} {z : ℤ} → s ≡ g.size → t ≡ g.signature → z ≡ g.extent →
        record { offset = g.offset; size = s; signature = t; extent = z } ≡ g
    made {s} {t} {z} x y e =
        ap (λ (n : ℕ). let k : Kept = record { offset = g.offset; size = n; signature = t; extent = z } in k) x
        ∙ (ap (λ (n : ℕ). let k : Kept = record { offset = g.offset; size = g.size; signature = n; extent = z } in k) y
        ∙ ap (λ (n : ℤ). let k : Kept = record {
          offset = g.offset;
          size = g.size;
          signature = g.signature;
          extent = n;
        } in k) e)

pub headers_placed :
    (front : ℕ) (bytes : List ℕ) (k : Kept) (gs : List Kept) → kept_in (front + k.offset) k.offset bytes ≡ k →
    Headers front bytes gs →
    Headers front bytes (with_kept k gs)
headers_placed front bytes k [] e h = (e, tt)
headers_placed front bytes k (g ∷ gs) e h = by_test (nat_lt k.offset g.offset) (headers_placed front bytes k gs e h.1)
  where
    by_test :
        (t : Bool) → Headers front bytes (with_kept k gs) →
        Headers front bytes (cond t (k ∷ g ∷ gs) (g ∷ with_kept k gs))
    by_test true rest = (e, h)
    by_test false rest = (h.0, rest)
