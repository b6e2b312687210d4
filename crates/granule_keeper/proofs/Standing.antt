-- What the front of bytes says, and that they stand for what their marks tell.
use Rattle.std.proofs.Common.{◌≡◌, ℕ, ◌+◌, ◌*◌, ◌/◌, ◌%◌, ◌<◌, ◌≤◌, List, length, Option, Some, None, Bool, true, false, refl, sym, ap, ◌∙◌, subst, arith}
use Rattle.std.specs.Prelude.{cond, nat_le, ◌&&◌, ◌==◌}
use Rattle.area_keeper.specs.Keeper.{Kept, KeptArea}
use Rattle.area_keeper.specs.KeptAreas.{InOrder, part}
use Rattle.area_keeper.specs.KeeperLaws.{greatest_capacity}
use Rattle.area_keeper.specs.Chain.{word_at, capacity_in}
use Rattle.area_keeper.proofs.Agreement.{Agrees, word_same, length_part}
use Rattle.granule_keeper.proofs.Tests.{both, eq_tells, eq_true, le_tells, le_true}
use Rattle.granule_keeper.proofs.Placing.{ordered}
use Rattle.granule_keeper.specs.Granules.{mark, front_for, bytes_for, marks_in, has_front, placed_from, area_behind, granules_area}

pub record Front (bytes : List ℕ) (capacity : ℕ) : Type 0 where
  pub marked : word_at 0 bytes ≡ mark
  pub capacity_is : capacity_in bytes ≡ capacity
  pub rounded : capacity % 16 ≡ 0
  pub bounded : capacity ≤ greatest_capacity
  pub as_many : length bytes ≡ bytes_for capacity

abbrev pub placed_in : (capacity : ℕ) → List ℕ → List Kept
placed_in c bytes = placed_from (front_for c) bytes 0 true (part 8 (c / 16) bytes)

pub record Stands (bytes : List ℕ) (capacity : ℕ) (gs : List Kept) : Type 0 where
  pub front : Front bytes capacity
  pub placed : placed_in capacity bytes ≡ gs

front_true : (bytes : List ℕ) → has_front bytes ≡ true → Front bytes (capacity_in bytes)
front_true bytes e =
    let c = capacity_in bytes in
    let t = both (word_at 0 bytes == mark) ((c % 16 == 0) && (nat_le c greatest_capacity && (length bytes == bytes_for c))) e in
    let u = both (c % 16 == 0) (nat_le c greatest_capacity && (length bytes == bytes_for c)) t.1 in
    let v = both (nat_le c greatest_capacity) (length bytes == bytes_for c) u.1 in
    record {
      marked = eq_tells (word_at 0 bytes) mark t.0;
      capacity_is = refl;
      rounded = eq_tells (c % 16) 0 u.0;
      bounded = le_tells c greatest_capacity true v.0;
      as_many = eq_tells (length bytes) (bytes_for c) v.1;
    }

true_front : (bytes : List ℕ) → Front bytes (capacity_in bytes) → has_front bytes ≡ true
true_front bytes f =
    let a = eq_true (word_at 0 bytes) mark f.marked in
    let b = eq_true (capacity_in bytes % 16) 0 f.rounded in
    let c = le_true (capacity_in bytes) greatest_capacity f.bounded in
    let d = eq_true (length bytes) (bytes_for (capacity_in bytes)) f.as_many in
    rw (a, b, c, d) refl

pub stands_from : (bytes : List ℕ) (a : KeptArea) → granules_area bytes ≡ Some a → Stands bytes a.capacity a.placed
stands_from bytes a e = by_test (has_front bytes) refl e
  where
    by_test : (t : Bool) → has_front bytes ≡ t → area_behind t bytes ≡ Some a → Stands bytes a.capacity a.placed
    by_test true t e =
        let k : record { capacity = capacity_in bytes; placed = placed_in (capacity_in bytes) bytes } ≡ a = cc e in
        let P : KeptArea → Type 0 = λ b. Stands bytes b.capacity b.placed in
        subst P k (record { front = front_true bytes t; placed = refl })
    by_test false t e = absurd (cc e)

pub stands_for :
    (bytes : List ℕ) (capacity : ℕ) (gs : List Kept) → Stands bytes capacity gs →
    granules_area bytes ≡ Some (record { capacity = capacity; placed = gs })
stands_for bytes capacity gs s =
    let P : ℕ → Type 0 = λ c. Stands bytes c gs → granules_area bytes ≡ Some (record { capacity = c; placed = gs }) in
    subst P s.front.capacity_is (λ h.
    ap (λ t. area_behind t bytes) (true_front bytes h.front)
    ∙ ap (λ (xs : List Kept). let a : Option KeptArea = Some (record { capacity = capacity_in bytes; placed = xs }) in a) h.placed) s

-- ---- what a front says

pub marks_same : (bytes : List ℕ) (capacity : ℕ) → Front bytes capacity → marks_in bytes ≡ part 8 (capacity / 16) bytes
marks_same bytes capacity f = ap (λ c. part 8 (c / 16) bytes) f.capacity_is

pub record Marks (bytes : List ℕ) (capacity : ℕ) : Type 0 where
  pub as_many : length (part 8 (capacity / 16) bytes) ≡ capacity / 16
  pub whole : 16 * (capacity / 16) ≡ capacity
  pub before : 8 + capacity / 16 ≤ front_for capacity
  pub front : front_for capacity ≤ length bytes

pub marks_of : (bytes : List ℕ) (capacity : ℕ) → Front bytes capacity → Marks bytes capacity
marks_of bytes capacity f =
    let n : length bytes ≡ bytes_for capacity = f.as_many in
    let r = f.rounded in
    record {
      as_many = length_part 8 (capacity / 16) bytes (omega (arith, n));
      whole = omega (arith, r);
      before = omega arith;
      front = omega (arith, n);
    }

pub order_of : (bytes : List ℕ) (capacity : ℕ) (gs : List Kept) → Stands bytes capacity gs → InOrder 0 capacity gs
order_of bytes capacity gs s =
    let m = marks_of bytes capacity s.front in
    let o = ordered (front_for capacity) bytes 0 capacity (part 8 (capacity / 16) bytes) (omega arith) (omega (arith, m.as_many, m.whole)) in
    subst (λ xs. InOrder 0 capacity xs) s.placed o.behind_free

pub front_same :
    (old new : List ℕ) (capacity : ℕ) → Front old capacity → length new ≡ length old → Agrees old new 0 8 → Front new capacity
front_same old new capacity f n h =
    record {
      marked = word_same old new 0 8 0 h (omega arith) (omega arith) ∙ f.marked;
      capacity_is = word_same old new 0 8 4 h (omega arith) (omega arith) ∙ f.capacity_is;
      rounded = f.rounded;
      bounded = f.bounded;
      as_many = n ∙ f.as_many;
    }
