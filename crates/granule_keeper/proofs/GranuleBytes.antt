-- Bytes stay numbers below 256, and what a header of such bytes holds are words.
use Rattle.std.proofs.Common.{◌≡◌, ◌⊎◌, inl, inr, ℕ, zero, suc, ◌+◌, ◌-◌, ◌*◌, ◌/◌, ◌%◌, ◌^◌, ◌<◌, ◌≤◌, ℤ, List, [], ◌∷◌, ◌++◌, length, take, drop, replicate, Option, Some, None, Bool, true, false, refl, sym, ap, ◌∙◌, subst, arith}
use Rattle.std.specs.Prelude.{FitsSigned, cond, nat_le, ◌==◌, slice_index, slice_set}
use Rattle.std.specs.Int.{w32}
use Rattle.std.specs.List.{All}
use Rattle.std.proofs.Math.Nat.{pow-suc}
use Rattle.std.proofs.Math.Facts.{sfits_to_z, Fits-of_lt}
use Rattle.std.proofs.lemmas.List.{get_or_past}
use Rattle.std.proofs.lemmas.List.Elements.{All-get_or, All-from_get_or, All-set, All-append, All-take, All-drop, All-replicate}
use Rattle.rv_meaning.specs.Images.{AreBelow}
use Rattle.rv_meaning.specs.Memory.{load, store}
use Rattle.rv_meaning.specs.Words.{word}
use Rattle.area_keeper.specs.Keeper.{Kept, KeptArea}
use Rattle.area_keeper.specs.KeptAreas.{kept_as, kept_at, part, with_part}
use Rattle.area_keeper.specs.KeeperLaws.{KeepsBytes}
use Rattle.area_keeper.specs.Chain.{word_at, with_word, capacity_in}
use Rattle.granule_keeper.proofs.Standing.{stands_from}
use Rattle.granule_keeper.specs.Marks.{insides, room_in, run, begun, with_run, without_run, used}
use Rattle.granule_keeper.specs.Granules.{mark, front_for, marks_in, with_marks, kept_in, placed_from, with_header, granules_of, with_generation, without_generation, placed_at, granules_allocated, freed_if, freed_in, freed_all, with_copy, granules_copied, granules_made, granules_area, granules}

abbrev IsByte : ℕ → Type 0
IsByte b = b < 256

to_all : (m : List ℕ) → AreBelow 256 m → All IsByte m
to_all m h = All-from_get_or IsByte m 0 (λ i _. h i)

cases_lt : (a b : ℕ) → (a < b) ⊎ (b ≤ a)
cases_lt a b = grind arith

from_all : (m : List ℕ) → All IsByte m → AreBelow 256 m
from_all m h k = by_case (cases_lt k (length m))
  where
    by_case : (k < length m) ⊎ (length m ≤ k) → slice_index m k < 256
    by_case (inl i) = All-get_or IsByte m k 0 i h
    by_case (inr i) = omega (arith, get_or_past m k 0 i)

all_stored : (n : ℕ) (m : List ℕ) (at v : ℕ) → All IsByte m → All IsByte (store n m at v)
all_stored zero m at v h = h
all_stored (suc n) m at v h =
    all_stored n (slice_set m at (v % 256)) (suc at) (v / 256) (All-set IsByte m at (v % 256) (omega arith) h)

all_part : (at count : ℕ) (m : List ℕ) → All IsByte m → All IsByte (part at count m)
all_part at count m h = All-take IsByte count (drop at m) (All-drop IsByte at m h)

all_with_part : (new : List ℕ) (at : ℕ) (m : List ℕ) → All IsByte new → All IsByte m → All IsByte (with_part new at m)
all_with_part new at m g h =
    All-append IsByte (take at m) (new ++ drop (at + length new) m) (All-take IsByte at m h) (All-append IsByte new (drop (at + length new) m) g (All-drop IsByte (at + length new) m h))

all_header : (at : ℕ) (g : Kept) (m : List ℕ) → All IsByte m → All IsByte (with_header at g m)
all_header at g m h =
    let a = with_word at g.size m in
    let b = with_word (4 + at) g.signature a in
    all_stored 4 b (8 + at) (word g.extent) (all_stored 4 a (4 + at) g.signature (all_stored 4 m at g.size h))

-- ---- marks

all_run : (n : ℕ) → All IsByte (run n)
all_run zero = from_below (λ i. omega arith)
  where
    from_below : AreBelow 256 [] → All IsByte []
    from_below h = to_all [] h
all_run (suc n) = All-append IsByte (1 ∷ []) (replicate n 2) (All-replicate IsByte 1 1 (omega arith)) (All-replicate IsByte n 2 (omega arith))

all_begun : (ms : List ℕ) → All IsByte ms → All IsByte (begun ms)
all_begun [] h = h
all_begun (zero ∷ ms) h = h
all_begun (suc m ∷ ms) h =
    All-append IsByte (1 ∷ []) ms (All-replicate IsByte 1 1 (omega arith)) (All-drop IsByte 1 (suc m ∷ ms) h)

all_with_run : (i n : ℕ) (ms : List ℕ) → All IsByte ms → All IsByte (with_run i n ms)
all_with_run i n ms h =
    let rest = drop n (drop i ms) in
    All-append IsByte (take i ms) (run n ++ begun rest) (All-take IsByte i ms h) (All-append IsByte (run n) (begun rest) (all_run n) (all_begun rest (All-drop IsByte n (drop i ms) (All-drop IsByte i ms h))))

all_without_run : (i n : ℕ) (ms : List ℕ) → All IsByte ms → All IsByte (without_run i n ms)
all_without_run i n ms h =
    let rest = drop n (drop i ms) in
    All-append IsByte (take i ms) (replicate n 0 ++ rest) (All-take IsByte i ms h) (All-append IsByte (replicate n 0) rest (All-replicate IsByte n 0 (omega arith)) (All-drop IsByte n (drop i ms) (All-drop IsByte i ms h)))

all_marks : (bytes : List ℕ) → All IsByte bytes → All IsByte (marks_in bytes)
all_marks bytes h = all_part 8 (capacity_in bytes / 16) bytes h

-- ---- what the keeper's functions give

all_freed : (capacity : ℕ) (m : List ℕ) → All IsByte m → All IsByte (freed_all capacity m)
all_freed capacity m h = all_with_part (replicate (capacity / 16) 0) 8 m (All-replicate IsByte (capacity / 16) 0 (omega arith)) h

made_below : (capacity : ℕ) (m : List ℕ) → AreBelow 256 m → AreBelow 256 (granules_made capacity m)
made_below capacity m h =
    let a = with_word 0 mark m in
    from_all (granules_made capacity m) (all_freed capacity (with_word 4 capacity a) (all_stored 4 a 4 capacity (all_stored 4 m 0 mark (to_all m h))))

generation_below : (g : Kept) (m : List ℕ) → AreBelow 256 m → AreBelow 256 (with_generation g m)
generation_below g m h =
    let all = to_all m h in
    let ms = with_run (g.offset / 16) (granules_of g.size) (marks_in m) in
    let marked = all_with_part ms 8 m (all_with_run (g.offset / 16) (granules_of g.size) (marks_in m) (all_marks m all)) all in
    from_all (with_generation g m) (all_header (front_for (capacity_in m) + g.offset) g (with_marks ms m) marked)

bytes_placed : (x y : ℕ × List ℕ) → Some x ≡ Some y → x.1 ≡ y.1
bytes_placed x y e = let f : x ≡ y = cc e in ap (λ (r : ℕ × List ℕ). r.1) f

placed_below :
    (size signature : ℕ) (extent : ℤ) (m : List ℕ) (r : Option ℕ) (o : ℕ) (new : List ℕ) → AreBelow 256 m →
    placed_at size signature extent m r ≡ Some (o, new) → AreBelow 256 new
placed_below size signature extent m None o new h e = absurd (cc e)
placed_below size signature extent m (Some p) o new h e =
    let n : Kept = kept_as p size signature extent in
    let f : with_generation n m ≡ new = bytes_placed (p, with_generation n m) (o, new) e in
    subst (AreBelow 256) f (generation_below n m h)

without_below : (g : Kept) (m : List ℕ) → AreBelow 256 m → AreBelow 256 (without_generation g m)
without_below g m h =
    let all = to_all m h in
    let ms = without_run (g.offset / 16) (granules_of g.size) (marks_in m) in
    from_all (without_generation g m) (all_with_part ms 8 m (all_without_run (g.offset / 16) (granules_of g.size) (marks_in m) (all_marks m all)) all)

freed_at_below :
    (signature : ℕ) (m : List ℕ) (r : Option Kept) (new : List ℕ) → AreBelow 256 m → freed_if signature m r ≡ Some new →
    AreBelow 256 new
freed_at_below signature m None new h e = absurd (cc e)
freed_at_below signature m (Some g) new h e = by_test (g.signature == signature) e
  where
    by_test : (t : Bool) → cond t (Some (without_generation g m)) None ≡ Some new → AreBelow 256 new
    by_test true e =
        let f : without_generation g m ≡ new = cc e in
        subst (AreBelow 256) f (without_below g m h)
    by_test false e = absurd (cc e)

freed_below :
    (o signature : ℕ) (m : List ℕ) (a : Option KeptArea) (new : List ℕ) → AreBelow 256 m →
    freed_in o signature m a ≡ Some new → AreBelow 256 new
freed_below o signature m None new h e = absurd (cc e)
freed_below o signature m (Some a) new h e = freed_at_below signature m (kept_at a.placed o) new h e

copy_below : (n : ℕ) (from to : List ℕ) → AreBelow 256 from → AreBelow 256 to → AreBelow 256 (with_copy n from to)
copy_below n from to g h =
    let source = to_all from g in
    let target = to_all to h in
    let zeros = replicate (capacity_in to / 16 - n) 0 in
    let ms = take n (marks_in from) ++ zeros in
    let marks = All-append IsByte (take n (marks_in from)) zeros (All-take IsByte n (marks_in from) (all_marks from source)) (All-replicate IsByte (capacity_in to / 16 - n) 0 (omega arith)) in
    let piece = part (front_for (capacity_in from)) (16 * n) from in
    from_all (with_copy n from to) (all_with_part piece (front_for (capacity_in to)) (with_marks ms to) (all_part (front_for (capacity_in from)) (16 * n) from source) (all_with_part ms 8 to marks target))

copied_below : (from to new : List ℕ) → AreBelow 256 from → AreBelow 256 to → granules_copied from to ≡ Some new → AreBelow 256 new
copied_below from to new g h e = by_test (nat_le (16 * used (marks_in from)) (capacity_in to)) e
  where
    by_test : (b : Bool) → cond b (Some (with_copy (used (marks_in from)) from to)) None ≡ Some new → AreBelow 256 new
    by_test true e =
        let f : with_copy (used (marks_in from)) from to ≡ new = cc e in
        subst (AreBelow 256) f (copy_below (used (marks_in from)) from to g h)
    by_test false e = absurd (cc e)

-- ---- words

load_below : (n : ℕ) (m : List ℕ) (at : ℕ) → AreBelow 256 m → load n m at < 256 ^ n
load_below zero m at h = omega arith
load_below (suc n) m at h =
    let e : 256 ^ suc n ≡ 256 ^ n * 256 = pow-suc 256 n in
    let rest = load_below n m (suc at) h in
    let first : slice_index m at < 256 = h at in
    omega (arith, e, rest, first)

abbrev Words : Kept → Type 0
Words g = (g.signature < 2 ^ 32) × FitsSigned w32 g.extent

words_read : (at o n : ℕ) (m : List ℕ) → AreBelow 256 m → Words (kept_in at o n m)
words_read at o n m h = (load_below 4 m (4 + at) h, sfits_to_z (Fits-of_lt (load_below 4 m (8 + at) h)))

words_first :
    (k : Kept) (ks : List Kept) (o : ℕ) (g : Kept) → Words k → (kept_at ks o ≡ Some g → Words g) → kept_at (k ∷ ks) o ≡ Some g → Words g
words_first k ks o g w rest e = by_test (k.offset == o) e
  where
    by_test : (t : Bool) → cond t (Some k) (kept_at ks o) ≡ Some g → Words g
    by_test true e = let f : k ≡ g = cc e in subst Words f w
    by_test false e = rest e

words_in :
    (front : ℕ) (m : List ℕ) (p : ℕ) (free : Bool) (ms : List ℕ) (o : ℕ) (g : Kept) → AreBelow 256 m →
    kept_at (placed_from front m p free ms) o ≡ Some g → Words g
words_in front m p free [] o g h e = absurd (cc e)
words_in front m p free (zero ∷ ms) o g h e = words_in front m (16 + p) true ms o g h e
words_in front m p free (suc zero ∷ ms) o g h e =
    let n = suc (insides ms) in
    words_first (kept_in (front + p) p n m) (placed_from front m (16 + p) false ms) o g (words_read (front + p) p n m h) (λ f. words_in front m (16 + p) false ms o g h f) e
words_in front m p true (suc (suc x) ∷ ms) o g h e =
    let n = suc (insides ms) in
    words_first (kept_in (front + p) p n m) (placed_from front m (16 + p) false ms) o g (words_read (front + p) p n m h) (λ f. words_in front m (16 + p) false ms o g h f) e
words_in front m p false (suc (suc x) ∷ ms) o g h e = words_in front m (16 + p) false ms o g h e

pub granules_bytes : KeepsBytes granules
granules_bytes =
    record {
      made = λ capacity m h. made_below capacity m h;
      emptied = λ m h. from_all (freed_all (capacity_in m) m) (all_freed (capacity_in m) m (to_all m h));
      allocated = λ size signature extent m o new h e.
          placed_below size signature extent m (room_in 0 (granules_of size) (marks_in m)) o new h e;
      freed = λ o signature m new h e. freed_below o signature m (granules_area m) new h e;
      copied = λ from to new g h e. copied_below from to new g h e;
      words = λ m a o g h e there.
          let s = stands_from m a e in
          words_in (front_for a.capacity) m 0 true (part 8 (a.capacity / 16) m) o g h (ap (λ ks. kept_at ks o) s.placed ∙ there);
    }
