-- Bytes stay numbers below 256, and what a header of such bytes holds are words.
use Rattle.std.proofs.Common.{◌≡◌, ◌⊎◌, inl, inr, ℕ, zero, suc, ◌+◌, ◌-◌, ◌*◌, ◌/◌, ◌%◌, ◌^◌, ◌<◌, ◌≤◌, ℤ, List, []}
use Rattle.std.proofs.Common.{◌∷◌, ◌++◌, length, take, drop, replicate, Option, Some, None, Bool, true, false, ap}
use Rattle.std.proofs.Common.{◌∙◌, subst, arith}
use Rattle.std.specs.Prelude.{FitsSigned, cond, nat_le, ◌==◌, slice_index, slice_set}
use Rattle.std.specs.Int.{w32}
use Rattle.std.specs.List.{All}
use Rattle.std.proofs.Math.Nat.{pow-suc}
use Rattle.std.proofs.Math.Facts.{sfits_to_z, Fits-of_lt}
use Rattle.std.proofs.lemmas.List.{get_or_past}
use Rattle.std.proofs.lemmas.List.Elements.{All-get_or, All-from_get_or, All-set, All-append, All-take, All-drop}
use Rattle.std.proofs.lemmas.List.Elements.{All-replicate}
use Rattle.rv_meaning.specs.Images.{AreBelow}
use Rattle.rv_meaning.specs.Memory.{load, store}
use Rattle.rv_meaning.specs.Words.{word}
use Rattle.pli_typing.specs.Signatures.{footprint}
use Rattle.area_keeper.specs.Keeper.{Kept, KeptArea}
use Rattle.area_keeper.specs.KeptAreas.{kept_as, kept_at, part, with_part}
use Rattle.area_keeper.specs.KeeperLaws.{KeepsBytes}
use Rattle.area_keeper.specs.Chain.{word_at, with_word, capacity_in}
use Rattle.free_keeper.proofs.Tests.{cases_lt}
use Rattle.free_keeper.proofs.BitLaws.{bit_below}
use Rattle.free_keeper.proofs.Marking.{Headers}
use Rattle.free_keeper.proofs.Standing.{stands_from}
use Rattle.free_keeper.specs.Bits.{with_bit, with_bit_at}
use Rattle.free_keeper.specs.FreeList.{Free, free, mark, map_place, map_for, front_for, kept_in, link_place}
use Rattle.free_keeper.specs.FreeList.{link_behind, size_of, with_free, with_end, freed_all, free_list_made}
use Rattle.free_keeper.specs.FreeList.{steps_for, room_behind, without_room, with_header, with_generation}
use Rattle.free_keeper.specs.FreeList.{placed_behind, joined_from, without_generation, freed_if, freed_in, End}
use Rattle.free_keeper.specs.FreeList.{end_in, map_copied, with_copy, free_list_copied, free_list_area, free_list}

abbrev IsByte : ℕ → Type 0
IsByte b = b < 256

to_all : (m : List ℕ) → AreBelow 256 m → All IsByte m
to_all m h = All-from_get_or IsByte m 0 (λ i _. h i)

from_all : (m : List ℕ) → All IsByte m → AreBelow 256 m
from_all m h k = by_case (cases_lt k (length m))
  where
    by_case : (k < length m) ⊎ (length m ≤ k) → slice_index m k < 256
    by_case (inl i) = All-get_or IsByte m k 0 i h
    by_case (inr i) = omega (arith, get_or_past m k 0 i)

all_stored : (n : ℕ) (m : List ℕ) (at v : ℕ) → All IsByte m → All IsByte (store n m at v)
all_stored zero m at v h = h
all_stored (suc n) m at v h =
    all_stored n (slice_set m at (v % 256)) (suc at) (v / 256) (All-set IsByte m at (v % 256) (omega arith) h)

all_part : (at count : ℕ) (m : List ℕ) → All IsByte m → All IsByte (part at count m)
all_part at count m h = All-take IsByte count (drop at m) (All-drop IsByte at m h)

all_with_part : (new : List ℕ) (at : ℕ) (m : List ℕ) → All IsByte new → All IsByte m → All IsByte (with_part new at m)
all_with_part new at m g h =
    All-append IsByte (take at m) (new ++ drop (at + length new) m) (All-take IsByte at m h) (All-append IsByte new
    (drop (at + length new) m) g (All-drop IsByte (at + length new) m h))

all_bit : (from i v : ℕ) (m : List ℕ) → v ≤ 1 → All IsByte m → All IsByte (with_bit_at from i v m)
all_bit from i v m l h =
    let b : slice_index m (from + i / 8) < 256 = from_all m h (from + i / 8) in
    All-set IsByte m (from + i / 8) (with_bit (i % 8) v (slice_index m (from + i / 8))) (bit_below 8 (i % 8) v
    (slice_index m (from + i / 8)) l (omega arith) b) h

all_header : (at : ℕ) (g : Kept) (m : List ℕ) → All IsByte m → All IsByte (with_header at g m)
all_header at g m h =
    let a = with_word at g.size m in
    let b = with_word (4 + at) g.signature a in
    all_stored 4 b (8 + at) (word g.extent) (all_stored 4 a (4 + at) g.signature (all_stored 4 m at g.size h))

all_free : (front b : ℕ) (f : Free) (link : ℕ) (m : List ℕ) → All IsByte m → All IsByte (with_free front b f link m)
all_free front b f link m h =
    let x = with_word (front + f.offset) f.size m in
    let y = with_word (link_place front (suc f.offset)) link x in
    all_stored 4 y (link_place front b) (suc f.offset) (all_stored 4 x (link_place front (suc f.offset)) link
    (all_stored 4 m (front + f.offset) f.size h))

all_end : (front b e c : ℕ) (m : List ℕ) → All IsByte m → All IsByte (with_end front b e c m)
all_end front b e c m h = by_test (e == c)
  where
    by_test :
        (t : Bool) → All IsByte (cond t (with_word (link_place front b) 0 m) (with_free front b (free e (c - e)) 0 m))
    by_test true = all_stored 4 m (link_place front b) 0 h
    by_test false = all_free front b (free e (c - e)) 0 m h

-- ---- what the keeper's functions give

all_freed : (capacity : ℕ) (m : List ℕ) → All IsByte m → All IsByte (freed_all capacity m)
all_freed capacity m h =
    let zeros : List ℕ = replicate (map_for capacity) 0 in
    all_end (front_for capacity) 0 0 capacity (with_part zeros map_place m) (all_with_part zeros map_place m
    (All-replicate IsByte (map_for capacity) 0 (omega arith)) h)

made_below : (capacity : ℕ) (m : List ℕ) → AreBelow 256 m → AreBelow 256 (free_list_made capacity m)
made_below capacity m h =
    let a = with_word 0 mark m in
    from_all (free_list_made capacity m) (all_freed capacity (with_word 4 capacity a) (all_stored 4 a 4 capacity
    (all_stored 4 m 0 mark (to_all m h))))

all_room : (front b n o size link : ℕ) (m : List ℕ) → All IsByte m → All IsByte (without_room front b n o size link m)
all_room front b n o size link m h = by_test (size == n)
  where
    by_test :
        (t : Bool) → All IsByte (cond t (with_word (link_place front b) link m) (with_free front b (free (o + n) (size
        - n)) link m))
    by_test true = all_stored 4 m (link_place front b) link h
    by_test false = all_free front b (free (o + n) (size - n)) link m h

generation_below : (front b : ℕ) (g : Kept) (m : List ℕ) → AreBelow 256 m → AreBelow 256 (with_generation front b g m)
generation_below front b g m h =
    let x = without_room front b (footprint g.size) g.offset (size_of front g.offset m) (link_behind front (suc
    g.offset) m) m in
    let all = all_room front b (footprint g.size) g.offset (size_of front g.offset m) (link_behind front (suc
    g.offset) m) m (to_all m h) in
    from_all (with_generation front b g m) (all_header (front + g.offset) g (with_bit_at map_place (g.offset / 16) 1
    x) (all_bit map_place (g.offset / 16) 1 x (omega arith) all))

bytes_placed : (x y : ℕ × List ℕ) → Some x ≡ Some y → x.1 ≡ y.1
bytes_placed x y e = let f : x ≡ y = cc e in ap (λ (r : ℕ × List ℕ). r.1) f

placed_below :
    (size signature : ℕ) (extent : ℤ) (front : ℕ) (m : List ℕ) (r : Option ℕ) (o : ℕ) (new : List ℕ) → AreBelow 256 m →
    placed_behind size signature extent front m r ≡ Some (o, new) → AreBelow 256 new
placed_below size signature extent front m None o new h e = absurd (cc e)
placed_below size signature extent front m (Some b) o new h e =
    let p = link_behind front b m - 1 in
    let n : Kept = kept_as p size signature extent in
    let f : with_generation front b n m ≡ new = bytes_placed (p, with_generation front b n m) (o, new) e in
    subst (AreBelow 256) f (generation_below front b n m h)

without_below : (front c : ℕ) (g : Kept) (m : List ℕ) → AreBelow 256 m → AreBelow 256 (without_generation front c g m)
without_below front c g m h =
    let j = joined_from (steps_for c) front g.offset (footprint g.size) 0 (link_behind front 0 m) m in
    let x = with_free front j.before j.block j.link m in
    from_all (without_generation front c g m) (all_bit map_place (g.offset / 16) 0 x (omega arith) (all_free front
    j.before j.block j.link m (to_all m h)))

freed_at_below :
    (signature front c : ℕ) (m : List ℕ) (r : Option Kept) (new : List ℕ) → AreBelow 256 m →
    freed_if signature front c m r ≡ Some new → AreBelow 256 new
freed_at_below signature front c m None new h e = absurd (cc e)
freed_at_below signature front c m (Some g) new h e = by_test (g.signature == signature) e
  where
    by_test : (t : Bool) → cond t (Some (without_generation front c g m)) None ≡ Some new → AreBelow 256 new
    by_test true e =
        let f : without_generation front c g m ≡ new = cc e in
        subst (AreBelow 256) f (without_below front c g m h)
    by_test false e = absurd (cc e)

freed_below :
    (o signature : ℕ) (m : List ℕ) (a : Option KeptArea) (new : List ℕ) → AreBelow 256 m →
    freed_in o signature m a ≡ Some new → AreBelow 256 new
freed_below o signature m None new h e = absurd (cc e)
freed_below o signature m (Some a) new h e =
    freed_at_below signature (front_for a.capacity) a.capacity m (kept_at a.placed o) new h e

copy_below : (end : End) (from to : List ℕ) → AreBelow 256 from → AreBelow 256 to → AreBelow 256 (with_copy end from to)
copy_below end from to g h =
    let source = to_all from g in
    let target = to_all to h in
    let n = map_for (capacity_in to) in
    let zeros : List ℕ = replicate n 0 in
    let front = front_for (capacity_in to) in
    let old = part map_place (map_for (capacity_in from)) from in
    let a = with_word 8 (word_at 8 from) to in
    let map = All-take IsByte n (old ++ zeros) (All-append IsByte old zeros (all_part map_place (map_for (capacity_in
    from)) from source) (All-replicate IsByte n 0 (omega arith))) in
    let b = with_part (map_copied from to) map_place a in
    let piece = part (front_for (capacity_in from)) end.from from in
    let marked = all_with_part (map_copied from to) map_place a map (all_stored 4 to 8 (word_at 8 from) target) in
    from_all (with_copy end from to) (all_end front end.before end.from (capacity_in to) (with_part piece front b)
    (all_with_part piece front b (all_part (front_for (capacity_in from)) end.from from source) marked))

copied_below :
    (from to new : List ℕ) → AreBelow 256 from → AreBelow 256 to → free_list_copied from to ≡ Some new →
    AreBelow 256 new
copied_below from to new g h e = by_test (nat_le (end_in from).from (capacity_in to)) e
  where
    by_test : (b : Bool) → cond b (Some (with_copy (end_in from) from to)) None ≡ Some new → AreBelow 256 new
    by_test true e =
        let f : with_copy (end_in from) from to ≡ new = cc e in
        subst (AreBelow 256) f (copy_below (end_in from) from to g h)
    by_test false e = absurd (cc e)

-- ---- words

load_below : (n : ℕ) (m : List ℕ) (at : ℕ) → AreBelow 256 m → load n m at < 256 ^ n
load_below zero m at h = omega arith
load_below (suc n) m at h =
    let e : 256 ^ suc n ≡ 256 ^ n * 256 = pow-suc 256 n in
    let rest = load_below n m (suc at) h in
    let first : slice_index m at < 256 = h at in
    omega (arith, e, rest, first)

abbrev Words : Kept → Type 0
Words g = (g.signature < 2 ^ 32) × FitsSigned w32 g.extent

words_read : (at o : ℕ) (m : List ℕ) → AreBelow 256 m → Words (kept_in at o m)
words_read at o m h = (load_below 4 m (4 + at) h, sfits_to_z (Fits-of_lt (load_below 4 m (8 + at) h)))

words_in :
    (front : ℕ) (m : List ℕ) (gs : List Kept) (o : ℕ) (g : Kept) → AreBelow 256 m → Headers front m gs →
    kept_at gs o ≡ Some g → Words g
words_in front m [] o g h k e = absurd (cc e)
words_in front m (x ∷ gs) o g h k e = by_test (x.offset == o) e (λ f. words_in front m gs o g h k.1 f)
  where
    by_test : (t : Bool) → cond t (Some x) (kept_at gs o) ≡ Some g → (kept_at gs o ≡ Some g → Words g) → Words g
    by_test true e rest = let f : x ≡ g = cc e in subst Words (k.0 ∙ f) (words_read (front + x.offset) x.offset m h)
    by_test false e rest = rest e

pub free_list_bytes : KeepsBytes free_list
free_list_bytes =
    record {
      made = λ capacity m h. made_below capacity m h;
      emptied = λ m h. from_all (freed_all (capacity_in m) m) (all_freed (capacity_in m) m (to_all m h));
      allocated = λ size signature extent m o new h e.
          let c = capacity_in m in
          let f = front_for c in
          placed_below size signature extent f m (room_behind (steps_for c) (footprint size) f 0 (link_behind f 0 m)
          m) o new h e;
      freed = λ o signature m new h e. freed_below o signature m (free_list_area m) new h e;
      copied = λ from to new g h e. copied_below from to new g h e;
      words = λ m a o g h e there.
          let s = stands_from m a e in
          words_in (front_for a.capacity) m a.placed o g h s.headers there;
    }
