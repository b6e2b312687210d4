-- Bytes stay numbers below 256, and what a header of such bytes holds are words.
use Rattle.std.proofs.Common.{◌≡◌, ◌⊎◌, inl, inr, ℕ, zero, suc, ◌+◌, ◌*◌, ◌/◌, ◌%◌, ◌^◌, ◌<◌, ◌≤◌, ℤ, List, [], ◌∷◌, ◌++◌, length, take, drop, Option, Some, None, Bool, true, false, refl, sym, ap, ◌∙◌, subst, arith}
use Rattle.std.specs.Prelude.{FitsSigned, cond, nat_le, ◌==◌, slice_index, slice_set}
use Rattle.std.specs.Int.{w32}
use Rattle.std.specs.List.{All}
use Rattle.std.proofs.Math.Nat.{pow-suc}
use Rattle.std.proofs.Math.Facts.{sfits_to_z, Fits-of_lt}
use Rattle.std.proofs.lemmas.List.{get_or_past}
use Rattle.std.proofs.lemmas.List.Elements.{All-get_or, All-from_get_or, All-set, All-append, All-take, All-drop}
use Rattle.rv_meaning.specs.Images.{AreBelow}
use Rattle.rv_meaning.specs.Memory.{load, store}
use Rattle.rv_meaning.specs.Words.{word}
use Rattle.pli_typing.specs.Signatures.{footprint}
use Rattle.area_keeper.proofs.Tests.{eq_tells}
use Rattle.area_keeper.specs.Keeper.{Kept, KeptArea}
use Rattle.area_keeper.specs.KeptAreas.{kept_at, part, with_part}
use Rattle.area_keeper.specs.KeeperLaws.{KeepsBytes}
use Rattle.area_keeper.specs.Chain.{mark, word_at, with_word, with_header, kept_in, link_of, link_from, room_from, linked, unlinked, placed_at, allocated_in, freed_if, freed_in, copied_in, first_link, last_end, chain_area, chain_made, chain}
use Rattle.area_keeper.proofs.Walking.{Leads, stands_from}

abbrev IsByte : ℕ → Type 0
IsByte b = b < 256

to_all : (m : List ℕ) → AreBelow 256 m → All IsByte m
to_all m h = All-from_get_or IsByte m 0 (λ i _. h i)

cases_lt : (a b : ℕ) → (a < b) ⊎ (b ≤ a)
cases_lt a b = grind arith

from_all : (m : List ℕ) → All IsByte m → AreBelow 256 m
from_all m h k = by_case (cases_lt k (length m))
  where
    by_case : (k < length m) ⊎ (length m ≤ k) → slice_index m k < 256
    by_case (inl i) = All-get_or IsByte m k 0 i h
    by_case (inr i) = omega (arith, get_or_past m k 0 i)

all_stored : (n : ℕ) (m : List ℕ) (at v : ℕ) → All IsByte m → All IsByte (store n m at v)
all_stored zero m at v h = h
all_stored (suc n) m at v h =
    all_stored n (slice_set m at (v % 256)) (suc at) (v / 256) (All-set IsByte m at (v % 256) (omega arith) h)

with_word_below : (at v : ℕ) (m : List ℕ) → AreBelow 256 m → AreBelow 256 (with_word at v m)
with_word_below at v m h = from_all (with_word at v m) (all_stored 4 m at v (to_all m h))

with_part_below : (new : List ℕ) (at : ℕ) (m : List ℕ) → AreBelow 256 new → AreBelow 256 m → AreBelow 256 (with_part new at m)
with_part_below new at m g h =
    from_all (with_part new at m) (All-append IsByte (take at m) (new ++ drop (at + length new) m) (All-take IsByte at m (to_all m h)) (All-append IsByte new (drop (at + length new) m) (to_all new g) (All-drop IsByte (at + length new) m (to_all m h))))

part_below : (at count : ℕ) (m : List ℕ) → AreBelow 256 m → AreBelow 256 (part at count m)
part_below at count m h = from_all (part at count m) (All-take IsByte count (drop at m) (All-drop IsByte at m (to_all m h)))

header_below : (g : Kept) (link : ℕ) (m : List ℕ) → AreBelow 256 m → AreBelow 256 (with_header g link m)
header_below g link m h =
    let a = with_word (16 + g.offset) g.size m in
    let b = with_word (20 + g.offset) g.signature a in
    let c = with_word (24 + g.offset) (word g.extent) b in
    with_word_below (28 + g.offset) link c (with_word_below (24 + g.offset) (word g.extent) b (with_word_below (20 + g.offset) g.signature a (with_word_below (16 + g.offset) g.size m h)))

made_below : (capacity : ℕ) (m : List ℕ) → AreBelow 256 m → AreBelow 256 (chain_made capacity m)
made_below capacity m h =
    with_word_below 12 0 (with_word 4 capacity (with_word 0 mark m)) (with_word_below 4 capacity (with_word 0 mark m) (with_word_below 0 mark m h))

-- ---- what the keeper's functions give

bytes_placed : (x y : ℕ × List ℕ) → Some x ≡ Some y → x.1 ≡ y.1
bytes_placed x y e = let f : x ≡ y = cc e in ap (λ (r : ℕ × List ℕ). r.1) f

placed_below :
    (size signature : ℕ) (extent : ℤ) (gs : List Kept) (m : List ℕ) (r : Option ℕ) (o : ℕ) (new : List ℕ) → AreBelow 256 m →
    placed_at size signature extent gs m r ≡ Some (o, new) → AreBelow 256 new
placed_below size signature extent gs m None o new h e = absurd (cc e)
placed_below size signature extent gs m (Some p) o new h e =
    let n : Kept = record { offset = p; size = size; signature = signature; extent = extent } in
    let f : linked n gs m ≡ new = bytes_placed (p, linked n gs m) (o, new) e in
    subst (AreBelow 256) f (with_word_below _ _ (with_header n (link_from p gs) m) (header_below n (link_from p gs) m h))

allocated_below :
    (size signature : ℕ) (extent : ℤ) (m : List ℕ) (a : Option KeptArea) (o : ℕ) (new : List ℕ) → AreBelow 256 m →
    allocated_in size signature extent m a ≡ Some (o, new) → AreBelow 256 new
allocated_below size signature extent m None o new h e = absurd (cc e)
allocated_below size signature extent m (Some a) o new h e =
    placed_below size signature extent a.placed m (room_from 0 a.capacity (footprint size) a.placed) o new h e

freed_at_below :
    (o signature : ℕ) (gs : List Kept) (m : List ℕ) (r : Option Kept) (new : List ℕ) → AreBelow 256 m →
    freed_if o signature gs m r ≡ Some new → AreBelow 256 new
freed_at_below o signature gs m None new h e = absurd (cc e)
freed_at_below o signature gs m (Some g) new h e = by_test (g.signature == signature) e
  where
    by_test : (t : Bool) → cond t (Some (unlinked o gs m)) None ≡ Some new → AreBelow 256 new
    by_test true e =
        let f : unlinked o gs m ≡ new = cc e in
        subst (AreBelow 256) f (with_word_below _ _ m h)
    by_test false e = absurd (cc e)

freed_below :
    (o signature : ℕ) (m : List ℕ) (a : Option KeptArea) (new : List ℕ) → AreBelow 256 m →
    freed_in o signature m a ≡ Some new → AreBelow 256 new
freed_below o signature m None new h e = absurd (cc e)
freed_below o signature m (Some a) new h e = freed_at_below o signature a.placed m (kept_at a.placed o) new h e

copied_below :
    (from to : List ℕ) (s t : Option KeptArea) (new : List ℕ) → AreBelow 256 from → AreBelow 256 to →
    copied_in from to s t ≡ Some new → AreBelow 256 new
copied_below from to None None new g h e = absurd (cc e)
copied_below from to None (Some t) new g h e = absurd (cc e)
copied_below from to (Some s) None new g h e = absurd (cc e)
copied_below from to (Some s) (Some t) new g h e = by_test (nat_le (last_end s.placed) t.capacity) e
  where
    by_test :
        (b : Bool) → cond b (Some (with_part (part first_link (4 + last_end s.placed) from) first_link to)) None ≡ Some new →
        AreBelow 256 new
    by_test true e =
        let f : with_part (part first_link (4 + last_end s.placed) from) first_link to ≡ new = cc e in
        subst (AreBelow 256) f (with_part_below (part first_link (4 + last_end s.placed) from) first_link to (part_below first_link (4 + last_end s.placed) from g) h)
    by_test false e = absurd (cc e)

-- ---- words

load_below : (n : ℕ) (m : List ℕ) (at : ℕ) → AreBelow 256 m → load n m at < 256 ^ n
load_below zero m at h = omega arith
load_below (suc n) m at h =
    let e : 256 ^ suc n ≡ 256 ^ n * 256 = pow-suc 256 n in
    let rest = load_below n m (suc at) h in
    let first : slice_index m at < 256 = h at in
    omega (arith, e, rest, first)

leads_at : (link : ℕ) (m : List ℕ) (gs : List Kept) (o : ℕ) (g : Kept) → Leads link m gs → kept_at gs o ≡ Some g → kept_in o m ≡ g
leads_at link m [] o g l e = absurd (cc e)
leads_at link m (h ∷ gs) o g l e = by_test (h.offset == o) refl e (λ f. leads_at (word_at (link_of h.offset) m) m gs o g l.2 f)
  where
    by_test :
        (t : Bool) → (h.offset == o) ≡ t → cond t (Some h) (kept_at gs o) ≡ Some g →
        (kept_at gs o ≡ Some g → kept_in o m ≡ g) → kept_in o m ≡ g
    by_test true t e rest =
        let f : h ≡ g = cc e in
        ap (λ x. kept_in x m) (sym (eq_tells h.offset o t)) ∙ (l.1 ∙ f)
    by_test false t e rest = rest e

words_in : (m : List ℕ) (o : ℕ) (g : Kept) → AreBelow 256 m → kept_in o m ≡ g → (g.signature < 2 ^ 32) × FitsSigned w32 g.extent
words_in m o g h e =
    let P : Kept → Type 0 = λ k. (k.signature < 2 ^ 32) × FitsSigned w32 k.extent in
    subst P e (load_below 4 m (20 + o) h, sfits_to_z (Fits-of_lt (load_below 4 m (24 + o) h)))

pub chain_bytes : KeepsBytes chain
chain_bytes =
    record {
      made = λ capacity m h. made_below capacity m h;
      emptied = λ m h. with_word_below 12 0 m h;
      allocated = λ size signature extent m o new h e. allocated_below size signature extent m (chain_area m) o new h e;
      freed = λ o signature m new h e. freed_below o signature m (chain_area m) new h e;
      copied = λ from to new g h e. copied_below from to (chain_area from) (chain_area to) new g h e;
      words = λ m a o g h e there. words_in m o g h (leads_at (word_at first_link m) m a.placed o g (stands_from m a e).leads there);
    }
