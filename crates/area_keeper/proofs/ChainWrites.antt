-- What a header that is written says, and the area's own header.
use Rattle.std.proofs.Common.{◌≡◌, ◌⊎◌, inl, inr, ℕ, ◌+◌, ◌^◌, ◌%◌, ◌<◌, ◌≤◌, ℤ, pos, negsuc, List, length, ap, ◌∙◌, arith}
use Rattle.std.specs.Prelude.{FitsSigned}
use Rattle.std.specs.Int.{w32}
use Rattle.std.proofs.lemmas.Int.{to_z-of_z}
use Rattle.rv_meaning.specs.Words.{signed, word}
use Rattle.rv_meaning.proofs.MemoryLaws.{load-store_same, load-store_other}
use Rattle.area_keeper.specs.Keeper.{Kept}
use Rattle.area_keeper.specs.KeeperLaws.{greatest_capacity}
use Rattle.area_keeper.specs.Chain.{mark, word_at, with_word, with_header, kept_in, chain_made}
use Rattle.area_keeper.proofs.Agreement.{Agrees, agrees_twice, agrees_word, length_word, word_same}
use Rattle.area_keeper.proofs.Walking.{Front}

pub word_there : (m : List ℕ) (at v : ℕ) → v < 2 ^ 32 → at + 4 ≤ length m → word_at at (with_word at v m) ≡ v
word_there m at v h i = load-store_same 4 m at v h i

pub word_other :
    (m : List ℕ) (at v from : ℕ) → (from + 4 ≤ at) ⊎ (at + 4 ≤ from) → word_at from (with_word at v m) ≡ word_at from m
word_other m at v from h = load-store_other 4 4 m at v from h

extent_word : (z : ℤ) → FitsSigned w32 z → word z < 2 ^ 32
extent_word (pos n) h = let f : n < 2 ^ 31 = h.sfits in omega (arith, f)
extent_word (negsuc n) h = omega arith

-- ---- a generation's header

pub record Fits (g : Kept) : Type 0 where
  pub size : g.size < 2 ^ 32
  pub signature : g.signature < 2 ^ 32
  pub extent : FitsSigned w32 g.extent

pub length_header : (g : Kept) (link : ℕ) (m : List ℕ) → length (with_header g link m) ≡ length m
length_header g link m =
    let a = with_word (16 + g.offset) g.size m in
    let b = with_word (20 + g.offset) g.signature a in
    let c = with_word (24 + g.offset) (word g.extent) b in
    length_word c (28 + g.offset) link ∙ (length_word b (24 + g.offset) (word g.extent) ∙ (length_word a (20 + g.offset) g.signature ∙ length_word m (16 + g.offset) g.size))

pub agrees_header :
    (g : Kept) (link : ℕ) (m : List ℕ) (from to : ℕ) → (to ≤ 16 + g.offset) ⊎ (32 + g.offset ≤ from) →
    Agrees m (with_header g link m) from to
agrees_header g link m from to h =
    let a = with_word (16 + g.offset) g.size m in
    let b = with_word (20 + g.offset) g.signature a in
    let c = with_word (24 + g.offset) (word g.extent) b in
    let d = with_word (28 + g.offset) link c in
    agrees_twice m c d from to (agrees_twice m b c from to (agrees_twice m a b from to (agrees_word m (16 + g.offset) g.size from to (beside 0 (omega arith) h)) (agrees_word a (20 + g.offset) g.signature from to (beside 4 (omega arith) h))) (agrees_word b (24 + g.offset) (word g.extent) from to (beside 8 (omega arith) h))) (agrees_word c (28 + g.offset) link from to (beside 12 (omega arith) h))
  where
    beside :
        (k : ℕ) → k ≤ 12 → (to ≤ 16 + g.offset) ⊎ (32 + g.offset ≤ from) →
        (to ≤ 16 + k + g.offset) ⊎ (16 + k + g.offset + 4 ≤ from)
    beside k b (inl x) = inl (omega (arith, x))
    beside k b (inr x) = inr (omega (arith, b, x))

pub header_link :
    (g : Kept) (link : ℕ) (m : List ℕ) → link < 2 ^ 32 → 32 + g.offset ≤ length m →
    word_at (28 + g.offset) (with_header g link m) ≡ link
header_link g link m h i =
    let a = with_word (16 + g.offset) g.size m in
    let b = with_word (20 + g.offset) g.signature a in
    let c = with_word (24 + g.offset) (word g.extent) b in
    let n : length c ≡ length m = length_word b (24 + g.offset) (word g.extent) ∙ (length_word a (20 + g.offset) g.signature ∙ length_word m (16 + g.offset) g.size) in
    word_there c (28 + g.offset) link h (omega (arith, n, i))

pub header_kept :
    (g : Kept) (link : ℕ) (m : List ℕ) → Fits g → 32 + g.offset ≤ length m → kept_in g.offset (with_header g link m) ≡ g
header_kept g link m f i =
    let a = with_word (16 + g.offset) g.size m in
    let b = with_word (20 + g.offset) g.signature a in
    let c = with_word (24 + g.offset) (word g.extent) b in
    let na : length a ≡ length m = length_word m (16 + g.offset) g.size in
    let nb : length b ≡ length m = length_word a (20 + g.offset) g.signature ∙ na in
    let x : word_at (16 + g.offset) (with_header g link m) ≡ g.size =
    word_other c (28 + g.offset) link (16 + g.offset) (inl (omega arith))
    ∙ (word_other b (24 + g.offset) (word g.extent) (16 + g.offset) (inl (omega arith))
    ∙ (word_other a (20 + g.offset) g.signature (16 + g.offset) (inl (omega arith))
    ∙ word_there m (16 + g.offset) g.size f.size (omega (arith, i))))
    in
    let y : word_at (20 + g.offset) (with_header g link m) ≡ g.signature =
    word_other c (28 + g.offset) link (20 + g.offset) (inl (omega arith))
    ∙ (word_other b (24 + g.offset) (word g.extent) (20 + g.offset) (inl (omega arith))
    ∙ word_there a (20 + g.offset) g.signature f.signature (omega (arith, na, i)))
    in
    let z : word_at (24 + g.offset) (with_header g link m) ≡ word g.extent =
    word_other c (28 + g.offset) link (24 + g.offset) (inl (omega arith))
    ∙ word_there b (24 + g.offset) (word g.extent) (extent_word g.extent f.extent) (omega (arith, nb, i))
    in
    let e : signed (word_at (24 + g.offset) (with_header g link m)) ≡ g.extent = ap signed z ∙ to_z-of_z w32 g.extent f.extent in
    made x y e
  where
    made :
        {s t : ℕ} {z : ℤ} → s ≡ g.size → t ≡ g.signature → z ≡ g.extent →
        record { offset = g.offset; size = s; signature = t; extent = z } ≡ g
    made {s} {t} {z} x y e =
        ap (λ (n : ℕ). let k : Kept = record { offset = g.offset; size = n; signature = t; extent = z } in k) x
        ∙ (ap (λ (n : ℕ). let k : Kept = record { offset = g.offset; size = g.size; signature = n; extent = z } in k) y
        ∙ ap (λ (n : ℤ). let k : Kept = record { offset = g.offset; size = g.size; signature = g.signature; extent = n } in k) e)

-- ---- the area's own header

pub front_same :
    (old new : List ℕ) (capacity : ℕ) → Front old capacity → length new ≡ length old → Agrees old new 0 8 →
    Front new capacity
front_same old new capacity f n h =
    record {
      marked = word_same old new 0 8 0 h (omega arith) (omega arith) ∙ f.marked;
      capacity_is = word_same old new 0 8 4 h (omega arith) (omega arith) ∙ f.capacity_is;
      rounded = f.rounded;
      bounded = f.bounded;
      as_many = n ∙ f.as_many;
    }

pub length_made : (capacity : ℕ) (m : List ℕ) → length (chain_made capacity m) ≡ length m
length_made capacity m =
    length_word (with_word 4 capacity (with_word 0 mark m)) 12 0 ∙ (length_word (with_word 0 mark m) 4 capacity ∙ length_word m 0 mark)

pub made_front :
    (capacity : ℕ) (m : List ℕ) → capacity % 16 ≡ 0 → capacity ≤ greatest_capacity → length m ≡ 16 + capacity →
    Front (chain_made capacity m) capacity
made_front capacity m r b n =
    let a = with_word 0 mark m in
    let c = with_word 4 capacity a in
    let na : length a ≡ length m = length_word m 0 mark in
    let small : capacity < 2 ^ 32 = omega (arith, b) in
    record {
      marked = word_other c 12 0 0 (inl (omega arith)) ∙ (word_other a 4 capacity 0 (inl (omega arith)) ∙ word_there m 0 mark (omega arith) (omega (arith, n)));
      capacity_is = word_other c 12 0 4 (inl (omega arith)) ∙ word_there a 4 capacity small (omega (arith, na, n));
      rounded = r;
      bounded = b;
      as_many = length_made capacity m ∙ n;
    }

pub made_link : (capacity : ℕ) (m : List ℕ) → length m ≡ 16 + capacity → word_at 12 (chain_made capacity m) ≡ 0
made_link capacity m n =
    let e : length (with_word 4 capacity (with_word 0 mark m)) ≡ length m = length_word (with_word 0 mark m) 4 capacity ∙ length_word m 0 mark in
    word_there (with_word 4 capacity (with_word 0 mark m)) 12 0 (omega arith) (omega (arith, e, n))
