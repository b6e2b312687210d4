-- What a header that is written says, and what marks that are written leave.
use Rattle.std.proofs.Common.{◌≡◌, ◌⊎◌, inl, inr, ℕ, ◌+◌, ◌-◌, ◌*◌, ◌/◌, ◌%◌, ◌^◌, ◌<◌, ◌≤◌, ℤ, pos, negsuc, List, length, ap, ◌∙◌, arith}
use Rattle.std.specs.Prelude.{FitsSigned, cond}
use Rattle.std.specs.Int.{w32}
use Rattle.std.proofs.lemmas.Int.{to_z-of_z}
use Rattle.rv_meaning.specs.Words.{signed, word}
use Rattle.rv_meaning.proofs.MemoryLaws.{load-store_same, load-store_other}
use Rattle.pli_typing.specs.Signatures.{footprint}
use Rattle.area_keeper.specs.Keeper.{Kept}
use Rattle.area_keeper.specs.KeptAreas.{kept_as, part, with_part}
use Rattle.area_keeper.specs.KeeperLaws.{greatest_capacity}
use Rattle.area_keeper.specs.Chain.{word_at, with_word}
use Rattle.area_keeper.proofs.Agreement.{Agrees, agrees_twice, agrees_word, agrees_with_part, length_word, length_with_part}
use Rattle.granule_keeper.proofs.Tests.{eq_true}
use Rattle.granule_keeper.proofs.Moving.{Moved, agrees_moved, part_written}
use Rattle.granule_keeper.proofs.Standing.{Front, Marks, marks_of, front_same}
use Rattle.granule_keeper.specs.Granules.{mark, front_for, bytes_for, with_marks, fitted, kept_in, with_header}

word_there : (m : List ℕ) (at v : ℕ) → v < 2 ^ 32 → at + 4 ≤ length m → word_at at (with_word at v m) ≡ v
word_there m at v h i = load-store_same 4 m at v h i

word_other :
    (m : List ℕ) (at v from : ℕ) → (from + 4 ≤ at) ⊎ (at + 4 ≤ from) → word_at from (with_word at v m) ≡ word_at from m
word_other m at v from h = load-store_other 4 4 m at v from h

extent_word : (z : ℤ) → FitsSigned w32 z → word z < 2 ^ 32
extent_word (pos n) h = let f : n < 2 ^ 31 = h.sfits in omega (arith, f)
extent_word (negsuc n) h = omega arith

-- ---- a generation's header

pub record Fits (g : Kept) : Type 0 where
  pub size : g.size < 2 ^ 32
  pub signature : g.signature < 2 ^ 32
  pub extent : FitsSigned w32 g.extent

pub length_header : (at : ℕ) (g : Kept) (m : List ℕ) → length (with_header at g m) ≡ length m
length_header at g m =
    let a = with_word at g.size m in
    let b = with_word (4 + at) g.signature a in
    length_word b (8 + at) (word g.extent) ∙ (length_word a (4 + at) g.signature ∙ length_word m at g.size)

pub agrees_header :
    (at : ℕ) (g : Kept) (m : List ℕ) (from to : ℕ) → (to ≤ at) ⊎ (12 + at ≤ from) → Agrees m (with_header at g m) from to
agrees_header at g m from to h =
    let a = with_word at g.size m in
    let b = with_word (4 + at) g.signature a in
    let c = with_word (8 + at) (word g.extent) b in
    agrees_twice m b c from to (agrees_twice m a b from to (agrees_word m at g.size from to (first h)) (agrees_word a (4 + at) g.signature from to (beside 4 (omega arith) h))) (agrees_word b (8 + at) (word g.extent) from to (beside 8 (omega arith) h))
  where
    first : (to ≤ at) ⊎ (12 + at ≤ from) → (to ≤ at) ⊎ (at + 4 ≤ from)
    first (inl x) = inl x
    first (inr x) = inr (omega (arith, x))

    beside : (k : ℕ) → k ≤ 8 → (to ≤ at) ⊎ (12 + at ≤ from) → (to ≤ k + at) ⊎ (k + at + 4 ≤ from)
    beside k b (inl x) = inl (omega (arith, x))
    beside k b (inr x) = inr (omega (arith, b, x))

fitted_exact : (size n : ℕ) → footprint size ≡ 16 * n → fitted size n ≡ size
fitted_exact size n e = ap (λ b. cond b size (16 * (n - 1))) (eq_true (footprint size) (16 * n) e)

pub header_kept :
    (at n : ℕ) (g : Kept) (m : List ℕ) → Fits g → footprint g.size ≡ 16 * n → 12 + at ≤ length m →
    kept_in at g.offset n (with_header at g m) ≡ g
header_kept at n g m f p i =
    let a = with_word at g.size m in
    let b = with_word (4 + at) g.signature a in
    let na : length a ≡ length m = length_word m at g.size in
    let nb : length b ≡ length m = length_word a (4 + at) g.signature ∙ na in
    let x : word_at at (with_header at g m) ≡ g.size =
    word_other b (8 + at) (word g.extent) at (inl (omega arith))
    ∙ (word_other a (4 + at) g.signature at (inl (omega arith)) ∙ word_there m at g.size f.size (omega (arith, i)))
    in
    let y : word_at (4 + at) (with_header at g m) ≡ g.signature =
    word_other b (8 + at) (word g.extent) (4 + at) (inl (omega arith))
    ∙ word_there a (4 + at) g.signature f.signature (omega (arith, na, i))
    in
    let z : word_at (8 + at) (with_header at g m) ≡ word g.extent =
    word_there b (8 + at) (word g.extent) (extent_word g.extent f.extent) (omega (arith, nb, i))
    in
    let e : signed (word_at (8 + at) (with_header at g m)) ≡ g.extent = ap signed z ∙ to_z-of_z w32 g.extent f.extent in
    let s : fitted (word_at at (with_header at g m)) n ≡ g.size = ap (λ v. fitted v n) x ∙ fitted_exact g.size n p in
    made s y e
  where
    made :
        {s t : ℕ} {z : ℤ} → s ≡ g.size → t ≡ g.signature → z ≡ g.extent →
        record { offset = g.offset; size = s; signature = t; extent = z } ≡ g
    made {s} {t} {z} x y e =
        ap (λ (n : ℕ). let k : Kept = record { offset = g.offset; size = n; signature = t; extent = z } in k) x
        ∙ (ap (λ (n : ℕ). let k : Kept = record { offset = g.offset; size = g.size; signature = n; extent = z } in k) y
        ∙ ap (λ (n : ℤ). let k : Kept = record { offset = g.offset; size = g.size; signature = g.signature; extent = n } in k) e)

-- ---- marks

pub record Remarked (bytes new : List ℕ) (capacity : ℕ) (ms : List ℕ) : Type 0 where
  pub as_many : length new ≡ length bytes
  pub front : Front new capacity
  pub marks : part 8 (capacity / 16) new ≡ ms
  pub agrees : (from to : ℕ) → (to ≤ 8) ⊎ (front_for capacity ≤ from) → Agrees bytes new from to

pub remarked :
    (bytes : List ℕ) (capacity : ℕ) (ms : List ℕ) → Front bytes capacity → length ms ≡ capacity / 16 →
    Remarked bytes (with_marks ms bytes) capacity ms
remarked bytes capacity ms f n =
    let m = marks_of bytes capacity f in
    let within : 8 + length ms ≤ length bytes = omega (arith, n, m.before, m.front) in
    let many = length_with_part ms 8 bytes within in
    let agrees : (from to : ℕ) → (to ≤ 8) ⊎ (front_for capacity ≤ from) → Agrees bytes (with_marks ms bytes) from to =
    λ from to h. agrees_with_part ms 8 bytes from to (omega (arith, within)) (beside from to h) in
    record {
      as_many = many;
      front = front_same bytes (with_marks ms bytes) capacity f many (agrees 0 8 (inl (omega arith)));
      marks = part_written ms 8 (capacity / 16) bytes n (omega (arith, n, within));
      agrees = agrees;
    }
  where
    beside : (from to : ℕ) → (to ≤ 8) ⊎ (front_for capacity ≤ from) → (to ≤ 8) ⊎ (8 + length ms ≤ from)
    beside from to (inl x) = inl x
    beside from to (inr x) = inr (omega (arith, x, n))

pub made_front :
    (capacity : ℕ) (m : List ℕ) → capacity % 16 ≡ 0 → capacity ≤ greatest_capacity → length m ≡ bytes_for capacity →
    Front (with_word 4 capacity (with_word 0 mark m)) capacity
made_front capacity m r b n =
    let a = with_word 0 mark m in
    let na : length a ≡ length m = length_word m 0 mark in
    let nc : length (with_word 4 capacity a) ≡ length a = length_word a 4 capacity in
    record {
      marked = word_other a 4 capacity 0 (inl (omega arith)) ∙ word_there m 0 mark (omega arith) (omega (arith, n));
      capacity_is = word_there a 4 capacity (omega (arith, b)) (omega (arith, na, n));
      rounded = r;
      bounded = b;
      as_many = nc ∙ (na ∙ n);
    }
