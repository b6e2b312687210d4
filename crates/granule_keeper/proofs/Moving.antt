-- Bytes that are the same behind one front as behind another: the headers and the data of generations there.
use Rattle.std.proofs.Common.{◌≡◌, ◌⊎◌, inl, inr, ℕ, zero, suc, ◌+◌, ◌-◌, ◌*◌, ◌<◌, ◌≤◌, List, [], ◌∷◌, ◌++◌, length, take, drop, Bool, true, false, refl, sym, ap, ◌∙◌, subst, arith, ext_get_or}
use Rattle.std.specs.Prelude.{cond, slice_index, ◌==◌}
use Rattle.rv_meaning.specs.Memory.{load}
use Rattle.rv_meaning.specs.Words.{signed}
use Rattle.pli_typing.specs.Signatures.{footprint}
use Rattle.area_keeper.specs.Keeper.{Kept}
use Rattle.area_keeper.specs.KeptAreas.{kept_as, kept_end, InOrder, without_kept, part, with_part}
use Rattle.area_keeper.specs.KeeperLaws.{SameData, SamePlaces}
use Rattle.area_keeper.specs.Chain.{word_at, capacity_in}
use Rattle.area_keeper.proofs.Agreement.{Agrees, length_part, byte_part, byte_inside, length_with_part}
use Rattle.granule_keeper.proofs.Runs.{insides_within}
use Rattle.granule_keeper.specs.Marks.{insides}
use Rattle.granule_keeper.specs.Granules.{front_for, fitted, kept_in, placed_from, granules}

pub record Moved (old new : List ℕ) (f g from to : ℕ) : Type 0 where
  pub same : (j : ℕ) → from ≤ j → j < to → slice_index new (g + j) ≡ slice_index old (f + j)

pub moved_within :
    (old new : List ℕ) (f g from to a b : ℕ) → Moved old new f g from to → from ≤ a → b ≤ to → Moved old new f g a b
moved_within old new f g from to a b m h i = record { same = λ j c d. m.same j (omega arith) (omega arith) }

pub agrees_moved :
    (old new : List ℕ) (f from to : ℕ) → Agrees old new (f + from) (f + to) → Moved old new f f from to
agrees_moved old new f from to h = record { same = λ j a b. h.same (f + j) (omega arith) (omega arith) }

-- ---- what is read

load_moved :
    (n : ℕ) (m new : List ℕ) (at to : ℕ) → ((j : ℕ) → j < n → slice_index m (at + j) ≡ slice_index new (to + j)) →
    load n m at ≡ load n new to
load_moved zero m new at to h = refl
load_moved (suc n) m new at to h =
    let a : at + 0 ≡ at = omega arith in
    let b : to + 0 ≡ to = omega arith in
    let first : slice_index m at ≡ slice_index new to =
    ap (λ x. slice_index m x) (sym a) ∙ (h 0 (omega arith) ∙ ap (λ x. slice_index new x) b)
    in
    let rest = load_moved n m new (suc at) (suc to) (λ j i.
    let c : suc at + j ≡ at + suc j = omega arith in
    let d : to + suc j ≡ suc to + j = omega arith in
    ap (λ x. slice_index m x) c ∙ (h (suc j) (omega (arith, i)) ∙ ap (λ x. slice_index new x) d)) in
    ap (λ x. x + 256 * load n m (suc at)) first ∙ ap (λ x. slice_index new to + 256 * x) rest

word_moved :
    (old new : List ℕ) (f g o k : ℕ) → k ≤ 8 → Moved old new f g o (12 + o) → word_at (k + (g + o)) new ≡ word_at (k + (f + o)) old
word_moved old new f g o k h m =
    load_moved 4 new old (k + (g + o)) (k + (f + o)) (λ j i.
    let a : k + (g + o) + j ≡ g + (k + o + j) = omega arith in
    let b : f + (k + o + j) ≡ k + (f + o) + j = omega arith in
    ap (λ x. slice_index new x) a ∙ (m.same (k + o + j) (omega arith) (omega (arith, h, i)) ∙ ap (λ x. slice_index old x) b))

kept_moved :
    (old new : List ℕ) (f g o n : ℕ) → Moved old new f g o (12 + o) → kept_in (g + o) o n new ≡ kept_in (f + o) o n old
kept_moved old new f g o n m =
    let z : (x : ℕ) → 0 + x ≡ x = λ x. omega arith in
    let a : word_at (g + o) new ≡ word_at (f + o) old =
    ap (λ x. word_at x new) (sym (z (g + o))) ∙ (word_moved old new f g o 0 (omega arith) m ∙ ap (λ x. word_at x old) (z (f + o)))
    in
    let b = word_moved old new f g o 4 (omega arith) m in
    let c = word_moved old new f g o 8 (omega arith) m in
    ap (λ x. kept_as o (fitted x n) (word_at (4 + (g + o)) new) (signed (word_at (8 + (g + o)) new))) a
    ∙ (ap (λ x. kept_as o (fitted (word_at (f + o) old) n) x (signed (word_at (8 + (g + o)) new))) b
    ∙ ap (λ x. kept_as o (fitted (word_at (f + o) old) n) (word_at (4 + (f + o)) old) (signed x)) c)

part_moved :
    (old new : List ℕ) (at to count : ℕ) → at + count ≤ length old → to + count ≤ length new →
    ((j : ℕ) → j < count → slice_index new (to + j) ≡ slice_index old (at + j)) → part to count new ≡ part at count old
part_moved old new at to count a b h =
    let e : length (part to count new) ≡ count = length_part to count new b in
    let f : length (part at count old) ≡ count = length_part at count old a in
    ext_get_or 0 (part to count new) (part at count old) (e ∙ sym f) (λ j i.
    let k : j < count = omega (arith, e, i) in
    byte_part to count new j k ∙ (h j k ∙ sym (byte_part at count old j k)))

-- what is read where it was written
pub part_written :
    (new : List ℕ) (at count : ℕ) (m : List ℕ) → length new ≡ count → at + count ≤ length m → part at count (with_part new at m) ≡ new
part_written new at count m n h =
    let l : length (with_part new at m) ≡ length m = length_with_part new at m (omega (arith, n, h)) in
    let e : length (part at count (with_part new at m)) ≡ count = length_part at count (with_part new at m) (omega (arith, h, l)) in
    ext_get_or 0 (part at count (with_part new at m)) new (e ∙ sym n) (λ j i.
    let k : j < count = omega (arith, e, i) in
    byte_part at count (with_part new at m) j k ∙ byte_inside new at m j (omega (arith, h)) (omega (arith, k, n)))

-- ---- generations

-- their headers are the same, and all their granules are
abbrev pub SameHeaders : (old new : List ℕ) → (f g : ℕ) → List Kept → Type 0
SameHeaders old new f g [] = Unit {0}
SameHeaders old new f g (k ∷ ks) = Moved old new f g k.offset (12 + k.offset) × SameHeaders old new f g ks

abbrev pub SameGranules : (old new : List ℕ) → (f g : ℕ) → List Kept → Type 0
SameGranules old new f g [] = Unit {0}
SameGranules old new f g (k ∷ ks) = Moved old new f g k.offset (kept_end k) × SameGranules old new f g ks

pub headers_same : (old new : List ℕ) (f g : ℕ) (ks : List Kept) → SameGranules old new f g ks → SameHeaders old new f g ks
headers_same old new f g [] h = tt
headers_same old new f g (k ∷ ks) h =
    (moved_within old new f g k.offset (kept_end k) k.offset (12 + k.offset) h.0 (omega arith) (omega arith), headers_same old new f g ks h.1)

pub granules_within :
    (old new : List ℕ) (f g from to start capacity : ℕ) (ks : List Kept) → InOrder start capacity ks → Moved old new f g from to →
    from ≤ start → capacity ≤ to → SameGranules old new f g ks
granules_within old new f g from to start capacity [] i m a b = tt
granules_within old new f g from to start capacity (k ∷ ks) i m a b =
    (moved_within old new f g from to k.offset (kept_end k) m (omega (arith, i.0, a)) (omega (arith, i.2, b)), granules_within old new f g from to (kept_end k) capacity ks i.3 m (omega (arith, i.0, a)) b)

pub placed_moved :
    (old new : List ℕ) (f g o : ℕ) (free : Bool) (ms : List ℕ) → SameHeaders old new f g (placed_from f old o free ms) →
    placed_from g new o free ms ≡ placed_from f old o free ms
placed_moved old new f g o free [] h = refl
placed_moved old new f g o free (zero ∷ ms) h = placed_moved old new f g (16 + o) true ms h
placed_moved old new f g o free (suc zero ∷ ms) h =
    let r = placed_moved old new f g (16 + o) false ms h.1 in
    ap (λ k. k ∷ placed_from g new (16 + o) false ms) (kept_moved old new f g o (suc (insides ms)) h.0)
    ∙ ap (λ ks. kept_in (f + o) o (suc (insides ms)) old ∷ ks) r
placed_moved old new f g o true (suc (suc m) ∷ ms) h =
    let r = placed_moved old new f g (16 + o) false ms h.1 in
    ap (λ k. k ∷ placed_from g new (16 + o) false ms) (kept_moved old new f g o (suc (insides ms)) h.0)
    ∙ ap (λ ks. kept_in (f + o) o (suc (insides ms)) old ∷ ks) r
placed_moved old new f g o false (suc (suc m) ∷ ms) h = placed_moved old new f g (16 + o) false ms h

data_moved :
    (old new : List ℕ) (f g : ℕ) (k : Kept) → Moved old new f g k.offset (kept_end k) → f + kept_end k ≤ length old →
    g + kept_end k ≤ length new → part (16 + g + k.offset) k.size new ≡ part (16 + f + k.offset) k.size old
data_moved old new f g k m a b =
    part_moved old new (16 + f + k.offset) (16 + g + k.offset) k.size (omega (arith, a)) (omega (arith, b)) (λ j i.
    let c : 16 + g + k.offset + j ≡ g + (16 + k.offset + j) = omega arith in
    let d : f + (16 + k.offset + j) ≡ 16 + f + k.offset + j = omega arith in
    ap (λ x. slice_index new x) c ∙ (m.same (16 + k.offset + j) (omega arith) (omega (arith, i)) ∙ ap (λ x. slice_index old x) d))

pub data_same :
    (old new : List ℕ) (source target start capacity : ℕ) (ks : List Kept) → capacity_in old ≡ source → capacity_in new ≡ target →
    InOrder start capacity ks → front_for source + capacity ≤ length old → front_for target + capacity ≤ length new →
    SameGranules old new (front_for source) (front_for target) ks → SameData granules ks old new
data_same old new source target start capacity [] c d i a b h = tt
data_same old new source target start capacity (k ∷ ks) c d i a b h =
    let e = data_moved old new (front_for source) (front_for target) k h.0 (omega (arith, i.2, a)) (omega (arith, i.2, b)) in
    (ap (λ x. part (16 + front_for x + k.offset) k.size new) d ∙ (e ∙ sym (ap (λ x. part (16 + front_for x + k.offset) k.size old) c)), data_same old new source target (kept_end k) capacity ks c d i.3 a b h.1)

pub places_same : (old new : List ℕ) (ks : List Kept) → capacity_in new ≡ capacity_in old → SamePlaces granules ks old new
places_same old new [] e = tt
places_same old new (k ∷ ks) e = (ap (λ x. 16 + front_for x + k.offset) e, places_same old new ks e)
