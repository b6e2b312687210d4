-- Bytes that are the same behind one front as behind another: the headers and the data of generations there.
use Rattle.std.proofs.Common.{◌≡◌, inl, inr, ℕ, zero, suc, ◌+◌, ◌*◌, ◌<◌, ◌≤◌, List, [], ◌∷◌, length, Some, Bool}
use Rattle.std.proofs.Common.{true, false, refl, sym, ap, ◌∙◌, subst, arith, ext_get_or}
use Rattle.std.specs.Prelude.{cond, slice_index, ◌==◌}
use Rattle.rv_meaning.specs.Memory.{load}
use Rattle.rv_meaning.specs.Words.{signed}
use Rattle.area_keeper.specs.Keeper.{Kept}
use Rattle.area_keeper.specs.KeptAreas.{kept_as, kept_at, kept_end, InOrder, without_kept, part}
use Rattle.area_keeper.specs.KeeperLaws.{SameData, SamePlaces}
use Rattle.area_keeper.specs.Chain.{word_at, capacity_in}
use Rattle.area_keeper.proofs.Agreement.{Agrees, length_part, byte_part}
use Rattle.granule_keeper.proofs.Order.{kept_where}
use Rattle.free_keeper.proofs.Tests.{eq_tells}
use Rattle.free_keeper.proofs.Gaps.{Clear, AllClear}
use Rattle.free_keeper.proofs.Links.{AllBut}
use Rattle.free_keeper.proofs.Marking.{Headers}
use Rattle.free_keeper.specs.FreeList.{Free, front_for, kept_in, free_list}

pub record Moved (old new : List ℕ) (f g from to : ℕ) : Type 0 where
  pub same : (j : ℕ) → from ≤ j → j < to → slice_index new (g + j) ≡ slice_index old (f + j)

pub moved_within :
    (old new : List ℕ) (f g from to a b : ℕ) → Moved old new f g from to → from ≤ a → b ≤ to → Moved old new f g a b
moved_within old new f g from to a b m h i = record { same = λ j c d. m.same j (omega arith) (omega arith) }

pub agrees_moved :
    (old new : List ℕ) (f from to : ℕ) → Agrees old new (f + from) (f + to) → Moved old new f f from to
agrees_moved old new f from to h = record { same = λ j a b. h.same (f + j) (omega arith) (omega arith) }

-- ---- what is read

load_moved :
    (n : ℕ) (m new : List ℕ) (at to : ℕ) → ((j : ℕ) → j < n → slice_index m (at + j) ≡ slice_index new (to + j)) →
    load n m at ≡ load n new to
load_moved zero m new at to h = refl
load_moved (suc n) m new at to h =
    let a : at + 0 ≡ at = omega arith in
    let b : to + 0 ≡ to = omega arith in
    let first : slice_index m at ≡ slice_index new to =
    ap (λ x. slice_index m x) (sym a) ∙ (h 0 (omega arith) ∙ ap (λ x. slice_index new x) b)
    in
    let rest = load_moved n m new (suc at) (suc to) (λ j i.
    let c : suc at + j ≡ at + suc j = omega arith in
    let d : to + suc j ≡ suc to + j = omega arith in
    ap (λ x. slice_index m x) c ∙ (h (suc j) (omega (arith, i)) ∙ ap (λ x. slice_index new x) d)) in
    ap (λ x. x + 256 * load n m (suc at)) first ∙ ap (λ x. slice_index new to + 256 * x) rest

pub word_moved :
    (old new : List ℕ) (f g from to x : ℕ) → Moved old new f g from to → from ≤ x → x + 4 ≤ to →
    word_at (g + x) new ≡ word_at (f + x) old
word_moved old new f g from to x m h i =
    load_moved 4 new old (g + x) (f + x) (λ j l.
    let a : g + x + j ≡ g + (x + j) = omega arith in
    let b : f + (x + j) ≡ f + x + j = omega arith in
    ap (λ y. slice_index new y) a ∙ (m.same (x + j) (omega (arith, h)) (omega (arith, i, l)) ∙ ap (λ y. slice_index
    old y) b))

kept_moved :
    (old new : List ℕ) (f g o : ℕ) → Moved old new f g o (12 + o) → kept_in (g + o) o new ≡ kept_in (f + o) o old
kept_moved old new f g o m =
    let at : (k : ℕ) → k ≤ 8 → word_at (k + (g + o)) new ≡ word_at (k + (f + o)) old =
    λ k h.
    let a : k + (g + o) ≡ g + (k + o) = omega arith in
    let b : f + (k + o) ≡ k + (f + o) = omega arith in
    ap (λ y. word_at y new) a ∙ (word_moved old new f g o (12 + o) (k + o) m (omega arith) (omega (arith, h)) ∙ ap (λ
    y. word_at y old) b)
    in
    let first : word_at (g + o) new ≡ word_at (f + o) old = word_moved old new f g o (12 + o) o m (omega arith) (omega
    arith) in
    ap (λ x. kept_as o x (word_at (4 + (g + o)) new) (signed (word_at (8 + (g + o)) new))) first
    ∙ (ap (λ x. kept_as o (word_at (f + o) old) x (signed (word_at (8 + (g + o)) new))) (at 4 (omega arith))
    ∙ ap (λ x. kept_as o (word_at (f + o) old) (word_at (4 + (f + o)) old) (signed x)) (at 8 (omega arith)))

pub part_moved :
    (old new : List ℕ) (at to count : ℕ) → at + count ≤ length old → to + count ≤ length new →
    ((j : ℕ) → j < count → slice_index new (to + j) ≡ slice_index old (at + j)) → part to count new ≡ part at count old
part_moved old new at to count a b h =
    let e : length (part to count new) ≡ count = length_part to count new b in
    let f : length (part at count old) ≡ count = length_part at count old a in
    ext_get_or 0 (part to count new) (part at count old) (e ∙ sym f) (λ j i.
    let k : j < count = omega (arith, e, i) in
    byte_part to count new j k ∙ (h j k ∙ sym (byte_part at count old j k)))

-- ---- generations

-- their headers are the same, and all their bytes are
abbrev pub SameHeaders : (old new : List ℕ) → (f g : ℕ) → List Kept → Type 0
SameHeaders old new f g [] = Unit {0}
SameHeaders old new f g (k ∷ ks) = Moved old new f g k.offset (12 + k.offset) × SameHeaders old new f g ks

abbrev pub SameBytes : (old new : List ℕ) → (f g : ℕ) → List Kept → Type 0
SameBytes old new f g [] = Unit {0}
SameBytes old new f g (k ∷ ks) = Moved old new f g k.offset (kept_end k) × SameBytes old new f g ks

pub headers_same : (old new : List ℕ) (f g : ℕ) (ks : List Kept) → SameBytes old new f g ks → SameHeaders old new f g ks
headers_same old new f g [] h = tt
headers_same old new f g (k ∷ ks) h = (
  moved_within old new f g k.offset (kept_end k) k.offset (12 + k.offset) h.0 (omega arith) (omega arith),
  headers_same old new f g ks h.1,
)

pub bytes_within :
    (old new : List ℕ) (f g from to start capacity : ℕ) (ks : List Kept) → InOrder start capacity ks →
    Moved old new f g from to →
    from ≤ start → capacity ≤ to → SameBytes old new f g ks
bytes_within old new f g from to start capacity [] i m a b = tt
bytes_within old new f g from to start capacity (k ∷ ks) i m a b = (
  moved_within old new f g from to k.offset (kept_end k) m (omega (arith, i.0, a)) (omega (arith, i.2, b)),
  bytes_within old new f g from to (kept_end k) capacity ks i.3 m (omega (arith, i.0, a)) b,
)

pub headers_moved :
    (old new : List ℕ) (f g : ℕ) (ks : List Kept) → Headers f old ks → SameHeaders old new f g ks → Headers g new ks
headers_moved old new f g [] h s = tt
headers_moved old new f g (k ∷ ks) h s =
    (kept_moved old new f g k.offset s.0 ∙ h.0, headers_moved old new f g ks h.1 s.1)

data_moved :
    (old new : List ℕ) (f g : ℕ) (k : Kept) → Moved old new f g k.offset (kept_end k) → f + kept_end k ≤ length old →
    g + kept_end k ≤ length new → part (16 + g + k.offset) k.size new ≡ part (16 + f + k.offset) k.size old
data_moved old new f g k m a b =
    part_moved old new (16 + f + k.offset) (16 + g + k.offset) k.size (omega (arith, a)) (omega (arith, b)) (λ j i.
    let c : 16 + g + k.offset + j ≡ g + (16 + k.offset + j) = omega arith in
    let d : f + (16 + k.offset + j) ≡ 16 + f + k.offset + j = omega arith in
    ap (λ x. slice_index new x) c ∙ (m.same (16 + k.offset + j) (omega arith) (omega (arith, i)) ∙ ap (λ x.
    slice_index old x) d))

pub data_same :
    (old new : List ℕ) (source target start capacity : ℕ) (ks : List Kept) → capacity_in old ≡ source →
    capacity_in new ≡ target →
    InOrder start capacity ks → front_for source + capacity ≤ length old → front_for target + capacity ≤ length new →
    SameBytes old new (front_for source) (front_for target) ks → SameData free_list ks old new
data_same old new source target start capacity [] c d i a b h = tt
data_same old new source target start capacity (k ∷ ks) c d i a b h =
    let e = data_moved old new (front_for source) (front_for target) k h.0 (omega (arith, i.2, a)) (omega (
      arith,
      i.2,
      b,
    )) in (
      ap (λ x. part (16 + front_for x + k.offset) k.size new) d ∙ (e ∙ sym (ap (λ x. part (16 + front_for x + k.offset)
          k.size old) c)),
      data_same old new source target (kept_end k) capacity ks c d i.3 a b h.1,
    )

pub places_same :
    (old new : List ℕ) (ks : List Kept) → capacity_in new ≡ capacity_in old → SamePlaces free_list ks old new
places_same old new [] e = tt
places_same old new (k ∷ ks) e = (ap (λ x. 16 + front_for x + k.offset) e, places_same old new ks e)

pub bytes_without :
    (old new : List ℕ) (f g o : ℕ) (ks : List Kept) → SameBytes old new f g ks →
    SameBytes old new f g (without_kept o ks)
bytes_without old new f g o [] h = tt
bytes_without old new f g o (k ∷ ks) h = by_test (k.offset == o) (bytes_without old new f g o ks h.1)
  where
    by_test :
        (t : Bool) → SameBytes old new f g (without_kept o ks) →
        SameBytes old new f g (cond t ks (k ∷ without_kept o ks))
    by_test true rest = h.1
    by_test false rest = (h.0, rest)

-- ---- generations that something is apart from

pub all_clear_same :
    (old new : List ℕ) (front : ℕ) (fs : List Free) (gs : List Kept) → AllClear fs gs →
    ((a b : ℕ) → Clear a b fs → Agrees old new (front + a) (front + b)) → SameBytes old new front front gs
all_clear_same old new front fs [] c f = tt
all_clear_same old new front fs (g ∷ gs) c f = (
  agrees_moved old new front g.offset (kept_end g) (f g.offset (kept_end g) c.0),
  all_clear_same old new front fs
      gs c.1 f,
)

bytes_behind :
    (old new : List ℕ) (front from to start capacity : ℕ) (gs : List Kept) → InOrder start capacity gs →
    AllBut old new front from to →
    to ≤ start → SameBytes old new front front gs
bytes_behind old new front from to start capacity [] i f h = tt
bytes_behind old new front from to start capacity (g ∷ gs) i f h = (
  agrees_moved old new front g.offset (kept_end g) (f.agrees (front + g.offset) (front + kept_end g) (omega arith)
      (inr (omega (arith, i.0, h)))),
  bytes_behind old new front from to (kept_end g) capacity gs i.3 f (omega (
    arith,
    i.0,
    h,
  )),
)

-- bytes written inside the data of one generation are in no header and no other's bytes
pub written_apart :
    (old new : List ℕ) (front start capacity o from to : ℕ) (gs : List Kept) (g : Kept) → InOrder start capacity gs →
    kept_at gs o ≡ Some g → 16 + o ≤ from → to ≤ 16 + o + g.size → AllBut old new front from to →
    SameHeaders old new front front gs × SameBytes old new front front (without_kept o gs)
written_apart old new front start capacity o from to [] g i e a b f = absurd (cc e)
written_apart old new front start capacity o from to (h ∷ gs) g i e a b f =
    by_test (h.offset == o) refl e (λ m. written_apart old new front (kept_end h) capacity o from to gs g i.3 m a b f)
  where
    by_test :
        (t : Bool) → (h.offset == o) ≡ t → cond t (Some h) (kept_at gs o) ≡ Some g →
        (kept_at gs o ≡ Some g → SameHeaders old new front front gs × SameBytes old new front front (without_kept o
        gs)) →
        SameHeaders old new front front (h ∷ gs) × SameBytes old new front front (cond t gs (h ∷ without_kept o gs))
    by_test true t e rest =
        let q : h.offset ≡ o = eq_tells h.offset o true t in
        let r : h ≡ g = cc e in
        let c : to ≤ 16 + o + h.size = subst (λ (y : Kept). to ≤ 16 + o + y.size) (sym r) b in
        let behind = bytes_behind old new front from to (kept_end h) capacity gs i.3 f (omega (arith, c, q)) in
        let first = agrees_moved old new front h.offset (12 + h.offset) (f.agrees (front + h.offset) (front + (12 +
        h.offset)) (omega arith) (inl (omega (arith, q, a)))) in
        ((first, headers_same old new front front gs behind), behind)
    by_test false t e rest =
        let w = kept_where (kept_end h) capacity o gs g i.3 e in
        let r = rest e in
        let first = agrees_moved old new front h.offset (kept_end h) (f.agrees (front + h.offset) (front + kept_end h)
        (omega arith) (inl (omega (arith, w.behind, a)))) in (
          (
            moved_within old new front front h.offset (kept_end h) h.offset (12 + h.offset) first (omega arith) (omega
                arith),
            r.0,
          ),
          (first, r.1),
        )
