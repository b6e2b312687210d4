-- Areas that stand: what the keeper's functions make of them.
use Rattle.std.proofs.Common.{◌≡◌, ◌≢◌, ℕ, ◌+◌, ◌/◌, ◌*◌, ◌%◌, ◌^◌, ◌<◌, ◌≤◌, List, [], ◌∷◌, length, Option, Some, None}
use Rattle.std.proofs.Common.{Bool, true, false, refl, sym, ap, ◌∙◌, subst, arith}
use Rattle.std.proofs.lemmas.Bool.{eqb-true}
use Rattle.std.specs.Int.{w32}
use Rattle.std.specs.Prelude.{FitsSigned, cond, nat_lt, ◌==◌}
use Rattle.pli_typing.specs.Signatures.{footprint}
use Rattle.pli_meaning.specs.Contents.{Generation, footprint_of, Placed, gap, with_placed, without_offset, placed_at}
use Rattle.pli_meaning.specs.Contents.{changed_at, greatest_end}
use Rattle.pli_meaning.specs.StorageState.{AreaContents}
use Rattle.pli_types.specs.Templates.{Template}
use Rattle.area_keeper.specs.Keeper.{Kept, KeptArea, Keeper}
use Rattle.area_keeper.specs.KeeperLaws.{data_of, SameData, Leaves, Keeps, greatest_capacity}
use Rattle.area_keeper.specs.KeptAreas.{kept_as, kept_end, InOrder, kept_at, with_kept, without_kept, Alike, part}
use Rattle.area_keeper.specs.KeptAreas.{with_part}
use Rattle.pli_serving.specs.Templates.{shape_at}
use Rattle.storage_relation.proofs.Holders.{eqb-refl, eqb-other}
use Rattle.storage_relation.proofs.Slices.{part_around, part_written}
use Rattle.storage_relation.specs.Standing.{size_of, Reads, IsKept, AreKept, AreaStands}
use Rattle.storage_relation.specs.Stored.{with_placed_in}

-- ---- what is kept, one by one

pub alike :
    (k : Keeper) (t : List Template) (bytes : List ℕ) (gs : List Kept) (ps : List Placed) → AreKept k t bytes gs ps →
    Alike gs ps
alike k t bytes [] [] a = tt
alike k t bytes [] (p ∷ ps) a = absurd a
alike k t bytes (g ∷ gs) [] a = absurd a
alike k t bytes (g ∷ gs) (p ∷ ps) a = (a.0.offset, ap footprint a.0.size, alike k t bytes gs ps a.1)

kept_same :
    (k : Keeper) (t : List Template) (old new : List ℕ) (g : Kept) (p : Placed) → data_of k g new ≡ data_of k g old →
    IsKept k t old g p → IsKept k t new g p
kept_same k t old new g p e is =
    record {
      offset = is.offset;
      size = is.size;
      extent = is.extent;
      shape = is.shape;
      reads =
          subst (Reads p.generation) (sym e) is.reads;
    }

pub are_same :
    (k : Keeper) (t : List Template) (old new : List ℕ) (gs : List Kept) (ps : List Placed) → SameData k gs old new →
    AreKept k t old gs ps → AreKept k t new gs ps
are_same k t old new [] [] d a = tt
are_same k t old new [] (p ∷ ps) d a = absurd a
are_same k t old new (g ∷ gs) [] d a = absurd a
are_same k t old new (g ∷ gs) (p ∷ ps) d a =
    (kept_same k t old new g p d.0 a.0, are_same k t old new gs ps d.1 a.1)

-- the one at an offset
pub found :
    (k : Keeper) (t : List Template) (bytes : List ℕ) (gs : List Kept) (ps : List Placed) (o : ℕ) (g : Generation) →
    AreKept k t bytes gs ps → placed_at ps o ≡ Some g →
    (c : Kept) × (kept_at gs o ≡ Some c) × (c.offset ≡ o) × IsKept k t bytes c (record { offset = o; generation = g })
found k t bytes [] [] o g a e = absurd (cc e)
found k t bytes [] (p ∷ ps) o g a e = absurd a
found k t bytes (c ∷ gs) [] o g a e = absurd a
found k t bytes (c ∷ gs) (p ∷ ps) o g a e = by (p.offset == o) refl e (λ f. found k t bytes gs ps o g a.1 f)
  where
    Found : Option Kept → Type 0
    Found r = (d : Kept) × (r ≡ Some d) × (d.offset ≡ o) × IsKept k t bytes d (record { offset = o; generation = g })

    by :
        (q : Bool) → (p.offset == o) ≡ q → cond q (Some p.generation) (placed_at ps o) ≡ Some g →
        (placed_at ps o ≡ Some g → Found (kept_at gs o)) → Found (kept_at (c ∷ gs) o)
    by true q e rest =
        let same : p.offset ≡ o = eqb-true p.offset o q in
        let gen : p.generation ≡ g = cc e in
        let test : (c.offset == o) ≡ true = ap (λ y. y == o) a.0.offset ∙ q in (
          c,
          ap (λ y. cond y (Some c) (kept_at gs o)) test,
          a.0.offset ∙ same,
          record {
            offset = a.0.offset ∙ same;
            size = a.0.size ∙ ap size_of gen;
            extent = a.0.extent ∙ ap (λ (y : Generation). y.extent) gen;
            shape = a.0.shape ∙ ap (λ (y : Generation). Some y.shape) gen;
            reads = subst (λ y. Reads y (data_of k c bytes)) gen a.0.reads;
          },
        )
    by false q e rest =
        let test : (c.offset == o) ≡ false = ap (λ y. y == o) a.0.offset ∙ q in
        subst Found (sym (ap (λ y. cond y (Some c) (kept_at gs o)) test)) (rest e)

-- all others, and one that becomes another
pub are_changed :
    (k : Keeper) (t : List Template) (old new : List ℕ) (gs : List Kept) (ps : List Placed) (o : ℕ) (c : Kept)
    (g : Generation) (change : Generation → Generation) →
    SameData k (without_kept o gs) old new → kept_at gs o ≡ Some c → placed_at ps o ≡ Some g →
    IsKept k t new c (record { offset = o; generation = change g }) →
    AreKept k t old gs ps → AreKept k t new gs (changed_at o change ps)
are_changed k t old new [] [] o c g change d e f is a = tt
are_changed k t old new [] (p ∷ ps) o c g change d e f is a = absurd a
are_changed k t old new (h ∷ gs) [] o c g change d e f is a = absurd a
are_changed k t old new (h ∷ gs) (p ∷ ps) o c g change d e f is a =
    by (p.offset == o) (h.offset == o) (ap (λ y. y == o) (sym a.0.offset)) d e f
    (λ d e f. are_changed k t old new gs ps o c g change d e f is a.1)
  where
    by :
        (q r : Bool) → q ≡ r → SameData k (cond r gs (h ∷ without_kept o gs)) old new →
        cond r (Some h) (kept_at gs o) ≡ Some c →
        cond q (Some p.generation) (placed_at ps o) ≡ Some g →
        (SameData k (without_kept o gs) old new → kept_at gs o ≡ Some c → placed_at ps o ≡ Some g →
        AreKept k t new gs (changed_at o change ps)) →
        AreKept k t new (h ∷ gs) (cond q (record { offset = o; generation = change p.generation } ∷ ps)
        (p ∷ changed_at o change ps))
    by true true q d e f rest =
        let x : h ≡ c = cc e in
        let y : p.generation ≡ g = cc f in (
          subst (λ (z : Generation). IsKept k t new h (record { offset = o; generation = change z })) (sym y)
              (subst (λ z. IsKept k t new z (record { offset = o; generation = change g })) (sym x) is),
          are_same k t old new gs ps d a.1,
        )
    by false false q d e f rest = (kept_same k t old new h p d.0 a.0, rest d.1 e f)
    by true false q d e f rest = absurd (cc q)
    by false true q d e f rest = absurd (cc q)

pub are_without :
    (k : Keeper) (t : List Template) (old new : List ℕ) (gs : List Kept) (ps : List Placed) (o : ℕ) →
    SameData k (without_kept o gs) old new → AreKept k t old gs ps →
    AreKept k t new (without_kept o gs) (without_offset o ps)
are_without k t old new [] [] o d a = tt
are_without k t old new [] (p ∷ ps) o d a = absurd a
are_without k t old new (h ∷ gs) [] o d a = absurd a
are_without k t old new (h ∷ gs) (p ∷ ps) o d a =
    by (p.offset == o) (h.offset == o) (ap (λ y. y == o) (sym a.0.offset)) d
    (λ d. are_without k t old new gs ps o d a.1)
  where
    by :
        (q r : Bool) → q ≡ r → SameData k (cond r gs (h ∷ without_kept o gs)) old new →
        (SameData k (without_kept o gs) old new → AreKept k t new (without_kept o gs) (without_offset o ps)) →
        AreKept k t new (cond r gs (h ∷ without_kept o gs)) (cond q ps (p ∷ without_offset o ps))
    by true true q d rest = are_same k t old new gs ps d a.1
    by false false q d rest = (kept_same k t old new h p d.0 a.0, rest d.1)
    by true false q d rest = absurd (cc q)
    by false true q d rest = absurd (cc q)

pub are_with :
    (k : Keeper) (t : List Template) (bytes : List ℕ) (gs : List Kept) (ps : List Placed) (g : Kept) (p : Placed) →
    IsKept k t bytes g p → AreKept k t bytes gs ps → AreKept k t bytes (with_kept g gs) (with_placed p ps)
are_with k t bytes [] [] g p is a = (is, tt)
are_with k t bytes [] (q ∷ ps) g p is a = absurd a
are_with k t bytes (h ∷ gs) [] g p is a = absurd a
are_with k t bytes (h ∷ gs) (q ∷ ps) g p is a =
    let x = is.offset in
    let y = a.0.offset in
    let e : nat_lt g.offset h.offset ≡ nat_lt p.offset q.offset = cc in
    by (nat_lt g.offset h.offset) (nat_lt p.offset q.offset) e (are_with k t bytes gs ps g p is a.1)
  where
    by :
        (r u : Bool) → r ≡ u → AreKept k t bytes (with_kept g gs) (with_placed p ps) →
        AreKept k t bytes (cond r (g ∷ h ∷ gs) (h ∷ with_kept g gs)) (cond u (p ∷ q ∷ ps) (q ∷ with_placed p ps))
    by true true e rest = (is, a)
    by false false e rest = (a.0, rest)
    by true false e rest = absurd (cc e)
    by false true e rest = absurd (cc e)

-- ---- a generation among others in order

footprint_some : (n : ℕ) → 16 ≤ 16 + (n + 15) / 16 * 16
footprint_some n = omega arith

placed_behind :
    (start capacity : ℕ) (n : Kept) (gs : List Kept) → InOrder start capacity (with_kept n gs) → start ≤ n.offset
placed_behind start capacity n [] i = i.0
placed_behind start capacity n (g ∷ gs) i =
    by (nat_lt n.offset g.offset) i (λ j. placed_behind (kept_end g) capacity n gs j)
  where
    by :
        (q : Bool) → InOrder start capacity (cond q (n ∷ g ∷ gs) (g ∷ with_kept n gs)) →
        (InOrder (kept_end g) capacity (with_kept n gs) → kept_end g ≤ n.offset) → start ≤ n.offset
    by true i more = i.0
    by false i more =
        let rest = more i.3 in
        let some = footprint_some g.size in
        omega (arith, i.0, rest, some)

pub kept_placed :
    (start capacity : ℕ) (n : Kept) (gs : List Kept) → InOrder start capacity (with_kept n gs) →
    (kept_at (with_kept n gs) n.offset ≡ Some n) × (without_kept n.offset (with_kept n gs) ≡ gs)
kept_placed start capacity n [] i =
    let e = eqb-refl n.offset in
    (ap (λ y. cond y (Some n) None) e, ap (λ y. cond y [] (n ∷ [])) e)
kept_placed start capacity n (g ∷ gs) i =
    by (nat_lt n.offset g.offset) i (λ j. kept_placed (kept_end g) capacity n gs j)
  where
    Both : List Kept → Type 0
    Both hs = (kept_at hs n.offset ≡ Some n) × (without_kept n.offset hs ≡ g ∷ gs)

    by :
        (q : Bool) → InOrder start capacity (cond q (n ∷ g ∷ gs) (g ∷ with_kept n gs)) →
        (InOrder (kept_end g) capacity (with_kept n gs) → (kept_at (with_kept n gs) n.offset ≡ Some n)
        × (without_kept n.offset (with_kept n gs) ≡ gs)) →
        Both (cond q (n ∷ g ∷ gs) (g ∷ with_kept n gs))
    by true i more =
        let e = eqb-refl n.offset in (
          ap (λ y. cond y (Some n) (kept_at (g ∷ gs) n.offset)) e,
          ap (λ y. cond y (g ∷ gs) (n ∷ without_kept n.offset (g ∷ gs))) e,
        )
    by false i more =
        let rest = more i.3 in
        let behind = placed_behind (kept_end g) capacity n gs i.3 in
        let some = footprint_some g.size in
        let ne : g.offset ≢ n.offset = omega (arith, behind, some) in
        let e = eqb-other g.offset n.offset ne in (
          ap (λ y. cond y (Some g) (kept_at (with_kept n gs) n.offset)) e ∙ rest.0,
          ap (λ y. cond y (with_kept n gs) (g ∷ without_kept n.offset (with_kept n gs))) e ∙ ap (λ hs. g ∷ hs) rest.1,
        )

-- ---- the laws of areas that stand

-- it begins empty, whatever the bytes were
pub area_made :
    (k : Keeper) (t : List Template) → Keeps k → (capacity : ℕ) (bytes : List ℕ) → capacity % 16 ≡ 0 →
    capacity ≤ greatest_capacity → length bytes ≡ k.bytes_for capacity →
    AreaStands k t (record { capacity = capacity; placed = [] }) (k.made capacity bytes)
    × (length (k.made capacity bytes) ≡ length bytes)
area_made k t keeps capacity bytes a b c =
    let m = keeps.making.made capacity bytes a b c in
    (record { kept = []; stands = m.stands; are = tt }, m.as_many)

pub area_emptied :
    (k : Keeper) (t : List Template) → Keeps k → (a : AreaContents) (bytes : List ℕ) → AreaStands k t a bytes →
    AreaStands k t (with_placed_in a []) (k.emptied bytes) × (length (k.emptied bytes) ≡ length bytes)
area_emptied k t keeps a bytes is =
    let m = keeps.making.emptied bytes (record { capacity = a.capacity; placed = is.kept }) is.stands in
    (record { kept = []; stands = m.stands; are = tt }, m.as_many)

-- a write in the data of one
pub area_stored :
    (k : Keeper) (t : List Template) → Keeps k → (a : AreaContents) (bytes : List ℕ) (o : ℕ) (g : Generation)
    (change : Generation → Generation) (b : List ℕ) (x : ℕ) →
    AreaStands k t a bytes → placed_at a.placed o ≡ Some g → x + length b ≤ size_of g →
    (change g).shape ≡ g.shape → (change g).extent ≡ g.extent →
    Reads (change g) (with_part b x (part (k.data_at o bytes) (size_of g) bytes)) →
    AreaStands k t (with_placed_in a (changed_at o change a.placed)) (with_part b (k.data_at o bytes + x) bytes)
    × (k.data_at o (with_part b (k.data_at o bytes + x) bytes) ≡ k.data_at o bytes)
area_stored k t keeps a bytes o g change b x is e room shape extent reads =
    (record { kept = is.kept; stands = leaves.becomes.stands; are = changed }, w.1)
  where
    area : KeptArea
    area = record { capacity = a.capacity; placed = is.kept }

    f :
        (c : Kept) × (kept_at is.kept o ≡ Some c) × (c.offset ≡ o)
        × IsKept k t bytes c (record { offset = o; generation = g })
    f = found k t bytes is.kept a.placed o g is.are e

    new : List ℕ
    new = with_part b (k.data_at o bytes + x) bytes

    fits : k.data_at o bytes + x + length b ≤ k.data_at o bytes + f.0.size
    fits = let s = f.3.size in omega (arith, room, s)

    w :
        Leaves k (without_kept o is.kept) a.capacity is.kept bytes (with_part b (k.data_at o bytes + x) bytes)
        × (k.data_at o (with_part b (k.data_at o bytes + x) bytes) ≡ k.data_at o bytes)
    w = keeps.writing.written bytes area o f.0 b (k.data_at o bytes + x) is.stands f.1 (omega arith) fits

    leaves : Leaves k (without_kept o is.kept) a.capacity is.kept bytes (with_part b (k.data_at o bytes + x) bytes)
    leaves = w.0

    inside : k.data_at o bytes + f.0.size ≤ length bytes
    inside = keeps.writing.within bytes area o f.0 is.stands f.1

    own_bytes :
        data_of k f.0 (with_part b (k.data_at o bytes + x) bytes)
        ≡ with_part b x (part (k.data_at o bytes) (size_of g) bytes)
    own_bytes =
        let s = f.3.size in
        ap (λ i. part (k.data_at i (with_part b (k.data_at o bytes + x) bytes)) f.0.size
        (with_part b (k.data_at o bytes + x) bytes)) f.2
        ∙ ap (λ i. part i f.0.size (with_part b (k.data_at o bytes + x) bytes)) w.1
        ∙ ap (λ i. part (k.data_at o bytes) i (with_part b (k.data_at o bytes + x) bytes)) s
        ∙ part_around (k.data_at o bytes) (size_of g) b x bytes room (omega (arith, inside, s))

    own : IsKept k t (with_part b (k.data_at o bytes + x) bytes) f.0 (record { offset = o; generation = change g })
    own =
        record {
          offset = f.2;
          size = f.3.size ∙ sizes;
          extent = f.3.extent ∙ sym extent;
          shape = f.3.shape ∙ ap Some (sym shape);
          reads = subst (Reads (change g)) (sym own_bytes) reads;
        }
      where
        sizes : size_of g ≡ size_of (change g)
        sizes = cc (shape, extent)

    changed : AreKept k t (with_part b (k.data_at o bytes + x) bytes) is.kept (changed_at o change a.placed)
    changed =
        are_changed k t bytes (with_part b (k.data_at o bytes + x) bytes) is.kept a.placed o f.0 g change
        leaves.data_stay f.1 e own is.are

-- a new one in the least gap: its header by the keeper, then its data
pub area_placed :
    (k : Keeper) (t : List Template) → Keeps k → (a : AreaContents) (bytes : List ℕ) (g : Generation) (signature o : ℕ)
    (spelled : List ℕ) →
    AreaStands k t a bytes → gap a.capacity (footprint_of g) a.placed ≡ Some o → signature < 2 ^ 32 →
    FitsSigned w32 g.extent →
    shape_at t signature ≡ Some g.shape → length spelled ≡ size_of g → Reads g spelled →
    (new : List ℕ) × (k.allocated (size_of g) signature g.extent bytes ≡ Some (o, new)) × (length new ≡ length bytes)
    × (k.data_at o new + size_of g ≤ length bytes)
    × AreaStands k t (with_placed_in a (with_placed (record { offset = o; generation = g }) a.placed))
    (with_part spelled (k.data_at o new) new)
area_placed k t keeps a bytes g signature o spelled is e small fits shape long reads = (
  new,
  p.1,
  leaves.becomes.as_many,
  room,
  record {
    kept = with_kept n is.kept;
    stands = w.0.becomes.stands;
    are =
        are;
  },
)
  where
    area : KeptArea
    area = record { capacity = a.capacity; placed = is.kept }

    n : Kept
    n = kept_as o (size_of g) signature g.extent

    p :
        (new : List ℕ) × (k.allocated (size_of g) signature g.extent bytes ≡ Some (o, new))
        × Leaves k is.kept a.capacity (with_kept n is.kept) bytes new
    p =
        keeps.allocating.placed (size_of g) signature g.extent bytes area a.placed o is.stands
        (alike k t bytes is.kept a.placed is.are) small fits e

    new : List ℕ
    new = p.0

    leaves : Leaves k is.kept a.capacity (with_kept n is.kept) bytes p.0
    leaves = p.2

    bigger : KeptArea
    bigger = record { capacity = a.capacity; placed = with_kept n is.kept }

    there : (kept_at (with_kept n is.kept) o ≡ Some n) × (without_kept o (with_kept n is.kept) ≡ is.kept)
    there = kept_placed 0 a.capacity n is.kept (keeps.order.ordered p.0 bigger leaves.becomes.stands)

    within : k.data_at o p.0 + size_of g ≤ length p.0
    within = keeps.writing.within p.0 bigger o n leaves.becomes.stands there.0

    room : k.data_at o p.0 + size_of g ≤ length bytes
    room = let l = leaves.becomes.as_many in omega (arith, within, l)

    w :
        Leaves k (without_kept o (with_kept n is.kept)) a.capacity (with_kept n is.kept) p.0
        (with_part spelled (k.data_at o p.0) p.0) × (k.data_at o (with_part spelled (k.data_at o p.0) p.0)
        ≡ k.data_at o p.0)
    w =
        keeps.writing.written p.0 bigger o n spelled (k.data_at o p.0) leaves.becomes.stands there.0 (omega arith)
        (omega (arith, long))

    others : AreKept k t (with_part spelled (k.data_at o p.0) p.0) is.kept a.placed
    others =
        are_same k t p.0 (with_part spelled (k.data_at o p.0) p.0) is.kept a.placed
        (subst (λ gs. SameData k gs p.0 (with_part spelled (k.data_at o p.0) p.0)) there.1 w.0.data_stay)
        (are_same k t bytes p.0 is.kept a.placed leaves.data_stay is.are)

    own_data : data_of k n (with_part spelled (k.data_at o p.0) p.0) ≡ spelled
    own_data =
        ap (λ i. part i (size_of g) (with_part spelled (k.data_at o p.0) p.0)) w.1
        ∙ ap (λ i. part (k.data_at o p.0) i (with_part spelled (k.data_at o p.0) p.0)) (sym long)
        ∙ part_written spelled (k.data_at o p.0) p.0 (omega (arith, within, long))

    are :
        AreKept k t (with_part spelled (k.data_at o p.0) p.0) (with_kept n is.kept)
        (with_placed (record { offset = o; generation = g }) a.placed)
    are =
        are_with k t (with_part spelled (k.data_at o p.0) p.0) is.kept a.placed n
        (record { offset = o; generation = g })
        (record {
          offset = refl;
          size = refl;
          extent = refl;
          shape = shape;
          reads =
              subst (Reads g) (sym own_data) reads;
        })
        others

-- no gap
pub area_full :
    (k : Keeper) (t : List Template) → Keeps k → (a : AreaContents) (bytes : List ℕ) (g : Generation) (signature : ℕ) →
    AreaStands k t a bytes → gap a.capacity (footprint_of g) a.placed ≡ None →
    k.allocated (size_of g) signature g.extent bytes ≡ None
area_full k t keeps a bytes g signature is e =
    keeps.allocating.refused (size_of g) signature g.extent bytes
    (record { capacity = a.capacity; placed = is.kept }) a.placed is.stands (alike k t bytes is.kept a.placed is.are) e

-- one is freed, by the number of its signature
pub area_freed :
    (k : Keeper) (t : List Template) → Keeps k → (a : AreaContents) (bytes : List ℕ) (o : ℕ) (g : Generation)
    (is : AreaStands k t a bytes) →
    (e : placed_at a.placed o ≡ Some g) →
    (new : List ℕ) × (k.freed o (found k t bytes is.kept a.placed o g is.are e).0.signature bytes ≡ Some new)
    × (length new ≡ length bytes)
    × AreaStands k t (with_placed_in a (without_offset o a.placed)) new
area_freed k t keeps a bytes o g is e =
    let f = found k t bytes is.kept a.placed o g is.are e in
    let r = keeps.freeing.freed o f.0.signature bytes (record { capacity = a.capacity; placed = is.kept }) f.0 is.stands
    f.1 refl in (
      r.0,
      r.1,
      r.2.becomes.as_many,
      record {
        kept = without_kept o is.kept;
        stands = r.2.becomes.stands;
        are = are_without k t bytes r.0 is.kept a.placed o r.2.data_stay is.are;
      },
    )

-- an area with another's generations
pub area_copied :
    (k : Keeper) (t : List Template) → Keeps k → (a c : AreaContents) (from to : List ℕ) → AreaStands k t a from →
    AreaStands k t c to →
    greatest_end a.placed ≤ c.capacity →
    (new : List ℕ) × (k.copied from to ≡ Some new) × (length new ≡ length to)
    × AreaStands k t (with_placed_in c a.placed) new
area_copied k t keeps a c from to is into small =
    let r = keeps.copying.copied from to (record { capacity = a.capacity; placed = is.kept })
    (record { capacity = c.capacity; placed = into.kept }) a.placed is.stands into.stands
    (alike k t from is.kept a.placed is.are) small in (
      r.0,
      r.1,
      r.2.as_many,
      record {
        kept = is.kept;
        stands = r.2.stands;
        are =
            are_same k t from r.0 is.kept a.placed r.3 is.are;
      },
    )

pub area_refused :
    (k : Keeper) (t : List Template) → Keeps k → (a c : AreaContents) (from to : List ℕ) → AreaStands k t a from →
    AreaStands k t c to →
    c.capacity < greatest_end a.placed → k.copied from to ≡ None
area_refused k t keeps a c from to is into small =
    keeps.copying.refused from to (record { capacity = a.capacity; placed = is.kept })
    (record { capacity = c.capacity; placed = into.kept }) a.placed is.stands into.stands
    (alike k t from is.kept a.placed is.are) small
