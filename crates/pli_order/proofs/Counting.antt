-- The counts of elements are right, as far as they are capped.
use Rattle.std.proofs.Common.{zero, suc, ◌≡◌, ◌≤◌, ◌<◌, inl, inr, ℕ, ◌+◌, ◌-◌, ◌*◌, ◌/◌, ◌%◌, ◌^◌, get_or, length, drop, take, List, [], ◌∷◌, ◌++◌, Bool, true, false, if◌then◌else◌, refl, sym, ap, ◌∙◌, arith}
use Rattle.std.specs.Prelude.{nat_lt}
use Rattle.std.proofs.lemmas.Bool.Decides.{nat_tests}
use Rattle.std.proofs.lemmas.List.{get_or_past, take_at}
use Rattle.std.proofs.Math.Nat.{div-eq_of_lt, mod-eq_of_lt}
use Rattle.pli_typing.specs.Signatures.{Leaf, capped}
use Rattle.pli_meaning.specs.StreamOrder.{bounds_of_leaf}
use Rattle.pli_signatures.proofs.Capping.{capped_few, capped_times, few_or_many}
use Rattle.pli_order.specs.Counts.{count_each, count_in, leaves_each, row_count}
use Rattle.pli_order.specs.Counted.{beside_by, count_of, counted, each_by, rows_of}
use Rattle.pli_order.specs.Notes.{AreNoted, noted}
use Rattle.pli_order.specs.declared.note.Note.{Note}
use Rattle.pli_order.proofs.Elements.{count_apart, own_count}
use Rattle.pli_order.proofs.Noting.{none_noted}

-- ---- lists of counts

pub count_past : (cs : List ℕ) (n : ℕ) → length cs ≤ n → 0 ≡ get_or cs n 0
count_past cs n h = sym (get_or_past cs n 0 h)

pub one_each : (inside : ℕ) (cs : List ℕ) → inside ≡ 0 → 1 ≡ each_by inside cs
one_each inside cs e = sym (ap (λ i. each_by i cs) e)

pub some_each : (inside r : ℕ) (cs : List ℕ) → (inside ≡ 0 → ⊥) → r ≡ get_or cs 0 0 → r ≡ each_by inside cs
some_each zero r cs n e = absurd (n refl)
some_each (suc inside) r cs n e = e

pub count_so : (n : Note) (leaves : List Leaf) (cs : List ℕ) (rows each beside own total : ℕ) → rows ≡ capped (rows_of n leaves) → each ≡ each_by n.part.inside cs → beside ≡ beside_by n cs → own ≡ capped (rows * each) → total ≡ capped (own + beside) → total ≡ count_of n leaves cs
count_so n leaves cs rows each beside own total r e b o t =
    t
    ∙ ap (λ k. capped (k + beside)) o
    ∙ ap (λ k. capped (capped (k * each) + beside)) r
    ∙ ap (λ k. capped (capped (capped (rows_of n leaves) * k) + beside)) e
    ∙ ap (λ k. capped (capped (capped (rows_of n leaves) * each_by n.part.inside cs) + k)) b

pub some_beside : (n : Note) (cs : List ℕ) (r : ℕ) → n.part.inside + 1 < n.size → r ≡ get_or cs n.part.inside 0 → r ≡ beside_by n cs
some_beside n cs r h e =
    let yes : nat_lt (n.part.inside + 1) n.size ≡ true = grind (arith, nat_tests, h) in
    e ∙ ap (λ (b : Bool). if b then get_or cs n.part.inside 0 else 0) (sym yes)

pub none_beside : (n : Note) (cs : List ℕ) → n.size ≤ n.part.inside + 1 → 0 ≡ beside_by n cs
none_beside n cs h =
    let no : nat_lt (n.part.inside + 1) n.size ≡ false = grind (arith, nat_tests, h) in
    ap (λ (b : Bool). if b then get_or cs n.part.inside 0 else 0) (sym no)

pub counted_drop : (ns : List Note) (leaves : List Leaf) (k : ℕ) → drop k (counted ns leaves) ≡ counted (drop k ns) leaves
counted_drop ns leaves zero = refl
counted_drop [] leaves (suc k) = refl
counted_drop (n ∷ ns) leaves (suc k) = counted_drop ns leaves k

pub counted_length : (ns : List Note) (leaves : List Leaf) → length (counted ns leaves) ≡ length ns
counted_length [] leaves = refl
counted_length (n ∷ ns) leaves = ap suc (counted_length ns leaves)

-- ---- caps

capped_swap : (a b : ℕ) → capped (a * b) ≡ capped (b * a + 0)
capped_swap a b = omega arith

capped_zero : (a b : ℕ) → capped (a * b + 0) ≡ capped (a * b)
capped_zero a b = omega arith

pub both_capped : (a b : ℕ) → capped (capped a * capped b) ≡ capped (a * b)
both_capped a b =
    sym (capped_zero (capped a) (capped b))
    ∙ capped_times a (capped b) 0
    ∙ capped_zero a (capped b)
    ∙ capped_swap a (capped b)
    ∙ capped_times b a 0
    ∙ sym (capped_swap a b)

sums_capped : (a b : ℕ) → capped (capped a + capped b) ≡ capped (a + b)
sums_capped a b = omega arith

pub small_capped : (p number : ℕ) → number < 2 ^ 64 - 1 → number < capped p → number < p
small_capped p number s h = omega (arith, h)

pub small_past : (p number rest : ℕ) → number < 2 ^ 64 - 1 → capped p ≤ number → capped p + rest ≡ number → p ≤ number
small_past p number rest s h e = omega (arith, s, h, e)

pub small_rest : (p number rest : ℕ) → number < 2 ^ 64 - 1 → capped p ≤ number → capped p + rest ≡ number → rest ≡ number - p
small_rest p number rest s h e = omega (arith, s, h, e)

pub same_row : (number each : ℕ) → number < 2 ^ 64 - 1 → number / capped each ≡ number / each
same_row number each s = elim (few_or_many each) [
  | inl few ↦ ap (λ k. number / k) (capped_few each few)
  | inr many ↦
      let much : number < capped each = omega (arith, s, many) in
      let more : number < each = omega (arith, s, many) in
      div-eq_of_lt much ∙ sym (div-eq_of_lt more)
]

pub same_rest : (number each : ℕ) → number < 2 ^ 64 - 1 → number % capped each ≡ number % each
same_rest number each s = elim (few_or_many each) [
  | inl few ↦ ap (λ k. number % k) (capped_few each few)
  | inr many ↦
      let much : number < capped each = omega (arith, s, many) in
      let more : number < each = omega (arith, s, many) in
      mod-eq_of_lt much ∙ sym (mod-eq_of_lt more)
]

-- ---- the counts of noted parts

-- the count at a place, where there are so many parts from it on
abbrev pub count_from : List ℕ → (skip size : ℕ) → ℕ
count_from cs skip zero = 0
count_from cs skip (suc size) = get_or cs skip 0

no_elements : (leaf : ℕ) (leaves : List Leaf) (before : ℕ) (ns : List Note) → 0 ≡ capped (count_in (noted ns 0 0) leaf leaves before)
no_elements leaf leaves before ns = none ∙ ap (λ nest. capped (count_in nest leaf leaves before)) (sym (none_noted ns))
  where
    none : 0 ≡ capped 0
    none = omega arith

each_so : (i : ℕ) (ns : List Note) (leaf : ℕ) (leaves : List Leaf) (before : ℕ) → AreNoted ns 0 i before leaf → count_from (counted ns leaves) 0 i ≡ capped (count_in (noted ns 0 i) leaf leaves before)
    → each_by i (counted ns leaves) ≡ capped (count_each (noted ns 0 i) leaf leaves before)
each_so zero ns leaf leaves before h e = one ∙ ap (λ nest. capped (count_each nest leaf leaves before)) (sym (none_noted ns))
  where
    one : 1 ≡ capped 1
    one = omega arith
each_so (suc i) [] leaf leaves before h e = absurd h
each_so (suc i) (n ∷ ns) leaf leaves before h e = e

beside_so : (n : Note) (cs : List ℕ) (size left : ℕ) → n.size ≡ suc size → n.part.inside ≤ size → size - n.part.inside ≡ left → beside_by n cs ≡ count_from cs n.part.inside left
beside_so n cs size zero e low l = sym (none_beside n cs (omega (arith, e, low, l)))
beside_so n cs size (suc left) e low l = sym (some_beside n cs (get_or cs n.part.inside 0) (omega (arith, e, low, l)) refl)

one_count : (n : Note) (ns : List Note) (size before leaf : ℕ) (leaves : List Leaf) → AreNoted (n ∷ ns) 0 (suc size) before leaf
    → count_from (counted ns leaves) 0 n.part.inside ≡ capped (count_in (noted ns 0 n.part.inside) leaf leaves (n.part.dimensions + before))
    → count_from (counted ns leaves) n.part.inside (size - n.part.inside) ≡ capped (count_in (noted ns n.part.inside (size - n.part.inside)) (leaves_each (noted ns 0 n.part.inside) + leaf) leaves before)
    → count_of n leaves (counted ns leaves) ≡ capped (count_in (noted (n ∷ ns) 0 (suc size)) leaf leaves before)
one_count n ns size before leaf leaves h inner outer =
    let i = n.part.inside in
    let cs = counted ns leaves in
    let each = each_so i ns leaf leaves (n.part.dimensions + before) h.4 inner in
    let beside = beside_so n cs size (size - i) h.0 h.3 refl ∙ outer in
    let rows : rows_of n leaves ≡ row_count n.part.dimensions (bounds_of_leaf leaves leaf) before =
    ap (λ k. row_count n.part.dimensions (bounds_of_leaf leaves n.leaf) k) h.1 ∙ ap (λ l. row_count n.part.dimensions (bounds_of_leaf leaves l) before) h.2 in
    let own = own_count n.part.dimensions (noted ns 0 i) leaf leaves before in
    let behind = count_in (noted ns i (size - i)) (leaves_each (noted ns 0 i) + leaf) leaves before in
    ap (λ k. capped (capped (capped k * each_by i cs) + beside_by n cs)) rows
    ∙ ap (λ k. capped (capped (capped (row_count n.part.dimensions (bounds_of_leaf leaves leaf) before) * k) + beside_by n cs)) each
    ∙ ap (λ k. capped (k + beside_by n cs)) (both_capped (row_count n.part.dimensions (bounds_of_leaf leaves leaf) before) (count_each (noted ns 0 i) leaf leaves (n.part.dimensions + before)))
    ∙ ap (λ k. capped (capped own + k)) beside
    ∙ sums_capped own behind
    ∙ ap capped (sym (count_apart 0 n.part.dimensions (noted ns 0 i) (noted ns i (size - i)) leaf leaves before))

pub counts_so : (ns : List Note) (skip size before leaf : ℕ) (leaves : List Leaf) → AreNoted ns skip size before leaf → count_from (counted ns leaves) skip size ≡ capped (count_in (noted ns skip size) leaf leaves before)
counts_so [] skip zero before leaf leaves h = none
  where
    none : 0 ≡ capped 0
    none = omega arith
counts_so [] skip (suc size) before leaf leaves h = absurd h
counts_so (n ∷ ns) (suc skip) zero before leaf leaves h = counts_so ns skip zero before leaf leaves h
counts_so (n ∷ ns) (suc skip) (suc size) before leaf leaves h = counts_so ns skip (suc size) before leaf leaves h
counts_so (n ∷ ns) zero zero before leaf leaves h = no_elements leaf leaves before (n ∷ ns)
counts_so (n ∷ ns) zero (suc size) before leaf leaves h =
    one_count n ns size before leaf leaves h
    (counts_so ns 0 n.part.inside (n.part.dimensions + before) leaf leaves h.4)
    (counts_so ns n.part.inside (size - n.part.inside) before (leaves_each (noted ns 0 n.part.inside) + leaf) leaves h.5)

pub each_right : (ns : List Note) (i before leaf : ℕ) (leaves : List Leaf) → AreNoted ns 0 i before leaf → each_by i (counted ns leaves) ≡ capped (count_each (noted ns 0 i) leaf leaves before)
each_right ns i before leaf leaves h = each_so i ns leaf leaves before h (counts_so ns 0 i before leaf leaves h)

-- counts that were put into others
pub put_back : (new old items : List ℕ) (size : ℕ) (ns : List Note) (leaves : List Leaf) → new ≡ counted ns leaves → old ≡ items → length old ≡ length ns → size ≡ length items → take size (new ++ drop (length new) items) ≡ counted ns leaves
put_back new old items size ns leaves e o l s =
    let many : length new ≡ size = ap length e ∙ (counted_length ns leaves ∙ (sym l ∙ (ap length o ∙ sym s))) in
    take_at new (drop (length new) items) size many ∙ e
