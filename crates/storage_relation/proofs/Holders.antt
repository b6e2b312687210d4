-- What lives by its serial, after the storage machine's changes.
use Rattle.std.proofs.Common.{◌≡◌, ◌≢◌, ℕ, List, [], ◌∷◌, Option, Some, None, Bool, true, false, refl, sym, ap, ◌∙◌}
use Rattle.std.proofs.lemmas.Bool.{eqb-true, eq-eqb}
use Rattle.std.specs.Prelude.{cond, ◌==◌}
use Rattle.pli_typing.specs.Signatures.{LeafKind, Fixed, Character, Varying, Bit, Pointer, Offset, Area, Leaf}
use Rattle.pli_meaning.specs.Contents.{Generation, Placed}
use Rattle.pli_meaning.specs.StorageState.{State, Living, AreaContents, area_of_kind, area_of_leaves, living_of}
use Rattle.pli_meaning.specs.StorageState.{living_changed, area_changed, generation_changed, with_area, heap_serial}
use Rattle.pli_meaning.specs.StorageState.{heap_capacity}
use Rattle.storage_relation.specs.Standing.{Holder, holder_by, holder_of, holder_in, heap_holder, held, Alone, AreaOf}
use Rattle.storage_relation.specs.Stored.{with_placed_in}

pub eqb-refl : (n : ℕ) → (n == n) ≡ true
eqb-refl n = eq-eqb n n refl

pub eqb-other : (i j : ℕ) → i ≢ j → (i == j) ≡ false
eqb-other i j ne = by_test (i == j) refl
  where
    by_test : (t : Bool) → (i == j) ≡ t → t ≡ false
    by_test true e = absurd (ne (eqb-true i j e))
    by_test false e = refl

-- ---- lookups

pub living_of-changed :
    (n : ℕ) (change : Living → Living) (ls : List Living) (l : Living) → ((x : Living) → (change x).serial ≡ x.serial) →
    living_of ls n ≡ Some l → living_of (living_changed n change ls) n ≡ Some (change l)
living_of-changed n change [] l same e = absurd (cc e)
living_of-changed n change (x ∷ ls) l same e =
    by_test (x.serial == n) refl e (λ f. living_of-changed n change ls l same f)
  where
    by_test :
        (t : Bool) → (x.serial == n) ≡ t → cond t (Some x) (living_of ls n) ≡ Some l →
        (living_of ls n ≡ Some l → living_of (living_changed n change ls) n ≡ Some (change l)) →
        living_of (cond t (change x ∷ ls) (x ∷ living_changed n change ls)) n ≡ Some (change l)
    by_test true t e rest =
        let f : x ≡ l = cc e in
        let s : ((change x).serial == n) ≡ true = ap (λ y. y == n) (same x) ∙ t in
        ap (λ q. cond q (Some (change x)) (living_of ls n)) s ∙ ap (λ y. Some (change y)) f
    by_test false t e rest = ap (λ q. cond q (Some x) (living_of (living_changed n change ls) n)) t ∙ rest e

pub living_of-others :
    (n j : ℕ) (change : Living → Living) (ls : List Living) → ((x : Living) → (change x).serial ≡ x.serial) → j ≢ n →
    living_of (living_changed n change ls) j ≡ living_of ls j
living_of-others n j change [] same ne = refl
living_of-others n j change (x ∷ ls) same ne = by_test (x.serial == n) refl (living_of-others n j change ls same ne)
  where
    by_test :
        (t : Bool) → (x.serial == n) ≡ t → living_of (living_changed n change ls) j ≡ living_of ls j →
        living_of (cond t (change x ∷ ls) (x ∷ living_changed n change ls)) j ≡ living_of (x ∷ ls) j
    by_test true t rest =
        let xn : x.serial ≡ n = eqb-true x.serial n t in
        let a : (x.serial == j) ≡ false = eqb-other x.serial j (λ e. ne (sym e ∙ xn)) in
        let b : ((change x).serial == j) ≡ false = ap (λ y. y == j) (same x) ∙ a in
        ap (λ q. cond q (Some (change x)) (living_of ls j)) b ∙ sym (ap (λ q. cond q (Some x) (living_of ls j)) a)
    by_test false t rest = ap (λ r. cond (x.serial == j) (Some x) r) rest

-- ---- areas among leaves

kind_of_area :
    (kind : LeafKind) (ps qs : List Placed) (a : AreaContents) → area_of_kind kind ps ≡ Some a →
    (a.placed ≡ ps) × (area_of_kind kind qs ≡ Some (record { capacity = a.capacity; placed = qs }))
kind_of_area (Area n) ps qs a e =
    let f : record { capacity = n; placed = ps } ≡ a = cc e in (
      ap (λ (x : AreaContents). x.placed) (sym f),
      ap (λ (x : AreaContents). Some
          (record { capacity = x.capacity; placed = qs })) f,
    )
kind_of_area (Fixed p) ps qs a e = absurd (cc e)
kind_of_area (Character p) ps qs a e = absurd (cc e)
kind_of_area (Varying p) ps qs a e = absurd (cc e)
kind_of_area Bit ps qs a e = absurd (cc e)
kind_of_area Pointer ps qs a e = absurd (cc e)
kind_of_area Offset ps qs a e = absurd (cc e)

pub area_of-other :
    (leaves : List Leaf) (ps qs : List Placed) (a : AreaContents) → area_of_leaves leaves ps ≡ Some a →
    (a.placed ≡ ps) × (area_of_leaves leaves qs ≡ Some (record { capacity = a.capacity; placed = qs }))
area_of-other [] ps qs a e = absurd (cc e)
area_of-other (l ∷ []) ps qs a e = kind_of_area l.kind ps qs a e
area_of-other (l ∷ m ∷ ls) ps qs a e = absurd (cc e)

-- ---- holders

pub is_area :
    (l : Living) (a : AreaContents) → holder_of l ≡ AreaOf a →
    area_of_leaves l.generation.shape.signature.leaves l.placed ≡ Some a
is_area l a e = by (area_of_leaves l.generation.shape.signature.leaves l.placed) e
  where
    by : (o : Option AreaContents) → holder_by l.generation o ≡ AreaOf a → o ≡ Some a
    by None e = absurd (cc e)
    by (Some b) e = let f : b ≡ a = cc e in ap Some f

pub is_alone :
    (l : Living) (g : Generation) → holder_of l ≡ Alone g →
    (area_of_leaves l.generation.shape.signature.leaves l.placed ≡ None) × (l.generation ≡ g)
is_alone l g e = by (area_of_leaves l.generation.shape.signature.leaves l.placed) e
  where
    by : (o : Option AreaContents) → holder_by l.generation o ≡ Alone g → (o ≡ None) × (l.generation ≡ g)
    by None e = let f : l.generation ≡ g = cc e in (refl, f)
    by (Some b) e = absurd (cc e)

pub holder_some :
    (o : Option Living) (h : Holder) → holder_in o ≡ Some h → (l : Living) × (o ≡ Some l) × (holder_of l ≡ h)
holder_some None h e = absurd (cc e)
holder_some (Some l) h e = let f : holder_of l ≡ h = cc e in (l, refl, f)

pub held-living : (s : State) (n : ℕ) → n ≢ heap_serial → held s n ≡ holder_in (living_of s.living n)
held-living s n ne =
    ap (λ q. cond q (Some (heap_holder s.heap)) (holder_in (living_of s.living n))) (eqb-other n heap_serial ne)

-- ---- an area's generations become others

area_held-by :
    (s : State) (n : ℕ) (change : List Placed → List Placed) (a : AreaContents) (t : Bool) → (n == heap_serial) ≡ t →
    held s n ≡ Some (AreaOf a) → held (with_area n change s) n ≡ Some (AreaOf (with_placed_in a (change a.placed)))
area_held-by s n change a true t e =
    let zero' : n ≡ 0 = eqb-true n heap_serial t in
    let f : Some (heap_holder s.heap) ≡ Some (AreaOf a) =
    sym (ap (λ q. cond q (Some (heap_holder s.heap)) (holder_in (living_of s.living n))) t) ∙ e in
    let g : record { capacity = heap_capacity; placed = s.heap } ≡ a = cc f in
    let step : with_area n change s ≡ record s { heap = change s.heap } =
    ap (λ q. cond q (record s { heap = change s.heap }) (record s {
      living =
          living_changed n (area_changed change) s.living;
    })) t in
    ap (λ u. held u n) step
    ∙ ap (λ q. cond q (Some (heap_holder (change s.heap))) (holder_in (living_of s.living n))) t
    ∙ ap (λ (b : AreaContents). Some (AreaOf (with_placed_in b (change b.placed)))) g
area_held-by s n change a false t e =
    let f : holder_in (living_of s.living n) ≡ Some (AreaOf a) =
    sym (ap (λ q. cond q (Some (heap_holder s.heap)) (holder_in (living_of s.living n))) t) ∙ e in
    let there = holder_some (living_of s.living n) (AreaOf a) f in
    let l = there.0 in
    let area = is_area l a there.2 in
    let other = area_of-other l.generation.shape.signature.leaves l.placed (change l.placed) a area in
    let step : with_area n change s ≡ record s { living = living_changed n (area_changed change) s.living } =
    ap (λ q. cond q (record s { heap = change s.heap }) (record s {
      living =
          living_changed n (area_changed change) s.living;
    })) t in
    ap (λ u. held u n) step
    ∙ ap (λ q. cond q (Some (heap_holder s.heap)) (holder_in
    (living_of (living_changed n (area_changed change) s.living) n))) t
    ∙ ap holder_in (living_of-changed n (area_changed change) s.living l (λ x. refl) there.1)
    ∙ ap (λ o. Some (holder_by l.generation o)) other.1
    ∙ ap (λ ps. Some (AreaOf (with_placed_in a (change ps)))) (sym other.0)

pub area_held :
    (s : State) (n : ℕ) (change : List Placed → List Placed) (a : AreaContents) → held s n ≡ Some (AreaOf a) →
    held (with_area n change s) n ≡ Some (AreaOf (with_placed_in a (change a.placed)))
area_held s n change a e = area_held-by s n change a (n == heap_serial) refl e

others_held-by :
    (s : State) (n j : ℕ) (change : List Placed → List Placed) (t u : Bool) → (n == heap_serial) ≡ t →
    (j == heap_serial) ≡ u → j ≢ n →
    held (with_area n change s) j ≡ held s j
others_held-by s n j change true true t u ne = absurd (ne (eqb-true j heap_serial u ∙ sym (eqb-true n heap_serial t)))
others_held-by s n j change true false t u ne =
    let step : with_area n change s ≡ record s { heap = change s.heap } =
    ap (λ q. cond q (record s { heap = change s.heap }) (record s {
      living =
          living_changed n (area_changed change) s.living;
    })) t in
    ap (λ w. held w j) step
    ∙ ap (λ q. cond q (Some (heap_holder (change s.heap))) (holder_in (living_of s.living j))) u
    ∙ sym (ap (λ q. cond q (Some (heap_holder s.heap)) (holder_in (living_of s.living j))) u)
others_held-by s n j change false u t v ne =
    let step : with_area n change s ≡ record s { living = living_changed n (area_changed change) s.living } =
    ap (λ q. cond q (record s { heap = change s.heap }) (record s {
      living =
          living_changed n (area_changed change) s.living;
    })) t in
    ap (λ w. held w j) step
    ∙ ap (λ o. cond (j == heap_serial) (Some (heap_holder s.heap)) (holder_in o))
    (living_of-others n j (area_changed change) s.living (λ x. refl) ne)

pub others_held :
    (s : State) (n j : ℕ) (change : List Placed → List Placed) → j ≢ n → held (with_area n change s) j ≡ held s j
others_held s n j change ne = others_held-by s n j change (n == heap_serial) (j == heap_serial) refl refl ne

-- ---- a generation by itself becomes another

abbrev pub with_alone : ℕ → (Generation → Generation) → State → State
with_alone n change s = record s { living = living_changed n (generation_changed change) s.living }

alone_held-by :
    (s : State) (n : ℕ) (change : Generation → Generation) (g : Generation) (t : Bool) → (n == heap_serial) ≡ t →
    ((x : Generation) → (change x).shape ≡ x.shape) →
    held s n ≡ Some (Alone g) → held (with_alone n change s) n ≡ Some (Alone (change g))
alone_held-by s n change g true t keeps e =
    absurd (cc (sym (ap (λ q. cond q (Some (heap_holder s.heap)) (holder_in (living_of s.living n))) t) ∙ e))
alone_held-by s n change g false t keeps e =
    let f : holder_in (living_of s.living n) ≡ Some (Alone g) =
    sym (ap (λ q. cond q (Some (heap_holder s.heap)) (holder_in (living_of s.living n))) t) ∙ e in
    let there = holder_some (living_of s.living n) (Alone g) f in
    let l = there.0 in
    let alone = is_alone l g there.2 in
    ap (λ q. cond q (Some (heap_holder s.heap)) (holder_in
    (living_of (living_changed n (generation_changed change) s.living) n))) t
    ∙ ap holder_in (living_of-changed n (generation_changed change) s.living l (λ x. refl) there.1)
    ∙ ap (λ shape. Some (holder_by (change l.generation) (area_of_leaves shape.signature.leaves l.placed)))
    (keeps l.generation)
    ∙ ap (λ o. Some (holder_by (change l.generation) o)) alone.0
    ∙ ap (λ x. Some (Alone (change x))) alone.1

pub alone_held :
    (s : State) (n : ℕ) (change : Generation → Generation) (g : Generation) →
    ((x : Generation) → (change x).shape ≡ x.shape) →
    held s n ≡ Some (Alone g) → held (with_alone n change s) n ≡ Some (Alone (change g))
alone_held s n change g keeps e = alone_held-by s n change g (n == heap_serial) refl keeps e

pub others_alone :
    (s : State) (n j : ℕ) (change : Generation → Generation) → j ≢ n → held (with_alone n change s) j ≡ held s j
others_alone s n j change ne =
    ap (λ o. cond (j == heap_serial) (Some (heap_holder s.heap)) (holder_in o))
    (living_of-others n j (generation_changed change) s.living (λ x. refl) ne)
