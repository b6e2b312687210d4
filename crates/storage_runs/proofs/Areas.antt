-- The changes of a run keep the generations of every area in order and apart.
use Rattle.std.proofs.Common.{◌≡◌, ℕ, ◌+◌, ◌≤◌, List, [], ◌∷◌, Option, Some, None, Bool, true, false, refl, sym, ap}
use Rattle.std.proofs.Common.{◌∙◌}
use Rattle.std.proofs.Common.{subst, arith, ℤ}
use Rattle.std.specs.Prelude.{◌==◌, cond, ⊤}
use Rattle.std.proofs.lemmas.Bool.Decides.{nat_tests}
use Rattle.pli_typing.specs.Signatures.{LeafKind, Fixed, Character, Varying, Bit, Pointer, Offset, Area, Leaf}
use Rattle.pli_typing.specs.Signatures.{data_size, footprint}
use Rattle.pli_typing.specs.TypedTree as Y
use Rattle.pli_meaning.specs.BasicValues.{Name, NullName, VariableName, BasedName}
use Rattle.pli_meaning.specs.Contents.{Shape, Generation, footprint_of, leaves_with, Placed, end_of}
use Rattle.pli_meaning.specs.Contents.{IsOrdered}
use Rattle.pli_meaning.specs.Contents.{gap, without_offset, changed_at, greatest_end}
use Rattle.pli_meaning.specs.StorageState.{State, Living, Activation, AreaContents, heap_serial, heap_capacity}
use Rattle.pli_meaning.specs.StorageState.{living_of}
use Rattle.pli_meaning.specs.StorageState.{area_of_kind, area_of_leaves, area_in, area_at, living_changed}
use Rattle.pli_meaning.specs.StorageState.{area_changed}
use Rattle.pli_meaning.specs.StorageState.{with_area, generation_changed, with_generation, without_owner}
use Rattle.pli_meaning.specs.StorageState.{without_newest}
use Rattle.pli_meaning.specs.StorageState.{offsets_of}
use Rattle.pli_meaning.specs.DeclaredShapes.{shape_of}
use Rattle.pli_meaning.specs.Making.{static_made, statics_of_block, statics_from}
use Rattle.pli_meaning.specs.Placing.{placed_with, without_newest_of}
use Rattle.pli_meaning.specs.Laws.{FootprintsApart}
use Rattle.storage_runs.specs.Invariants.{Invariant, KeepsShape}
use Rattle.storage_runs.specs.AreasInOrder.{AreasInOrder, AreasStayInOrder}
use Rattle.storage_runs.proofs.Steps.{state_kept}
use Rattle.storage_runs.proofs.Runs.{run_keeps}

-- ---- what is kept: each that lives, and the heap

abbrev InOrder : Option AreaContents → Type 0
InOrder None = ⊤
InOrder (Some a) = IsOrdered 0 a.capacity a.placed

abbrev AllInOrder : List Living → Type 0
AllInOrder [] = ⊤
AllInOrder (l ∷ ls) = InOrder (area_in (Some l)) × AllInOrder ls

record Kept (s : State) : Type 0 where
  heap : IsOrdered 0 heap_capacity s.heap
  living : AllInOrder s.living

same_some : {X : Type 0} {x y : X} → Some x ≡ Some y → x ≡ y
same_some e = cc e

-- ---- one that lives

-- a change of what is placed in an area of these leaves
changed_by_kind : (kind : LeafKind) (old new : List Placed)
    → ((capacity : ℕ) → IsOrdered 0 capacity old → IsOrdered 0 capacity new) → InOrder (area_of_kind kind old)
    → InOrder (area_of_kind kind new)
changed_by_kind (Area n) old new c h = c n h
changed_by_kind (Fixed p) old new c h = tt
changed_by_kind (Character n) old new c h = tt
changed_by_kind (Varying n) old new c h = tt
changed_by_kind Bit old new c h = tt
changed_by_kind Pointer old new c h = tt
changed_by_kind Offset old new c h = tt

changed_by_leaves : (leaves : List Leaf) (old new : List Placed)
    → ((capacity : ℕ) → IsOrdered 0 capacity old → IsOrdered 0 capacity new) → InOrder (area_of_leaves leaves old)
    → InOrder (area_of_leaves leaves new)
changed_by_leaves [] old new c h = tt
changed_by_leaves (l ∷ []) old new c h = changed_by_kind l.kind old new c h
changed_by_leaves (l ∷ m ∷ ls) old new c h = tt

-- an area as it is found is the one of these leaves
found_by_kind : (kind : LeafKind) (old new : List Placed) (a : AreaContents) → area_of_kind kind old ≡ Some a
    → IsOrdered 0 a.capacity new → InOrder (area_of_kind kind new)
found_by_kind (Area n) old new a e h =
    let f : n ≡ a.capacity = ap (λ (x : AreaContents). x.capacity) (same_some e) in
    subst (λ c. IsOrdered 0 c new) (sym f) h
found_by_kind (Fixed p) old new a e h = tt
found_by_kind (Character n) old new a e h = tt
found_by_kind (Varying n) old new a e h = tt
found_by_kind Bit old new a e h = tt
found_by_kind Pointer old new a e h = tt
found_by_kind Offset old new a e h = tt

found_by_leaves : (leaves : List Leaf) (old new : List Placed) (a : AreaContents) → area_of_leaves leaves old ≡ Some a
    → IsOrdered 0 a.capacity new → InOrder (area_of_leaves leaves new)
found_by_leaves [] old new a e h = tt
found_by_leaves (l ∷ []) old new a e h = found_by_kind l.kind old new a e h
found_by_leaves (l ∷ m ∷ ls) old new a e h = tt

-- what is placed in an area that is found
placed_of : (kind : LeafKind) (placed : List Placed) (a : AreaContents) → area_of_kind kind placed ≡ Some a
    → placed ≡ a.placed
placed_of (Area n) placed a e = ap (λ (x : AreaContents). x.placed) (same_some e)
placed_of (Fixed p) placed a e = absurd (cc e)
placed_of (Character n) placed a e = absurd (cc e)
placed_of (Varying n) placed a e = absurd (cc e)
placed_of Bit placed a e = absurd (cc e)
placed_of Pointer placed a e = absurd (cc e)
placed_of Offset placed a e = absurd (cc e)

placed_in : (leaves : List Leaf) (placed : List Placed) (a : AreaContents) → area_of_leaves leaves placed ≡ Some a
    → placed ≡ a.placed
placed_in [] placed a e = absurd (cc e)
placed_in (l ∷ []) placed a e = placed_of l.kind placed a e
placed_in (l ∷ m ∷ ls) placed a e = absurd (cc e)

-- ---- those that live

-- the one of a serial changes, if there is one
living_kept : (serial : ℕ) (change : Living → Living) (ls : List Living)
    → ((l : Living) → living_of ls serial ≡ Some l → InOrder (area_in (Some l)) → InOrder (area_in (Some (change l))))
    → AllInOrder ls → AllInOrder (living_changed serial change ls)
living_kept serial change [] c h = tt
living_kept serial change (l ∷ ls) c h =
    by_test (l.serial == serial) refl
    (λ e. living_kept serial change ls (λ m f. c m (ap (λ t. cond t (Some l) (living_of ls serial)) e ∙ f)) h.1)
  where
    by_test : (t : Bool) → (l.serial == serial) ≡ t
        → ((l.serial == serial) ≡ false → AllInOrder (living_changed serial change ls))
        → AllInOrder (cond t (change l ∷ ls) (l ∷ living_changed serial change ls))
    by_test true e rest = (c l (ap (λ t. cond t (Some l) (living_of ls serial)) e) h.0, h.1)
    by_test false e rest = (h.0, rest e)

-- what is no area stays none
none_by_kind : (kind : LeafKind) (old new : List Placed) → area_of_kind kind old ≡ None
    → InOrder (area_of_kind kind new)
none_by_kind (Area n) old new e = absurd (cc e)
none_by_kind (Fixed p) old new e = tt
none_by_kind (Character n) old new e = tt
none_by_kind (Varying n) old new e = tt
none_by_kind Bit old new e = tt
none_by_kind Pointer old new e = tt
none_by_kind Offset old new e = tt

none_by_leaves : (leaves : List Leaf) (old new : List Placed) → area_of_leaves leaves old ≡ None
    → InOrder (area_of_leaves leaves new)
none_by_leaves [] old new e = tt
none_by_leaves (l ∷ []) old new e = none_by_kind l.kind old new e
none_by_leaves (l ∷ m ∷ ls) old new e = tt

-- an area's list changes: that of the heap, or of one that lives
abbrev area_found : State → (serial : ℕ) → Bool → Option AreaContents
area_found s serial t =
    cond t (Some (record { capacity = heap_capacity; placed = s.heap })) (area_in (living_of s.living serial))

area_kept : (serial : ℕ) (change : List Placed → List Placed) (s : State)
    → ((a : AreaContents) → area_at s serial ≡ Some a → IsOrdered 0 a.capacity a.placed
    → IsOrdered 0 a.capacity (change a.placed)) → Kept s → Kept (with_area serial change s)
area_kept serial change s c h = by_test (serial == heap_serial) refl
  where
    one : (l : Living) → area_found s serial (serial == heap_serial) ≡ area_in (Some l) → InOrder (area_in (Some l))
        → (o : Option AreaContents) → area_in (Some l) ≡ o → InOrder (area_in (Some (area_changed change l)))
    one l f i None g = none_by_leaves l.generation.shape.signature.leaves l.placed (change l.placed) g
    one l f i (Some a) g =
        let same : l.placed ≡ a.placed = placed_in l.generation.shape.signature.leaves l.placed a g in
        let old : IsOrdered 0 a.capacity a.placed = subst InOrder g i in
        found_by_leaves l.generation.shape.signature.leaves l.placed (change l.placed) a g
        (subst (λ ps. IsOrdered 0 a.capacity (change ps)) (sym same) (c a (f ∙ g) old))

    by_test : (t : Bool) → (serial == heap_serial) ≡ t
        → Kept (cond t (record s { heap = change s.heap })
        (record s { living = living_changed serial (area_changed change) s.living }))
    by_test true e =
        record {
          heap = c (record { capacity = heap_capacity; placed = s.heap }) (ap (area_found s serial) e) h.heap;
          living = h.living;
        }
    by_test false e =
        record {
          heap = h.heap;
          living = living_kept serial (area_changed change) s.living
              (λ l f i. one l (ap (area_found s serial) e ∙ ap area_in f) i (area_in (Some l)) refl) h.living;
        }

-- ---- values

same_footprint : (g h : Generation) → h.shape ≡ g.shape → h.extent ≡ g.extent → footprint_of h ≡ footprint_of g
same_footprint g h e f = ap (λ shape. footprint_by shape h.extent) e ∙ ap (λ z. footprint_by g.shape z) f
  where
    footprint_by : Shape → ℤ → ℕ
    footprint_by shape z =
        footprint (data_size (record { class = shape.signature.class; leaves = leaves_with z shape }))

-- a generation's values change where it is placed
valued_in_order : (start capacity o : ℕ) (change : Generation → Generation) (ps : List Placed) → KeepsShape change
    → IsOrdered start capacity ps → IsOrdered start capacity (changed_at o change ps)
valued_in_order start capacity o change [] k h = h
valued_in_order start capacity o change (p ∷ ps) k h =
    by_test (p.offset == o) refl (valued_in_order (end_of p) capacity o change ps k h.3)
  where
    new : Placed
    new = record { offset = p.offset; generation = change p.generation }

    same : footprint_of (change p.generation) ≡ footprint_of p.generation
    same = same_footprint p.generation (change p.generation) (k p.generation).0 (k p.generation).1

    placed : IsOrdered start capacity (new ∷ ps)
    placed = (
      h.0,
      h.1,
      subst (λ n. p.offset + n ≤ capacity) (sym same) h.2,
      subst (λ n. IsOrdered (p.offset + n) capacity ps) (sym same) h.3,
    )

    by_test : (t : Bool) → (p.offset == o) ≡ t → IsOrdered (end_of p) capacity (changed_at o change ps)
        → IsOrdered start capacity
        (cond t (record { offset = o; generation = change p.generation } ∷ ps) (p ∷ changed_at o change ps))
    by_test true e rest =
        let f : p.offset ≡ o = grind (arith, nat_tests) in
        subst (λ x. IsOrdered start capacity (record { offset = x; generation = change p.generation } ∷ ps)) f placed
    by_test false e rest = (h.0, h.1, h.2, rest)

valued_kept : (n : Name) (change : Generation → Generation) (s : State) → KeepsShape change → Kept s
    → Kept (with_generation n change s)
valued_kept NullName change s k h = h
valued_kept (VariableName serial) change s k h =
    record {
      heap = h.heap;
      living = living_kept serial (generation_changed change) s.living
          (λ l f i. subst (λ (shape : Shape). InOrder (area_of_leaves shape.signature.leaves l.placed))
          (sym (k l.generation).0) i) h.living;
    }
valued_kept (BasedName area offset) change s k h =
    area_kept area (changed_at offset change) s
    (λ a e i. valued_in_order 0 a.capacity offset change a.placed k i) h

-- ---- generations that come and go

nothing_placed : (leaves : List Leaf) → InOrder (area_of_leaves leaves [])
nothing_placed [] = tt
nothing_placed (l ∷ []) = by_kind l.kind
  where
    by_kind : (kind : LeafKind) → InOrder (area_of_kind kind [])
    by_kind (Area n) = omega arith
    by_kind (Fixed p) = tt
    by_kind (Character n) = tt
    by_kind (Varying n) = tt
    by_kind Bit = tt
    by_kind Pointer = tt
    by_kind Offset = tt
nothing_placed (l ∷ m ∷ ls) = tt

static_kept : (block variable : ℕ) (d : Y.DeclaredVariable) (class : Y.StorageClass) (s : State) → Kept s
    → Kept (static_made block variable d class s)
static_kept block variable d Y.StaticClass s h =
    record { heap = h.heap; living = (nothing_placed (shape_of [] d).signature.leaves, h.living) }
static_kept block variable d Y.AutomaticClass s h = h
static_kept block variable d Y.ParameterClass s h = h
static_kept block variable d Y.BasedClass s h = h
static_kept block variable d Y.ControlledClass s h = h

block_statics_kept : (block variable : ℕ) (ds : List Y.DeclaredVariable) (s : State) → Kept s
    → Kept (statics_of_block block variable ds s)
block_statics_kept block variable [] s h = h
block_statics_kept block variable (d ∷ ds) s h =
    block_statics_kept block (variable + 1) ds (static_made block variable d d.class s)
    (static_kept block variable d d.class s h)

statics_kept : (block : ℕ) (vs : List (List Y.DeclaredVariable)) (s : State) → Kept s → Kept (statics_from block vs s)
statics_kept block [] s h = h
statics_kept block (ds ∷ rest) s h =
    statics_kept (block + 1) rest (statics_of_block block 0 ds s) (block_statics_kept block 0 ds s h)

owned_gone : (height : ℕ) (ls : List Living) → AllInOrder ls → AllInOrder (without_owner height ls)
owned_gone height [] h = tt
owned_gone height (l ∷ ls) h = by_test (l.owner == height) (owned_gone height ls h.1)
  where
    by_test : (t : Bool) → AllInOrder (without_owner height ls)
        → AllInOrder (cond t (without_owner height ls) (l ∷ without_owner height ls))
    by_test true rest = rest
    by_test false rest = (h.0, rest)

ended_kept : (as' : List Activation) (s : State) → Kept s → Kept (without_newest as' s)
ended_kept [] s h = h
ended_kept (a ∷ as') s h = record { heap = h.heap; living = owned_gone a.height s.living h.living }

popped_kept : FootprintsApart → (v : Y.Variable) (offsets : List ℕ) (s : State) → Kept s
    → Kept (without_newest_of v offsets s)
popped_kept apart v [] s h = h
popped_kept apart v (o ∷ os) s h = record { heap = apart.freed heap_capacity o s.heap h.heap; living = h.living }

-- ---- areas as they are found

living_in_order : (ls : List Living) (serial : ℕ) → AllInOrder ls → InOrder (area_in (living_of ls serial))
living_in_order [] serial h = tt
living_in_order (l ∷ ls) serial h = by_test (l.serial == serial) (living_in_order ls serial h.1)
  where
    by_test : (t : Bool) → InOrder (area_in (living_of ls serial))
        → InOrder (area_in (cond t (Some l) (living_of ls serial)))
    by_test true rest = h.0
    by_test false rest = rest

areas_in_order : (s : State) → Kept s → AreasInOrder s
areas_in_order s h serial a e =
    let f : InOrder (area_at s serial) = by_test (serial == heap_serial) in
    subst InOrder e f
  where
    by_test : (t : Bool)
        → InOrder (cond t (Some (record { capacity = heap_capacity; placed = s.heap }))
        (area_in (living_of s.living serial)))
    by_test true = h.heap
    by_test false = living_in_order s.living serial h.living

-- ---- all changes

all_kept : FootprintsApart → Invariant Kept
all_kept apart =
    record {
      begun = λ input. record { heap = omega arith; living = tt };
      shown = λ w s h. record { heap = h.heap; living = h.living };
      read = λ change s h. record { heap = h.heap; living = h.living };
      entered = λ head entry s h. record { heap = h.heap; living = h.living };
      ended = λ s h. ended_kept s.activations s h;
      bound = λ variable n shape s h. record { heap = h.heap; living = h.living };
      established = λ c u s h. record { heap = h.heap; living = h.living };
      reverted = λ c s h. record { heap = h.heap; living = h.living };
      made = λ variable g s h. record { heap = h.heap; living = (nothing_placed g.shape.signature.leaves, h.living) };
      fixed = λ vs s h. statics_kept 0 vs s h;
      valued = valued_kept;
      placed = λ area o g a s h e f.
          area_kept area (placed_with o g) s
          (λ b e' i. placed_where area o g a b s e f e' i) h;
      freed = λ area o s h. area_kept area (without_offset o) s (λ a e i. apart.freed a.capacity o a.placed i) h;
      assigned = λ source target from into s h e f room.
          area_kept target (λ placed. from.placed) s
          (λ b f' i. copied_where source target from into b s h e f f' room) h;
      emptied = λ area s h. area_kept area (λ placed. []) s (λ a e i. omega arith) h;
      pushed = λ v o s h. record { heap = h.heap; living = h.living };
      popped = λ v s h. popped_kept apart v (offsets_of s.controlled v.block v.index) s h;
    }
  where
    placed_where : (area o : ℕ) (g : Generation) (a b : AreaContents) (s : State) → area_at s area ≡ Some a
        → gap a.capacity (footprint_of g) a.placed ≡ Some o → area_at s area ≡ Some b
        → IsOrdered 0 b.capacity b.placed → IsOrdered 0 b.capacity (placed_with o g b.placed)
    placed_where area o g a b s e f e' i =
        let same : a ≡ b = same_some (sym e ∙ e') in
        apart.placed b.capacity (record { offset = o; generation = g }) b.placed i
        (subst (λ (x : AreaContents). gap x.capacity (footprint_of g) x.placed ≡ Some o) same f)

    copied_where : (source target : ℕ) (from into b : AreaContents) (s : State) → Kept s → area_at s source ≡ Some from
        → area_at s target ≡ Some into → area_at s target ≡ Some b → greatest_end from.placed ≤ into.capacity
        → IsOrdered 0 b.capacity from.placed
    copied_where source target from into b s h e f f' room =
        let same : into ≡ b = same_some (sym f ∙ f') in
        let ordered : IsOrdered 0 from.capacity from.placed = areas_in_order s h source from e in
        subst (λ (x : AreaContents). IsOrdered 0 x.capacity from.placed) same
        (apart.assigned from.capacity into.capacity from.placed ordered room)

-- ---- the law

pub areas_stay : FootprintsApart → AreasStayInOrder
areas_stay apart program input k s e =
    let kept = all_kept apart in
    areas_in_order s (state_kept Kept _ s ((run_keeps kept program _).comes k _ (kept.begun input)) e)
