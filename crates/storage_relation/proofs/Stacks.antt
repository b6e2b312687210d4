-- The lists of all CONTROLLED variables stay those of the storage machine, whatever changes.
use Rattle.std.proofs.Common.{◌≡◌, ℕ, ◌+◌, List, true, [], ◌∷◌, Option, Some, Bool, false, ◌≢◌, ◌⊎◌, inl, inr, refl}
use Rattle.std.proofs.Common.{sym, ap, ◌∙◌, subst}
use Rattle.std.proofs.lemmas.Bool.{cases_eq}
use Rattle.std.specs.Prelude.{◌==◌, cond}
use Rattle.pli_typing.specs.Signatures.{ControlledClass, PlainClass}
use Rattle.pli_meaning.specs.BasicValues.{Name, BasicValue, BasedName, VariableName, NullName}
use Rattle.pli_meaning.specs.Contents.{Generation, Placed, footprint_of, gap, with_placed, placed_at, without_offset}
use Rattle.pli_meaning.specs.Contents.{changed_at}
use Rattle.pli_meaning.specs.Evaluating.{Designated}
use Rattle.pli_meaning.specs.Placing.{with_element}
use Rattle.pli_meaning.specs.StorageState.{State, generation_at, with_generation, with_area, heap_serial, offsets_of}
use Rattle.pli_meaning.specs.StorageState.{heap_capacity, living_of, living_changed, area_changed}
use Rattle.pli_serving.specs.Answers.{Done}
use Rattle.pli_serving.specs.ControlledServices as K
use Rattle.pli_serving.specs.ServiceState as S
use Rattle.pli_serving.specs.ServiceState.{Controlled}
use Rattle.pli_serving.specs.Templates.{shape_at}
use Rattle.storage_relation.specs.Changes.{with_memory, assigned, area_then, allocated, Making, made, ended}
use Rattle.storage_relation.specs.Controlled.{Begins, Variable, ControlledAs, offsets_at, offsets_in, placed_heap}
use Rattle.storage_relation.specs.Controlled.{IsLive, HeapOrdered, AreOther, after_push, after_pop, AllLive, heap_of}
use Rattle.storage_relation.specs.Controlled.{AreOnce, AreApart, offsets_now, StacksStand}
use Rattle.storage_relation.specs.Served.{Now, call, Holds}
use Rattle.storage_relation.specs.Standing.{heap_holder}
use Rattle.storage_relation.specs.Stored.{Places, with_heap_made, taken_as, AreFalling, slice}
use Rattle.storage_relation.proofs.Begun.{area_ordered}
use Rattle.storage_relation.proofs.Calls.{area_holds}
use Rattle.storage_relation.proofs.Holders.{eqb-refl, eqb-other}
use Rattle.storage_relation.proofs.Making.{same_held}
use Rattle.storage_relation.proofs.Turning.{some_same}
use Rattle.storage_relation.proofs.ControlledKept.{placed_new, placed_still, placed_left, pushed_own, pushed_other}
use Rattle.storage_relation.proofs.ControlledKept.{popped_own, popped_other}
use Rattle.storage_relation.proofs.NamesAfter.{changed_found, changed_other, placed_found}
use Rattle.storage_relation.proofs.Calls.{pushed_answered}
use Rattle.storage_relation.proofs.Controlled.{pop_answer}

-- ---- lists of offsets

-- a generation that begins has an offset of its own
new_other :
    (π : Places) (s : State) (o : ℕ) (g : Generation) (ks : List Controlled) → HeapOrdered (placed_heap o g s) →
    AllLive π s ks → AreOther o (offsets_in ks)
new_other π s o g [] ordered live = tt
new_other π s o g (k ∷ ks) ordered live = (
  placed_new 0 heap_capacity (record { offset = o; generation = g }) s.heap k.offset live.0.generation ordered
      live.0.placed,
  new_other π s o g ks ordered live.1,
)

-- none of a list is an offset that is none of it
apart_from : (o : ℕ) (os js : List ℕ) → AreOther o os → AreApart os js → AreApart os (o ∷ js)
apart_from o [] js other apart = tt
apart_from o (x ∷ os) js other apart =
    let ne = other.0 in (((λ e. ne (sym e)), apart.0), apart_from o os js other.1 apart.1)

apart_less : (o : ℕ) (os js : List ℕ) → AreApart os (o ∷ js) → AreApart os js
apart_less o [] js apart = tt
apart_less o (x ∷ os) js apart = (apart.0.1, apart_less o os js apart.1)

-- ---- the heap

pub heap_ordered : (w : Now) → Holds w → HeapOrdered w.state
heap_ordered w h =
    area_ordered w.keeper w.places.signatures h.keeps (heap_of w.state)
    (taken_as w.keeper w.places heap_serial (slice w.keeper w.places heap_serial (heap_holder w.state.heap) w.memory))
    (h.stored.stands heap_serial (heap_holder w.state.heap) refl)

-- ---- ALLOCATE

pushed_list :
    (w : Now) (x : Variable) (number : ℕ) (k : Controlled) (g : Generation) (new : List ℕ) →
    offsets_now (after_push w x number k g new) number ≡ k.offset ∷ offsets_now w number
pushed_list w x number k g new =
    ap (λ q. offsets_in (cond q (k ∷ w.services.controlled number) (w.services.controlled number))) (eqb-refl number)

unpushed_list :
    (w : Now) (x : Variable) (number other : ℕ) (k : Controlled) (g : Generation) (new : List ℕ) → other ≢ number →
    offsets_now (after_push w x number k g new) other ≡ offsets_now w other
unpushed_list w x number other k g new ne =
    ap (λ q. offsets_in (cond q (k ∷ w.services.controlled number) (w.services.controlled other)))
    (eqb-other other number ne)

pub stacks_pushed :
    (w : Now) (of : ℕ → Option Variable) → StacksStand w of → (x : Variable) (number : ℕ) (k : Controlled)
    (g : Generation) (new : List ℕ) → of number ≡ Some x → HeapOrdered (placed_heap k.offset g w.state) →
    IsLive (with_heap_made w.places) (placed_heap k.offset g w.state) k →
    StacksStand (after_push w x number k g new) of
stacks_pushed w of is x number k g new named ordered own =
    record {
      each = λ i y e. as_by i y e (cases_eq i number);
      other = is.other;
      once = λ i y e. once_by i y e (cases_eq i number);
      apart = λ i j y z e f ne. apart_by i j y z e f ne (cases_eq i number) (cases_eq j number);
    }
  where
    after : Now
    after = after_push w x number k g new

    free : (i : ℕ) (y : Variable) → of i ≡ Some y → AreOther k.offset (offsets_now w i)
    free i y e = new_other w.places w.state k.offset g (w.services.controlled i) ordered (is.each i y e).live

    as_by :
        (i : ℕ) (y : Variable) → of i ≡ Some y → (i ≡ number) ⊎ (i ≢ number) →
        ControlledAs (after_push w x number k g new) y i
    as_by i y e (inl same) =
        let f : x ≡ y = some_same (sym named ∙ subst (λ j. of j ≡ Some y) same e) in
        subst (ControlledAs (after_push w x number k g new) y) (sym same)
        (subst (λ z. ControlledAs (after_push w x number k g new) z number) f
        (pushed_own w x number k g new (is.each number x named) ordered own))
    as_by i y e (inr ne) =
        pushed_other w x y number i k g new (is.each i y e)
        (ne, is.other number i x y named e (λ z. ne (sym z)), ordered)

    once_by :
        (i : ℕ) (y : Variable) → of i ≡ Some y → (i ≡ number) ⊎ (i ≢ number) →
        AreOnce (offsets_now (after_push w x number k g new) i)
    once_by i y e (inl same) =
        subst (λ j. AreOnce (offsets_now (after_push w x number k g new) j)) (sym same)
        (subst AreOnce (sym (pushed_list w x number k g new)) (free number x named, is.once number x named))
    once_by i y e (inr ne) = subst AreOnce (sym (unpushed_list w x number i k g new ne)) (is.once i y e)

    apart_by :
        (i j : ℕ) (y z : Variable) → of i ≡ Some y → of j ≡ Some z → i ≢ j → (i ≡ number) ⊎ (i ≢ number) →
        (j ≡ number) ⊎ (j ≢ number) →
        AreApart (offsets_now (after_push w x number k g new) i) (offsets_now (after_push w x number k g new) j)
    apart_by i j y z e f ne (inl a) (inl b) = absurd (ne (a ∙ sym b))
    apart_by i j y z e f ne (inl a) (inr b) =
        subst (AreApart (offsets_now (after_push w x number k g new) i)) (sym (unpushed_list w x number j k g new b))
        (subst (λ os. AreApart os (offsets_now w j))
        (sym (ap (offsets_now (after_push w x number k g new)) a ∙ pushed_list w x number k g new))
        (free j z f, subst (λ n. AreApart (offsets_now w n) (offsets_now w j)) a (is.apart i j y z e f ne)))
    apart_by i j y z e f ne (inr a) (inl b) =
        subst (λ os. AreApart os (offsets_now (after_push w x number k g new) j))
        (sym (unpushed_list w x number i k g new a))
        (subst (AreApart (offsets_now w i))
        (sym (ap (offsets_now (after_push w x number k g new)) b ∙ pushed_list w x number k g new))
        (apart_from k.offset (offsets_now w i) (offsets_now w number) (free i y e)
        (subst (λ n. AreApart (offsets_now w i) (offsets_now w n)) b (is.apart i j y z e f ne))))
    apart_by i j y z e f ne (inr a) (inr b) =
        subst (AreApart (offsets_now (after_push w x number k g new) i)) (sym (unpushed_list w x number j k g new b))
        (subst (λ os. AreApart os (offsets_now w j)) (sym (unpushed_list w x number i k g new a))
        (is.apart i j y z e f ne))

-- ---- FREE

popped_list :
    (w : Now) (x : Variable) (number o : ℕ) (left : List Controlled) (new : List ℕ) →
    offsets_now (after_pop w x number o left new) number ≡ offsets_in left
popped_list w x number o left new =
    ap (λ q. offsets_in (cond q left (w.services.controlled number))) (eqb-refl number)

unpopped_list :
    (w : Now) (x : Variable) (number other o : ℕ) (left : List Controlled) (new : List ℕ) → other ≢ number →
    offsets_now (after_pop w x number o left new) other ≡ offsets_now w other
unpopped_list w x number other o left new ne =
    ap (λ q. offsets_in (cond q left (w.services.controlled other))) (eqb-other other number ne)

pub stacks_popped :
    (w : Now) (of : ℕ → Option Variable) → StacksStand w of → (x : Variable) (number : ℕ) (k : Controlled)
    (left : List Controlled) (new : List ℕ) → of number ≡ Some x → w.services.controlled number ≡ k ∷ left →
    StacksStand (after_pop w x number k.offset left new) of
stacks_popped w of is x number k left new named top =
    record {
      each = λ i y e. as_by i y e (cases_eq i number);
      other = is.other;
      once = λ i y e. once_by i y e (cases_eq i number);
      apart = λ i j y z e f ne. apart_by i j y z e f ne (cases_eq i number) (cases_eq j number);
    }
  where
    whole : offsets_now w number ≡ k.offset ∷ offsets_in left
    whole = ap offsets_in top

    own : AreOnce (k.offset ∷ offsets_in left)
    own = subst AreOnce whole (is.once number x named)

    beside :
        (j : ℕ) (z : Variable) → of j ≡ Some z → j ≢ number → AreApart (k.offset ∷ offsets_in left) (offsets_now w j)
    beside j z f ne =
        subst (λ os. AreApart os (offsets_now w j)) whole (is.apart number j x z named f (λ e. ne (sym e)))

    as_by :
        (i : ℕ) (y : Variable) → of i ≡ Some y → (i ≡ number) ⊎ (i ≢ number) →
        ControlledAs (after_pop w x number k.offset left new) y i
    as_by i y e (inl same) =
        let f : x ≡ y = some_same (sym named ∙ subst (λ j. of j ≡ Some y) same e) in
        subst (ControlledAs (after_pop w x number k.offset left new) y) (sym same)
        (subst (λ z. ControlledAs (after_pop w x number k.offset left new) z number) f
        (popped_own w x number k left new (is.each number x named) top own.0))
    as_by i y e (inr ne) =
        popped_other w x y number i k.offset left new (is.each i y e)
        (ne, is.other number i x y named e (λ z. ne (sym z)), (beside i y e ne).0)

    once_by :
        (i : ℕ) (y : Variable) → of i ≡ Some y → (i ≡ number) ⊎ (i ≢ number) →
        AreOnce (offsets_now (after_pop w x number k.offset left new) i)
    once_by i y e (inl same) =
        subst (λ j. AreOnce (offsets_now (after_pop w x number k.offset left new) j)) (sym same)
        (subst AreOnce (sym (popped_list w x number k.offset left new)) own.1)
    once_by i y e (inr ne) = subst AreOnce (sym (unpopped_list w x number i k.offset left new ne)) (is.once i y e)

    apart_by :
        (i j : ℕ) (y z : Variable) → of i ≡ Some y → of j ≡ Some z → i ≢ j → (i ≡ number) ⊎ (i ≢ number) →
        (j ≡ number) ⊎ (j ≢ number) →
        AreApart (offsets_now (after_pop w x number k.offset left new) i)
        (offsets_now (after_pop w x number k.offset left new) j)
    apart_by i j y z e f ne (inl a) (inl b) = absurd (ne (a ∙ sym b))
    apart_by i j y z e f ne (inl a) (inr b) =
        subst (AreApart (offsets_now (after_pop w x number k.offset left new) i))
        (sym (unpopped_list w x number j k.offset left new b))
        (subst (λ os. AreApart os (offsets_now w j))
        (sym (ap (offsets_now (after_pop w x number k.offset left new)) a ∙ popped_list w x number k.offset left new))
        (beside j z f b).1)
    apart_by i j y z e f ne (inr a) (inl b) =
        subst (λ os. AreApart os (offsets_now (after_pop w x number k.offset left new) j))
        (sym (unpopped_list w x number i k.offset left new a))
        (subst (AreApart (offsets_now w i))
        (sym (ap (offsets_now (after_pop w x number k.offset left new)) b ∙ popped_list w x number k.offset left new))
        (apart_less k.offset (offsets_now w i) (offsets_in left)
        (subst (AreApart (offsets_now w i)) whole
        (is.apart i number y x e named a))))
    apart_by i j y z e f ne (inr a) (inr b) =
        subst (AreApart (offsets_now (after_pop w x number k.offset left new) i))
        (sym (unpopped_list w x number j k.offset left new b))
        (subst (λ os. AreApart os (offsets_now w j)) (sym (unpopped_list w x number i k.offset left new a))
        (is.apart i j y z e f ne))

-- ---- what else changes

all_live :
    (w after : Now) (ks : List Controlled) →
    ((k : Controlled) → IsLive w.places w.state k → IsLive after.places after.state k) →
    AllLive w.places w.state ks → AllLive after.places after.state ks
all_live w after [] one live = tt
all_live w after (k ∷ ks) one live = (one k live.0, all_live w after ks one live.1)

-- the lists, the numbers and the storage machine's stacks stay, and what stands in the heap for them
pub stacks_moved :
    (w after : Now) (of : ℕ → Option Variable) → StacksStand w of → after.services ≡ w.services →
    after.state.controlled ≡ w.state.controlled →
    ((k : Controlled) → IsLive w.places w.state k → IsLive after.places after.state k) →
    StacksStand after of
stacks_moved w after of is services stacks live =
    record {
      each = λ i x e.
          record {
            offsets = ap (λ (v : S.Services). offsets_in (v.controlled i)) services
                ∙ (is.each i x e).offsets
                ∙ ap (λ ks. offsets_of ks x.block x.index) (sym stacks);
            live = subst (λ (v : S.Services). AllLive after.places after.state (v.controlled i)) (sym services)
                (all_live w after (w.services.controlled i) live (is.each i x e).live);
          };
      other = is.other;
      once = λ i x e. subst (λ (v : S.Services). AreOnce (offsets_in (v.controlled i))) (sym services) (is.once i x e);
      apart = λ i j x y e f ne.
          subst (λ (v : S.Services). AreApart (offsets_in (v.controlled i)) (offsets_in (v.controlled j)))
          (sym services)
          (is.apart i j x y e f ne);
    }

-- an area's generations become others
area_live :
    (π : Places) (s : State) (n : ℕ) (change : List Placed → List Placed) (k : Controlled) → n ≢ heap_serial →
    IsLive π s k → IsLive π (with_area n change s) k
area_live π s n change k ne live =
    record {
      generation = live.generation;
      placed =
          ap (λ q. placed_at (cond q (record s { heap = change s.heap })
          (record s { living = living_changed n (area_changed change) s.living })).heap k.offset)
          (eqb-other n heap_serial ne)
          ∙ live.placed;
      number = live.number;
      class = live.class;
    }

same_stacks :
    (s : State) (n : ℕ) (change : List Placed → List Placed) → (with_area n change s).controlled ≡ s.controlled
same_stacks s n change = by (n == heap_serial)
  where
    by :
        (q : Bool) →
        (cond q (record s { heap = change s.heap })
        (record s { living = living_changed n (area_changed change) s.living })).controlled
        ≡ s.controlled
    by true = refl
    by false = refl

pub stacks_area :
    (w : Now) (of : ℕ → Option Variable) → StacksStand w of → (n : ℕ) (change : List Placed → List Placed)
    (new : List ℕ) → n ≢ heap_serial → StacksStand (area_then n change new w) of
stacks_area w of is n change new ne =
    stacks_moved w (area_then n change new w) of is refl (same_stacks w.state n change)
    (λ k live. area_live w.places w.state n change k ne live)

-- ALLOCATE of a BASED generation, in an area or in the heap
placed_live :
    (w : Now) (n o : ℕ) (g : Generation) (new : List ℕ) → Holds (allocated n o g new w) → (k : Controlled) →
    IsLive w.places w.state k → IsLive (allocated n o g new w).places (allocated n o g new w).state k
placed_live w n o g new h k live = by (n == heap_serial) (heap_ordered (allocated n o g new w) h)
  where
    change : List Placed → List Placed
    change = with_placed (record { offset = o; generation = g })

    by :
        (q : Bool) →
        HeapOrdered (cond q (record w.state { heap = change w.state.heap })
        (record w.state { living = living_changed n (area_changed change) w.state.living })) →
        IsLive (cond q (with_heap_made w.places) w.places)
        (cond q (record w.state { heap = change w.state.heap })
        (record w.state { living = living_changed n (area_changed change) w.state.living })) k
    by true ordered =
        record {
          generation = live.generation;
          placed = placed_still 0 heap_capacity (record { offset = o; generation = g }) w.state.heap k.offset
              live.generation ordered live.placed;
          number = live.number;
          class = live.class;
        }
    by false ordered =
        record { generation = live.generation; placed = live.placed; number = live.number; class = live.class }

pub stacks_placed :
    (w : Now) (of : ℕ → Option Variable) → StacksStand w of → (n o : ℕ) (g : Generation) (new : List ℕ) →
    Holds (allocated n o g new w) → StacksStand (allocated n o g new w) of
stacks_placed w of is n o g new h =
    stacks_moved w (allocated n o g new w) of is refl
    (same_stacks w.state n (with_placed (record { offset = o; generation = g })))
    (λ k live. placed_live w n o g new h k live)

-- FREE of one
freed_live :
    (w : Now) (n o : ℕ) (g : Generation) → generation_at w.state (BasedName n o) ≡ Some g →
    g.shape.signature.class ≡ PlainClass → (k : Controlled) → IsLive w.places w.state k →
    IsLive w.places (with_area n (without_offset o) w.state) k
freed_live w n o g there plain k live = by (cases_eq n heap_serial)
  where
    differ : PlainClass ≢ ControlledClass
    differ e = absurd (cc e)

    own : placed_at w.state.heap o ≡ Some g → k.offset ≢ o
    own at e =
        let f : live.generation ≡ g =
        some_same (sym live.placed ∙ ap (placed_at w.state.heap) e ∙ at) in
        differ (sym plain ∙ ap (λ (h : Generation). h.shape.signature.class) (sym f) ∙ live.class)

    by : (n ≡ heap_serial) ⊎ (n ≢ heap_serial) → IsLive w.places (with_area n (without_offset o) w.state) k
    by (inr ne) = area_live w.places w.state n (without_offset o) k ne live
    by (inl e) =
        let at : placed_at w.state.heap o ≡ Some g = subst (λ i. generation_at w.state (BasedName i o)
        ≡ Some g) e there in
        subst (λ i. IsLive w.places (with_area i (without_offset o) w.state) k) (sym e)
        (record {
          generation = live.generation;
          placed = placed_left w.state.heap o k.offset (own at) ∙ live.placed;
          number = live.number;
          class = live.class;
        })

pub stacks_freed :
    (w : Now) (of : ℕ → Option Variable) → StacksStand w of → (n o : ℕ) (g : Generation) (new : List ℕ) →
    generation_at w.state (BasedName n o) ≡ Some g → g.shape.signature.class ≡ PlainClass →
    StacksStand (area_then n (without_offset o) new w) of
stacks_freed w of is n o g new there plain =
    stacks_moved w (area_then n (without_offset o) new w) of is refl (same_stacks w.state n (without_offset o))
    (λ k live. freed_live w n o g there plain k live)

-- an assignment
element_live :
    (π : Places) (s : State) (n : Name) (d : Designated) (v : BasicValue) (k : Controlled) → IsLive π s k →
    IsLive π (with_generation n (with_element d v) s) k
element_live π s NullName d v k live = live
element_live π s (VariableName n) d v k live =
    record { generation = live.generation; placed = live.placed; number = live.number; class = live.class }
element_live π s (BasedName n o) d v k live = by (cases_eq n heap_serial)
  where
    by : (n ≡ heap_serial) ⊎ (n ≢ heap_serial) → IsLive π (with_area n (changed_at o (with_element d v)) s) k
    by (inr ne) = area_live π s n (changed_at o (with_element d v)) k ne live
    by (inl e) =
        subst (λ i. IsLive π (with_area i (changed_at o (with_element d v)) s) k) (sym e) (at (cases_eq k.offset o))
      where
        at : (k.offset ≡ o) ⊎ (k.offset ≢ o) → IsLive π (with_area heap_serial (changed_at o (with_element d v)) s) k
        at (inl f) =
            record {
              generation = with_element d v live.generation;
              placed = subst (λ j. placed_at (changed_at j (with_element d v) s.heap) k.offset
                  ≡ Some (with_element d v live.generation)) f
                  (changed_found s.heap k.offset (with_element d v) live.generation live.placed);
              number = live.number;
              class = live.class;
            }
        at (inr ne) =
            record {
              generation = live.generation;
              placed = changed_other s.heap o k.offset (with_element d v) ne ∙ live.placed;
              number = live.number;
              class = live.class;
            }

element_stacks :
    (s : State) (n : Name) (d : Designated) (v : BasicValue) →
    (with_generation n (with_element d v) s).controlled ≡ s.controlled
element_stacks s NullName d v = refl
element_stacks s (VariableName n) d v = refl
element_stacks s (BasedName n o) d v = same_stacks s n (changed_at o (with_element d v))

pub stacks_assigned :
    (w : Now) (of : ℕ → Option Variable) → StacksStand w of → (d : Designated) (v : BasicValue) →
    StacksStand (assigned d v w) of
stacks_assigned w of is d v =
    stacks_moved w (assigned d v w) of is refl (element_stacks w.state d.name d v)
    (λ k live. element_live w.places w.state d.name d v k live)

-- variables begin and end, and memory changes elsewhere
same_live : (w after : Now) → after.places.signatures ≡ w.places.signatures → after.state.heap ≡ w.state.heap →
    (k : Controlled) → IsLive w.places w.state k → IsLive after.places after.state k
same_live w after signatures heap k live =
    record {
      generation = live.generation;
      placed = ap (λ ps. placed_at ps k.offset) heap ∙ live.placed;
      number = ap (λ t. shape_at t k.signature) signatures ∙ live.number;
      class = live.class;
    }

pub stacks_begun :
    (w : Now) (of : ℕ → Option Variable) → StacksStand w of → (q : Making) → StacksStand (made q w) of
stacks_begun w of is q = stacks_moved w (made q w) of is refl refl (λ k live. same_live w (made q w) refl refl k live)

pub stacks_gone :
    (w : Now) (of : ℕ → Option Variable) → StacksStand w of → (height : ℕ) → StacksStand (ended height w) of
stacks_gone w of is height =
    stacks_moved w (ended height w) of is refl refl (λ k live. same_live w (ended height w) refl refl k live)

pub stacks_apart :
    (w : Now) (of : ℕ → Option Variable) → StacksStand w of → (new : List ℕ) → StacksStand (with_memory new w) of
stacks_apart w of is new =
    stacks_moved w (with_memory new w) of is refl refl (λ k live. same_live w (with_memory new w) refl refl k live)

-- ---- services 16 and 17

-- the stacks of the state, and the services' lists, are no part of what holds
stack_holds :
    (w : Now) → Holds w → (s : State) (v : S.Services) → s.living ≡ w.state.living → s.heap ≡ w.state.heap →
    s.serials ≡ w.state.serials → Holds (record w { state = s; services = v })
stack_holds w h s v living heap serials =
    record {
      keeps = h.keeps;
      heap = h.heap;
      lives = record {
        falling = subst (λ n. AreFalling (n + 1) s.living) (sym serials)
            (subst (AreFalling (w.state.serials + 1)) (sym living) h.lives.falling);
        numbered = λ n l e. h.lives.numbered n l (ap (λ ls. living_of ls n) (sym living) ∙ e);
        extents = λ n l e. h.lives.extents n l (ap (λ ls. living_of ls n) (sym living) ∙ e);
      };
      stored = same_held w.keeper w.places w.state s w.memory living heap h.stored;
      distinct = h.distinct;
    }

pub pushed_stack :
    (w : Now) → Holds w → (of : ℕ → Option Variable) → StacksStand w of → (x : Variable)
    (number signature initial o : ℕ) (g : Generation) → of number ≡ Some x → Begins w number signature initial g →
    gap heap_capacity (footprint_of g) w.state.heap ≡ Some o →
    (new : List ℕ) × Holds (after_push w x number (record { offset = o; signature = signature }) g new)
    × StacksStand (after_push w x number (record { offset = o; signature = signature }) g new) of
    × (K.push_served (call w) number signature initial
    ≡ Done (call (after_push w x number (record { offset = o; signature = signature }) g new)).services new number 0)
pushed_stack w h of is x number signature initial o g named b free =
    let k : Controlled = record { offset = o; signature = signature } in
    let r = pushed_answered w h number signature initial o g b free in
    let ordered = heap_ordered (allocated heap_serial o g r.0 w) r.1 in
    let own : IsLive (with_heap_made w.places) (placed_heap o g w.state) k = record {
      generation = g;
      placed = placed_found 0 heap_capacity (record { offset = o; generation = g }) w.state.heap ordered;
      number = b.shape_same;
      class = b.class;
    } in (
      r.0,
      stack_holds (allocated heap_serial o g r.0 w) r.1 (after_push w x number k g r.0).state
          (after_push w x number k g r.0).services refl refl refl,
      stacks_pushed w of is x number k g r.0 named ordered own,
      r.2,
    )

pub popped_stack :
    (w : Now) → Holds w → (of : ℕ → Option Variable) → StacksStand w of → (x : Variable) (number y o : ℕ)
    (os : List ℕ) → of number ≡ Some x → K.is_controlled number ≡ true → offsets_at w.state x ≡ o ∷ os →
    (new : List ℕ) × (left : List Controlled) × (offsets_in left ≡ os) × Holds (after_pop w x number o left new)
    × StacksStand (after_pop w x number o left new) of
    × (K.pop_served (call w) number y ≡ Done (call (after_pop w x number o left new)).services new number y)
popped_stack w h of is x number y o os named some e =
    let r = pop_answer w h x number y o os (is.each number x named) some e in
    let held' = area_holds w h heap_serial (without_offset o) r.0 r.7 in (
      r.0,
      r.2,
      r.5,
      stack_holds (area_then heap_serial (without_offset o) r.0 w) held' (after_pop w x number o r.2 r.0).state
          (after_pop w x number o r.2 r.0).services refl refl refl,
      subst (λ i. StacksStand (after_pop w x number i r.2 r.0) of) r.4
          (stacks_popped w of is x number r.1 r.2 r.0 named r.3),
      r.6,
    )
