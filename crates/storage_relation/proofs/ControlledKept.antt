-- The lists of CONTROLLED variables' generations stay the storage machine's when one is pushed or popped.
use Rattle.std.proofs.Common.{◌≡◌, ◌≢◌, ℕ, ◌≤◌, List, [], ◌∷◌, Some, Bool, true, false, refl, sym, ap, ◌∙◌, subst}
use Rattle.std.proofs.Common.{arith}
use Rattle.std.proofs.lemmas.Bool.{eqb-true}
use Rattle.std.specs.Prelude.{cond, ◌==◌, ◌&&◌, nat_lt}
use Rattle.pli_typing.specs.Signatures.{data_size}
use Rattle.pli_meaning.specs.Contents.{Generation, signature_of, Placed, end_of, with_placed, without_offset, placed_at}
use Rattle.pli_meaning.specs.Contents.{IsOrdered}
use Rattle.pli_meaning.specs.StorageState.{State, Stack, offsets_of, with_offsets, with_area, heap_serial}
use Rattle.pli_meaning.specs.StorageState.{heap_capacity}
use Rattle.pli_serving.specs.ControlledServices as K
use Rattle.pli_serving.specs.ServiceState.{Controlled}
use Rattle.storage_relation.proofs.Elements.{first_true, second_true}
use Rattle.storage_relation.proofs.NamesAfter.{footprint_some, behind}
use Rattle.storage_relation.proofs.Holders.{eqb-refl, eqb-other}
use Rattle.storage_relation.specs.Controlled.{offsets_in, IsLive, AllLive, Variable, offsets_at, ControlledAs}
use Rattle.storage_relation.specs.Controlled.{placed_heap, HeapOrdered, AreOther, same_variable, after_push, after_pop}
use Rattle.storage_relation.specs.Served.{Now}
use Rattle.storage_relation.specs.Stored.{Places, with_heap_made}

-- ---- the storage machine's lists

-- what a stack of a variable is replaced with, it has; and all others have what they had
pub offsets_set : (b i : ℕ) (os : List ℕ) (ks : List Stack) → offsets_of (with_offsets b i os ks) b i ≡ os
offsets_set b i os [] =
    ap (λ q. cond (q && (i == i)) os []) (eqb-refl b) ∙ ap (λ q. cond q os []) (eqb-refl i)
offsets_set b i os (k ∷ ks) = by ((k.block == b) && (k.variable == i)) refl (offsets_set b i os ks)
  where
    by :
        (q : Bool) → (k.block == b) && (k.variable == i) ≡ q → offsets_of (with_offsets b i os ks) b i ≡ os →
        offsets_of (cond q (record k { offsets = os } ∷ ks) (k ∷ with_offsets b i os ks)) b i ≡ os
    by true q rest = ap (λ t. cond t os (offsets_of ks b i)) q
    by false q rest = ap (λ t. cond t k.offsets (offsets_of (with_offsets b i os ks) b i)) q ∙ rest

pub offsets_other :
    (b i c j : ℕ) (os : List ℕ) (ks : List Stack) → (b == c) && (i == j) ≡ false →
    offsets_of (with_offsets b i os ks) c j ≡ offsets_of ks c j
offsets_other b i c j os [] other = ap (λ q. cond q os []) other
offsets_other b i c j os (k ∷ ks) other = by ((k.block == b) && (k.variable == i)) refl
    (offsets_other b i c j os ks other)
  where
    by :
        (q : Bool) → (k.block == b) && (k.variable == i) ≡ q → offsets_of (with_offsets b i os ks) c j
        ≡ offsets_of ks c j →
        offsets_of (cond q (record k { offsets = os } ∷ ks) (k ∷ with_offsets b i os ks)) c j ≡ offsets_of (k ∷ ks) c j
    by true q rest =
        let one = eqb-true k.block b (first_true (k.block == b) (k.variable == i) q) in
        let two = eqb-true k.variable i (second_true (k.block == b) (k.variable == i) q) in
        let test : (k.block == c) && (k.variable == j) ≡ false =
        ap (λ x. (x == c) && (k.variable == j)) one ∙ ap (λ x. (b == c) && (x == j)) two ∙ other
        in
        ap (λ t. cond t os (offsets_of ks c j)) test ∙ sym (ap (λ t. cond t k.offsets (offsets_of ks c j)) test)
    by false q rest = ap (λ r. cond ((k.block == c) && (k.variable == j)) k.offsets r) rest

-- ---- the heap's generations

above : (start capacity : ℕ) (ps : List Placed) (j : ℕ) (g : Generation) → IsOrdered start capacity ps →
    placed_at ps j ≡ Some g → start ≤ j
above start capacity [] j g i e = absurd (cc e)
above start capacity (p ∷ ps) j g i e = by (p.offset == j) refl e (λ f. above (end_of p) capacity ps j g i.3 f)
  where
    by : (q : Bool) → (p.offset == j) ≡ q → cond q (Some p.generation) (placed_at ps j) ≡ Some g →
        (placed_at ps j ≡ Some g → end_of p ≤ j) → start ≤ j
    by true q e rest = let f = eqb-true p.offset j q in let a = i.0 in omega (arith, a, f)
    by false q e rest =
        let r = rest e in
        let a = i.0 in
        let some = footprint_some (data_size (signature_of p.generation)) in
        omega (arith, a, r, some)

-- what was placed before is found where it was
pub placed_still :
    (start capacity : ℕ) (n : Placed) (ps : List Placed) (j : ℕ) (g : Generation) →
    IsOrdered start capacity (with_placed n ps) →
    placed_at ps j ≡ Some g → placed_at (with_placed n ps) j ≡ Some g
placed_still start capacity n [] j g i e = absurd (cc e)
placed_still start capacity n (p ∷ ps) j g i e =
    by (nat_lt n.offset p.offset) i (λ k f. placed_still (end_of p) capacity n ps j g k f)
  where
    by :
        (q : Bool) → IsOrdered start capacity (cond q (n ∷ p ∷ ps) (p ∷ with_placed n ps)) →
        (IsOrdered (end_of p) capacity (with_placed n ps) → placed_at ps j ≡ Some g → placed_at (with_placed n ps) j
        ≡ Some g) →
        placed_at (cond q (n ∷ p ∷ ps) (p ∷ with_placed n ps)) j ≡ Some g
    by true i rest =
        let more = above (end_of n) capacity (p ∷ ps) j g i.3 e in
        let some = footprint_some (data_size (signature_of n.generation)) in
        let ne : n.offset ≢ j = omega (arith, more, some) in
        ap (λ t. cond t (Some n.generation) (placed_at (p ∷ ps) j)) (eqb-other n.offset j ne) ∙ e
    by false i rest = one (p.offset == j) e
      where
        one : (q : Bool) → cond q (Some p.generation) (placed_at ps j) ≡ Some g →
            cond q (Some p.generation) (placed_at (with_placed n ps) j) ≡ Some g
        one true e = e
        one false e = rest i.3 e

-- and the new one has an offset of its own
pub placed_new :
    (start capacity : ℕ) (n : Placed) (ps : List Placed) (j : ℕ) (g : Generation) →
    IsOrdered start capacity (with_placed n ps) →
    placed_at ps j ≡ Some g → j ≢ n.offset
placed_new start capacity n [] j g i e = absurd (cc e)
placed_new start capacity n (p ∷ ps) j g i e =
    by (nat_lt n.offset p.offset) i (λ k f. placed_new (end_of p) capacity n ps j g k f)
  where
    by :
        (q : Bool) → IsOrdered start capacity (cond q (n ∷ p ∷ ps) (p ∷ with_placed n ps)) →
        (IsOrdered (end_of p) capacity (with_placed n ps) → placed_at ps j ≡ Some g → j ≢ n.offset) → j ≢ n.offset
    by true i rest =
        let more = above (end_of n) capacity (p ∷ ps) j g i.3 e in
        let some = footprint_some (data_size (signature_of n.generation)) in
        omega (arith, more, some)
    by false i rest = one (p.offset == j) refl e
      where
        one : (q : Bool) → (p.offset == j) ≡ q → cond q (Some p.generation) (placed_at ps j) ≡ Some g → j ≢ n.offset
        one true q e =
            let f = eqb-true p.offset j q in
            let after = behind (end_of p) capacity n ps i.3 in
            let some = footprint_some (data_size (signature_of p.generation)) in
            omega (arith, f, after, some)
        one false q e = rest i.3 e

pub placed_left : (ps : List Placed) (o j : ℕ) → j ≢ o → placed_at (without_offset o ps) j ≡ placed_at ps j
placed_left [] o j ne = refl
placed_left (p ∷ ps) o j ne = by (p.offset == o) refl (placed_left ps o j ne)
  where
    by :
        (q : Bool) → (p.offset == o) ≡ q → placed_at (without_offset o ps) j ≡ placed_at ps j →
        placed_at (cond q ps (p ∷ without_offset o ps)) j ≡ placed_at (p ∷ ps) j
    by true q rest =
        let f = eqb-true p.offset o q in
        sym (ap (λ t. cond t (Some p.generation) (placed_at ps j)) (eqb-other p.offset j (λ e. ne (sym e ∙ f))))
    by false q rest = ap (λ r. cond (p.offset == j) (Some p.generation) r) rest

live_pushed :
    (π : Places) (s : State) (o : ℕ) (g : Generation) (ks : List Controlled) → HeapOrdered (placed_heap o g s) →
    AllLive π s ks → AllLive (with_heap_made π) (placed_heap o g s) ks
live_pushed π s o g [] ordered live = tt
live_pushed π s o g (k ∷ ks) ordered live = (
  record {
    generation = live.0.generation;
    placed =
        placed_still 0 heap_capacity (record { offset = o; generation = g }) s.heap k.offset live.0.generation
        ordered live.0.placed;
    number = live.0.number;
    class = live.0.class;
  },
  live_pushed π s o g ks ordered live.1,
)

live_popped :
    (π : Places) (s : State) (o : ℕ) (ks : List Controlled) → AreOther o (offsets_in ks) → AllLive π s ks →
    AllLive π (with_area heap_serial (without_offset o) s) ks
live_popped π s o [] other live = tt
live_popped π s o (k ∷ ks) other live = (
  record {
    generation = live.0.generation;
    placed = placed_left s.heap o k.offset other.0 ∙ live.0.placed;
    number = live.0.number;
    class = live.0.class;
  },
  live_popped π s o ks other.1 live.1,
)

pub pushed_own :
    (w : Now) (x : Variable) (number : ℕ) (k : Controlled) (g : Generation) (new : List ℕ) → ControlledAs w x number →
    HeapOrdered (placed_heap k.offset g w.state) → IsLive (with_heap_made w.places) (placed_heap k.offset g w.state) k →
    ControlledAs (after_push w x number k g new) x number
pushed_own w x number k g new are ordered own =
    let mine : (K.with_newest number k w.services).controlled number ≡ k ∷ w.services.controlled number =
    ap (λ q. cond q (k ∷ w.services.controlled number) (w.services.controlled number)) (eqb-refl number)
    in
    record {
      offsets =
          ap offsets_in mine
          ∙ ap (λ u. k.offset ∷ u) are.offsets
          ∙ sym (offsets_set x.block x.index (k.offset ∷ offsets_at w.state x) w.state.controlled);
      live = subst (Live) (sym mine) (
        again k own,
        moved (w.services.controlled number)
            (live_pushed w.places w.state k.offset g (w.services.controlled number) ordered are.live),
      );
    }
  where
    Live : List Controlled → Type 0
    Live ks = AllLive (with_heap_made w.places) (after_push w x number k g new).state ks

    again : (j : Controlled) → IsLive (with_heap_made w.places) (placed_heap k.offset g w.state) j →
        IsLive (with_heap_made w.places) (after_push w x number k g new).state j
    again j l = record { generation = l.generation; placed = l.placed; number = l.number; class = l.class }

    moved : (ks : List Controlled) → AllLive (with_heap_made w.places) (placed_heap k.offset g w.state) ks → Live ks
    moved [] l = tt
    moved (j ∷ ks) l = (again j l.0, moved ks l.1)

pub pushed_other :
    (w : Now) (x y : Variable) (number other : ℕ) (k : Controlled) (g : Generation) (new : List ℕ) →
    ControlledAs w y other →
    (other ≢ number) × (same_variable x y ≡ false) × HeapOrdered (placed_heap k.offset g w.state) →
    ControlledAs (after_push w x number k g new) y other
pushed_other w x y number other k g new are differ =
    let mine : (K.with_newest number k w.services).controlled other ≡ w.services.controlled other =
    ap (λ q. cond q (k ∷ w.services.controlled number) (w.services.controlled other)) (eqb-other other number differ.0)
    in
    record {
      offsets =
          ap offsets_in mine
          ∙ are.offsets
          ∙ sym (offsets_other x.block x.index y.block y.index (k.offset ∷ offsets_at w.state x) w.state.controlled
          differ.1);
      live = subst Live (sym mine) (moved (w.services.controlled other)
          (live_pushed w.places w.state k.offset g (w.services.controlled other) differ.2 are.live));
    }
  where
    Live : List Controlled → Type 0
    Live ks = AllLive (with_heap_made w.places) (after_push w x number k g new).state ks

    moved : (ks : List Controlled) → AllLive (with_heap_made w.places) (placed_heap k.offset g w.state) ks → Live ks
    moved [] l = tt
    moved (j ∷ ks) l = (
      record { generation = l.0.generation; placed = l.0.placed; number = l.0.number; class = l.0.class },
      moved ks l.1,
    )

moved_pop :
    (w : Now) (x : Variable) (number o : ℕ) (left : List Controlled) (new : List ℕ) (ks : List Controlled) →
    AllLive w.places (with_area heap_serial (without_offset o) w.state) ks →
    AllLive w.places (after_pop w x number o left new).state ks
moved_pop w x number o left new [] l = tt
moved_pop w x number o left new (j ∷ ks) l = (
  record { generation = l.0.generation; placed = l.0.placed; number = l.0.number; class = l.0.class },
  moved_pop w x number o left new ks l.1,
)

-- the variable's own list: what is left has none of the offset that went
pub popped_own :
    (w : Now) (x : Variable) (number : ℕ) (k : Controlled) (left : List Controlled) (new : List ℕ) →
    ControlledAs w x number → w.services.controlled number ≡ k ∷ left → AreOther k.offset (offsets_in left) →
    ControlledAs (after_pop w x number k.offset left new) x number
popped_own w x number k left new are top other =
    let mine : (K.with_controlled number left w.services).controlled number ≡ left =
    ap (λ q. cond q left (w.services.controlled number)) (eqb-refl number)
    in
    let live = subst (AllLive w.places w.state) top are.live in
    record {
      offsets =
          ap offsets_in mine ∙ sym (offsets_set x.block x.index (offsets_in left) w.state.controlled);
      live =
          subst (AllLive w.places (after_pop w x number k.offset left new).state) (sym mine)
          (moved_pop w x number k.offset left new left (live_popped w.places w.state k.offset left other live.1));
    }

-- another's
pub popped_other :
    (w : Now) (x y : Variable) (number mark o : ℕ) (left : List Controlled) (new : List ℕ) → ControlledAs w y mark →
    (mark ≢ number) × (same_variable x y ≡ false) × AreOther o (offsets_in (w.services.controlled mark)) →
    ControlledAs (after_pop w x number o left new) y mark
popped_other w x y number mark o left new are differ =
    let mine : (K.with_controlled number left w.services).controlled mark ≡ w.services.controlled mark =
    ap (λ q. cond q left (w.services.controlled mark)) (eqb-other mark number differ.0)
    in
    record {
      offsets =
          ap offsets_in mine
          ∙ are.offsets
          ∙ sym (offsets_other x.block x.index y.block y.index (offsets_in left) w.state.controlled differ.1);
      live =
          subst (AllLive w.places (after_pop w x number o left new).state) (sym mine)
          (moved_pop w x number o left new (w.services.controlled mark)
          (live_popped w.places w.state o (w.services.controlled mark) differ.2 are.live));
    }
