-- What names name after changes, in the storage machine: the law of stores and loads there.
use Rattle.std.proofs.Common.{◌≡◌, ◌≢◌, ℕ, ◌+◌, ◌*◌, ◌/◌, ◌≤◌, List, [], ◌∷◌, Option, Some, None, Bool, true, false}
use Rattle.std.proofs.Common.{refl, sym, ap, ◌∙◌, arith}
use Rattle.std.proofs.lemmas.Bool.{eqb-true}
use Rattle.std.specs.Prelude.{cond, ◌==◌, nat_lt}
use Rattle.pli_typing.specs.Signatures.{data_size}
use Rattle.pli_meaning.specs.BasicValues.{Name, NullName, VariableName, BasedName}
use Rattle.pli_meaning.specs.Contents.{Generation, Placed, end_of, signature_of, with_placed, placed_at, changed_at}
use Rattle.pli_meaning.specs.Contents.{IsOrdered}
use Rattle.pli_meaning.specs.StorageState.{State, Living, AreaContents, area_in, area_at, living_of, living_changed}
use Rattle.pli_meaning.specs.StorageState.{area_changed, generation_of, generation_in, generation_at}
use Rattle.pli_meaning.specs.StorageState.{generation_changed, with_generation, with_area, heap_serial, heap_capacity}
use Rattle.storage_relation.proofs.Holders.{eqb-refl, eqb-other, living_of-changed, area_of-other}
use Rattle.storage_relation.proofs.Named.{based_in}
use Rattle.storage_relation.specs.Stored.{with_placed_in}

-- ---- in an area

pub changed_found :
    (ps : List Placed) (o : ℕ) (change : Generation → Generation) (g : Generation) → placed_at ps o ≡ Some g →
    placed_at (changed_at o change ps) o ≡ Some (change g)
changed_found [] o change g e = absurd (cc e)
changed_found (p ∷ ps) o change g e = by (p.offset == o) refl e (λ f. changed_found ps o change g f)
  where
    by :
        (q : Bool) → (p.offset == o) ≡ q → cond q (Some p.generation) (placed_at ps o) ≡ Some g →
        (placed_at ps o ≡ Some g → placed_at (changed_at o change ps) o ≡ Some (change g)) →
        placed_at (cond q (record { offset = o; generation = change p.generation } ∷ ps) (p ∷ changed_at o change ps)) o
        ≡ Some (change g)
    by true q e rest =
        let f : p.generation ≡ g = cc e in ap (λ t. cond t (Some (change p.generation)) (placed_at ps o)) (eqb-refl o)
        ∙ ap (λ x. Some (change x)) f
    by false q e rest = ap (λ t. cond t (Some p.generation) (placed_at (changed_at o change ps) o)) q ∙ rest e

pub changed_other :
    (ps : List Placed) (o p : ℕ) (change : Generation → Generation) → p ≢ o →
    placed_at (changed_at o change ps) p ≡ placed_at ps p
changed_other [] o p change ne = refl
changed_other (x ∷ ps) o p change ne = by (x.offset == o) refl (changed_other ps o p change ne)
  where
    by :
        (q : Bool) → (x.offset == o) ≡ q → placed_at (changed_at o change ps) p ≡ placed_at ps p →
        placed_at (cond q (record { offset = o; generation = change x.generation } ∷ ps) (x ∷ changed_at o change ps)) p
        ≡ placed_at (x ∷ ps) p
    by true q rest =
        let xo = eqb-true x.offset o q in
        let a : (o == p) ≡ false = eqb-other o p (λ e. ne (sym e)) in
        let b : (x.offset == p) ≡ false = eqb-other x.offset p (λ e. ne (sym e ∙ xo)) in
        ap (λ t. cond t (Some (change x.generation)) (placed_at ps p)) a
        ∙ sym (ap (λ t. cond t (Some x.generation) (placed_at ps p)) b)
    by false q rest = ap (λ r. cond (x.offset == p) (Some x.generation) r) rest

pub footprint_some : (n : ℕ) → 16 ≤ 16 + (n + 15) / 16 * 16
footprint_some n = omega arith

pub behind :
    (start capacity : ℕ) (n : Placed) (ps : List Placed) → IsOrdered start capacity (with_placed n ps) →
    start ≤ n.offset
behind start capacity n [] i = i.0
behind start capacity n (p ∷ ps) i = by (nat_lt n.offset p.offset) i (λ j. behind (end_of p) capacity n ps j)
  where
    by :
        (q : Bool) → IsOrdered start capacity (cond q (n ∷ p ∷ ps) (p ∷ with_placed n ps)) →
        (IsOrdered (end_of p) capacity (with_placed n ps) → end_of p ≤ n.offset) → start ≤ n.offset
    by true i more = i.0
    by false i more =
        let rest = more i.3 in
        let some = footprint_some (data_size (signature_of p.generation)) in
        let a = i.0 in
        omega (arith, a, rest, some)

-- what was placed is found
pub placed_found :
    (start capacity : ℕ) (n : Placed) (ps : List Placed) → IsOrdered start capacity (with_placed n ps) →
    placed_at (with_placed n ps) n.offset ≡ Some n.generation
placed_found start capacity n [] i = ap (λ t. cond t (Some n.generation) None) (eqb-refl n.offset)
placed_found start capacity n (p ∷ ps) i =
    by (nat_lt n.offset p.offset) i (λ j. placed_found (end_of p) capacity n ps j)
  where
    by :
        (q : Bool) → IsOrdered start capacity (cond q (n ∷ p ∷ ps) (p ∷ with_placed n ps)) →
        (IsOrdered (end_of p) capacity (with_placed n ps) → placed_at (with_placed n ps) n.offset ≡ Some n.generation) →
        placed_at (cond q (n ∷ p ∷ ps) (p ∷ with_placed n ps)) n.offset ≡ Some n.generation
    by true i more = ap (λ t. cond t (Some n.generation) (placed_at (p ∷ ps) n.offset)) (eqb-refl n.offset)
    by false i more =
        let after = behind (end_of p) capacity n ps i.3 in
        let some = footprint_some (data_size (signature_of p.generation)) in
        let ne : p.offset ≢ n.offset = omega (arith, after, some) in
        ap (λ t. cond t (Some p.generation) (placed_at (with_placed n ps) n.offset)) (eqb-other p.offset n.offset ne)
        ∙ more i.3

-- ---- in the state

area_in-changed :
    (o : Option Living) (change : List Placed → List Placed) (a : AreaContents) (n : ℕ) (ls : List Living) →
    living_of ls n ≡ o → area_in o ≡ Some a → area_in (living_of (living_changed n (area_changed change) ls) n)
    ≡ Some (with_placed_in a (change a.placed))
area_in-changed None change a n ls f e = absurd (cc e)
area_in-changed (Some l) change a n ls f e =
    let other = area_of-other l.generation.shape.signature.leaves l.placed (change l.placed) a e in
    ap area_in (living_of-changed n (area_changed change) ls l (λ x. refl) f)
    ∙ other.1
    ∙ ap (λ ps. Some (with_placed_in a (change ps))) (sym other.0)

pub area_found :
    (s : State) (n : ℕ) (change : List Placed → List Placed) (a : AreaContents) → area_at s n ≡ Some a →
    area_at (with_area n change s) n ≡ Some (with_placed_in a (change a.placed))
area_found s n change a e = by (n == heap_serial) refl e
  where
    by :
        (q : Bool) → (n == heap_serial) ≡ q → cond q (Some (record { capacity = heap_capacity; placed = s.heap }))
        (area_in (living_of s.living n)) ≡ Some a →
        area_at (cond q (record s { heap = change s.heap })
        (record s { living = living_changed n (area_changed change) s.living })) n
        ≡ Some (with_placed_in a (change a.placed))
    by true q e =
        let f : record { capacity = heap_capacity; placed = s.heap } ≡ a = cc e in
        ap (λ t. cond t (Some (record { capacity = heap_capacity; placed = change s.heap }))
        (area_in (living_of s.living n))) q
        ∙ ap (λ (x : AreaContents). Some (with_placed_in x (change x.placed))) f
    by false q e =
        ap (λ t. cond t (Some (record { capacity = heap_capacity; placed = s.heap }))
        (area_in (living_of (living_changed n (area_changed change) s.living) n))) q
        ∙ area_in-changed (living_of s.living n) change a n s.living refl e

-- a generation that was stored in is the changed one
pub stored_found :
    (s : State) (n : Name) (change : Generation → Generation) (g : Generation) → generation_at s n ≡ Some g →
    generation_at (with_generation n change s) n ≡ Some (change g)
stored_found s NullName change g e = absurd (cc e)
stored_found s (VariableName n) change g e = by (living_of s.living n) refl e
  where
    by :
        (o : Option Living) → living_of s.living n ≡ o → generation_of o ≡ Some g →
        generation_of (living_of (living_changed n (generation_changed change) s.living) n) ≡ Some (change g)
    by None f e = absurd (cc e)
    by (Some l) f e =
        let same : l.generation ≡ g = cc e in
        ap generation_of (living_of-changed n (generation_changed change) s.living l (λ x. refl) f)
        ∙ ap (λ x. Some (change x)) same
stored_found s (BasedName n o) change g e =
    let b = based_in (area_at s n) o g e in
    ap (λ r. generation_in r o) (area_found s n (changed_at o change) b.0 b.1) ∙ changed_found b.0.placed o change g b.2

-- one that was placed is there
pub allocated_found :
    (s : State) (n o : ℕ) (g : Generation) (a : AreaContents) → area_at s n ≡ Some a →
    IsOrdered 0 a.capacity (with_placed (record { offset = o; generation = g }) a.placed) →
    generation_at (with_area n (with_placed (record { offset = o; generation = g })) s) (BasedName n o) ≡ Some g
allocated_found s n o g a e ordered =
    ap (λ r. generation_in r o) (area_found s n (with_placed (record { offset = o; generation = g })) a e)
    ∙ placed_found 0 a.capacity (record { offset = o; generation = g }) a.placed ordered
