-- What services find by names is what the storage machine finds, where the memory has it.
use Rattle.std.proofs.Common.{◌≡◌, ℕ, ◌+◌, pos, List, [], ◌∷◌, map, Option, Some, None, Bool, true, false, refl, sym}
use Rattle.std.proofs.Common.{ap, ◌∙◌, subst}
use Rattle.std.proofs.lemmas.Bool.{eqb-true}
use Rattle.std.specs.Prelude.{cond, ◌==◌, option_map}
use Rattle.pli_typing.specs.Signatures.{LeafKind, Fixed, Character, Varying, Bit, Pointer, Offset, Area, Leaf}
use Rattle.pli_meaning.specs.BasicValues.{Name, NullName, VariableName, BasedName}
use Rattle.pli_meaning.specs.Contents.{Shape, same_shape, Generation, Placed, placed_at}
use Rattle.pli_meaning.specs.StorageState as M
use Rattle.pli_meaning.specs.StorageState.{State, Living, AreaContents, area_of_kind, area_of_leaves, area_in, area_at}
use Rattle.pli_meaning.specs.StorageState.{living_of, generation_at, if_same_shape, heap_serial, heap_capacity}
use Rattle.pli_types.specs.Templates.{Template}
use Rattle.area_keeper.specs.Keeper.{Kept, Keeper}
use Rattle.area_keeper.specs.KeeperLaws.{Keeps}
use Rattle.area_keeper.specs.KeptAreas.{kept_at, part}
use Rattle.pli_serving.specs.Bytes.{Layout}
use Rattle.pli_serving.specs.Finding as F
use Rattle.pli_serving.specs.Finding.{Call, AreaBytes, Finding, FoundAt, NotLiving}
use Rattle.pli_serving.specs.ServiceState as S
use Rattle.pli_serving.specs.Templates.{shape_at}
use Rattle.storage_relation.proofs.AreaLaws.{found}
use Rattle.storage_relation.proofs.Named.{area_holder, based_in}
use Rattle.storage_relation.proofs.Storing.{taken-some}
use Rattle.storage_relation.specs.Served.{served_living, asking, AreDistinct, HasHeap, area_bytes_of, IsFound}
use Rattle.storage_relation.specs.Standing.{AreKept, AreaStands, AreaOf}
use Rattle.storage_relation.specs.Stored.{Places, made_if, taken_as, slice, StoredAs, place_held, Lives}

-- ---- what lives

pub living_served :
    (π : Places) (ls : List Living) (n : ℕ) → S.living_of (map (served_living π) ls) n
    ≡ option_map (served_living π) (living_of ls n)
living_served π [] n = refl
living_served π (l ∷ ls) n = by (l.serial == n) (living_served π ls n)
  where
    by :
        (q : Bool) → S.living_of (map (served_living π) ls) n ≡ option_map (served_living π) (living_of ls n) →
        cond q (Some (served_living π l)) (S.living_of (map (served_living π) ls) n)
        ≡ option_map (served_living π) (cond q (Some l) (living_of ls n))
    by true rest = refl
    by false rest = rest

pub serial_found : (ls : List Living) (n : ℕ) (l : Living) → living_of ls n ≡ Some l → l.serial ≡ n
serial_found [] n l e = absurd (cc e)
serial_found (x ∷ ls) n l e = by (x.serial == n) refl e (λ f. serial_found ls n l f)
  where
    by :
        (q : Bool) → (x.serial == n) ≡ q → cond q (Some x) (living_of ls n) ≡ Some l →
        (living_of ls n ≡ Some l → l.serial ≡ n) → l.serial ≡ n
    by true q e rest = let f : x ≡ l = cc e in ap (λ (y : Living). y.serial) (sym f) ∙ eqb-true x.serial n q
    by false q e rest = rest e

kind_served :
    (c : Call) (kind : LeafKind) (ps : List Placed) (a : AreaContents) (at : ℕ) → area_of_kind kind ps ≡ Some a →
    F.area_of_kind c kind at ≡ Some (F.area_bytes c a.capacity at)
kind_served c (Area n) ps a at e =
    let f : record { capacity = n; placed = ps } ≡ a = cc e in
    ap (λ (x : AreaContents). Some (F.area_bytes c x.capacity at)) f
kind_served c (Fixed p) ps a at e = absurd (cc e)
kind_served c (Character p) ps a at e = absurd (cc e)
kind_served c (Varying p) ps a at e = absurd (cc e)
kind_served c Bit ps a at e = absurd (cc e)
kind_served c Pointer ps a at e = absurd (cc e)
kind_served c Offset ps a at e = absurd (cc e)

leaves_served :
    (c : Call) (leaves : List Leaf) (ps : List Placed) (a : AreaContents) (at : ℕ) → area_of_leaves leaves ps ≡ Some a →
    F.area_of_leaves c leaves at ≡ Some (F.area_bytes c a.capacity at)
leaves_served c [] ps a at e = absurd (cc e)
leaves_served c (l ∷ []) ps a at e = kind_served c l.kind ps a at e
leaves_served c (l ∷ m ∷ ls) ps a at e = absurd (cc e)

kind_unserved :
    (c : Call) (kind : LeafKind) (ps : List Placed) (at : ℕ) → area_of_kind kind ps ≡ None →
    F.area_of_kind c kind at ≡ None
kind_unserved c (Area n) ps at e = absurd (cc e)
kind_unserved c (Fixed p) ps at e = refl
kind_unserved c (Character p) ps at e = refl
kind_unserved c (Varying p) ps at e = refl
kind_unserved c Bit ps at e = refl
kind_unserved c Pointer ps at e = refl
kind_unserved c Offset ps at e = refl

leaves_unserved :
    (c : Call) (leaves : List Leaf) (ps : List Placed) (at : ℕ) → area_of_leaves leaves ps ≡ None →
    F.area_of_leaves c leaves at ≡ None
leaves_unserved c [] ps at e = refl
leaves_unserved c (l ∷ []) ps at e = kind_unserved c l.kind ps at e
leaves_unserved c (l ∷ m ∷ ls) ps at e = refl

pub heap_served :
    (k : Keeper) (y : Layout) (π : Places) (s : State) (v : S.Services) (m : List ℕ) → HasHeap y π →
    F.heap_bytes (asking k y π s v m) ≡ record {
      at = π.at heap_serial;
      bytes =
          made_if k π.heap_made (part (π.at heap_serial) (k.bytes_for heap_capacity) m);
    }
heap_served k y π s v m has = by π.heap_made
  where
    by :
        (q : Bool) →
        F.heap_if (asking k y π s v m) q (F.area_bytes (asking k y π s v m) y.heap_capacity y.heap_at)
        ≡ record { at = π.at heap_serial; bytes = made_if k q (part (π.at heap_serial) (k.bytes_for heap_capacity) m) }
    by true =
        ap (λ p. record { at = p; bytes = part p (k.bytes_for y.heap_capacity) m }) has.at
        ∙ ap (λ n. record { at = π.at heap_serial; bytes = part (π.at heap_serial) (k.bytes_for n) m }) has.capacity
    by false =
        ap (λ p. record { at = p; bytes = k.made y.heap_capacity (part p (k.bytes_for y.heap_capacity) m) }) has.at
        ∙ ap (λ n. record { at = π.at heap_serial; bytes = k.made n (part (π.at heap_serial) (k.bytes_for n) m) })
        has.capacity

-- an area that lives
pub area_served :
    (k : Keeper) (y : Layout) (π : Places) (s : State) (v : S.Services) (m : List ℕ) (n : ℕ) (a : AreaContents) →
    HasHeap y π → Lives π s → area_at s n ≡ Some a →
    F.area_at (asking k y π s v m) n ≡ Some (area_bytes_of k π m n a)
area_served k y π s v m n a has lives e = by (n == heap_serial) refl e
  where
    by_living :
        (o : Option Living) → living_of s.living n ≡ o → area_in o ≡ Some a →
        F.area_living (asking k y π s v m) (option_map (served_living π) o)
        ≡ Some (F.area_bytes (asking k y π s v m) a.capacity (π.at n))
    by_living None f e = absurd (cc e)
    by_living (Some l) f e =
        let serial = serial_found s.living n l f in
        let shape : shape_at π.signatures (π.number l.serial) ≡ Some l.generation.shape =
        ap (λ i. shape_at π.signatures (π.number i)) serial ∙ lives.numbered n l f in
        ap (λ o. F.area_of_shape (asking k y π s v m) o (π.at l.serial)) shape
        ∙ leaves_served (asking k y π s v m) l.generation.shape.signature.leaves l.placed a (π.at l.serial) e
        ∙ ap (λ i. Some (F.area_bytes (asking k y π s v m) a.capacity (π.at i))) serial

    by :
        (q : Bool) → (n == heap_serial) ≡ q → cond q (Some (record { capacity = heap_capacity; placed = s.heap }))
        (area_in (living_of s.living n)) ≡ Some a →
        cond q (Some (F.heap_bytes (asking k y π s v m))) (F.area_living (asking k y π s v m)
        (S.living_of (map (served_living π) s.living) n))
        ≡ Some (record {
          at = π.at n;
          bytes = cond q (made_if k π.heap_made (slice k π n (AreaOf a) m))
              (slice k π n (AreaOf a) m);
        })
    by true q e =
        let zero' = eqb-true n heap_serial q in
        let f : record { capacity = heap_capacity; placed = s.heap } ≡ a = cc e in
        ap Some (heap_served k y π s v m has)
        ∙ ap (λ (x : AreaContents). Some (record {
          at = π.at heap_serial;
          bytes =
              made_if k π.heap_made (slice k π heap_serial (AreaOf x) m);
        })) f
        ∙ ap (λ i. Some (record { at = π.at i; bytes = made_if k π.heap_made (slice k π i (AreaOf a) m) })) (sym zero')
    by false q e =
        ap (F.area_living (asking k y π s v m)) (living_served π s.living n) ∙ by_living (living_of s.living n) refl e

-- none lives by a serial that is no area's
pub area_unserved :
    (k : Keeper) (y : Layout) (π : Places) (s : State) (v : S.Services) (m : List ℕ) (n : ℕ) → Lives π s →
    area_at s n ≡ None → F.area_at (asking k y π s v m) n ≡ None
area_unserved k y π s v m n lives e = by (n == heap_serial) e
  where
    by_living :
        (o : Option Living) → living_of s.living n ≡ o → area_in o ≡ None →
        F.area_living (asking k y π s v m) (option_map (served_living π) o) ≡ None
    by_living None f e = refl
    by_living (Some l) f e =
        let serial = serial_found s.living n l f in
        let shape : shape_at π.signatures (π.number l.serial) ≡ Some l.generation.shape =
        ap (λ i. shape_at π.signatures (π.number i)) serial ∙ lives.numbered n l f in
        ap (λ o. F.area_of_shape (asking k y π s v m) o (π.at l.serial)) shape
        ∙ leaves_unserved (asking k y π s v m) l.generation.shape.signature.leaves l.placed (π.at l.serial) e

    by :
        (q : Bool) → cond q (Some (record { capacity = heap_capacity; placed = s.heap }))
        (area_in (living_of s.living n)) ≡ None →
        cond q (Some (F.heap_bytes (asking k y π s v m))) (F.area_living (asking k y π s v m)
        (S.living_of (map (served_living π) s.living) n)) ≡ None
    by true e = absurd (cc e)
    by false e =
        ap (F.area_living (asking k y π s v m)) (living_served π s.living n) ∙ by_living (living_of s.living n) refl e

-- ---- generations in areas

kept_found :
    (c : Call) (b : AreaBytes) (o : ℕ) (gs : List Kept) (g : Kept) → kept_at gs o ≡ Some g →
    F.found_kept c b o gs ≡ FoundAt (record {
      at = b.at + c.keeper.data_at o b.bytes;
      signature = g.signature;
      extent =
          g.extent;
    })
kept_found c b o [] g e = absurd (cc e)
kept_found c b o (x ∷ gs) g e = by (x.offset == o) e (λ f. kept_found c b o gs g f)
  where
    goal : Kept → Finding
    goal y = FoundAt (record { at = b.at + c.keeper.data_at o b.bytes; signature = y.signature; extent = y.extent })

    by :
        (q : Bool) → cond q (Some x) (kept_at gs o) ≡ Some g →
        (kept_at gs o ≡ Some g → F.found_kept c b o gs ≡ goal g) → cond q (goal x) (F.found_kept c b o gs) ≡ goal g
    by true e rest = let f : x ≡ g = cc e in ap goal f
    by false e rest = rest e

kept_unfound :
    (c : Call) (k : Keeper) (t : List Template) (bytes : List ℕ) (b : AreaBytes) (o : ℕ) (gs : List Kept)
    (ps : List Placed) → AreKept k t bytes gs ps → placed_at ps o ≡ None → F.found_kept c b o gs ≡ NotLiving
kept_unfound c k t bytes b o [] ps a e = refl
kept_unfound c k t bytes b o (g ∷ gs) [] a e = absurd a
kept_unfound c k t bytes b o (g ∷ gs) (p ∷ ps) a e =
    by (p.offset == o) (g.offset == o) (ap (λ y. y == o) a.0.offset) e (λ f. kept_unfound c k t bytes b o gs ps a.1 f)
  where
    by :
        (q r : Bool) → r ≡ q → cond q (Some p.generation) (placed_at ps o) ≡ None →
        (placed_at ps o ≡ None → F.found_kept c b o gs ≡ NotLiving) →
        cond r (FoundAt (record { at = b.at + c.keeper.data_at o b.bytes; signature = g.signature; extent = g.extent }))
        (F.found_kept c b o gs) ≡ NotLiving
    by true r s e rest = absurd (cc e)
    by false false s e rest = rest e
    by false true s e rest = absurd (cc s)

living_found :
    (k : Keeper) (y : Layout) (π : Places) (s : State) (v : S.Services) (m : List ℕ) (n : ℕ) (g : Generation)
    (o : Option Living) → Lives π s → living_of s.living n ≡ o → M.generation_of o ≡ Some g →
    IsFound k y π s v m (VariableName n) g
living_found k y π s v m n g None lives f e = absurd (cc e)
living_found k y π s v m n g (Some l) lives f e =
    let serial = serial_found s.living n l f in
    let same : l.generation ≡ g = cc e in
    record {
      found = record { at = π.at l.serial; signature = π.number l.serial; extent = pos 0 };
      is = ap F.found_living (living_served π s.living n ∙ ap (option_map (served_living π)) f);
      at = ap π.at serial;
      shape = ap (λ i. shape_at π.signatures (π.number i)) serial ∙ lives.numbered n l f
          ∙ ap (λ (x : Generation). Some x.shape) same;
      extent = sym (lives.extents n l f) ∙ ap (λ (x : Generation). x.extent) same;
    }

pub found_named :
    (k : Keeper) → Keeps k → (y : Layout) (π : Places) (s : State) (v : S.Services) (m : List ℕ) (n : Name)
    (g : Generation) → HasHeap y π → Lives π s → StoredAs k π s m →
    generation_at s n ≡ Some g → IsFound k y π s v m n g
found_named k keeps y π s v m NullName g has lives is e = absurd (cc e)
found_named k keeps y π s v m (VariableName n) g has lives is e =
    living_found k y π s v m n g (living_of s.living n) lives refl e
found_named k keeps y π s v m (BasedName n o) g has lives is e =
    let b = based_in (area_at s n) o g e in
    let a = b.0 in
    let h = area_holder s n a b.1 in
    let c = asking k y π s v m in
    let bytes = slice k π n (AreaOf a) m in
    let taken = taken-some k keeps π s m n a o g bytes is h b.2 in
    let area : AreaStands k π.signatures a bytes = subst (AreaStands k π.signatures a) taken
    (is.stands n (AreaOf a) h) in
    let f = found k π.signatures bytes area.kept a.placed o g area.are b.2 in
    let there : F.area_at c n ≡ Some (record { at = π.at n; bytes = bytes }) = area_served k y π s v m n a has lives b.1
    ∙ ap (λ x. Some (record { at = π.at n; bytes = x })) taken in
    record {
      found = record { at = π.at n + k.data_at o bytes; signature = f.0.signature; extent = f.0.extent };
      is =
          ap (F.found_based c o) there
          ∙ ap (F.found_in_area c (record { at = π.at n; bytes = bytes }) o) area.stands
          ∙ kept_found c (record { at = π.at n; bytes = bytes }) o area.kept f.0 f.1;
      at = sym (ap (place_held k π m n o) h);
      shape = f.3.shape;
      extent = f.3.extent;
    }

-- what doesn't live isn't found, and no bytes are taken for an area that are none
pub unfound_named :
    (k : Keeper) (y : Layout) (π : Places) (s : State) (v : S.Services) (m : List ℕ) (n : Name) → HasHeap y π →
    Lives π s → StoredAs k π s m →
    generation_at s n ≡ None → F.found (asking k y π s v m) n ≡ NotLiving
unfound_named k y π s v m NullName has lives is e = refl
unfound_named k y π s v m (VariableName n) has lives is e = by (living_of s.living n) refl e
  where
    by :
        (o : Option Living) → living_of s.living n ≡ o → M.generation_of o ≡ None →
        F.found_living (S.living_of (map (served_living π) s.living) n) ≡ NotLiving
    by None f e = ap F.found_living (living_served π s.living n ∙ ap (option_map (served_living π)) f)
    by (Some l) f e = absurd (cc e)
unfound_named k y π s v m (BasedName n o) has lives is e = by (area_at s n) refl e
  where
    by :
        (r : Option AreaContents) → area_at s n ≡ r → M.generation_in r o ≡ None →
        F.found_based (asking k y π s v m) o (F.area_at (asking k y π s v m) n) ≡ NotLiving
    by None f e = ap (F.found_based (asking k y π s v m) o) (area_unserved k y π s v m n lives f)
    by (Some a) f e =
        let area = is.stands n (AreaOf a) (area_holder s n a f) in
        ap (F.found_based (asking k y π s v m) o) (area_served k y π s v m n a has lives f)
        ∙ ap (F.found_in_area (asking k y π s v m) (area_bytes_of k π m n a) o) area.stands
        ∙ kept_unfound (asking k y π s v m) k π.signatures (taken_as k π n (slice k π n (AreaOf a) m))
        (area_bytes_of k π m n a) o area.kept a.placed area.are e

-- ---- by name and signature

-- the number of a shape asks for that shape
pub named_found :
    (k : Keeper) → Keeps k → (y : Layout) (π : Places) (s : State) (v : S.Services) (m : List ℕ) (n : Name) (number : ℕ)
    (shape : Shape) (g : Generation) → HasHeap y π → Lives π s → StoredAs k π s m → AreDistinct π.signatures →
    shape_at π.signatures number ≡ Some shape → M.named s n shape ≡ Some g →
    (i : IsFound k y π s v m n g) × (F.named (asking k y π s v m) n number ≡ FoundAt i.found)
named_found k keeps y π s v m n number shape g has lives is distinct e f = by (generation_at s n) refl f
  where
    by :
        (o : Option Generation) → generation_at s n ≡ o → if_same_shape shape o ≡ Some g → (i : IsFound k y π s v m n g)
        × (F.named (asking k y π s v m) n number ≡ FoundAt i.found)
    by None q f = absurd (cc f)
    by (Some h) q f = by_shape (same_shape h.shape shape) refl f
      where
        by_shape : (t : Bool) → same_shape h.shape shape ≡ t → cond t (Some h) None ≡ Some g →
            (i : IsFound k y π s v m n g) × (F.named (asking k y π s v m) n number ≡ FoundAt i.found)
        by_shape false t f = absurd (cc f)
        by_shape true t f =
            let same : h ≡ g = cc f in
            let i = found_named k keeps y π s v m n g has lives is (q ∙ ap Some same) in
            let u : same_shape g.shape shape ≡ true = ap (λ (x : Generation). same_shape x.shape shape) (sym same)
            ∙ t in
            let test : (i.found.signature == number) ≡ true =
            sym (distinct i.found.signature number g.shape shape i.shape e) ∙ u in
            (i, ap (F.if_of_signature number) i.is ∙ ap (λ w. cond w (FoundAt i.found) NotLiving) test)

pub named_unfound :
    (k : Keeper) → Keeps k → (y : Layout) (π : Places) (s : State) (v : S.Services) (m : List ℕ) (n : Name) (number : ℕ)
    (shape : Shape) → HasHeap y π → Lives π s → StoredAs k π s m → AreDistinct π.signatures →
    shape_at π.signatures number ≡ Some shape → M.named s n shape ≡ None →
    F.named (asking k y π s v m) n number ≡ NotLiving
named_unfound k keeps y π s v m n number shape has lives is distinct e f = by (generation_at s n) refl f
  where
    by :
        (o : Option Generation) → generation_at s n ≡ o → if_same_shape shape o ≡ None →
        F.named (asking k y π s v m) n number ≡ NotLiving
    by None q f = ap (F.if_of_signature number) (unfound_named k y π s v m n has lives is q)
    by (Some h) q f = by_shape (same_shape h.shape shape) refl f
      where
        by_shape :
            (t : Bool) → same_shape h.shape shape ≡ t → cond t (Some h) None ≡ None →
            F.named (asking k y π s v m) n number ≡ NotLiving
        by_shape true t f = absurd (cc f)
        by_shape false t f =
            let i = found_named k keeps y π s v m n h has lives is q in
            let test : (i.found.signature == number) ≡ false =
            sym (distinct i.found.signature number h.shape shape i.shape e) ∙ t in
            ap (F.if_of_signature number) i.is ∙ ap (λ w. cond w (FoundAt i.found) NotLiving) test
