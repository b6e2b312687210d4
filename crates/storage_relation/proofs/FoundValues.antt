-- The services' generation is the meaning's wherever anyone looks, and values that are taken come back.
use Rattle.std.proofs.Common.{◌≡◌, ℕ, suc, ◌+◌, ◌≤◌, ℤ, List, [], ◌∷◌, take, map, Some, Bool, true, false, refl, sym}
use Rattle.std.proofs.Common.{ap, ◌∙◌, arith}
use Rattle.std.proofs.lemmas.Bool.Decides.{nat_tests}
use Rattle.std.specs.Prelude.{cond, ◌==◌, not, filter, nat_le}
use Rattle.pli_typing.specs.Signatures.{LeafKind, Fixed, Character, Varying, Bit, Pointer, Offset}
use Rattle.pli_typing.specs.TypedTree as Y
use Rattle.pli_meaning.specs.BasicValues.{Name, BasicValue, BasicNumber, BasicText, BasicBit, BasicPointer, BasicOffset}
use Rattle.pli_meaning.specs.Contents.{Generation, seen, number_in}
use Rattle.pli_meaning.specs.Evaluating.{extent_by, extent_in_force, includes_last, extent_told}
use Rattle.pli_meaning.specs.StorageState.{State, Living, generation_at, without_owner}
use Rattle.area_keeper.specs.Keeper.{Keeper}
use Rattle.area_keeper.specs.KeeperLaws.{Keeps}
use Rattle.pli_serving.specs.AggregateServices.{taken_bytes, taken_value}
use Rattle.pli_serving.specs.ServiceState as S
use Rattle.pli_serving.specs.Values as V
use Rattle.storage_relation.proofs.Elements.{size_covers, element_inside}
use Rattle.storage_relation.proofs.Named.{named_at}
use Rattle.storage_relation.proofs.StoreLists.{taken_back}
use Rattle.storage_relation.proofs.Values.{value_told, told_inside}
use Rattle.storage_relation.specs.Keeping.{IsNow, IsStorable, StoresText, StoresVarying, StoresNumber, StoresBit}
use Rattle.storage_relation.specs.Keeping.{StoresName, StoresOffset, NowText, NowVarying, NowSame}
use Rattle.storage_relation.specs.Served.{served_living}
use Rattle.storage_relation.specs.Standing.{leaves_of, leaf_in, place_in, size_of, IsPlain, IsElement}
use Rattle.storage_relation.specs.Stored.{Places, StoredAs, place_of, AreFalling, AreLow}
use Rattle.storage_relation.specs.Telling.{IsOf}

-- ---- a generation as services read it

pub found_value :
    (k : Keeper) → Keeps k → (π : Places) (s : State) (m : List ℕ) (above : ℕ) (n : Name) (g : Generation) (at : ℕ)
    (leaf : ℕ) (is : List ℤ) → StoredAs k π s m → AreFalling above s.living →
    generation_at s n ≡ Some g → IsPlain g → at ≡ place_of k π s m n → IsElement g leaf is →
    (V.generation_at g.shape g.extent at m).values leaf is ≡ g.values leaf is
found_value k keeps π s m above n g at leaf is there falling e plain a h =
    let p = place_of k π s m n in
    let own = named_at k keeps π s m above n g there falling e plain in
    let i = element_inside g leaf is h in
    let c = size_covers (leaf_in g leaf).kind in
    let told = told_inside (leaf_in g leaf).kind (g.values leaf is) (place_in g leaf is) p (size_of g) m
    (omega (arith, i, c)) (own.reads.elements leaf is h.0 h.1) in
    let same : V.element_address (leaves_of g) leaf (leaf_in g leaf) is at ≡ p + place_in g leaf is =
    omega (arith, a) in
    ap (λ x. V.value_at (leaf_in g leaf).kind x m) same ∙ value_told (leaf_in g leaf).kind (g.values leaf is)
    (p + place_in g leaf is) m told

-- so the extent in force is the same to both, where the member is an element
pub found_extent :
    (k : Keeper) → Keeps k → (π : Places) (s : State) (m : List ℕ) (above : ℕ) (n : Name) (g : Generation)
    (at member : ℕ) (leaves : Y.Part) → StoredAs k π s m → AreFalling above s.living →
    generation_at s n ≡ Some g → IsPlain g → at ≡ place_of k π s m n → g.shape.refer ≡ Some member →
    IsElement g member [] →
    extent_in_force (V.generation_at g.shape g.extent at m) leaves ≡ extent_in_force g leaves
found_extent k keeps π s m above n g at member leaves there falling e plain a refer h =
    let same = found_value k keeps π s m above n g at member [] there falling e plain a h in
    let one : extent_by (V.generation_at g.shape g.extent at m) leaves (Some member)
    ≡ extent_by g leaves (Some member) =
    ap (λ v. cond (includes_last g.shape leaves) (extent_told g (number_in v)) (Some g.extent)) same
    in
    ap (extent_by (V.generation_at g.shape g.extent at m) leaves) refer ∙ one ∙ sym (ap (extent_by g leaves) refer)

-- ---- what is taken onto the stack comes back

pub own_storable :
    (kind : LeafKind) (v : BasicValue) → IsOf kind v → (other : LeafKind) × IsStorable kind other (seen kind v)
own_storable (Fixed p) (BasicNumber z) h = (Fixed p, StoresNumber p z h.0 h.1)
own_storable (Character n) (BasicText t) h = (Character (n + 0), StoresText n 0 (take n t))
own_storable (Varying n) (BasicText t) h = let few = h.1 in (Varying (n + 0), StoresVarying n 0 t (omega (arith, few)))
own_storable Bit (BasicBit b) h = (Bit, StoresBit b)
own_storable Pointer (BasicPointer n) h = (Pointer, StoresName n h)
own_storable Offset (BasicOffset o) h = (Offset, StoresOffset o h)
own_storable _ _ h = absurd h

pub seen_back :
    (now kind : LeafKind) (v : BasicValue) → IsNow now kind → IsOf kind v →
    taken_value now (taken_bytes now (seen now v)) ≡ seen now v
seen_back now kind (BasicText t) (NowText n more) h = refl
seen_back now kind (BasicNumber t) (NowText n more) h = absurd h
seen_back now kind (BasicBit t) (NowText n more) h = absurd h
seen_back now kind (BasicPointer t) (NowText n more) h = absurd h
seen_back now kind (BasicOffset t) (NowText n more) h = absurd h
seen_back now kind (BasicText t) (NowVarying n w) h = refl
seen_back now kind (BasicNumber t) (NowVarying n w) h = absurd h
seen_back now kind (BasicBit t) (NowVarying n w) h = absurd h
seen_back now kind (BasicPointer t) (NowVarying n w) h = absurd h
seen_back now kind (BasicOffset t) (NowVarying n w) h = absurd h
seen_back now kind v (NowSame k) h = let r = own_storable k v h in taken_back k r.0 (seen k v) r.1

pub served_left :
    (π : Places) (height : ℕ) (ls : List Living) → AreLow (suc height) ls →
    filter (λ (l : S.Living). nat_le l.owner height) (map (served_living π) ls)
    ≡ map (served_living π) (without_owner (suc height) ls)
served_left π height [] low = refl
served_left π height (l ∷ ls) low =
    by (l.owner == suc height) (nat_le l.owner height) (test l.owner low.0) (served_left π height ls low.1)
  where
    test : (o : ℕ) → o ≤ suc height → nat_le o height ≡ not (o == suc height)
    test o h = grind (arith, nat_tests)

    by :
        (q r : Bool) → r ≡ not q → filter (λ (l : S.Living). nat_le l.owner height) (map (served_living π) ls)
        ≡ map (served_living π) (without_owner (suc height) ls) →
        cond r (served_living π l ∷ filter (λ (l : S.Living). nat_le l.owner height) (map (served_living π) ls))
        (filter (λ (l : S.Living). nat_le l.owner height) (map (served_living π) ls))
        ≡ map (served_living π) (cond q (without_owner (suc height) ls) (l ∷ without_owner (suc height) ls))
    by true false e rest = rest
    by false true e rest = ap (λ xs. served_living π l ∷ xs) rest
    by true true e rest = absurd (cc e)
    by false false e rest = absurd (cc e)
