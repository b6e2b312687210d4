-- The layout of an image's version: its heap is where the ghost has it, and all that is held stands in data.
use Rattle.std.proofs.Common.{◌≡◌, ℕ, ◌+◌, ◌*◌, ◌%◌, ◌^◌, ◌≤◌, ℤ, List, length, Some, true, false, refl, sym, ap, ◌∙◌}
use Rattle.std.proofs.Common.{arith, subst}
use Rattle.std.proofs.lemmas.Bool.Decides.{nat_tests}
use Rattle.std.specs.Prelude.{nat_le, ◌&&◌}
use Rattle.pli_meaning.specs.BasicValues.{Name}
use Rattle.pli_meaning.specs.Contents.{Generation}
use Rattle.pli_meaning.specs.StorageState.{generation_at, first_state, heap_serial, heap_capacity}
use Rattle.area_keeper.specs.Keeper.{Keeper}
use Rattle.area_keeper.specs.KeeperLaws.{Keeps}
use Rattle.pli_serving.specs.Bytes.{Layout, is_data}
use Rattle.pli_serving.specs.Values.{element_size}
use Rattle.storage_relation.proofs.Aligned.{named_placed}
use Rattle.storage_relation.proofs.Confined.{element_allocated}
use Rattle.storage_relation.proofs.Elements.{element_inside}
use Rattle.storage_relation.proofs.Kept.{same_address}
use Rattle.storage_relation.proofs.Named.{named_at}
use Rattle.storage_relation.proofs.ClearBytes.{stored_first}
use Rattle.storage_relation.specs.Served.{HasHeap, Now, Holds, place_now}
use Rattle.storage_relation.specs.Standing.{Holder, held, bytes_of, size_of, leaf_in, place_in, IsPlain, IsElement}
use Rattle.storage_relation.specs.Standing.{IsElementNow, address_now}
use Rattle.storage_relation.specs.Stored.{Places, StoredAs, AreTold}
use Rattle.storage_relation.specs.Versions.{Version, first_version, IsSoundVersion, IsLaidOut}

pub first_sound : (code_bytes : ℕ) → code_bytes ≤ 14 * 2 ^ 20 → IsSoundVersion (first_version code_bytes)
first_sound code_bytes h = record { room = omega arith; aligned = refl; behind = h }

pub has_heap : (f : Version) (w : Now) → IsLaidOut f w → HasHeap w.layout w.places
has_heap f w laid =
    record {
      at = ap (λ (y : Layout). y.heap_at) laid.layout_same ∙ sym laid.heap;
      capacity = ap (λ (y : Layout). y.heap_capacity) laid.layout_same;
    }

-- bytes behind the code and within memory are data
pub data_is : (f : Version) (w : Now) (at n : ℕ) → IsLaidOut f w → w.places.low ≤ at → at + n ≤ length w.memory →
    is_data w.layout at n ≡ true
data_is f w at n laid above within =
    let low = laid.low in
    let size = laid.size in
    ap (λ y. is_data y at n) laid.layout_same
    ∙ by f.code_bytes f.end (omega (arith, low, above)) (omega (arith, size, within))
  where
    by : (b e : ℕ) → b ≤ at → at + n ≤ e → nat_le b at && nat_le (at + n) e ≡ true
    by b e low high = grind (arith, nat_tests)

-- all that is held
pub holder_data :
    (f : Version) (w : Now) → IsLaidOut f w → Holds w → (n : ℕ) (h : Holder) → held w.state n ≡ Some h →
    is_data w.layout (w.places.at n) (bytes_of w.keeper h) ≡ true
holder_data f w laid holds n h e =
    data_is f w (w.places.at n) (bytes_of w.keeper h) laid (holds.stored.placed n h e).0 (holds.stored.inside n h e)

-- a generation that a name names, and each of its elements
pub named_data :
    (f : Version) (w : Now) → IsLaidOut f w → Holds w → (n : Name) (g : Generation) → generation_at w.state n ≡ Some g →
    IsPlain g →
    is_data w.layout (place_now w n) (size_of g) ≡ true
named_data f w laid holds n g e plain =
    let above = w.state.serials + 1 in
    let at = named_at w.keeper holds.keeps w.places w.state w.memory above n g holds.stored holds.lives.falling e
    plain in
    let low = named_placed w.keeper holds.keeps w.places w.state w.memory above n g holds.stored holds.lives.falling e
    plain in
    data_is f w (place_now w n) (size_of g) laid low.0 at.inside

pub element_data :
    (f : Version) (w : Now) → IsLaidOut f w → Holds w → (n : Name) (g : Generation) (leaf : ℕ) (is : List ℤ) →
    generation_at w.state n ≡ Some g → IsPlain g × IsElement g leaf is →
    is_data w.layout (place_now w n + place_in g leaf is) (element_size (leaf_in g leaf).kind) ≡ true
element_data f w laid holds n g leaf is e h =
    let above = w.state.serials + 1 in
    let at = named_at w.keeper holds.keeps w.places w.state w.memory above n g holds.stored holds.lives.falling e h.0 in
    let low = named_placed w.keeper holds.keeps w.places w.state w.memory above n g holds.stored holds.lives.falling e
    h.0 in
    let first = low.0 in
    let inside = at.inside in
    let own = element_inside g leaf is h.1 in
    data_is f w (place_now w n + place_in g leaf is) (element_size (leaf_in g leaf).kind) laid
    (omega (arith, first)) (omega (arith, inside, own))

-- also by the address that the extent in force gives
pub element_now_data :
    (f : Version) (w : Now) → IsLaidOut f w → Holds w → (n : Name) (g : Generation) (z : ℤ) (leaf : ℕ) (is : List ℤ) →
    (generation_at w.state n ≡ Some g) × IsPlain g × IsElementNow g z leaf is →
    is_data w.layout (address_now g z leaf is (place_now w n)) (element_size (leaf_in g leaf).kind) ≡ true
element_now_data f w laid holds n g z leaf is h =
    let same = same_address g.shape z g.extent leaf is (place_now w n) h.2.leaf_there in
    let at : address_now g z leaf is (place_now w n) ≡ place_now w n + place_in g leaf is = same ∙ omega arith in
    ap (λ a. is_data w.layout a (element_size (leaf_in g leaf).kind)) at
    ∙ element_data f w laid holds n g leaf is h.0 (h.1, element_allocated g z leaf is h.2)

-- ---- the first state

-- in a sound version the heap has its room, whatever the keeper
pub heap_room : (f : Version) (k : Keeper) → Keeps k → IsSoundVersion f → f.heap_at + k.bytes_for heap_capacity ≤ f.end
heap_room f k keeps sound =
    let few = keeps.making.few heap_capacity in
    let room = sound.room in
    omega (arith, few, room)

-- where nothing lives yet, memory of any bytes has it, but for those that are told of static data
pub first_stored :
    (f : Version) (k : Keeper) → Keeps k → IsSoundVersion f → (π : Places) (input m : List ℕ) → π.heap_made ≡ false →
    (π.at heap_serial ≡ f.heap_at) × (π.low ≤ f.heap_at) → length m ≡ f.end →
    AreTold π.constants π.low f.heap_at m → StoredAs k π (first_state input) m
first_stored f k keeps sound π input m unmade here size told =
    let at = here.0 in
    let low = here.1 in
    let room = heap_room f k keeps sound in
    stored_first k keeps π input m unmade (omega (arith, room, at, size)) (omega (arith, low, at))
    (ap (λ n. n % 4) at ∙ sound.aligned) (subst (λ n. AreTold π.constants π.low n m) (sym at) told)
