-- What services make: a variable's data and its name, and a generation placed in an area or the heap.
use Rattle.std.proofs.Common.{◌≡◌, ◌≢◌, ◌⊎◌, ℕ, ◌+◌, ◌^◌, ◌<◌, ◌≤◌, List, [], length, Some, None, false, sym, ap, ◌∙◌}
use Rattle.std.proofs.Common.{subst, arith}
use Rattle.std.specs.Int.{w32}
use Rattle.std.specs.Prelude.{FitsSigned, ◌%◌}
use Rattle.pli_meaning.specs.Contents.{Generation, footprint_of, gap, with_placed}
use Rattle.pli_meaning.specs.Making as M
use Rattle.pli_meaning.specs.StorageState.{State, Living, AreaContents, area_of_leaves, with_area, heap_serial}
use Rattle.pli_meaning.specs.StorageState.{heap_capacity}
use Rattle.area_keeper.proofs.Agreement.{length_with_part}
use Rattle.pli_types.specs.Templates.{Template}
use Rattle.area_keeper.specs.Keeper.{Keeper}
use Rattle.area_keeper.specs.KeeperLaws.{Keeps, greatest_capacity}
use Rattle.area_keeper.specs.KeptAreas.{part, with_part}
use Rattle.pli_serving.specs.AreaServices as A
use Rattle.pli_serving.specs.Bytes.{Layout}
use Rattle.pli_serving.specs.ServiceState as S
use Rattle.pli_serving.specs.Templates.{shape_at}
use Rattle.pli_serving.specs.Values.{generation_bytes}
use Rattle.storage_relation.proofs.AreaLaws.{area_made, area_full}
use Rattle.storage_relation.proofs.Placing.{added, fewer, placed, placed_first}
use Rattle.storage_relation.proofs.Slices.{part_beside, part_written}
use Rattle.storage_relation.proofs.Spelling.{spelled_length, reads_spelled}
use Rattle.storage_relation.proofs.Turning.{stored_beside}
use Rattle.storage_relation.specs.Served.{asking, area_bytes_of}
use Rattle.storage_relation.specs.Standing.{size_of, holder_by, holder_of, held, bytes_of, Stands, IsValued}
use Rattle.storage_relation.specs.Standing.{leaves_of, Alone, AreaOf}
use Rattle.storage_relation.specs.Stored.{Places, made_if, taken_as, Beside, slice, StoredAs, with_place, with_living}
use Rattle.storage_relation.specs.Stored.{with_heap_made, IsClear}
use Rattle.storage_relation.specs.Telling.{AllHaveValues}

-- ---- a variable: its data, then its name before it or elsewhere

pub made :
    (k : Keeper) (π : Places) (s : State) (m b named : List ℕ) (l : Living) (place name number : ℕ) → StoredAs k π s m →
    l.serial ≢ heap_serial →
    place + length b ≤ length m → π.low ≤ place → place % 4 ≡ 0 → name + length named ≤ length m →
    Beside place (length b) name (length named) →
    IsClear k π s place (length b) → IsClear k π s name (length named) →
    length b ≡ bytes_of k (holder_of l) → Stands k π.signatures (holder_of l) b →
    StoredAs k (with_place l.serial place number π) (with_living l s) (with_part named name (with_part b place m))
made k π s m b named l place name number is some room above aligned more apart free clear long stands =
    let first = stored_beside k π s m b place is room free in
    let one : length (with_part b place m) ≡ length m = length_with_part b place m room in
    let second = stored_beside k π s (with_part b place m) named name first (omega (arith, one, more)) clear in
    let two : length (with_part named name (with_part b place m)) ≡ length (with_part b place m) =
    length_with_part named name (with_part b place m) (omega (arith, one, more)) in
    let own : part place (length b) (with_part named name (with_part b place m)) ≡ b =
    part_beside place (length b) named name (with_part b place m) (omega (arith, one, more)) (omega (arith, one, room))
    (turned apart)
    ∙ part_written b place m room
    in
    added k π s (with_part named name (with_part b place m)) l place number second some
    (omega (arith, one, two, room, long)) above aligned
    (subst (IsClear k π s place) long free)
    (subst (λ n. Stands k π.signatures (holder_of l) (part place n (with_part named name (with_part b place m)))) long
    (subst (Stands k π.signatures (holder_of l)) (sym own) stands))
  where
    turned : Beside place (length b) name (length named) → (place + length b ≤ name) ⊎ (name + length named ≤ place)
    turned o = o

-- what begins by itself, and as an area
pub begins_alone :
    (k : Keeper) (t : List Template) (serial owner : ℕ) (g : Generation) →
    area_of_leaves g.shape.signature.leaves [] ≡ None →
    AllHaveValues (leaves_of g) → IsValued g →
    (length (generation_bytes g) ≡ bytes_of k (holder_of (M.living_at serial owner g)))
    × Stands k t (holder_of (M.living_at serial owner g)) (generation_bytes g)
begins_alone k t serial owner g plain all valued =
    let e : holder_of (M.living_at serial owner g) ≡ Alone g = ap (holder_by g) plain in (
      spelled_length g all ∙ ap (bytes_of k) (sym e),
      subst (λ h. Stands k t h (generation_bytes g)) (sym e)
          (reads_spelled g all valued),
    )

pub begins_area :
    (k : Keeper) → Keeps k → (t : List Template) (serial owner capacity : ℕ) (g : Generation) (old : List ℕ) →
    area_of_leaves g.shape.signature.leaves [] ≡ Some (record { capacity = capacity; placed = [] }) →
    capacity % 16 ≡ 0 → capacity ≤ greatest_capacity → length old ≡ k.bytes_for capacity →
    (length (k.made capacity old) ≡ bytes_of k (holder_of (M.living_at serial owner g)))
    × Stands k t (holder_of (M.living_at serial owner g)) (k.made capacity old)
begins_area k keeps t serial owner capacity g old is rounded few long =
    let e : holder_of (M.living_at serial owner g) ≡ AreaOf (record { capacity = capacity; placed = [] }) =
    ap (holder_by g) is in
    let r = area_made k t keeps capacity old rounded few long in
    (r.1 ∙ long ∙ ap (bytes_of k) (sym e), subst (λ h. Stands k t h (k.made capacity old)) (sym e) r.0)

-- the storage machine's state has more besides what is held
pub same_held :
    (k : Keeper) (π : Places) (s t : State) (m : List ℕ) → t.living ≡ s.living → t.heap ≡ s.heap → StoredAs k π s m →
    StoredAs k π t m
same_held k π s t m e f is = fewer k π s t m is (λ j h there. same j ∙ there)
  where
    same : (j : ℕ) → held s j ≡ held t j
    same j = cc (e, f)

-- ---- service 10: a generation is placed where the storage machine has its gap, or there is none

pub placed_served :
    (k : Keeper) → Keeps k → (y : Layout) (π : Places) (s : State) (v : S.Services) (m : List ℕ) (n o signature : ℕ)
    (a : AreaContents) (g : Generation) →
    ((bytes : List ℕ) → taken_as k π n bytes ≡ bytes) → StoredAs k π s m → held s n ≡ Some (AreaOf a) →
    gap a.capacity (footprint_of g) a.placed ≡ Some o → signature < 2 ^ 32 → FitsSigned w32 g.extent →
    shape_at π.signatures signature ≡ Some g.shape → AllHaveValues (leaves_of g) → IsValued g →
    (new : List ℕ) × (A.placed_in (asking k y π s v m) (area_bytes_of k π m n a) signature g
    ≡ Some (record { offset = o; memory = new }))
    × StoredAs k π (with_area n (with_placed (record { offset = o; generation = g })) s) new
placed_served k keeps y π s v m n o signature a g taken is e free small fits shape all valued =
    let r = placed k keeps π s m n o signature a g (generation_bytes g) taken is e free small fits shape
    (spelled_length g all) (reads_spelled g all valued) in
    let bytes = slice k π n (AreaOf a) m in
    let found : k.allocated (size_of g) signature g.extent (taken_as k π n bytes) ≡ Some (o, r.0) =
    ap (k.allocated (size_of g) signature g.extent) (taken bytes) ∙ r.1 in (
      with_part (generation_bytes g) (π.at n + k.data_at o r.0) (with_part r.0 (π.at n) m),
      ap (A.with_data (asking k y π s v m) (area_bytes_of k π m n a) g) found,
      r.3,
    )

pub first_served :
    (k : Keeper) → Keeps k → (y : Layout) (π : Places) (s : State) (v : S.Services) (m : List ℕ) (o signature : ℕ)
    (g : Generation) →
    π.heap_made ≡ false → StoredAs k π s m →
    gap heap_capacity (footprint_of g) s.heap ≡ Some o → signature < 2 ^ 32 → FitsSigned w32 g.extent →
    shape_at π.signatures signature ≡ Some g.shape → AllHaveValues (leaves_of g) → IsValued g →
    (new : List ℕ) × (A.placed_in (asking k y π s v m) (area_bytes_of k π m 0
    (record { capacity = heap_capacity; placed = s.heap })) signature g ≡ Some (record { offset = o; memory = new }))
    × StoredAs k (with_heap_made π) (with_area 0 (with_placed (record { offset = o; generation = g })) s) new
first_served k keeps y π s v m o signature g unmade is free small fits shape all valued =
    let r = placed_first k keeps π s m o signature g (generation_bytes g) is unmade free small fits shape
    (spelled_length g all) (reads_spelled g all valued) in
    let a : AreaContents = record { capacity = heap_capacity; placed = s.heap } in
    let bytes = slice k π 0 (AreaOf a) m in
    let made' : taken_as k π 0 bytes ≡ k.made heap_capacity bytes = unmade_heap k π bytes unmade in
    let found : k.allocated (size_of g) signature g.extent (taken_as k π 0 bytes) ≡ Some (o, r.0) =
    ap (k.allocated (size_of g) signature g.extent) made' ∙ r.1 in (
      with_part (generation_bytes g) (π.at 0 + k.data_at o r.0) (with_part r.0 (π.at 0) m),
      ap (A.with_data (asking k y π s v m) (area_bytes_of k π m 0 a) g) found,
      r.2,
    )
  where
    unmade_heap :
        (k : Keeper) (π : Places) (bytes : List ℕ) → π.heap_made ≡ false →
        taken_as k π 0 bytes ≡ k.made heap_capacity bytes
    unmade_heap k π bytes e = ap (λ q. made_if k q bytes) e

pub full_served :
    (k : Keeper) → Keeps k → (y : Layout) (π : Places) (s : State) (v : S.Services) (m : List ℕ) (n signature : ℕ)
    (a : AreaContents) (g : Generation) →
    StoredAs k π s m → held s n ≡ Some (AreaOf a) → gap a.capacity (footprint_of g) a.placed ≡ None →
    A.placed_in (asking k y π s v m) (area_bytes_of k π m n a) signature g ≡ None
full_served k keeps y π s v m n signature a g is e none =
    ap (A.with_data (asking k y π s v m) (area_bytes_of k π m n a) g)
    (area_full k π.signatures keeps a (taken_as k π n (slice k π n (AreaOf a) m)) g signature
    (is.stands n (AreaOf a) e) none)
