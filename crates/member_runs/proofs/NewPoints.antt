-- The point behind ALLOCATE of a structure: the area has one generation more, and the pointer variable its name.
use Rattle.std.proofs.Common.{◌≡◌, ℕ, ◌+◌, List, []}
use Rattle.std.proofs.Common.{Some, refl, ap, ◌∙◌, subst, arith}
use Rattle.pli_meaning.specs.BasicValues.{BasedName, BasicPointer, Name, VariableName}
use Rattle.pli_meaning.specs.Contents.{Generation, with_placed}
use Rattle.pli_meaning.specs.Placing as P
use Rattle.pli_meaning.specs.StorageState.{State, area_changed, generation_at, generation_of}
use Rattle.area_keeper.specs.KeptAreas.{with_part}
use Rattle.pli_serving.specs.Bytes.{name_bytes}
use Rattle.storage_relation.specs.Changes.{IsAssignable}
use Rattle.storage_relation.specs.Keeping.{StoresName}
use Rattle.storage_relation.specs.Served.{Holds}
use Rattle.storage_relation.specs.Standing.{Alone, AreaOf, bytes_of, held}
use Rattle.storage_relation.specs.Stored.{IsBeside}
use Rattle.storage_relation.proofs.Calls.{seen_living}
use Rattle.storage_relation.proofs.Changes.{assigned_holds, assigned_served}
use Rattle.storage_relation.proofs.Confined.{beside_written}
use Rattle.storage_relation.proofs.Named.{alone_holder, area_holder}
use Rattle.activation_relation.specs.Frames.{FramesStand}
use Rattle.activation_relation.specs.Layers.{Point, now, services_of}
use Rattle.activation_relation.specs.Points.{Stands, Surroundings}
use Rattle.activation_relation.proofs.BlockVariables.{stored_stand}
use Rattle.run_steps.specs.Engine.{Base}
use Rattle.block_runs.proofs.PointGrounds.{StandsIn}
use Rattle.program_runs.specs.Statements.{Block, IsAmong}
use Rattle.expression_runs.specs.Variables.{Spot}
use Rattle.area_runs.specs.Allocations.{HasArea}
use Rattle.area_runs.proofs.AllocationMeaning.{pointed_state}
use Rattle.area_runs.proofs.BasedMeaning.{Points, designated_pointer, pointer_generation}
use Rattle.area_runs.proofs.ChangedPoints.{Follows, area_keeping, follows_among, follows_then, generation_follows}
use Rattle.area_runs.proofs.ChangedPoints.{living_follows, same_services, with_state}
use Rattle.pli_typing.specs.TypedTree as Y
use Rattle.area_runs.proofs.AllocatedPoints.{stays_as}
use Rattle.area_runs.proofs.AreaPoints.{AreaAt}
use Rattle.locator_runs.specs.Pointers.{IsPointer}
use Rattle.locator_runs.proofs.PointerPoints.{PointerAt, pointer_place}
use Rattle.member_runs.proofs.NewAreas.{Answers, new_structure, placed_state}

abbrev pub points_then :
    (g : Generation) {s : State} {x : Spot} (n o : ℕ) → Points s x → Points (placed_state g n o s) x
points_then g {s} n o h =
    let t = stays_as s.living n h.serial (with_placed (record { offset = o; generation = g })) h.living
    h.lives in
    record {
      serial = h.serial;
      stands = h.stands;
      values = h.values;
      living = t.there;
      lives = t.lives;
      generation = t.same ∙ h.generation;
      name = h.name;
      value = h.value;
    }

-- ---- the point

abbrev pub placed_point : Generation → (n o : ℕ) → Point → Point
placed_point g n o p = with_state (placed_state g n o p.state) p

abbrev pub allocated_state : Generation → (n o : ℕ) (s : State) {x : Spot} → Points s x → State
allocated_state g n o s h = pointed_state (placed_state g n o s) (points_then g n o h) (BasedName n o)

abbrev pub allocated_point : Generation → (n o : ℕ) (p : Point) {x : Spot} → Points p.state x → Point
allocated_point g n o p h = with_state (allocated_state g n o p.state h) p

abbrev pointing : Generation → (n o : ℕ) {s : State} {x : Spot} → Points s x → Generation → Generation
pointing g n o h =
    P.with_element (designated_pointer (points_then g n o h).serial (points_then g n o h).values)
    (BasicPointer (BasedName n o))

placed_follows : (w : Surroundings) (g : Generation) (n o : ℕ) (p : Point) → Follows w p (placed_point g n o p)
placed_follows w g n o p =
    let change = with_placed (record { offset = o; generation = g }) in
    living_follows w n (area_changed change) p (area_keeping change)

pub allocated_among :
    {k : Block} {numbers : ℕ → ℕ} {p : Point} {x : Spot} (g : Generation) (n o : ℕ)
    (h : Points p.state x) → IsAmong k numbers p →
    IsAmong k numbers (allocated_point g n o p h)
allocated_among {k} {p = p} g n o h among =
    let w = k.call.surroundings in
    follows_among (allocated_state g n o p.state h) refl
    (follows_then (placed_follows w g n o p)
    (generation_follows w (VariableName (points_then g n o h).serial) (pointing g n o h) (placed_point g n o p) (λ y.
    refl)
    (λ y. refl))) among

pub allocated_services :
    (g : Generation) (n o : ℕ) (p : Point) {x : Spot} (h : Points p.state x) →
    services_of (allocated_point g n o p h) ≡ services_of p
allocated_services g n o p h =
    let q = placed_point g n o p in
    let h' = points_then g n o h in
    let change = with_placed (record { offset = o; generation = g }) in
    let one : services_of q ≡ services_of p =
    same_services (placed_state g n o p.state) p refl refl
    (seen_living (now p []) n (area_changed change) (λ y. refl)) in
    same_services (allocated_state g n o p.state h) q refl refl
    (assigned_served (now q []) (designated_pointer h'.serial h'.values) (BasicPointer (BasedName n o))) ∙ one

-- ---- memory

pub allocated_stands :
    (members : List Y.Member) (leaves : List Y.Leaf) {k : Block} {x : Spot} {p : Point} {a : Spot} (w : Surroundings)
    (is : IsPointer k x) (area : HasArea k a) (at : AreaAt k a area p) (pointer : PointerAt k x is p) (signature o : ℕ)
    (b : Base) (memory : List ℕ) (found : Answers members leaves area p signature (pointer_place is) memory o) →
    Stands w p →
    StandsIn w p b memory →
    StandsIn w (allocated_point (new_structure members leaves) area.known.serial o p pointer.points) b
    (with_part (name_bytes (BasedName area.known.serial o)) (pointer_place is) found.memory)
allocated_stands members leaves {k} {x} {p = p} w is area at pointer signature o b memory found stands in_memory =
    record { storage = storage; frames = frames }
  where
    g : Generation
    g = new_structure members leaves

    n : ℕ
    n = area.known.serial

    q : Point
    q = placed_point g n o p

    h : Points q.state x
    h = points_then g n o pointer.points

    name : Name
    name = BasedName n o

    final : List ℕ
    final = with_part (name_bytes name) (pointer_place is) found.memory

    there : generation_at q.state (VariableName h.serial) ≡ Some (pointer_generation h.values)
    there = ap generation_of h.lives ∙ ap (λ y. Some y) h.generation

    placed : Holds (now q found.memory)
    placed =
        record {
          keeps = found.holds.keeps;
          heap = record { at = found.holds.heap.at; capacity = found.holds.heap.capacity };
          lives =
              record {
                falling = found.holds.lives.falling;
                numbered = found.holds.lives.numbered;
                extents = found.holds.lives.extents;
              };
          stored = found.holds.stored;
          distinct = found.holds.distinct;
        }

    own : IsAssignable (now q found.memory) (designated_pointer h.serial h.values) (BasicPointer name)
    own =
        record {
          lives = there;
          plain = refl;
          element = record { less = refl; leaf_there = omega arith; within = refl };
          storable = StoresName name (area.few, found.offset);
        }

    place : p.places.at h.serial + 0 + 0 ≡ pointer_place is
    place = pointer.here

    storage : Holds (now (allocated_point g n o p pointer.points) final)
    storage =
        let new = assigned_holds (now q found.memory) placed (designated_pointer h.serial h.values) (BasicPointer name)
        own in
        subst (λ i. Holds (now (allocated_point g n o p pointer.points) (with_part (name_bytes name) i found.memory)))
        place
        (record {
          keeps = new.keeps;
          heap = record { at = new.heap.at; capacity = new.heap.capacity };
          lives = record { falling = new.lives.falling; numbered = new.lives.numbered; extents = new.lives.extents };
          stored = new.stored;
          distinct = new.distinct;
        })

    first : FramesStand w.parts b.at found.memory p.state.activations p.control.layers
    first =
        stored_stand w p b.at n (AreaOf (record { capacity = area.capacity; placed = at.living.placed })) memory
        found.memory stands in_memory.frames
        (area_holder p.state n (record { capacity = area.capacity; placed = at.living.placed }) at.area) found.beside

    holder : held q.state h.serial ≡ Some (Alone (pointer_generation h.values))
    holder =
        alone_holder q.state (q.state.serials + 1) h.serial (pointer_generation h.values) placed.lives.falling there
        refl

    frames : FramesStand w.parts b.at final p.state.activations p.control.layers
    frames =
        let start = p.places.at h.serial in
        let room = placed.stored.inside h.serial (Alone (pointer_generation h.values)) holder in
        let size = bytes_of p.keeper (Alone (pointer_generation h.values)) in
        let here : start + 0 ≡ pointer_place is = omega (arith, place) in
        stored_stand w q b.at h.serial (Alone (pointer_generation h.values)) found.memory final
        ((placed_follows w g n o p).stands stands) first holder
        (subst (λ i. IsBeside start size found.memory (with_part (name_bytes name) i found.memory)) here
        (beside_written (name_bytes name) start size 0 found.memory (omega arith) room))
