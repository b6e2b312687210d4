-- The point behind an assignment to an element of an array: all that holds at the point before holds there.
use Rattle.std.proofs.Common.{◌≡◌, ℕ, ◌+◌, ◌*◌, ◌≤◌, List, [], length, Some, true, refl, ap, ◌∙◌, subst, arith}
use Rattle.std.specs.Prelude.{ℤ}
use Rattle.rv_meaning.specs.Machine.{memory_size, store_width}
use Rattle.rv_meaning.specs.Memory.{store}
use Rattle.pli_meaning.specs.BasicValues.{BasicValue, VariableName}
use Rattle.pli_meaning.specs.Contents.{Generation, element_place, is_within}
use Rattle.pli_meaning.specs.Placing.{with_element}
use Rattle.pli_meaning.specs.StorageState.{State, generation_of}
use Rattle.area_keeper.specs.KeptAreas.{with_part}
use Rattle.pli_serving.specs.Stored.{kept_bytes}
use Rattle.storage_relation.specs.Changes.{IsAssignable}
use Rattle.storage_relation.specs.Served as S
use Rattle.storage_relation.specs.Standing.{Alone, bytes_of, held}
use Rattle.storage_relation.specs.Stored.{IsBeside}
use Rattle.storage_relation.specs.Telling.{IsOf}
use Rattle.storage_relation.proofs.Changes.{assigned_holds, assigned_served}
use Rattle.storage_relation.proofs.Confined.{beside_written}
use Rattle.storage_relation.proofs.Elements.{element_inside, place_inside}
use Rattle.storage_relation.proofs.Named.{alone_holder}
use Rattle.activation_relation.specs.Frames.{FramesStand}
use Rattle.activation_relation.specs.Layers.{Point, now, services_of}
use Rattle.activation_relation.specs.Points.{Stands, Surroundings}
use Rattle.activation_relation.proofs.BlockVariables.{stored_stand}
use Rattle.run_steps.specs.Engine.{Base}
use Rattle.block_runs.proofs.PointGrounds.{StandsIn}
use Rattle.program_runs.specs.Statements.{Block, IsAmong}
use Rattle.expression_runs.specs.Variables.{Spot}
use Rattle.area_runs.proofs.ChangedPoints.{follows_among, generation_follows, generation_input, generation_world}
use Rattle.area_runs.proofs.ChangedPoints.{same_services, with_state}
use Rattle.pli_headline.proofs.Scalars.{IsNumeric, store_kind}
use Rattle.scalar_runs.proofs.ScalarWords.{kept_size, kind_for, storable, word_in, written_word}
use Rattle.array_runs.specs.Arrays.{Grid, IsArray}
use Rattle.array_runs.proofs.ArrayMeaning as N
use Rattle.array_runs.proofs.ArrayMeaning.{assigned_state, designated_element, held_generation}
use Rattle.array_runs.proofs.ArrayPoints.{ElementAt, element_at, four_bytes, plain_grid, size_is}

-- ---- the point

abbrev pub state_behind : (p : Point) → {x : Spot} → {g : Grid} → N.Holds p.state x g → List ℤ → BasicValue → State
state_behind p {g = g} holds zs v = assigned_state p.state g holds.serial holds.values zs v

abbrev pub behind_assigned : (p : Point) → {x : Spot} → {g : Grid} → N.Holds p.state x g → List ℤ → BasicValue → Point
behind_assigned p holds zs v = with_state (state_behind p holds zs v) p

abbrev change_of : (p : Point) → {x : Spot} → {g : Grid} → N.Holds p.state x g → List ℤ → BasicValue →
    Generation → Generation
change_of p {g = g} holds zs v = with_element (designated_element g holds.serial holds.values zs) v

pub services_same :
    (p : Point) {x : Spot} {g : Grid} (holds : N.Holds p.state x g) (zs : List ℤ) (v : BasicValue) →
    services_of (behind_assigned p holds zs v) ≡ services_of p
services_same p {g = g} holds zs v =
    same_services (state_behind p holds zs v) p
    (generation_world (VariableName holds.serial) (change_of p holds zs v) p.state)
    (generation_input (VariableName holds.serial) (change_of p holds zs v) p.state)
    (assigned_served (now p []) (designated_element g holds.serial holds.values zs) v)

pub assigned_among :
    {k : Block} (p : Point) {x : Spot} {g : Grid} {numbers : ℕ → ℕ} (holds : N.Holds p.state x g) (zs : List ℤ)
    (v : BasicValue) → IsAmong k numbers p → IsAmong k numbers (behind_assigned p holds zs v)
assigned_among {k} p holds zs v o =
    follows_among (state_behind p holds zs v)
    (generation_world (VariableName holds.serial) (change_of p holds zs v) p.state)
    (generation_follows k.call.surroundings (VariableName holds.serial) (change_of p holds zs v) p (λ y. refl)
    (λ y. refl)) o

-- ---- memory

assignable :
    (p : Point) {x : Spot} (g : Grid) (holds : N.Holds p.state x g) (zs : List ℤ) (v : BasicValue) (m : List ℕ) →
    IsNumeric g.type → IsOf (kind_for g.type) v → is_within g.bounds zs ≡ true →
    IsAssignable (now p m) (designated_element g holds.serial holds.values zs) v
assignable p g holds zs v m numeric of within =
    record {
      lives = ap generation_of holds.lives ∙ ap (λ c. Some c) holds.generation;
      plain = plain_grid g holds.values numeric;
      element = record { less = refl; leaf_there = omega arith; within = within };
      storable = storable g.type v numeric of;
    }

-- its bytes lie in those of the array
kept_inside :
    (p : Point) (g : Grid) (values : ℕ → List ℤ → BasicValue) (zs : List ℤ) (v : BasicValue) → IsNumeric g.type →
    IsOf (kind_for g.type) v → is_within g.bounds zs ≡ true →
    4 * element_place g.bounds zs + length (kept_bytes (kind_for g.type) v)
    ≤ bytes_of p.keeper (Alone (held_generation g values))
kept_inside p g values zs v numeric of within =
    let inside = element_inside (held_generation g values) 0 zs (omega arith, within) in
    let kept = kept_size g.type v numeric of in
    let four = four_bytes g.type numeric in
    let place = ap (λ n. n * element_place g.bounds zs) four in
    omega (arith, inside, kept, four, place)

pub stands_assigned :
    (w : Surroundings) (k : Block) (p : Point) (x : Spot) (g : Grid) (is : IsArray k x g) (holds : N.Holds p.state x g)
    (zs : List ℤ) → ElementAt k x g is p holds zs → (v : BasicValue) (b : Base) (m : List ℕ) → IsNumeric g.type →
    IsOf (kind_for g.type) v → is_within g.bounds zs ≡ true → length m ≡ memory_size → Stands w p →
    StandsIn w p b m →
    StandsIn w (behind_assigned p holds zs v) b
    (store (store_width (store_kind g.type)) m (element_at k x g is zs) (word_in v))
stands_assigned w k p x g is holds zs el v b m numeric of within long stands' stands =
    record { storage = storage; frames = frames }
  where
    at : ℕ
    at = p.places.at holds.serial

    before : ℕ
    before = 4 * element_place g.bounds zs

    size : ℕ
    size = bytes_of p.keeper (Alone (held_generation g holds.values))

    new : List ℕ
    new = store (store_width (store_kind g.type)) m (element_at k x g is zs) (word_in v)

    bytes : List ℕ
    bytes = kept_bytes (kind_for g.type) v

    room : at + 0 + before + 4 ≤ length m
    room =
        let inside = is.known.inside in
        let all = size_is g is.initial numeric in
        let less = place_inside g.bounds zs within in
        let here = el.here in
        omega (arith, inside, all, less, here, long)

    written : with_part bytes (at + 0 + before) m ≡ new
    written =
        written_word g.type v (at + 0 + before) m numeric of room
        ∙ ap (λ i. store (store_width (store_kind g.type)) m i (word_in v)) el.here

    storage : S.Holds (now (behind_assigned p holds zs v) new)
    storage =
        let after = assigned_holds (now p m) stands.storage (designated_element g holds.serial holds.values zs) v
        (assignable p g holds zs v m numeric of within) in
        subst (λ m'. S.Holds (now (behind_assigned p holds zs v) m'))
        (ap (λ n. with_part bytes (at + 0 + n * element_place g.bounds zs) m) (four_bytes g.type numeric) ∙ written)
        (record {
          keeps = after.keeps;
          heap = record { at = after.heap.at; capacity = after.heap.capacity };
          lives = record {
            falling = after.lives.falling;
            numbered = after.lives.numbered;
            extents = after.lives.extents;
          };
          stored = after.stored;
          distinct = after.distinct;
        })

    holder : held p.state holds.serial ≡ Some (Alone (held_generation g holds.values))
    holder =
        alone_holder p.state (p.state.serials + 1) holds.serial (held_generation g holds.values)
        stands.storage.lives.falling (assignable p g holds zs v m numeric of within).lives
        (plain_grid g holds.values numeric)

    beside : IsBeside at size m new
    beside =
        let inside = stands.storage.stored.inside holds.serial (Alone (held_generation g holds.values)) holder in
        let place : at + before ≡ at + 0 + before = omega arith in
        subst (λ m'. IsBeside at size m m') (ap (λ i. with_part bytes i m) place ∙ written)
        (beside_written bytes at size before m (kept_inside p g holds.values zs v numeric of within) inside)

    frames : FramesStand w.parts b.at new (behind_assigned p holds zs v).state.activations p.control.layers
    frames =
        stored_stand w p b.at holds.serial (Alone (held_generation g holds.values)) m new stands'
        stands.frames holder beside
