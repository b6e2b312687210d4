-- The point behind an assignment to an OFFSET variable: all that holds at the point before holds there.
use Rattle.std.proofs.Common.{◌≡◌, ℕ, ◌+◌, ◌*◌, ◌≤◌, List, [], length, Some, Option, refl, ap, ◌∙◌, subst, arith}
use Rattle.rv_meaning.specs.Machine.{memory_size}
use Rattle.rv_meaning.specs.Memory.{store}
use Rattle.pli_typing.specs.TypedTree as Y
use Rattle.pli_meaning.specs.BasicValues.{BasicOffset, VariableName}
use Rattle.pli_meaning.specs.Contents.{Generation}
use Rattle.pli_meaning.specs.Placing.{with_element}
use Rattle.pli_meaning.specs.StorageState.{generation_of}
use Rattle.area_keeper.specs.KeptAreas.{with_part}
use Rattle.pli_serving.specs.Bytes.{number_bytes, offset_word}
use Rattle.storage_relation.specs.Changes.{IsAssignable}
use Rattle.storage_relation.specs.Keeping.{StoresOffset}
use Rattle.storage_relation.specs.Served as S
use Rattle.storage_relation.specs.Standing.{Alone, bytes_of, held}
use Rattle.storage_relation.specs.Stored.{IsBeside}
use Rattle.storage_relation.specs.Telling.{IsOffset}
use Rattle.storage_relation.proofs.Changes.{assigned_holds, assigned_served}
use Rattle.storage_relation.proofs.Confined.{beside_written}
use Rattle.storage_relation.proofs.Named.{alone_holder}
use Rattle.storage_relation.proofs.Values.{number_length, store_is}
use Rattle.activation_relation.specs.Frames.{FramesStand}
use Rattle.activation_relation.specs.Layers.{Point, now, services_of}
use Rattle.activation_relation.specs.Points.{Stands, Surroundings}
use Rattle.activation_relation.proofs.BlockVariables.{stored_stand}
use Rattle.run_steps.specs.Engine.{Base}
use Rattle.block_runs.proofs.PointGrounds.{StandsIn}
use Rattle.program_runs.specs.Statements.{Block, IsAmong}
use Rattle.expression_runs.specs.Variables.{Spot}
use Rattle.area_runs.proofs.ChangedPoints.{follows_among, generation_follows, generation_input, generation_world}
use Rattle.area_runs.proofs.ChangedPoints.{same_services, with_state}
use Rattle.scalar_runs.proofs.ScalarPoints.{at_of, room_at}
use Rattle.offset_runs.specs.Offsets.{IsOffsetVariable}
use Rattle.offset_runs.proofs.OffsetMeaning.{assigned_state, designated_offset, offset_generation}
use Rattle.offset_runs.proofs.OffsetPoints.{OffsetAt}

-- ---- the point

abbrev pub behind_assigned : {k : Block} → {x : Spot} → {area : Option Y.Variable} → {is : IsOffsetVariable k x area} →
    {p : Point} → OffsetAt is p → Option ℕ → Point
behind_assigned {p = p} n v = with_state (assigned_state p.state n.holds v) p

abbrev change_of : {k : Block} → {x : Spot} → {area : Option Y.Variable} → {is : IsOffsetVariable k x area} →
    {p : Point} → OffsetAt is p → Option ℕ → Generation → Generation
change_of n v = with_element (designated_offset n.holds.serial n.holds.values) (BasicOffset v)

pub services_same :
    {k : Block} {x : Spot} {area : Option Y.Variable} {is : IsOffsetVariable k x area} {p : Point} (n : OffsetAt is p)
    (v : Option ℕ) → services_of (behind_assigned n v) ≡ services_of p
services_same {p = p} n v =
    let d = designated_offset n.holds.serial n.holds.values in
    same_services (assigned_state p.state n.holds v) p
    (generation_world (VariableName n.holds.serial) (change_of n v) p.state)
    (generation_input (VariableName n.holds.serial) (change_of n v) p.state)
    (assigned_served (now p []) d (BasicOffset v))

pub assigned_among :
    {k : Block} {x : Spot} {area : Option Y.Variable} {is : IsOffsetVariable k x area} {p : Point} {numbers : ℕ → ℕ}
    (n : OffsetAt is p) (v : Option ℕ) → IsAmong k numbers p → IsAmong k numbers (behind_assigned n v)
assigned_among {k} {p = p} n v o =
    follows_among (assigned_state p.state n.holds v)
    (generation_world (VariableName n.holds.serial) (change_of n v) p.state)
    (generation_follows k.call.surroundings (VariableName n.holds.serial) (change_of n v) p (λ y. refl) (λ y. refl)) o

-- ---- memory

assignable :
    {k : Block} {x : Spot} {area : Option Y.Variable} {is : IsOffsetVariable k x area} {p : Point} (n : OffsetAt is p)
    (v : Option ℕ) (m : List ℕ) → IsOffset v →
    IsAssignable (now p m) (designated_offset n.holds.serial n.holds.values) (BasicOffset v)
assignable n v m fits =
    record {
      lives = ap generation_of n.holds.lives ∙ ap (λ g. Some g) n.holds.generation;
      plain = refl;
      element = record { less = refl; leaf_there = omega arith; within = refl };
      storable = StoresOffset v fits;
    }

address_is : (at size : ℕ) → at + 0 + size * 0 ≡ at
address_is at size = omega arith

pub stands_assigned :
    (w : Surroundings) {k : Block} {x : Spot} {area : Option Y.Variable} {is : IsOffsetVariable k x area} {p : Point}
    (n : OffsetAt is p) (v : Option ℕ) (b : Base) (m : List ℕ) → IsOffset v → length m ≡ memory_size → Stands w p →
    StandsIn w p b m → StandsIn w (behind_assigned n v) b (store 4 m (at_of is) (offset_word v))
stands_assigned w {k} {x} {is = is} {p} n v b m fits long stands' stands =
    record { storage = storage; frames = frames }
  where
    at : ℕ
    at = p.places.at n.holds.serial

    size : ℕ
    size = bytes_of p.keeper (Alone (offset_generation n.holds.values))

    new : List ℕ
    new = store 4 m (at_of is) (offset_word v)

    bytes : List ℕ
    bytes = number_bytes 4 (offset_word v)

    room : at + 4 ≤ length m
    room = let inside = room_at is in let here = n.here in omega (arith, inside, here, long)

    written : with_part bytes at m ≡ new
    written = store_is 4 (offset_word v) at m room ∙ ap (λ i. store 4 m i (offset_word v)) n.here

    storage : S.Holds (now (behind_assigned n v) new)
    storage =
        let after = assigned_holds (now p m) stands.storage (designated_offset n.holds.serial n.holds.values)
        (BasicOffset v) (assignable n v m fits) in
        subst (λ m'. S.Holds (now (behind_assigned n v) m'))
        (ap (λ i. with_part bytes i m) (address_is at 4) ∙ written)
        (record {
          keeps = after.keeps;
          heap = record { at = after.heap.at; capacity = after.heap.capacity };
          lives = record {
            falling = after.lives.falling;
            numbered = after.lives.numbered;
            extents = after.lives.extents;
          };
          stored = after.stored;
          distinct = after.distinct;
        })

    holder : held p.state n.holds.serial ≡ Some (Alone (offset_generation n.holds.values))
    holder =
        alone_holder p.state (p.state.serials + 1) n.holds.serial (offset_generation n.holds.values)
        stands.storage.lives.falling (assignable n v m fits).lives refl

    beside : IsBeside at size m new
    beside =
        let inside = stands.storage.stored.inside n.holds.serial (Alone (offset_generation n.holds.values)) holder in
        let place : at + 0 ≡ at = omega arith in
        let four = number_length 4 (offset_word v) in
        subst (λ m'. IsBeside at size m m') (ap (λ i. with_part bytes i m) place ∙ written)
        (beside_written bytes at size 0 m (omega (arith, four)) inside)

    frames : FramesStand w.parts b.at new (behind_assigned n v).state.activations p.control.layers
    frames =
        stored_stand w p b.at n.holds.serial (Alone (offset_generation n.holds.values)) m new stands'
        stands.frames holder beside
