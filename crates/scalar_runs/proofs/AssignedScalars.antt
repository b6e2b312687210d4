-- The point behind an assignment to a scalar: all that holds at the point before holds there.
use Rattle.std.proofs.Common.{◌≡◌, ℕ, ◌+◌, ◌*◌, ◌≤◌, List, [], length, Some, refl, ap, ◌∙◌, subst, arith}
use Rattle.rv_meaning.specs.Machine.{memory_size, store_width}
use Rattle.rv_meaning.specs.Memory.{store}
use Rattle.pli_typing.specs.TypedTree as Y
use Rattle.pli_meaning.specs.BasicValues.{BasicValue, VariableName}
use Rattle.pli_meaning.specs.Contents.{Generation}
use Rattle.pli_meaning.specs.Placing.{with_element}
use Rattle.pli_meaning.specs.StorageState.{State, generation_of}
use Rattle.area_keeper.specs.KeptAreas.{with_part}
use Rattle.pli_serving.specs.Stored.{kept_bytes}
use Rattle.storage_relation.specs.Changes.{IsAssignable}
use Rattle.storage_relation.specs.Served as S
use Rattle.storage_relation.specs.Standing.{Alone, bytes_of, held}
use Rattle.storage_relation.specs.Stored.{IsBeside}
use Rattle.storage_relation.specs.Telling.{IsOf}
use Rattle.storage_relation.proofs.Changes.{assigned_holds, assigned_served}
use Rattle.storage_relation.proofs.Confined.{beside_written}
use Rattle.storage_relation.proofs.Named.{alone_holder}
use Rattle.activation_relation.specs.Frames.{FramesStand}
use Rattle.activation_relation.specs.Layers.{Point, now, services_of}
use Rattle.activation_relation.specs.Points.{Stands, Surroundings}
use Rattle.activation_relation.proofs.BlockVariables.{stored_stand}
use Rattle.run_steps.specs.Engine.{Base}
use Rattle.block_runs.proofs.PointGrounds.{StandsIn}
use Rattle.program_runs.specs.Statements.{Block, IsAmong}
use Rattle.expression_runs.specs.Variables.{Spot}
use Rattle.area_runs.proofs.ChangedPoints.{follows_among, generation_follows, generation_input, generation_world}
use Rattle.area_runs.proofs.ChangedPoints.{same_services, with_state}
use Rattle.pli_headline.proofs.Scalars.{IsNumeric, store_kind}
use Rattle.scalar_runs.specs.Scalars.{IsScalar}
use Rattle.scalar_runs.proofs.ScalarMeaning.{assigned_state, designated_scalar, scalar_generation}
use Rattle.scalar_runs.proofs.ScalarPoints.{ScalarAt, at_of, plain_scalar, room_at}
use Rattle.scalar_runs.proofs.ScalarWords.{kept_size, kind_for, storable, word_in, written_word}

-- ---- the point

abbrev pub state_behind : {k : Block} → {x : Spot} → {type : Y.LeafType} → {is : IsScalar k x type} → {p : Point} →
    ScalarAt is p → BasicValue → State
state_behind {type = type} {p = p} n v = assigned_state (kind_for type) p.state n.holds.serial n.holds.values v

abbrev pub behind_assigned : {k : Block} → {x : Spot} → {type : Y.LeafType} → {is : IsScalar k x type} → {p : Point} →
    ScalarAt is p → BasicValue → Point
behind_assigned {p = p} n v = with_state (state_behind n v) p

abbrev change_of : {k : Block} → {x : Spot} → {type : Y.LeafType} → {is : IsScalar k x type} → {p : Point} →
    ScalarAt is p → BasicValue → Generation → Generation
change_of {type = type} n v = with_element (designated_scalar (kind_for type) n.holds.serial n.holds.values) v

pub services_same :
    {k : Block} {x : Spot} {type : Y.LeafType} {is : IsScalar k x type} {p : Point} (n : ScalarAt is p)
    (v : BasicValue) → services_of (behind_assigned n v) ≡ services_of p
services_same {type = type} {p = p} n v =
    let d = designated_scalar (kind_for type) n.holds.serial n.holds.values in
    same_services (state_behind n v) p (generation_world (VariableName n.holds.serial) (change_of n v) p.state)
    (generation_input (VariableName n.holds.serial) (change_of n v) p.state) (assigned_served (now p []) d v)

pub assigned_among :
    {k : Block} {x : Spot} {type : Y.LeafType} {is : IsScalar k x type} {p : Point} {numbers : ℕ → ℕ}
    (n : ScalarAt is p) (v : BasicValue) → IsAmong k numbers p → IsAmong k numbers (behind_assigned n v)
assigned_among {k} {p = p} n v o =
    follows_among (state_behind n v) (generation_world (VariableName n.holds.serial) (change_of n v) p.state)
    (generation_follows k.call.surroundings (VariableName n.holds.serial) (change_of n v) p (λ y. refl) (λ y. refl)) o

-- ---- memory

assignable :
    {k : Block} {x : Spot} {type : Y.LeafType} {is : IsScalar k x type} {p : Point} (n : ScalarAt is p)
    (v : BasicValue) (m : List ℕ) → IsNumeric type → IsOf (kind_for type) v →
    IsAssignable (now p m) (designated_scalar (kind_for type) n.holds.serial n.holds.values) v
assignable {type = type} n v m numeric of =
    record {
      lives = ap generation_of n.holds.lives ∙ ap (λ g. Some g) n.holds.generation;
      plain = plain_scalar type n.holds.values numeric;
      element = record { less = refl; leaf_there = omega arith; within = refl };
      storable = storable type v numeric of;
    }

address_is : (at size : ℕ) → at + 0 + size * 0 ≡ at
address_is at size = omega arith

pub stands_assigned :
    (w : Surroundings) {k : Block} {x : Spot} {type : Y.LeafType} {is : IsScalar k x type} {p : Point}
    (n : ScalarAt is p) (v : BasicValue) (b : Base) (m : List ℕ) → IsNumeric type → IsOf (kind_for type) v →
    length m ≡ memory_size → Stands w p → StandsIn w p b m →
    StandsIn w (behind_assigned n v) b (store (store_width (store_kind type)) m (at_of is) (word_in v))
stands_assigned w {k} {x} {type} {is} {p} n v b m numeric of long stands' stands =
    record { storage = storage; frames = frames }
  where
    at : ℕ
    at = p.places.at n.holds.serial

    size : ℕ
    size = bytes_of p.keeper (Alone (scalar_generation (kind_for type) n.holds.values))

    new : List ℕ
    new = store (store_width (store_kind type)) m (at_of is) (word_in v)

    bytes : List ℕ
    bytes = kept_bytes (kind_for type) v

    room : at + 4 ≤ length m
    room = let inside = room_at is in let here = n.here in omega (arith, inside, here, long)

    written : with_part bytes at m ≡ new
    written =
        written_word type v at m numeric of room
        ∙ ap (λ i. store (store_width (store_kind type)) m i (word_in v)) n.here

    storage : S.Holds (now (behind_assigned n v) new)
    storage =
        let after = assigned_holds (now p m) stands.storage
        (designated_scalar (kind_for type) n.holds.serial n.holds.values) v (assignable n v m numeric of) in
        subst (λ m'. S.Holds (now (behind_assigned n v) m'))
        (ap (λ i. with_part bytes i m) (address_is at _) ∙ written)
        (record {
          keeps = after.keeps;
          heap = record { at = after.heap.at; capacity = after.heap.capacity };
          lives = record {
            falling = after.lives.falling;
            numbered = after.lives.numbered;
            extents = after.lives.extents;
          };
          stored = after.stored;
          distinct = after.distinct;
        })

    holder : held p.state n.holds.serial ≡ Some (Alone (scalar_generation (kind_for type) n.holds.values))
    holder =
        alone_holder p.state (p.state.serials + 1) n.holds.serial (scalar_generation (kind_for type) n.holds.values)
        stands.storage.lives.falling (assignable n v m numeric of).lives (plain_scalar type n.holds.values numeric)

    beside : IsBeside at size m new
    beside =
        let inside = stands.storage.stored.inside n.holds.serial
        (Alone (scalar_generation (kind_for type) n.holds.values)) holder in
        let place : at + 0 ≡ at = omega arith in
        subst (λ m'. IsBeside at size m m') (ap (λ i. with_part bytes i m) place ∙ written)
        (beside_written bytes at size 0 m (kept_size type v numeric of) inside)

    frames : FramesStand w.parts b.at new (behind_assigned n v).state.activations p.control.layers
    frames =
        stored_stand w p b.at n.holds.serial (Alone (scalar_generation (kind_for type) n.holds.values)) m new stands'
        stands.frames holder beside
