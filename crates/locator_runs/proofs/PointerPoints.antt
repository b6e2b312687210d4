-- A POINTER variable at a point of its block, and the point behind an assignment to it.
use Rattle.std.proofs.Common.{◌≡◌, ◌≢◌, ◌⊎◌, inl, inr, ℕ, ◌+◌, ◌%◌, ◌<◌, ◌≤◌, List, [], length, Some, refl}
use Rattle.std.proofs.Common.{sym, ap, ◌∙◌, subst, arith}
use Rattle.std.proofs.lemmas.Bool.{cases_eq}
use Rattle.std.specs.Prelude.{pos}
use Rattle.pli_typing.specs.Signatures.{Pointer}
use Rattle.pli_meaning.specs.BasicValues.{BasicBit, BasicNumber, BasicOffset, BasicPointer, BasicText, BasicValue, Name}
use Rattle.pli_meaning.specs.BasicValues.{BasedName, NullName, VariableName}
use Rattle.pli_meaning.specs.Contents.{Generation}
use Rattle.pli_meaning.specs.Placing as P
use Rattle.pli_meaning.specs.StorageState as Q
use Rattle.pli_meaning.specs.StorageState.{ancestor, binding_in, generation_at, generation_of, newest_height}
use Rattle.area_keeper.specs.KeptAreas.{with_part}
use Rattle.pli_serving.specs.Bytes.{name_bytes}
use Rattle.storage_relation.specs.Changes.{IsAssignable}
use Rattle.storage_relation.specs.Keeping.{StoresName}
use Rattle.storage_relation.specs.Served.{Holds}
use Rattle.storage_relation.specs.Standing.{Alone, bytes_of, held}
use Rattle.storage_relation.specs.Stored.{Beside, IsBeside}
use Rattle.storage_relation.specs.Telling.{IsName, IsOf, Tells}
use Rattle.storage_relation.proofs.Changes.{assigned_holds, assigned_served, element_held}
use Rattle.storage_relation.proofs.Confined.{beside_written}
use Rattle.storage_relation.proofs.Named.{alone_holder}
use Rattle.storage_relation.proofs.Placing.{none_above}
use Rattle.activation_relation.specs.Frames.{FramesStand, frame_under}
use Rattle.activation_relation.specs.Layers.{Point, now, services_of}
use Rattle.activation_relation.specs.Points.{Stands, Surroundings}
use Rattle.activation_relation.specs.Remaining.{LivesOn}
use Rattle.activation_relation.proofs.BlockVariables.{stored_stand}
use Rattle.run_steps.specs.Engine.{Base}
use Rattle.run_steps.specs.Reach.{Family}
use Rattle.block_runs.specs.Machines.{AreIn}
use Rattle.block_runs.proofs.PointGrounds.{StandsIn}
use Rattle.program_runs.specs.Statements.{Block, IsAmong}
use Rattle.expression_runs.specs.Variables.{IsFrameOf, Spot}
use Rattle.expression_runs.proofs.VariablePoints.{first_base}
use Rattle.area_runs.proofs.AllocationMeaning.{pointed_state}
use Rattle.area_runs.proofs.BasedCode.{name_at_place}
use Rattle.area_runs.proofs.BasedMeaning.{Points, designated_pointer, pointer_generation, pointer_shape}
use Rattle.area_runs.proofs.ChangedPoints.{follows_among, generation_follows, same_services, with_state}
use Rattle.variable_runs.specs.Known.{place_of}
use Rattle.locator_runs.specs.Pointers.{IsPointer, IsTold}

-- ---- the pointer

-- where its name stands in memory
abbrev pub pointer_place : {k : Block} {x : Spot} → IsPointer k x → ℕ
pointer_place {k} {x} is = is.known.base + name_at_place k.environment x

pub own_base :
    {k : Block} {x : Spot} {numbers : ℕ → ℕ} {p : Point} (is : IsPointer k x) → IsAmong k numbers p →
    frame_under k.call.surroundings.parts p.control.layers ≡ is.known.base
own_base {k} {x} is o =
    ap (λ ls. frame_under k.call.surroundings.parts ls) o.later.layers ∙ by is.known.frame
  where
    by : IsFrameOf k x.level is.known.base →
        frame_under k.call.surroundings.parts k.first.control.layers ≡ is.known.base
    by (inl own) = sym own.1
    by (inr outer) = absurd (cc (sym is.own ∙ outer.0))

pub pointer_of : (v : BasicValue) → IsOf Pointer v → (n : Name) × (v ≡ BasicPointer n)
pointer_of (BasicPointer n) is = (n, refl)
pointer_of (BasicText t) is = absurd is
pointer_of (BasicBit b) is = absurd is
pointer_of (BasicNumber z) is = absurd is
pointer_of (BasicOffset o) is = absurd is

pointer_is : (g : Generation) → g.shape ≡ pointer_shape → g.extent ≡ pos 0 → g ≡ pointer_generation g.values
pointer_is g e f =
    ap (λ s. record { shape = s; extent = g.extent; values = g.values }) e
    ∙ ap (λ z. record { shape = pointer_shape; extent = z; values = g.values }) f

-- what it holds at a point, and that memory tells it
pub record PointerAt (k : Block) (x : Spot) (is : IsPointer k x) (p : Point) : Type 0 where
  pub points : Points p.state x
  pub same : points.serial ≡ is.known.serial
  pub here : p.places.at points.serial + 0 + 0 ≡ pointer_place is
  pub fits : IsName points.name
  pub tells : (m : List ℕ) → Holds (now p m) → Tells Pointer (BasicPointer points.name) (pointer_place is) m
  pub even : pointer_place is % 4 ≡ 0

pub pointer_at :
    {k : Block} {numbers : ℕ → ℕ} {p : Point} (x : Spot) (is : IsPointer k x) → IsAmong k numbers p →
    (m' : List ℕ) → Holds (now p m') → PointerAt k x is p
pointer_at {k} {p = p} x is o m' held' =
    record {
      points = record {
        serial = serial;
        stands =
            ap (λ xs. binding_in (ancestor xs (newest_height xs) x.level) x.index) o.later.activations
            ∙ is.known.binding;
        values = g.values;
        living = on.there;
        lives = on.lives;
        generation = same;
        name = first.0;
        value = first.1;
      };
      same = refl;
      here = here;
      fits = subst (IsOf Pointer) first.1 (told m' held').0.fits;
      tells = λ m stored.
          subst (λ i. Tells Pointer (BasicPointer first.0) i m) here
          (subst (λ v. Tells Pointer v (p.places.at serial + 0 + 0) m) first.1 (told m stored).0);
      even = subst (λ i. i % 4 ≡ 0) here (told m' held').1;
    }
  where
    serial : ℕ
    serial = is.known.serial

    on : LivesOn is.known.living (Q.living_of p.state.living serial)
    on = o.later.remains.living serial is.known.living is.known.lives

    g : Generation
    g = on.there.generation

    same : g ≡ pointer_generation g.values
    same = pointer_is g (on.shape ∙ is.known.shape) (o.stands.lives.extents serial on.there on.lives)

    low : serial < k.first.state.serials + 1
    low = none_above (k.first.state.serials + 1) k.first.state.living serial is.known.living
        is.begun.resumes.stands.lives.falling is.known.lives

    here : p.places.at serial + 0 + 0 ≡ pointer_place is
    here =
        let moved = o.later.remains.at serial (omega (arith, low)) in
        let at = is.known.at in
        omega (arith, moved, at)

    there_is : generation_at p.state (VariableName serial) ≡ Some (pointer_generation g.values)
    there_is = ap generation_of on.lives ∙ ap (λ y. Some y) same

    told : (m : List ℕ) → Holds (now p m) →
        Tells Pointer (g.values 0 []) (p.places.at serial + 0 + 0) m × ((p.places.at serial + 0 + 0) % 4 ≡ 0)
    told m stored =
        element_held (now p m) stored (VariableName serial) (pointer_generation g.values) (pos 0) 0 [] there_is refl
        (record { less = refl; leaf_there = omega arith; within = refl })

    first : (n : Name) × (g.values 0 [] ≡ BasicPointer n)
    first = pointer_of (g.values 0 []) (told m' held').0.fits

-- where a machine is
pub pointer_in :
    {k : Block} {numbers : ℕ → ℕ} {p : Point} {index : ℕ} (x : Spot) (is : IsPointer k x) → IsAmong k numbers p →
    (f : Family) → AreIn k.call.surroundings p numbers index f → PointerAt k x is p
pointer_in x is o f there = pointer_at x is o (f first_base).machine.memory (there first_base).at.storage

-- ---- its bytes

there_is : (p : Point) {x : Spot} (h : Points p.state x) →
    generation_at p.state (VariableName h.serial) ≡ Some (pointer_generation h.values)
there_is p h = ap generation_of h.lives ∙ ap (λ y. Some y) h.generation

pub holder_is : (p : Point) {x : Spot} (h : Points p.state x) (m : List ℕ) → Holds (now p m) →
    held p.state h.serial ≡ Some (Alone (pointer_generation h.values))
holder_is p h m stored =
    alone_holder p.state (p.state.serials + 1) h.serial (pointer_generation h.values) stored.lives.falling
    (there_is p h) refl

pub pointer_inside :
    {k : Block} {x : Spot} {is : IsPointer k x} {p : Point} (a : PointerAt k x is p) (m : List ℕ) → Holds (now p m) →
    pointer_place is + 16 ≤ length m
pointer_inside {p = p} a m stored =
    let room = stored.stored.inside a.points.serial (Alone (pointer_generation a.points.values))
    (holder_is p a.points m stored) in
    let here = a.here in
    omega (arith, room, here)

-- two of them are one, or share no byte
pub pointers_apart :
    {k : Block} {x y : Spot} {is : IsPointer k x} {js : IsPointer k y} {p : Point} (a : PointerAt k x is p)
    (b : PointerAt k y js p) (m : List ℕ) → Holds (now p m) →
    (pointer_place is ≡ pointer_place js) ⊎ Beside (pointer_place is) 16 (pointer_place js) 16
pointers_apart {is = is} {js} {p} a b m stored = by (cases_eq a.points.serial b.points.serial)
  where
    by : (a.points.serial ≡ b.points.serial) ⊎ (a.points.serial ≢ b.points.serial) →
        (pointer_place is ≡ pointer_place js) ⊎ Beside (pointer_place is) 16 (pointer_place js) 16
    by (inl same) =
        let here = a.here in
        let there = b.here in
        let e = ap p.places.at same in
        inl (omega (arith, here, there, e))
    by (inr other) =
        inr (aside (stored.stored.apart a.points.serial b.points.serial (Alone (pointer_generation a.points.values))
        (Alone (pointer_generation b.points.values)) other (holder_is p a.points m stored)
        (holder_is p b.points m stored)))
      where
        aside : Beside (p.places.at a.points.serial) 16 (p.places.at b.points.serial) 16 →
            Beside (pointer_place is) 16 (pointer_place js) 16
        aside (inl before) =
            let here = a.here in
            let there = b.here in
            inl (omega (arith, before, here, there))
        aside (inr behind) =
            let here = a.here in
            let there = b.here in
            inr (omega (arith, behind, here, there))

pub pointers_told :
    (k : Block) (x : Spot) (is : IsPointer k x) (p : Point) (numbers : ℕ → ℕ) (m : List ℕ) → IsAmong k numbers p →
    Holds (now p m) → IsTold k x is p m
pointers_told k x is p numbers m o stored =
    let a = pointer_at x is o m stored in
    let e : pointer_place is ≡ is.known.base + (place_of k.environment x + 16) = omega arith in
    record {
      generation = pointer_generation a.points.values;
      lives = ap (λ n. generation_at p.state (VariableName n)) (sym a.same) ∙ there_is p a.points;
      name = a.points.name;
      value = a.points.value;
      tells = subst (λ i. Tells Pointer (BasicPointer a.points.name) i m) e (a.tells m stored);
    }

-- ---- the point behind

pub name_length : (a : Name) → length (name_bytes a) ≡ 16
name_length NullName = refl
name_length (VariableName s) = refl
name_length (BasedName s o) = refl

abbrev pub pointed : (p : Point) {x : Spot} → Points p.state x → Name → Point
pointed p h name = with_state (pointed_state p.state h name) p

pub pointed_among :
    {k : Block} {numbers : ℕ → ℕ} {p : Point} {x : Spot} (h : Points p.state x) (name : Name) → IsAmong k numbers p →
    IsAmong k numbers (pointed p h name)
pointed_among {k} {p = p} h name among =
    follows_among (pointed_state p.state h name) refl
    (generation_follows k.call.surroundings (VariableName h.serial)
    (P.with_element (designated_pointer h.serial h.values) (BasicPointer name)) p (λ y. refl) (λ y. refl)) among

pub pointed_services :
    (p : Point) {x : Spot} (h : Points p.state x) (name : Name) → services_of (pointed p h name) ≡ services_of p
pointed_services p h name =
    same_services (pointed_state p.state h name) p refl refl
    (assigned_served (now p []) (designated_pointer h.serial h.values) (BasicPointer name))

pub pointed_stands :
    {k : Block} {x : Spot} {is : IsPointer k x} {p : Point} (w : Surroundings) (a : PointerAt k x is p) (name : Name)
    (b : Base) (m : List ℕ) → IsName name → Stands w p → StandsIn w p b m →
    StandsIn w (pointed p a.points name) b (with_part (name_bytes name) (pointer_place is) m)
pointed_stands {x = x} {is} {p} w a name b m fits stands in_memory = record { storage = storage; frames = frames }
  where
    h : Points p.state x
    h = a.points

    final : List ℕ
    final = with_part (name_bytes name) (pointer_place is) m

    own : IsAssignable (now p m) (designated_pointer h.serial h.values) (BasicPointer name)
    own =
        record {
          lives = there_is p h;
          plain = refl;
          element = record { less = refl; leaf_there = omega arith; within = refl };
          storable = StoresName name fits;
        }

    storage : Holds (now (pointed p h name) final)
    storage =
        let new = assigned_holds (now p m) in_memory.storage (designated_pointer h.serial h.values) (BasicPointer name)
        own in
        subst (λ i. Holds (now (pointed p h name) (with_part (name_bytes name) i m))) a.here
        (record {
          keeps = new.keeps;
          heap = record { at = new.heap.at; capacity = new.heap.capacity };
          lives = record { falling = new.lives.falling; numbered = new.lives.numbered; extents = new.lives.extents };
          stored = new.stored;
          distinct = new.distinct;
        })

    long : length (name_bytes name) ≡ 16
    long = name_length name

    frames : FramesStand w.parts b.at final p.state.activations p.control.layers
    frames =
        let start = p.places.at h.serial in
        let holder = holder_is p h m in_memory.storage in
        let room = in_memory.storage.stored.inside h.serial (Alone (pointer_generation h.values)) holder in
        let size = bytes_of p.keeper (Alone (pointer_generation h.values)) in
        let here' = a.here in
        let here : start + 0 ≡ pointer_place is = omega (arith, here') in
        stored_stand w p b.at h.serial (Alone (pointer_generation h.values)) m final stands in_memory.frames holder
        (subst (λ i. IsBeside start size m (with_part (name_bytes name) i m)) here
        (beside_written (name_bytes name) start size 0 m (omega (arith, long)) room))
