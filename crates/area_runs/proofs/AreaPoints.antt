-- An AREA variable at a point of its block, and a generation that is placed in it: what service 10 answers.
use Rattle.std.proofs.Common.{◌≡◌, ◌≢◌, inl, inr, ℕ, zero, suc, ◌+◌, ◌/◌, ◌%◌, ◌^◌, ◌<◌, ◌≤◌, List, [], ◌∷◌}
use Rattle.std.proofs.Common.{length, Option, None, Some, Bool, true, false, refl, sym, ap, ◌∙◌, subst, arith}
use Rattle.std.proofs.lemmas.Bool.{le-leb}
use Rattle.std.specs.Int.{w32}
use Rattle.std.specs.Prelude.{FitsSigned, ℤ, cond, pos, ◌&&◌, nat_le}
use Rattle.rv_meaning.specs.Machine.{memory_size}
use Rattle.rv_meaning.specs.Memory.{load}
use Rattle.pli_typing.specs.Signatures.{Area, Bit, Character, Fixed, Leaf, LeafKind, Offset, Pointer, Varying}
use Rattle.pli_meaning.specs.BasicValues.{BasedName, VariableName}
use Rattle.pli_meaning.specs.Codes.{area_code, heap_full_code}
use Rattle.pli_meaning.specs.Contents.{Generation, IsOrdered, Placed, end_of, footprint_of, fresh, gap, gap_from}
use Rattle.pli_meaning.specs.Contents.{with_placed}
use Rattle.pli_meaning.specs.DeclaredShapes.{initial_of, shape_of}
use Rattle.pli_meaning.specs.StorageState as Q
use Rattle.pli_meaning.specs.StorageState.{Activation, AreaContents, Living, area_at, area_changed, area_in}
use Rattle.pli_meaning.specs.StorageState.{area_of_kind}
use Rattle.pli_meaning.specs.StorageState.{area_of_leaves, heap_serial, living_changed, with_area}
use Rattle.area_keeper.specs.KeptAreas.{with_part}
use Rattle.area_keeper.proofs.Alikeness.{keeps_alike}
use Rattle.area_keeper.proofs.Agreement.{length_part}
use Rattle.pli_serving.specs.AreaServices as A
use Rattle.pli_serving.specs.Answers.{Done}
use Rattle.pli_serving.specs.Arguments.{name_in}
use Rattle.pli_serving.specs.Bytes.{name_at, name_bytes}
use Rattle.pli_serving.specs.Templates.{shape_at}
use Rattle.pli_serving.specs.Values.{generation_bytes}
use Rattle.storage_relation.specs.Changes.{Asking, GivesNamed, IsAsking, made_by}
use Rattle.storage_relation.specs.Served.{Holds, area_bytes_of, call}
use Rattle.storage_relation.specs.Standing.{AreaOf, AreaStands, IsValued, held, leaf_in, leaves_of, size_of}
use Rattle.storage_relation.specs.Stored.{IsBeside, StoredAs, slice, taken_as, with_heap_made}
use Rattle.storage_relation.specs.Telling.{AllHaveValues, IsOf}
use Rattle.storage_relation.proofs.AreaLaws.{alike, area_placed}
use Rattle.storage_relation.proofs.Calls.{allocate_step, allocated_holds, full_answered}
use Rattle.storage_relation.proofs.Confined.{beside_both, beside_written}
use Rattle.storage_relation.proofs.Named.{area_holder}
use Rattle.storage_relation.proofs.Placing as Placing
use Rattle.storage_relation.proofs.Rows.{none_of_heap}
use Rattle.storage_relation.proofs.Holders.{eqb-other}
use Rattle.storage_relation.proofs.Spelling.{reads_spelled, spelled_length}
use Rattle.storage_relation.proofs.Storing.{taken-other}
use Rattle.activation_relation.specs.Frames.{FramesStand, frame_under}
use Rattle.activation_relation.specs.Layers.{Layer, Point, now, services_of}
use Rattle.activation_relation.specs.Remaining.{LivesOn}
use Rattle.program_runs.specs.Statements.{Block, IsAmong}
use Rattle.expression_runs.specs.Variables.{IsFrameOf, Spot}
use Rattle.argument_runs.proofs.Parameters.{name_there}
use Rattle.variable_runs.specs.Known.{place_of}
use Rattle.area_runs.specs.Allocations.{HasArea}
use Rattle.area_runs.specs.Based.{based_declared, based_shape}
use Rattle.area_runs.proofs.BasedPoints.{IsLaidOut}

-- ---- the area

-- where its name stands in memory
abbrev pub area_place : {k : Block} {x : Spot} → HasArea k x → ℕ
area_place {k} {x} is = is.known.base + place_of k.environment x

pub area_base :
    {k : Block} {x : Spot} {numbers : ℕ → ℕ} {p : Point} (is : HasArea k x) → IsAmong k numbers p →
    frame_under k.call.surroundings.parts p.control.layers ≡ is.known.base
area_base {k} {x} is o =
    ap (λ ls. frame_under k.call.surroundings.parts ls) o.later.layers ∙ by is.known.frame
  where
    by : IsFrameOf k x.level is.known.base →
        frame_under k.call.surroundings.parts k.first.control.layers ≡ is.known.base
    by (inl own) = sym own.1
    by (inr outer) = absurd (cc (sym is.own ∙ outer.0))

kind_area :
    (kind : LeafKind) (a : AreaContents) (ps : List Placed) → area_of_kind kind [] ≡ Some a →
    area_of_kind kind ps ≡ Some (record { capacity = a.capacity; placed = ps })
kind_area (Area n) a ps e =
    let f : record { capacity = n; placed = [] } ≡ a = cc e in
    ap (λ (u : AreaContents). Some (record { capacity = u.capacity; placed = ps })) f
kind_area (Fixed p) a ps e = absurd (cc e)
kind_area (Character p) a ps e = absurd (cc e)
kind_area (Varying p) a ps e = absurd (cc e)
kind_area Bit a ps e = absurd (cc e)
kind_area Pointer a ps e = absurd (cc e)
kind_area Offset a ps e = absurd (cc e)

leaves_area :
    (leaves : List Leaf) (a : AreaContents) (ps : List Placed) → area_of_leaves leaves [] ≡ Some a →
    area_of_leaves leaves ps ≡ Some (record { capacity = a.capacity; placed = ps })
leaves_area [] a ps e = absurd (cc e)
leaves_area (l ∷ []) a ps e = kind_area l.kind a ps e
leaves_area (l ∷ m ∷ ls) a ps e = absurd (cc e)

-- it lives
pub record AreaAt (k : Block) (x : Spot) (is : HasArea k x) (p : Point) : Type 0 where
  pub living : Living
  pub lives : Q.living_of p.state.living is.known.serial ≡ Some living
  pub some : is.known.serial ≢ heap_serial
  pub area :
      area_at p.state is.known.serial ≡ Some (record { capacity = is.capacity; placed = living.placed })

pub area_lives :
    {k : Block} {numbers : ℕ → ℕ} {p : Point} (x : Spot) (is : HasArea k x) → IsAmong k numbers p → AreaAt k x is p
area_lives {k} {p = p} x is o =
    record {
      living = on.there;
      lives = on.lives;
      some = some;
      area =
          ap (λ q. cond q (Some (record { capacity = Q.heap_capacity; placed = p.state.heap }))
          (area_in (Q.living_of p.state.living is.known.serial))) (eqb-other is.known.serial heap_serial some)
          ∙ ap area_in on.lives
          ∙ ap (λ s. area_of_leaves s.signature.leaves on.there.placed) (on.shape ∙ is.known.shape)
          ∙ leaves_area (shape_of [] is.declared).signature.leaves (record { capacity = is.capacity; placed = [] })
          on.there.placed is.area;
    }
  where
    on : LivesOn is.known.living (Q.living_of p.state.living is.known.serial)
    on = o.later.remains.living is.known.serial is.known.living is.known.lives

    some : is.known.serial ≢ heap_serial
    some e =
        none_of_heap (p.state.serials + 1) p.state.living on.there o.stands.lives.falling
        (subst (λ n. Q.living_of p.state.living n ≡ Some on.there) e on.lives)

-- its name is read where the frame has it
name_words_told :
    (parts : _) (base : ℕ) (m : List ℕ) (as' : List Activation) (φ : Layer) (φs : List Layer) (n v : ℕ) →
    FramesStand parts base m as' (φ ∷ φs) → φ.told n ≡ Some v → load 4 m (φ.at + n) ≡ v
name_words_told parts base m [] φ φs n v h e = absurd h
name_words_told parts base m (a ∷ as') φ φs n v h e = h.0.told n v e

pub area_named :
    {k : Block} {numbers : ℕ → ℕ} {p : Point} {x : Spot} (is : HasArea k x) → IsAmong k numbers p → (base : ℕ)
    (m : List ℕ) →
    FramesStand k.call.surroundings.parts base m p.state.activations p.control.layers → IsLaidOut p →
    name_in (call (now p m)) (area_place is) ≡ Some (VariableName is.known.serial)
area_named {k} {p = p} {x = x} is o base m frames layout =
    let at = area_place is in
    let start = layout.0 in
    let end = layout.1 in
    let low = is.known.low in
    let inside = is.known.inside in
    let parts = k.call.surroundings.parts in
    let place = place_of k.environment x in
    let same = o.later.layers ∙ is.layers in
    let stands = subst (FramesStand parts base m p.state.activations) same frames in
    let here : is.layer.at ≡ is.known.base = sym (ap (λ ls. frame_under parts ls) same) ∙ area_base is o in
    let word : (n v : ℕ) → is.layer.told n ≡ Some v → load 4 m (is.known.base + n) ≡ v =
    λ n v e. ap (λ i. load 4 m (i + n)) (sym here)
    ∙ name_words_told parts base m p.state.activations is.layer is.others n v stands e in
    let p8 : is.known.base + (place + 8) ≡ at + 8 = omega arith in
    let p12 : is.known.base + (place + 12) ≡ at + 12 = omega arith in
    let t1 : nat_le p.layout.code_bytes at ≡ true = le-leb _ _ (omega (arith, start, low)) in
    let t2 : nat_le (at + 16) p.layout.end ≡ true = le-leb _ _ (omega (arith, end, inside)) in
    ap (λ q. cond (q && nat_le (at + 16) p.layout.end) (name_at at m) None) t1
    ∙ ap (λ q. cond q (name_at at m) None) t2
    ∙ name_there is.known.serial at m (word place 1 is.told.kind)
    (ap (load 4 m) (sym p8) ∙ word (place + 8) (is.known.serial % 2 ^ 32) is.told.low)
    (ap (load 4 m) (sym p12) ∙ word (place + 12) (is.known.serial / 2 ^ 32) is.told.high)

-- ---- the generation

abbrev pub new_based : Generation
new_based = fresh based_shape (pos 0) (initial_of based_declared)

pub based_valued : IsValued new_based
based_valued leaf is less within = by_leaf leaf is less
  where
    by_leaf :
        (leaf : ℕ) (is : List ℤ) → leaf < 1 → IsOf (leaf_in new_based leaf).kind (new_based.values leaf is)
    by_leaf zero is less = (omega arith, refl)
    by_leaf (suc leaf) is less = absurd (omega (arith, less))

-- ---- gaps

ordered_within : (start capacity : ℕ) (ps : List Placed) → IsOrdered start capacity ps → start ≤ capacity
ordered_within start capacity [] h = h
ordered_within start capacity (p ∷ ps) h =
    let first = h.0 in
    let last = h.2 in
    omega (arith, first, last)

-- one begins within the area
gap_within :
    (start capacity bytes : ℕ) (ps : List Placed) (o : ℕ) → IsOrdered start capacity ps →
    gap_from start capacity bytes ps ≡ Some o → o ≤ capacity
gap_within start capacity bytes [] o h e = by (nat_le (start + bytes) capacity) e
  where
    by : (q : Bool) → cond q (Some start) None ≡ Some o → o ≤ capacity
    by true f = let same : start ≡ o = cc f in subst (λ u. u ≤ capacity) same h
    by false f = absurd (cc f)
gap_within start capacity bytes (p ∷ ps) o h e =
    by (nat_le (start + bytes) p.offset) e (gap_within (end_of p) capacity bytes ps o h.3)
  where
    by :
        (q : Bool) → cond q (Some start) (gap_from (end_of p) capacity bytes ps) ≡ Some o →
        (gap_from (end_of p) capacity bytes ps ≡ Some o → o ≤ capacity) → o ≤ capacity
    by true f rest =
        let same : start ≡ o = cc f in
        subst (λ u. u ≤ capacity) same (ordered_within start capacity (p ∷ ps) h)
    by false f rest = rest f

-- ---- service 10

abbrev pub asking : (area signature destination : ℕ) → Asking
asking area signature destination =
    record { area = area; signature = signature; extent = 0; initial = 0; destination = destination }

-- the area's state then
abbrev pub placed_state : (serial offset : ℕ) → Q.State → Q.State
placed_state serial o s =
    record s {
      living = living_changed serial
          (area_changed (with_placed (record { offset = o; generation = new_based }))) s.living;
    }

pub placed_same :
    (n o : ℕ) (s : Q.State) → n ≢ heap_serial →
    with_area n (with_placed (record { offset = o; generation = new_based })) s ≡ placed_state n o s
placed_same n o s some =
    let change = with_placed (record { offset = o; generation = new_based }) in
    ap (λ q. cond q (record s { heap = change s.heap })
    (record s { living = living_changed n (area_changed change) s.living })) (eqb-other n heap_serial some)

-- what is given to it at a point
pub record Asks {k : Block} {x : Spot} (is : HasArea k x) (p : Point) (signature destination : ℕ) (m : List ℕ) :
    Type 0 where
  pub at : AreaAt k x is p
  pub holds : Holds (now p m)
  pub asks : IsAsking (now p m) (asking (area_place is) signature destination) is.known.serial new_based
  pub small : signature < 2 ^ 32
  pub shape : shape_at p.places.signatures signature ≡ Some based_shape

pub asks_at :
    {k : Block} {x : Spot} {numbers : ℕ → ℕ} {p : Point} (is : HasArea k x) (o : IsAmong k numbers p)
    (signature destination base : ℕ) (m : List ℕ) → signature < 2 ^ 31 →
    shape_at p.places.signatures signature ≡ Some based_shape → Holds (now p m) →
    FramesStand k.call.surroundings.parts base m p.state.activations p.control.layers → IsLaidOut p →
    (2 ^ 22 ≤ destination) × (destination + 16 ≤ memory_size) → Asks is p signature destination m
asks_at {k} {x} {p = p} is o signature destination base m small shape holds frames layout room =
    let at = area_lives x is o in
    let low = is.known.low in
    let start = layout.0 in
    let end = layout.1 in
    let above = room.0 in
    let below = room.1 in
    let t1 : nat_le p.layout.code_bytes destination ≡ true = le-leb _ _ (omega (arith, start, above)) in
    let t2 : nat_le (destination + 16) p.layout.end ≡ true = le-leb _ _ (omega (arith, end, below)) in
    record {
      at = at;
      holds = holds;
      asks = record {
        area = GivesNamed (area_place is) is.known.serial (eqb-other (area_place is) 0 (λ e. omega (arith, e, low)))
            (record {
              some = at.some;
              name = area_named is o base m frames layout;
              area = record { capacity = is.capacity; placed = at.living.placed };
              lives = at.area;
            });
        begun = ap (λ q. A.begun_of (call (now p m)) q 0 0) shape;
        there =
            ap (λ q. q && nat_le (destination + 16) p.layout.end) t1 ∙ t2;
      };
      small = omega (arith, small);
      shape = shape;
    }

same_bytes : (o : ℕ) (x y : List ℕ) → ◌≡◌ {A = Option (ℕ × List ℕ)} (Some (o, x)) (Some (o, y)) → x ≡ y
same_bytes o x y e = ap second e
  where
    second : Option (ℕ × List ℕ) → List ℕ
    second None = []
    second (Some p) = p.1

-- where it has a gap
pub record Answers {k : Block} {x : Spot} (is : HasArea k x) (p : Point) (signature destination : ℕ) (m : List ℕ)
    (o : ℕ) : Type 0 where
  pub memory : List ℕ
  pub holds : Holds (record (now p memory) { state = placed_state is.known.serial o p.state })
  pub beside :
      IsBeside (p.places.at is.known.serial) (p.keeper.bytes_for is.capacity) m memory
  pub offset : o < 2 ^ 32
  pub answer :
      A.allocate_served (call (now p m)) (area_place is) signature 0 0 destination
      ≡ Done (services_of p) (with_part (name_bytes (BasedName is.known.serial o)) destination memory) (area_place is) 0

pub placed_answer :
    {k : Block} {x : Spot} {p : Point} (is : HasArea k x) (signature destination : ℕ) (m : List ℕ) →
    Asks is p signature destination m → (a : AreaAt k x is p) (o : ℕ) →
    gap is.capacity (footprint_of new_based) a.living.placed ≡ Some o → Answers is p signature destination m o
placed_answer {k} {x} {p} is signature destination m asks at o free =
    record {
      memory = memory;
      holds = held_so;
      beside = beside;
      offset = offset;
      answer = answer;
    }
  where
    n : ℕ
    n = is.known.serial

    a : AreaContents
    a = record { capacity = is.capacity; placed = at.living.placed }

    h : Holds (now p m)
    h = asks.holds

    is_held : held p.state n ≡ Some (AreaOf a)
    is_held = area_holder p.state n a at.area

    taken : (bytes : List ℕ) → taken_as p.keeper p.places n bytes ≡ bytes
    taken bytes = taken-other p.keeper p.places n bytes at.some

    all : AllHaveValues (leaves_of new_based)
    all = (tt, tt)

    spelled : List ℕ
    spelled = generation_bytes new_based

    fits : FitsSigned w32 new_based.extent
    fits = record { sfits = omega arith }

    long : length spelled ≡ size_of new_based
    long = spelled_length new_based all

    bytes : List ℕ
    bytes = slice p.keeper p.places n (AreaOf a) m

    area : AreaStands p.keeper p.places.signatures a bytes
    area = subst (AreaStands p.keeper p.places.signatures a) (taken bytes) (h.stored.stands n (AreaOf a) is_held)

    r :
        (new : List ℕ)
        × (p.keeper.allocated (size_of new_based) signature new_based.extent bytes ≡ Some (o, new))
        × (length new ≡ p.keeper.bytes_for is.capacity)
        × StoredAs p.keeper p.places
        (with_area n (with_placed (record { offset = o; generation = new_based })) p.state)
        (with_part spelled (p.places.at n + p.keeper.data_at o new) (with_part new (p.places.at n) m))
    r =
        Placing.placed p.keeper h.keeps p.places p.state m n o signature a new_based spelled taken h.stored is_held free
        asks.small fits asks.shape long (reads_spelled new_based all based_valued)

    headed : List ℕ
    headed = r.0

    memory : List ℕ
    memory = with_part spelled (p.places.at n + p.keeper.data_at o headed) (with_part headed (p.places.at n) m)

    inside : p.places.at n + p.keeper.bytes_for is.capacity ≤ length m
    inside = h.stored.inside n (AreaOf a) is_held

    room : p.keeper.data_at o headed + size_of new_based ≤ p.keeper.bytes_for is.capacity
    room =
        let q = area_placed p.keeper p.places.signatures h.keeps a bytes new_based signature o spelled area free
        asks.small fits asks.shape long (reads_spelled new_based all based_valued) in
        let one : q.0 ≡ headed = same_bytes o q.0 headed (sym q.1 ∙ r.1) in
        let as_long = length_part (p.places.at n) (p.keeper.bytes_for is.capacity) m inside in
        subst (λ u. p.keeper.data_at o u + size_of new_based ≤ p.keeper.bytes_for is.capacity) one
        (subst (λ u. p.keeper.data_at o q.0 + size_of new_based ≤ u) as_long q.3)

    made : made_by n p.places ≡ p.places
    made = ap (λ q. cond q (with_heap_made p.places) p.places) (eqb-other n heap_serial at.some)

    held_so : Holds (record (now p memory) { state = placed_state n o p.state })
    held_so =
        let s = with_area n (with_placed (record { offset = o; generation = new_based })) p.state in
        let stored = subst (λ π. StoredAs p.keeper π s memory) (sym made) r.3 in
        subst (λ u. Holds (record (now p memory) { state = u })) (placed_same n o p.state at.some)
        (subst (λ π. Holds (record (now p memory) { places = π; state = s })) made
        (allocated_holds (now p m) h n o new_based memory stored))

    beside : IsBeside (p.places.at n) (p.keeper.bytes_for is.capacity) m memory
    beside =
        let at' = p.places.at n in
        let count = p.keeper.bytes_for is.capacity in
        let as_many = r.2 in
        let z : at' + 0 ≡ at' = omega arith in
        let first = subst (λ i. IsBeside at' count m (with_part headed i m)) z
        (beside_written headed at' count 0 m (omega (arith, as_many)) inside) in
        let whole = first.as_many in
        beside_both at' count m (with_part headed at' m) memory first
        (beside_written spelled at' count (p.keeper.data_at o headed) (with_part headed at' m)
        (omega (arith, room, long))
        (omega (arith, whole, inside)))

    offset : o < 2 ^ 32
    offset =
        let ordered = keeps_alike.ordered is.capacity area.kept at.living.placed
        (alike p.keeper p.places.signatures bytes area.kept at.living.placed area.are)
        (h.keeps.order.ordered bytes (record { capacity = is.capacity; placed = area.kept }) area.stands) in
        let within = gap_within 0 is.capacity (footprint_of new_based) at.living.placed o ordered free in
        let most = h.keeps.order.bounded bytes (record { capacity = is.capacity; placed = area.kept }) area.stands in
        omega (arith, within, most)

    answer :
        A.allocate_served (call (now p m)) (area_place is) signature 0 0 destination
        ≡ Done (services_of p) (with_part (name_bytes (BasedName n o)) destination memory) (area_place is) 0
    answer =
        let c = call (now p m) in
        let found : p.keeper.allocated (size_of new_based) signature new_based.extent
        (taken_as p.keeper p.places n bytes) ≡ Some (o, headed) =
        ap (p.keeper.allocated (size_of new_based) signature new_based.extent) (taken bytes) ∙ r.1 in
        allocate_step (now p m) h (asking (area_place is) signature destination) n new_based a asks.asks at.area
        ∙ ap (A.allocation_answered c (area_place is) destination n)
        (ap (A.with_data c (area_bytes_of p.keeper p.places m n a) new_based) found)
        ∙ ap (λ q. Done (cond q (record (services_of p) { heap_made = true }) (services_of p))
        (with_part (name_bytes (BasedName n o)) destination memory) (area_place is) 0) (eqb-other n heap_serial at.some)

-- where it has none
pub full_answer :
    {k : Block} {x : Spot} {p : Point} (is : HasArea k x) (signature destination : ℕ) (m : List ℕ) →
    Asks is p signature destination m → (a : AreaAt k x is p) →
    gap is.capacity (footprint_of new_based) a.living.placed ≡ None →
    A.allocate_served (call (now p m)) (area_place is) signature 0 0 destination
    ≡ Done (services_of p) m (area_place is) area_code
full_answer {p = p} is signature destination m asks at none =
    full_answered (now p m) asks.holds (asking (area_place is) signature destination) is.known.serial new_based
    (record { capacity = is.capacity; placed = at.living.placed }) asks.asks at.area none
    ∙ ap (λ q. Done (services_of p) m (area_place is) (cond q heap_full_code area_code))
    (eqb-other is.known.serial heap_serial at.some)
