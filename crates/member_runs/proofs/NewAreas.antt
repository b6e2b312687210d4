-- An AREA variable at a point of its block, and a structure that is placed in it: what service 10 answers.
use Rattle.std.proofs.Common.{◌≡◌, ◌≢◌, ℕ, suc, ◌+◌, ◌^◌, ◌<◌, ◌≤◌, List, [], ◌∷◌}
use Rattle.std.proofs.Common.{length, Option, None, Some, Bool, true, false, refl, sym, ap, ◌∙◌, subst, arith}
use Rattle.std.proofs.lemmas.Bool.{le-leb}
use Rattle.std.specs.Int.{w32}
use Rattle.std.specs.Prelude.{FitsSigned, cond, pos, ◌&&◌, nat_le}
use Rattle.rv_meaning.specs.Machine.{memory_size}
use Rattle.pli_typing.specs.Signatures.{Area, Bit, Character, Fixed, Leaf, LeafKind, Offset, Pointer, Varying}
use Rattle.pli_meaning.specs.BasicValues.{BasedName}
use Rattle.pli_meaning.specs.Codes.{area_code, heap_full_code}
use Rattle.pli_meaning.specs.Contents.{Generation, IsOrdered, Placed, end_of, footprint_of, fresh, gap, gap_from}
use Rattle.pli_meaning.specs.Contents.{with_placed}
use Rattle.pli_meaning.specs.DeclaredShapes.{initial_of}
use Rattle.pli_meaning.specs.StorageState as Q
use Rattle.pli_meaning.specs.StorageState.{Activation, AreaContents, Living, area_at, area_changed, area_in}
use Rattle.pli_meaning.specs.StorageState.{area_of_kind}
use Rattle.pli_meaning.specs.StorageState.{area_of_leaves, heap_serial, living_changed, with_area}
use Rattle.area_keeper.specs.KeptAreas.{with_part}
use Rattle.area_keeper.proofs.Alikeness.{keeps_alike}
use Rattle.area_keeper.proofs.Agreement.{length_part}
use Rattle.pli_serving.specs.AreaServices as A
use Rattle.pli_serving.specs.Answers.{Done}
use Rattle.pli_serving.specs.Bytes.{name_bytes}
use Rattle.pli_serving.specs.Templates.{shape_at}
use Rattle.pli_serving.specs.Values.{generation_bytes}
use Rattle.storage_relation.specs.Changes.{GivesNamed, IsAsking, made_by}
use Rattle.storage_relation.specs.Served.{Holds, area_bytes_of, call}
use Rattle.storage_relation.specs.Standing.{AreaOf, AreaStands, IsValued, held, leaves_of, size_of}
use Rattle.storage_relation.specs.Stored.{IsBeside, StoredAs, slice, taken_as, with_heap_made}
use Rattle.storage_relation.proofs.AreaLaws.{alike, area_placed}
use Rattle.storage_relation.proofs.Calls.{allocate_step, allocated_holds, full_answered}
use Rattle.storage_relation.proofs.Confined.{beside_both, beside_written}
use Rattle.storage_relation.proofs.Named.{area_holder}
use Rattle.storage_relation.proofs.Placing as Placing
use Rattle.storage_relation.proofs.Holders.{eqb-other}
use Rattle.storage_relation.proofs.Spelling.{reads_spelled, spelled_length}
use Rattle.storage_relation.proofs.Storing.{taken-other}
use Rattle.activation_relation.specs.Layers.{Point, now, services_of}
use Rattle.program_runs.specs.Statements.{Block, IsAmong}
use Rattle.expression_runs.specs.Variables.{Spot}
use Rattle.area_runs.specs.Allocations.{HasArea}
use Rattle.area_runs.proofs.BasedPoints.{IsLaidOut}
use Rattle.activation_relation.specs.Frames.{FramesStand}
use Rattle.storage_relation.proofs.Begun.{fresh_valued, sound_values}
use Rattle.storage_relation.specs.Keeping.{AreInitial, AreSound}
use Rattle.pli_typing.specs.TypedTree as Y
use Rattle.pli_coding.specs.StaticForms.{if_any, initial_leaves, leaf_with_items}
use Rattle.pli_language.specs.Tree.{InitialItem}
use Rattle.pli_serving.specs.Arguments.{capacity_of_leaves}
use Rattle.pli_serving.specs.InitialValues.{none_initial}
use Rattle.area_runs.proofs.AreaPoints.{AreaAt, area_lives, area_named, area_place, asking}
use Rattle.member_runs.specs.Allocations.{IsUninitialized}
use Rattle.member_runs.specs.Members.{structure_declared, structure_shape}
use Rattle.storage_relation.specs.Keeping.{IsSound}
use Rattle.pli_serving.specs.Arguments.{capacity_of_kind}
use Rattle.storage_relation.specs.Telling.{AllHaveValues}
use Rattle.std.specs.Prelude.{is_none, if◌then◌else◌}
use Rattle.std.proofs.Common.{map, ◌++◌}
use Rattle.pli_meaning.specs.DeclaredShapes.{leaf_of}

-- ---- the generation

abbrev pub new_structure : List Y.Member → List Y.Leaf → Generation
new_structure members leaves =
    fresh (structure_shape members leaves) (pos 0) (initial_of (structure_declared members leaves))

-- without INITIAL there is none for any leaf
all_none :
    (n : ℕ) (leaves : List Y.Leaf) → if_any (initial_leaves n leaves) ≡ None →
    ◌≡◌ {A = List (List InitialItem)} (map (λ l. l.initial) leaves) (none_initial (map (leaf_of []) leaves))
all_none n [] e = refl
all_none n (l ∷ ls) e = by l.initial refl (λ f. all_none (suc n) ls f) e
  where
    by :
        (items : List InitialItem) → l.initial ≡ items →
        (if_any (initial_leaves (suc n) ls) ≡ None →
        ◌≡◌ {A = List (List InitialItem)} (map (λ k. k.initial) ls) (none_initial (map (leaf_of []) ls))) →
        if_any (leaf_with_items n items ++ initial_leaves (suc n) ls) ≡ None →
        ◌≡◌ {A = List (List InitialItem)} (l.initial ∷ map (λ k. k.initial) ls)
        ([] ∷ none_initial (map (leaf_of []) ls))
    by [] f rest g = ap (λ u. u ∷ map (λ k. k.initial) ls) f ∙ ap (λ u. [] ∷ u) (rest g)
    by (i ∷ is) f rest g = absurd (cc g)

none_given : (ls : List Leaf) → AreInitial ls (none_initial ls)
none_given [] = tt
none_given (l ∷ ls) = (tt, none_given ls)

pub initial_is :
    (members : List Y.Member) (leaves : List Y.Leaf) → IsUninitialized members leaves →
    initial_of (structure_declared members leaves) ≡ none_initial (structure_shape members leaves).signature.leaves
initial_is members leaves is = all_none 0 leaves is.none

pub structure_valued :
    (members : List Y.Member) (leaves : List Y.Leaf) → IsUninitialized members leaves →
    IsValued (new_structure members leaves)
structure_valued members leaves is =
    let ls = (structure_shape members leaves).signature.leaves in
    fresh_valued (structure_shape members leaves) (pos 0) (initial_of (structure_declared members leaves)) is.sound
    (subst (AreInitial ls) (sym (initial_is members leaves is)) (none_given ls))

no_capacity : (ls : List Leaf) → AreSound ls → capacity_of_leaves ls ≡ None
no_capacity [] h = refl
no_capacity (l ∷ m ∷ ls) h = refl
no_capacity (l ∷ []) h = by l.kind h.0
  where
    by : (kind : LeafKind) → IsSound kind → capacity_of_kind kind ≡ None
    by (Fixed p) s = refl
    by (Character n) s = refl
    by (Varying n) s = refl
    by Bit s = refl
    by Pointer s = refl
    by Offset s = refl
    by (Area n) s = absurd s

-- how service 10 begins it
structure_begun :
    (p : Point) (m : List ℕ) (members : List Y.Member) (leaves : List Y.Leaf) → IsUninitialized members leaves →
    A.begun_of (call (now p m)) (Some (structure_shape members leaves)) 0 0 ≡ Some (new_structure members leaves)
structure_begun p m members leaves is =
    let s = structure_shape members leaves in
    ap (λ (q : Option ℕ). if is_none q && true then Some (fresh s (pos 0) (none_initial s.signature.leaves)) else None)
    (no_capacity s.signature.leaves is.sound)
    ∙ ap (λ i. Some (fresh s (pos 0) i)) (sym (initial_is members leaves is))

-- ---- gaps

ordered_within : (start capacity : ℕ) (ps : List Placed) → IsOrdered start capacity ps → start ≤ capacity
ordered_within start capacity [] h = h
ordered_within start capacity (p ∷ ps) h =
    let first = h.0 in
    let last = h.2 in
    omega (arith, first, last)

-- one begins within the area
gap_within :
    (start capacity bytes : ℕ) (ps : List Placed) (o : ℕ) → IsOrdered start capacity ps →
    gap_from start capacity bytes ps ≡ Some o → o ≤ capacity
gap_within start capacity bytes [] o h e = by (nat_le (start + bytes) capacity) e
  where
    by : (q : Bool) → cond q (Some start) None ≡ Some o → o ≤ capacity
    by true f = let same : start ≡ o = cc f in subst (λ u. u ≤ capacity) same h
    by false f = absurd (cc f)
gap_within start capacity bytes (p ∷ ps) o h e =
    by (nat_le (start + bytes) p.offset) e (gap_within (end_of p) capacity bytes ps o h.3)
  where
    by :
        (q : Bool) → cond q (Some start) (gap_from (end_of p) capacity bytes ps) ≡ Some o →
        (gap_from (end_of p) capacity bytes ps ≡ Some o → o ≤ capacity) → o ≤ capacity
    by true f rest =
        let same : start ≡ o = cc f in
        subst (λ u. u ≤ capacity) same (ordered_within start capacity (p ∷ ps) h)
    by false f rest = rest f

-- ---- service 10

-- the area's state then
abbrev pub placed_state : Generation → (serial offset : ℕ) → Q.State → Q.State
placed_state g serial o s =
    record s {
      living = living_changed serial
          (area_changed (with_placed (record { offset = o; generation = g }))) s.living;
    }

pub placed_same :
    (g : Generation) (n o : ℕ) (s : Q.State) → n ≢ heap_serial →
    with_area n (with_placed (record { offset = o; generation = g })) s ≡ placed_state g n o s
placed_same g n o s some =
    let change = with_placed (record { offset = o; generation = g }) in
    ap (λ q. cond q (record s { heap = change s.heap })
    (record s { living = living_changed n (area_changed change) s.living })) (eqb-other n heap_serial some)

-- what is given to it at a point
pub record Asks (members : List Y.Member) (leaves : List Y.Leaf) {k : Block} {x : Spot} (is : HasArea k x) (p : Point)
    (signature destination : ℕ) (m : List ℕ) : Type 0 where
  pub new : IsUninitialized members leaves
  pub at : AreaAt k x is p
  pub holds : Holds (now p m)
  pub asks : IsAsking (now p m) (asking (area_place is) signature destination) is.known.serial
      (new_structure members leaves)
  pub small : signature < 2 ^ 32
  pub shape : shape_at p.places.signatures signature ≡ Some (structure_shape members leaves)

pub asks_at :
    (members : List Y.Member) (leaves : List Y.Leaf) → IsUninitialized members leaves → {k : Block} {x : Spot}
    {numbers : ℕ → ℕ} {p : Point} (is : HasArea k x) (o : IsAmong k numbers p)
    (signature destination base : ℕ) (m : List ℕ) → signature < 2 ^ 31 →
    shape_at p.places.signatures signature ≡ Some (structure_shape members leaves) → Holds (now p m) →
    FramesStand k.call.surroundings.parts base m p.state.activations p.control.layers → IsLaidOut p →
    (2 ^ 22 ≤ destination) × (destination + 16 ≤ memory_size) →
    Asks members leaves is p signature destination m
asks_at members leaves new {k} {x} {p = p} is o signature destination base m small shape holds frames layout room =
    let at = area_lives x is o in
    let low = is.known.low in
    let start = layout.0 in
    let end = layout.1 in
    let above = room.0 in
    let below = room.1 in
    let t1 : nat_le p.layout.code_bytes destination ≡ true = le-leb _ _ (omega (arith, start, above)) in
    let t2 : nat_le (destination + 16) p.layout.end ≡ true = le-leb _ _ (omega (arith, end, below)) in
    record {
      new = new;
      at = at;
      holds = holds;
      asks = record {
        area = GivesNamed (area_place is) is.known.serial (eqb-other (area_place is) 0 (λ e. omega (arith, e, low)))
            (record {
              some = at.some;
              name = area_named is o base m frames layout;
              area = record { capacity = is.capacity; placed = at.living.placed };
              lives = at.area;
            });
        begun = ap (λ q. A.begun_of (call (now p m)) q 0 0) shape ∙ structure_begun p m members leaves new;
        there =
            ap (λ q. q && nat_le (destination + 16) p.layout.end) t1 ∙ t2;
      };
      small = omega (arith, small);
      shape = shape;
    }

same_bytes : (o : ℕ) (x y : List ℕ) → ◌≡◌ {A = Option (ℕ × List ℕ)} (Some (o, x)) (Some (o, y)) → x ≡ y
same_bytes o x y e = ap second e
  where
    second : Option (ℕ × List ℕ) → List ℕ
    second None = []
    second (Some p) = p.1

-- where it has a gap
pub record Answers (members : List Y.Member) (leaves : List Y.Leaf) {k : Block} {x : Spot} (is : HasArea k x) (p :
    Point)
    (signature destination : ℕ) (m : List ℕ) (o : ℕ) : Type 0 where
  pub memory : List ℕ
  pub holds : Holds (record (now p memory) {
    state = placed_state (new_structure members leaves) is.known.serial o p.state;
  })
  pub beside :
      IsBeside (p.places.at is.known.serial) (p.keeper.bytes_for is.capacity) m memory
  pub offset : o < 2 ^ 32
  pub answer :
      A.allocate_served (call (now p m)) (area_place is) signature 0 0 destination
      ≡ Done (services_of p) (with_part (name_bytes (BasedName is.known.serial o)) destination memory) (area_place is) 0

pub placed_answer :
    (members : List Y.Member) (leaves : List Y.Leaf) {k : Block} {x : Spot} {p : Point} (is : HasArea k x) (signature
    destination : ℕ) (m : List ℕ) →
    Asks members leaves is p signature destination m → (a : AreaAt k x is p) (o : ℕ) →
    gap is.capacity (footprint_of (new_structure members leaves)) a.living.placed ≡ Some o →
    Answers members leaves is p signature destination m o
placed_answer members leaves {k} {x} {p} is signature destination m asks at o free =
    record {
      memory = memory;
      holds = held_so;
      beside = beside;
      offset = offset;
      answer = answer;
    }
  where
    g : Generation
    g = new_structure members leaves

    n : ℕ
    n = is.known.serial

    a : AreaContents
    a = record { capacity = is.capacity; placed = at.living.placed }

    h : Holds (now p m)
    h = asks.holds

    is_held : held p.state n ≡ Some (AreaOf a)
    is_held = area_holder p.state n a at.area

    taken : (bytes : List ℕ) → taken_as p.keeper p.places n bytes ≡ bytes
    taken bytes = taken-other p.keeper p.places n bytes at.some

    all : AllHaveValues (leaves_of g)
    all = sound_values (structure_shape members leaves).signature.leaves asks.new.sound

    spelled : List ℕ
    spelled = generation_bytes g

    fits : FitsSigned w32 g.extent
    fits = record { sfits = omega arith }

    long : length spelled ≡ size_of g
    long = spelled_length g all

    bytes : List ℕ
    bytes = slice p.keeper p.places n (AreaOf a) m

    area : AreaStands p.keeper p.places.signatures a bytes
    area = subst (AreaStands p.keeper p.places.signatures a) (taken bytes) (h.stored.stands n (AreaOf a) is_held)

    r :
        (new : List ℕ)
        × (p.keeper.allocated (size_of g) signature g.extent bytes ≡ Some (o, new))
        × (length new ≡ p.keeper.bytes_for is.capacity)
        × StoredAs p.keeper p.places
        (with_area n (with_placed (record { offset = o; generation = g })) p.state)
        (with_part spelled (p.places.at n + p.keeper.data_at o new) (with_part new (p.places.at n) m))
    r =
        Placing.placed p.keeper h.keeps p.places p.state m n o signature a g spelled taken h.stored is_held free
        asks.small fits asks.shape long (reads_spelled g all (structure_valued members leaves asks.new))

    headed : List ℕ
    headed = r.0

    memory : List ℕ
    memory = with_part spelled (p.places.at n + p.keeper.data_at o headed) (with_part headed (p.places.at n) m)

    inside : p.places.at n + p.keeper.bytes_for is.capacity ≤ length m
    inside = h.stored.inside n (AreaOf a) is_held

    room : p.keeper.data_at o headed + size_of g ≤ p.keeper.bytes_for is.capacity
    room =
        let q = area_placed p.keeper p.places.signatures h.keeps a bytes g signature o spelled area free
        asks.small fits asks.shape long (reads_spelled g all (structure_valued members leaves asks.new)) in
        let one : q.0 ≡ headed = same_bytes o q.0 headed (sym q.1 ∙ r.1) in
        let as_long = length_part (p.places.at n) (p.keeper.bytes_for is.capacity) m inside in
        subst (λ u. p.keeper.data_at o u + size_of g ≤ p.keeper.bytes_for is.capacity) one
        (subst (λ u. p.keeper.data_at o q.0 + size_of g ≤ u) as_long q.3)

    made : made_by n p.places ≡ p.places
    made = ap (λ q. cond q (with_heap_made p.places) p.places) (eqb-other n heap_serial at.some)

    held_so : Holds (record (now p memory) { state = placed_state g n o p.state })
    held_so =
        let s = with_area n (with_placed (record { offset = o; generation = g })) p.state in
        let stored = subst (λ π. StoredAs p.keeper π s memory) (sym made) r.3 in
        subst (λ u. Holds (record (now p memory) { state = u })) (placed_same g n o p.state at.some)
        (subst (λ π. Holds (record (now p memory) { places = π; state = s })) made
        (allocated_holds (now p m) h n o g memory stored))

    beside : IsBeside (p.places.at n) (p.keeper.bytes_for is.capacity) m memory
    beside =
        let at' = p.places.at n in
        let count = p.keeper.bytes_for is.capacity in
        let as_many = r.2 in
        let z : at' + 0 ≡ at' = omega arith in
        let first = subst (λ i. IsBeside at' count m (with_part headed i m)) z
        (beside_written headed at' count 0 m (omega (arith, as_many)) inside) in
        let whole = first.as_many in
        beside_both at' count m (with_part headed at' m) memory first
        (beside_written spelled at' count (p.keeper.data_at o headed) (with_part headed at' m)
        (omega (arith, room, long))
        (omega (arith, whole, inside)))

    offset : o < 2 ^ 32
    offset =
        let ordered = keeps_alike.ordered is.capacity area.kept at.living.placed
        (alike p.keeper p.places.signatures bytes area.kept at.living.placed area.are)
        (h.keeps.order.ordered bytes (record { capacity = is.capacity; placed = area.kept }) area.stands) in
        let within = gap_within 0 is.capacity (footprint_of (new_structure members leaves)) at.living.placed o ordered
        free in
        let most = h.keeps.order.bounded bytes (record { capacity = is.capacity; placed = area.kept }) area.stands in
        omega (arith, within, most)

    answer :
        A.allocate_served (call (now p m)) (area_place is) signature 0 0 destination
        ≡ Done (services_of p) (with_part (name_bytes (BasedName n o)) destination memory) (area_place is) 0
    answer =
        let c = call (now p m) in
        let found : p.keeper.allocated (size_of g) signature g.extent
        (taken_as p.keeper p.places n bytes) ≡ Some (o, headed) =
        ap (p.keeper.allocated (size_of g) signature g.extent) (taken bytes) ∙ r.1 in
        allocate_step (now p m) h (asking (area_place is) signature destination) n g a asks.asks at.area
        ∙ ap (A.allocation_answered c (area_place is) destination n)
        (ap (A.with_data c (area_bytes_of p.keeper p.places m n a) g) found)
        ∙ ap (λ q. Done (cond q (record (services_of p) { heap_made = true }) (services_of p))
        (with_part (name_bytes (BasedName n o)) destination memory) (area_place is) 0) (eqb-other n heap_serial at.some)

-- where it has none
pub full_answer :
    (members : List Y.Member) (leaves : List Y.Leaf) {k : Block} {x : Spot} {p : Point} (is : HasArea k x) (signature
    destination : ℕ) (m : List ℕ) →
    Asks members leaves is p signature destination m → (a : AreaAt k x is p) →
    gap is.capacity (footprint_of (new_structure members leaves)) a.living.placed ≡ None →
    A.allocate_served (call (now p m)) (area_place is) signature 0 0 destination
    ≡ Done (services_of p) m (area_place is) area_code
full_answer members leaves {p = p} is signature destination m asks at none =
    full_answered (now p m) asks.holds (asking (area_place is) signature destination) is.known.serial (new_structure
    members leaves)
    (record { capacity = is.capacity; placed = at.living.placed }) asks.asks at.area none
    ∙ ap (λ q. Done (services_of p) m (area_place is) (cond q heap_full_code area_code))
    (eqb-other is.known.serial heap_serial at.some)
