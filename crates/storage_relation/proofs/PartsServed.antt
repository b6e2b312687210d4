-- Services 40 and 41 at a call: a part is taken and put into another, or one value is stored in all elements.
use Rattle.std.proofs.Common.{◌≡◌, ℕ, ◌+◌, ◌≤◌, List, length, true, ◌<◌, [], ◌∷◌, map, Some, false, suc, zero, ◌++◌}
use Rattle.std.proofs.Common.{take, drop, refl, sym, ap, ◌∙◌, subst, arith}
use Rattle.std.specs.Prelude.{ℤ, cond}
use Rattle.pli_typing.specs.Signatures.{LeafKind, Character, Leaf}
use Rattle.pli_typing.specs.TypedTree as Y
use Rattle.pli_meaning.specs.BasicValues.{BasicValue, Name, BasicNumber, BasicText, BasicBit, BasicPointer, BasicOffset}
use Rattle.pli_meaning.specs.BasicValues.{BasedName, VariableName, NullName}
use Rattle.pli_meaning.specs.Contents.{Generation, Shape, is_within, leaves_with, changed_at, seen}
use Rattle.pli_meaning.specs.Evaluating.{Designated, leaf_at}
use Rattle.pli_meaning.specs.Placing.{elements_of, part_bounds, with_elements, all_same_bounds, bounds_left}
use Rattle.pli_meaning.specs.StorageState as M
use Rattle.pli_meaning.specs.StorageState.{State, with_generation, generation_changed}
use Rattle.pli_serving.specs.AggregateServices.{taken_value, stored_in, taken_leaf, leaves_go_into, stores_of}
use Rattle.pli_serving.specs.Aggregates.{Aggregate, leaf_elements, bounds_left_in, part_of_leaves, leaf_numbers}
use Rattle.pli_serving.specs.Answers.{Done}
use Rattle.pli_serving.specs.Finding.{Found}
use Rattle.pli_serving.specs.Outcomes.{answering, bad_unless}
use Rattle.pli_serving.specs.ServiceState.{TakenLeaf}
use Rattle.pli_serving.specs.Templates.{shape_at}
use Rattle.pli_serving.specs.Values as V
use Rattle.pli_serving.specs.Values.{all_subscripts}
use Rattle.storage_relation.specs.Changes.{with_storage}
use Rattle.storage_relation.specs.Keeping.{IsStorable, IsSound, AreSound, StoresText, IsNarrow, NarrowText, NarrowSame}
use Rattle.storage_relation.specs.Parts.{AllOf, given_fits, IsAggregate, part_of, IsPlaced, as_read, AllGive}
use Rattle.storage_relation.specs.Parts.{IsDesignated, GoesInto, meant_of, AllTaken, SameFrom, one_leaf, HasPart}
use Rattle.storage_relation.specs.Parts.{IsTaken, AreTaken, IsTakenFrom}
use Rattle.storage_relation.specs.Served.{Now, call, place_now, Holds, FoundFor}
use Rattle.storage_relation.specs.Standing.{leaves_of, IsPlain}
use Rattle.storage_relation.specs.Stored.{Places, StoredAs, Lives}
use Rattle.storage_relation.specs.Telling.{IsOf}
use Rattle.storage_relation.proofs.Aggregates.{within_split}
use Rattle.storage_relation.proofs.Calls.{lives_area}
use Rattle.storage_relation.proofs.Elements.{leaf_of}
use Rattle.storage_relation.proofs.Kept.{as_many_leaves, within_allocated}
use Rattle.storage_relation.proofs.Living.{lives_changed, stays_generation}
use Rattle.storage_relation.proofs.Named.{named_at}
use Rattle.std.proofs.Math.Path.{fun_ext}
use Rattle.storage_relation.proofs.Parts.{up, up_is, same_parts, taken_bounds}
use Rattle.storage_relation.proofs.PartStores.{kind_narrow}
use Rattle.storage_relation.proofs.PartAnswers.{put_stored, set_stored, elements_meant}
use Rattle.storage_relation.proofs.GivenSubscripts.{part_of_leaves_is}
use Rattle.storage_relation.proofs.Taking.{taken_gives}
use Rattle.storage_relation.proofs.FoundValues.{own_storable}
use Rattle.storage_relation.proofs.Locators.{named_lives}
use Rattle.pli_serving.specs.ServiceState.{Entry}
use Rattle.pli_serving.specs.Outcomes.{with_entries}
use Rattle.pli_meaning.specs.Codes.{shape_code}
use Rattle.pli_serving.specs.AggregateServices.{leaves_put, elements_set}

-- ---- the part that services have and the one that is designated

same_left :
    (w : Now) (a : Aggregate) (g : Generation) (f : Found) (part : Y.Part) (is : List ℤ) → a.shape ≡ g.shape → (n : ℕ) →
    bounds_left_in (part_of w a f part is).part n ≡ bounds_left_in (meant_of a g part is) n
same_left w a g f part is same n =
    ap (λ (s : Shape). drop (length is) (leaf_at s a.extent (part.first + n)).bounds) same

same_bounds_of :
    (w : Now) (a : Aggregate) (g : Generation) (f : Found) (part : Y.Part) (is : List ℤ) → a.shape ≡ g.shape →
    part_bounds (part_of w a f part is).part ≡ part_bounds (meant_of a g part is)
same_bounds_of w a g f part is same =
    ap (λ (s : Shape). bounds_left (length is) (take part.count (drop part.first (leaves_with a.extent s)))) same

part_lives :
    (w : Now) (a : Aggregate) (g : Generation) (part : Y.Part) (is : List ℤ) → HasPart w a g part is →
    M.generation_at w.state a.name ≡ Some g
part_lives w a g part is own = named_lives w.state a.name a.shape g own.lives

-- the generation is changed by the meaning's part
elements_all :
    (w : Now) (a : Aggregate) (g : Generation) (part : Y.Part) (is : List ℤ) (values : ℕ → List ℤ → BasicValue) →
    IsAggregate w a g part is → (i : FoundFor w a.name g) →
    with_elements (part_of w a i.found part is).part values ≡ with_elements (meant_of a g part is) values
elements_all w a g part is values ag i = fun_ext (λ x. elements_meant w a g part is values ag i x)

lives_elements :
    (π : Places) (s : State) (n : Name) (d : Designated) (values : ℕ → List ℤ → BasicValue) → Lives π s →
    Lives π (with_generation n (with_elements d values) s)
lives_elements π s NullName d values lives = lives
lives_elements π s (VariableName n) d values lives =
    lives_changed π s n (generation_changed (with_elements d values))
    (stays_generation (with_elements d values) (λ y. refl) (λ y. refl)) lives
lives_elements π s (BasedName n o) d values lives = lives_area π s n (changed_at o (with_elements d values)) lives

elements_hold :
    (w : Now) → Holds w → (a : Aggregate) (g : Generation) (part : Y.Part) (is : List ℤ)
    (values : ℕ → List ℤ → BasicValue) (new : List ℕ) → IsAggregate w a g part is → (i : FoundFor w a.name g) →
    StoredAs w.keeper w.places (with_generation a.name (with_elements (part_of w a i.found part is).part values)
    w.state)
    new →
    Holds (with_storage (with_generation a.name (with_elements (meant_of a g part is) values) w.state) new w)
elements_hold w h a g part is values new ag i stored =
    record {
      keeps = h.keeps;
      heap = h.heap;
      lives = lives_elements w.places w.state a.name (meant_of a g part is) values h.lives;
      stored = subst (λ change. StoredAs w.keeper w.places (with_generation a.name change w.state) new)
          (elements_all w a g part is values ag i) stored;
      distinct = h.distinct;
    }

-- ---- found

pub found_part :
    (w : Now) → Holds w → (a : Aggregate) (g : Generation) (part : Y.Part) (is : List ℤ) → HasPart w a g part is →
    IsPlaced a part.first is → shape_at w.places.signatures a.signature ≡ Some a.shape →
    (i : FoundFor w a.name g)
    × (part_of_leaves (call w) a part.first part.count (length is) ≡ Some (part_of w a i.found part is))
found_part w h a g part is own placed number =
    part_of_leaves_is w h a g part is (own.aggregate, placed) number own.lives

-- ---- taken

seen_storable :
    (now kind : LeafKind) (v : BasicValue) → IsNarrow now kind → IsOf kind v →
    (other : LeafKind) × IsStorable now other (seen now v)
seen_storable now kind (BasicText t) (NarrowText n more) h = (Character (n + 0), StoresText n 0 (take n t))
seen_storable now kind (BasicNumber t) (NarrowText n more) h = absurd h
seen_storable now kind (BasicBit t) (NarrowText n more) h = absurd h
seen_storable now kind (BasicPointer t) (NarrowText n more) h = absurd h
seen_storable now kind (BasicOffset t) (NarrowText n more) h = absurd h
seen_storable now kind v (NarrowSame k) h = own_storable k v h

taken_one :
    (w : Now) → Holds w → (d : Designated) (at n : ℕ) → M.generation_at w.state d.name ≡ Some d.generation →
    IsPlain d.generation → at ≡ place_now w d.name → IsDesignated d → n < d.part.count →
    is_within (take (length d.subscripts) (leaf_at d.generation.shape d.extent (d.part.first + n)).bounds) d.subscripts
    ≡ true →
    IsTaken d n (taken_leaf (as_read d at w.memory) n)
taken_one w h d at n lives plain place is less given =
    let inside = is.inside in
    record {
      gives = taken_gives w.keeper h.keeps w.places w.state w.memory (w.state.serials + 1) d d at n h.stored
          h.lives.falling lives plain place is.less (omega (arith, inside, less)) given refl;
      storable = λ x within. one x within;
    }
  where
    leaf : ℕ
    leaf = d.part.first + n

    one :
        (x : List ℤ) → is_within (bounds_left_in d n) x ≡ true →
        (other : LeafKind) × IsStorable (leaf_at d.generation.shape d.extent leaf).kind other (elements_of d n x)
    one x within =
        let g = d.generation in
        let js = d.subscripts ++ x in
        let inside = is.inside in
        let many = as_many_leaves g.shape g.extent in
        let all : is_within (leaf_at g.shape d.extent leaf).bounds js ≡ true =
        within_split (leaf_at g.shape d.extent leaf).bounds d.subscripts x given ∙ within in
        let here = named_at w.keeper h.keeps w.places w.state w.memory (w.state.serials + 1) d.name g h.stored
        h.lives.falling lives plain in
        let told = here.reads.elements leaf js (omega (arith, many, inside, less))
        (within_allocated g.shape d.extent g.extent leaf js is.less all) in
        seen_storable (leaf_at g.shape d.extent leaf).kind (leaf_at g.shape g.extent leaf).kind (g.values leaf js)
        (kind_narrow g.shape d.extent g.extent leaf is.less) told.fits

taken_all :
    (w : Now) → Holds w → (d : Designated) (at n count : ℕ) → M.generation_at w.state d.name ≡ Some d.generation →
    IsPlain d.generation → at ≡ place_now w d.name → IsDesignated d → n + count ≤ d.part.count → given_fits d n count →
    AreTaken d n (map (taken_leaf (as_read d at w.memory)) (up n count))
taken_all w h d at n zero lives plain place is less given = tt
taken_all w h d at n (suc count) lives plain place is less given = (
  taken_one w h d at n lives plain place is (omega (arith, less)) given.0,
  taken_all w h d at (suc n) count lives plain place is (omega (arith, less)) given.1,
)

taken_count : (f : ℕ → TakenLeaf) (n count : ℕ) → length (map f (up n count)) ≡ count
taken_count f n zero = refl
taken_count f n (suc count) = ap (λ k. suc k) (taken_count f (suc n) count)

pub taken_part :
    (w : Now) → Holds w → (a : Aggregate) (g : Generation) (part : Y.Part) (is : List ℤ) → HasPart w a g part is →
    (i : FoundFor w a.name g) →
    IsTakenFrom (meant_of a g part is)
    (map (taken_leaf (part_of w a i.found part is).part) (leaf_numbers (part_of w a i.found part is).part))
taken_part w h a g part is own i =
    let p = (part_of w a i.found part is).part in
    let d = meant_of a g part is in
    let there = own.aggregate.designated in
    let alike : as_read d i.found.at w.memory ≡ p =
    ap (λ (s : Shape). record d { generation = V.generation_at s g.extent i.found.at w.memory })
    (sym own.aggregate.shape_same)
    ∙ ap (λ z. record d { generation = V.generation_at a.shape z i.found.at w.memory }) (sym i.extent)
    in
    record {
      inside = there.inside;
      count = ap (λ ns. length (map (taken_leaf p) ns)) (up_is 0 part.count) ∙ taken_count (taken_leaf p) 0 part.count;
      bounds = taken_bounds p (subst (λ (s : Shape). part.first + part.count ≤ length s.signature.leaves)
          (sym own.aggregate.shape_same) there.inside)
          ∙ same_bounds_of w a g i.found part is own.aggregate.shape_same;
      leaves =
          subst (λ ns. AreTaken d 0 (map (taken_leaf p) ns)) (sym (up_is 0 part.count))
          (subst (λ q. AreTaken d 0 (map (taken_leaf q) (up 0 part.count))) alike
          (taken_all w h d i.found.at 0 part.count (part_lives w a g part is own) own.plain i.at there (omega arith)
          there.given));
    }

-- ---- put

sound_at : (ls : List Leaf) (leaf : ℕ) → AreSound ls → IsSound (leaf_of ls leaf).kind
sound_at [] leaf s = tt
sound_at (l ∷ ls) zero s = s.0
sound_at (l ∷ ls) (suc leaf) s = sound_at ls leaf s.1

give_all :
    (w : Now) (a : Aggregate) (g : Generation) (f : Found) (part : Y.Part) (is : List ℤ) (e : Designated) (n : ℕ)
    (ts : List TakenLeaf) → a.shape ≡ g.shape → SameFrom (meant_of a g part is) e n (length ts) → AreTaken e n ts →
    AllGive (part_of w a f part is).part (elements_of e) n ts
give_all w a g f part is e n [] same alike taken = tt
give_all w a g f part is e n (t ∷ ts) same alike taken =
    let gives = taken.0.gives in
    let bounds = sym (same_left w a g f part is same n ∙ alike.0) in (
      record {
        bytes = gives.bytes;
        elements = gives.elements ∙ ap (λ bs. map gives.bytes (all_subscripts bs)) bounds;
        values = subst (λ bs. AllOf (λ x. taken_value t.kind (gives.bytes x) ≡ elements_of e n x) (all_subscripts bs))
            bounds
            gives.values;
      },
      give_all w a g f part is e (suc n) ts same alike.1 taken.1,
    )

taken_as_values :
    (w : Now) (a : Aggregate) (g : Generation) (i : FoundFor w a.name g) (part : Y.Part) (is : List ℤ) (e : Designated)
    (n : ℕ) (ts : List TakenLeaf) → a.shape ≡ g.shape → AreSound (leaves_of g) →
    SameFrom (meant_of a g part is) e n (length ts) → AreTaken e n ts →
    AllTaken (part_of w a i.found part is) (elements_of e) n ts
taken_as_values w a g i part is e n [] same sound alike taken = tt
taken_as_values w a g i part is e n (t ∷ ts) same sound alike taken = (
  (
    (λ x within.
        taken.0.storable x
        (ap (λ bs. is_within bs x) (sym (same_left w a g i.found part is same n ∙ alike.0)) ∙ within)),
    subst (λ z. IsSound (leaf_at a.shape z (part.first + n)).kind) (sym i.extent)
        (subst (λ (s : Shape). IsSound (leaf_at s g.extent (part.first + n)).kind) (sym same)
        (sound_at (leaves_of g) (part.first + n) sound)),
  ),
  taken_as_values w a g i part is e (suc n) ts same sound alike.1 taken.1,
)

put_test :
    (w : Now) (a : Aggregate) (g : Generation) (f : Found) (part : Y.Part) (is : List ℤ) (e : Designated)
    (ts : List TakenLeaf) → a.shape ≡ g.shape → IsTakenFrom e ts →
    all_same_bounds (part_bounds (part_of w a f part is).part) (map (λ (t : TakenLeaf). t.bounds) ts)
    ≡ all_same_bounds (part_bounds (meant_of a g part is)) (part_bounds e)
put_test w a g f part is e ts same taken =
    ap (λ bs. all_same_bounds bs (map (λ (t : TakenLeaf). t.bounds) ts)) (same_bounds_of w a g f part is same)
    ∙ ap (all_same_bounds (part_bounds (meant_of a g part is))) taken.bounds

pub put_part :
    (w : Now) → Holds w → (a : Aggregate) (g : Generation) (part : Y.Part) (is : List ℤ) → HasPart w a g part is →
    AreSound (leaves_of g) → (i : FoundFor w a.name g) → (x : ℕ) (e : Designated) (ts : List TakenLeaf)
    (below : List Entry) → IsTakenFrom e ts →
    all_same_bounds (part_bounds (meant_of a g part is)) (part_bounds e) ≡ true →
    leaves_go_into (part_of w a i.found part is).part 0 ts ≡ true →
    (new : List ℕ)
    × Holds (with_storage (with_generation a.name (with_elements (meant_of a g part is) (elements_of e)) w.state) new w)
    × (leaves_put (call w) x (part_of w a i.found part is) ts below
    ≡ Done (with_entries below (call w).services) new x 0)
put_part w h a g part is own sound i x e ts below taken alike goes =
    let p = part_of w a i.found part is in
    let d = meant_of a g part is in
    let same = own.aggregate.shape_same in
    let parts = same_parts d e own.aggregate.designated.inside taken.inside alike in
    let count : length ts ≡ part.count = taken.count ∙ sym parts.0 in
    let from : SameFrom d e 0 (length ts) = subst (λ k. SameFrom d e 0 k) (sym count) parts.1 in
    let new = stored_in p (stores_of p.part 0 ts) w.memory in
    let stored = put_stored w h a g part is (elements_of e) ts i (
      count,
      own.aggregate,
      part_lives w a g part is own,
      own.plain,
      give_all w a g i.found part is e 0 ts same from taken.leaves,
      goes,
      taken_as_values w a g i part is e 0 ts same sound from taken.leaves,
    ) in (
      new,
      elements_hold w h a g part is (elements_of e) new own.aggregate i stored,
      ap (λ q. cond q (bad_unless (leaves_go_into p.part 0 ts) (Done (with_entries below (call w).services) new x 0))
          (answering (call w) x shape_code)) (put_test w a g i.found part is e ts same taken ∙ alike)
          ∙ ap (λ q. bad_unless q (Done (with_entries below (call w).services) new x 0)) goes,
    )

pub unlike_part :
    (w : Now) → Holds w → (a : Aggregate) (g : Generation) (part : Y.Part) (is : List ℤ) → HasPart w a g part is →
    (i : FoundFor w a.name g) → (x : ℕ) (e : Designated) (ts : List TakenLeaf) (below : List Entry) →
    IsTakenFrom e ts → all_same_bounds (part_bounds (meant_of a g part is)) (part_bounds e) ≡ false →
    leaves_put (call w) x (part_of w a i.found part is) ts below ≡ answering (call w) x shape_code
unlike_part w h a g part is own i x e ts below taken unlike =
    let p = part_of w a i.found part is in
    ap (λ q. cond q (bad_unless (leaves_go_into p.part 0 ts) (Done (with_entries below (call w).services)
    (stored_in p (stores_of p.part 0 ts) w.memory) x 0)) (answering (call w) x shape_code))
    (put_test w a g i.found part is e ts own.aggregate.shape_same taken ∙ unlike)

-- ---- 41

pub set_part :
    (w : Now) → Holds w → (a : Aggregate) (g : Generation) (leaf : ℕ) (v : BasicValue) →
    HasPart w a g (one_leaf leaf) [] → AreSound (leaves_of g) → (i : FoundFor w a.name g) → (x y : ℕ)
    (entries : List Entry) → GoesInto (leaf_at g.shape a.extent leaf).kind v →
    (new : List ℕ)
    × Holds (with_storage (with_generation a.name (with_elements (meant_of a g (one_leaf leaf) []) (λ n js. v)) w.state)
    new w)
    × (elements_set (call w) x y (part_of w a i.found (one_leaf leaf) []) entries v
    ≡ Done (with_entries entries (call w).services) new x y)
set_part w h a g leaf v own sound i x y entries goes =
    let p = part_of w a i.found (one_leaf leaf) [] in
    let same = own.aggregate.shape_same in
    let e : leaf ≡ leaf + 0 = omega arith in
    let new = stored_in p (map (λ e. (e, v)) (leaf_elements p.part 0)) w.memory in
    let stored = set_stored w h a g leaf v own.aggregate (part_lives w a g (one_leaf leaf) [] own, own.plain) i (
      subst (λ l. GoesInto (leaf_at a.shape a.extent l).kind v) e
          (subst (λ (s : Shape). GoesInto (leaf_at s a.extent leaf).kind v) (sym same) goes),
      subst (λ z. IsSound (leaf_at a.shape z (leaf + 0)).kind) (sym i.extent)
          (subst (λ (s : Shape). IsSound (leaf_at s g.extent (leaf + 0)).kind) (sym same)
          (sound_at (leaves_of g) (leaf + 0) sound)),
    ) in
    (new, elements_hold w h a g (one_leaf leaf) [] (λ n js. v) new own.aggregate i stored, refl)
