-- An element of an array at a point of a block: what it holds there, and where that stands.
use Rattle.std.proofs.Common.{◌≡◌, ℕ, ◌+◌, ◌*◌, ◌%◌, ◌^◌, ◌<◌, ◌≤◌, List, [], Some, Bool, true, false}
use Rattle.std.proofs.Common.{refl, ap, ◌∙◌, subst, arith}
use Rattle.std.specs.Prelude.{ℤ, nat_le, pos, if◌then◌else◌}
use Rattle.rv_meaning.specs.Machine.{extended, load_width}
use Rattle.rv_meaning.specs.Memory.{load}
use Rattle.pli_language.specs.Tree as T
use Rattle.pli_typing.specs.Signatures.{Bounds, data_size, element_count, leaf_bytes, rounded_up}
use Rattle.pli_typing.specs.TypedTree as Y
use Rattle.pli_meaning.specs.BasicValues.{BasicValue, VariableName}
use Rattle.pli_meaning.specs.Contents.{Generation, element_place, is_within}
use Rattle.pli_meaning.specs.DeclaredShapes.{shape_of}
use Rattle.pli_meaning.specs.StorageState.{ancestor, binding_in, generation_at, generation_of, living_of, newest_height}
use Rattle.storage_relation.specs.Served as S
use Rattle.storage_relation.specs.Standing.{IsPlain}
use Rattle.storage_relation.specs.Telling.{IsOf, Tells}
use Rattle.storage_relation.proofs.Changes.{element_held}
use Rattle.storage_relation.proofs.Elements.{place_inside}
use Rattle.storage_relation.proofs.Placing.{none_above}
use Rattle.activation_relation.specs.Layers.{Point, now}
use Rattle.activation_relation.specs.Remaining.{LivesOn}
use Rattle.run_steps.specs.Bodies.{PlaceFrom}
use Rattle.run_steps.proofs.Numbers.{above_small, above_sum}
use Rattle.run_steps.specs.Reach.{Family}
use Rattle.block_runs.specs.Machines.{AreIn}
use Rattle.program_runs.specs.Statements.{Block, IsAmong, IsBegun}
use Rattle.expression_runs.specs.Variables.{Spot, number_place}
use Rattle.expression_runs.proofs.VariablePoints.{first_base}
use Rattle.pli_headline.proofs.Scalars.{IsNumeric, load_kind}
use Rattle.scalar_runs.proofs.ScalarWords.{found_word, kind_for, word_in}
use Rattle.array_runs.specs.Arrays.{Grid, IsArray, grid_declared}
use Rattle.array_runs.proofs.ArrayMeaning as N
use Rattle.array_runs.proofs.ArrayMeaning.{held_generation, held_shape, shape_is}

-- ---- its size

four_by : (q : Bool) → rounded_up 4 (if q then 2 else 4) ≡ 4
four_by true = refl
four_by false = refl

-- each element takes 4 bytes
pub four_bytes : (type : Y.LeafType) → IsNumeric type → rounded_up 4 (leaf_bytes (kind_for type)) ≡ 4
four_bytes (Y.FixedLeaf p) is = four_by (nat_le p 15)
four_bytes Y.BitLeaf is = refl
four_bytes _ is = absurd is

pub size_is :
    (g : Grid) (initial : List T.InitialItem) → IsNumeric g.type →
    data_size (shape_of [] (grid_declared g initial)).signature ≡ 4 * element_count g.bounds
size_is g initial is =
    ap (λ s. data_size s.signature) (shape_is g initial)
    ∙ ap (λ n. n * element_count g.bounds + 0) (four_bytes g.type is)
    ∙ none_more (4 * element_count g.bounds)
  where
    none_more : (n : ℕ) → n + 0 ≡ n
    none_more n = omega arith

-- ---- where it stands

abbrev pub element_at : (k : Block) (x : Spot) (g : Grid) → IsArray k x g → List ℤ → ℕ
element_at k x g is zs = is.known.base + 4 * element_place g.bounds zs + number_place k.environment x

-- its frame, and its distance from the first element, lie in memory
pub frame_small :
    (k : Block) (x : Spot) (g : Grid) (is : IsArray k x g) (zs : List ℤ) → IsNumeric g.type →
    is_within g.bounds zs ≡ true → is.known.base + 4 * element_place g.bounds zs < 15 * 2 ^ 20
frame_small k x g is zs numeric within =
    let inside = is.known.inside in
    let size = size_is g is.initial numeric in
    let less = place_inside g.bounds zs within in
    omega (arith, inside, size, less)

-- there are few elements
pub few_elements :
    (k : Block) (x : Spot) (g : Grid) (is : IsArray k x g) → IsNumeric g.type → element_count g.bounds ≤ 2 ^ 24
few_elements k x g is numeric =
    let inside = is.known.inside in
    let size = size_is g is.initial numeric in
    omega (arith, inside, size)

pub place_is :
    (k : Block) (x : Spot) (g : Grid) (is : IsArray k x g) (zs : List ℤ) → IsNumeric g.type →
    is_within g.bounds zs ≡ true → element_at k x g is zs % 4 ≡ 0 →
    PlaceFrom (is.known.base + 4 * element_place g.bounds zs) (pos (number_place k.environment x))
    (element_at k x g is zs)
place_is k x g is zs numeric within even =
    let inside = is.known.inside in
    let size = size_is g is.initial numeric in
    let low = is.known.low in
    let less = place_inside g.bounds zs within in
    let n = number_place k.environment x in
    record {
      small' = above_small n (omega (arith, inside));
      sums = λ b'. above_sum b'.at (is.known.base + 4 * element_place g.bounds zs) n b'.valid.1
          (omega (arith, inside, size, less));
      aligned = even;
      inside = omega (arith, inside, size, less);
      above_code = omega (arith, low);
    }

-- ---- what it holds

generation_is :
    (g : Grid) (c : Generation) → c.shape ≡ held_shape g → c.extent ≡ pos 0 → c ≡ held_generation g c.values
generation_is g c e f =
    ap (λ s. record { shape = s; extent = c.extent; values = c.values }) e
    ∙ ap (λ z. record { shape = held_shape g; extent = z; values = c.values }) f

plain_by :
    (type : Y.LeafType) (bs : List Bounds) (values : ℕ → List ℤ → BasicValue) → IsNumeric type →
    IsPlain (held_generation (record { type = type; bounds = bs }) values)
plain_by (Y.FixedLeaf p) bs values is = refl
plain_by Y.BitLeaf bs values is = refl
plain_by _ bs values is = absurd is

pub plain_grid : (g : Grid) (values : ℕ → List ℤ → BasicValue) → IsNumeric g.type → IsPlain (held_generation g values)
plain_grid g values is = plain_by g.type g.bounds values is

-- a value of its kind, and the word that tells it wherever memory has what is stored
pub record ElementAt (k : Block) (x : Spot) (g : Grid) (is : IsArray k x g) (p : Point) (holds : N.Holds p.state x g)
    (zs : List ℤ) : Type 0
  where
    pub here : p.places.at holds.serial + 0 + 4 * element_place g.bounds zs ≡ element_at k x g is zs
    pub fits : IsOf (kind_for g.type) (holds.values 0 zs)
    pub tells :
        (m : List ℕ) → S.Holds (now p m) →
        (extended (load_kind g.type) (load (load_width (load_kind g.type)) m (element_at k x g is zs))
        ≡ word_in (holds.values 0 zs))
        × (element_at k x g is zs % 4 ≡ 0)

-- the array there
pub array_at :
    {k : Block} {numbers : ℕ → ℕ} {p : Point} (x : Spot) (g : Grid) (is : IsArray k x g) → IsAmong k numbers p →
    (holds : N.Holds p.state x g) × (holds.serial ≡ is.known.serial)
array_at {k} {p = p} x g is o =
    let known = is.known in
    let on : LivesOn known.living (living_of p.state.living known.serial) =
    o.later.remains.living known.serial known.living known.lives in
    let c = on.there.generation in (
      record {
        serial = known.serial;
        stands =
            ap (λ xs. binding_in (ancestor xs (newest_height xs) x.level) x.index) o.later.activations
            ∙ known.binding
            ∙ ap (λ s. Some (record { variable = x.index; name = VariableName known.serial; shape = s }))
            (shape_is g is.initial);
        values = c.values;
        living = on.there;
        lives = on.lives;
        generation =
            generation_is g c (on.shape ∙ known.shape ∙ shape_is g is.initial)
            (o.stands.lives.extents known.serial on.there on.lives);
      },
      refl,
    )

pub held_at :
    {k : Block} {numbers : ℕ → ℕ} {p : Point} {index : ℕ} (x : Spot) (g : Grid) (is : IsArray k x g) (zs : List ℤ) →
    IsNumeric g.type → is_within g.bounds zs ≡ true → IsBegun k → IsAmong k numbers p → (f : Family) →
    AreIn k.call.surroundings p numbers index f → (holds : N.Holds p.state x g) → holds.serial ≡ is.known.serial →
    ElementAt k x g is p holds zs
held_at {k} {p = p} x g is zs numeric within begun o f there holds same =
    record {
      here = here;
      fits = (told (f first_base).machine.memory (there first_base).at.storage).0.fits;
      tells = λ m stored.
          let t = told m stored in
          subst
          (λ n. (extended (load_kind g.type) (load (load_width (load_kind g.type)) m n) ≡ word_in (holds.values 0 zs))
          × (n % 4 ≡ 0)) here (found_word g.type (holds.values 0 zs) at m numeric t.0, t.1);
    }
  where
    at : ℕ
    at = p.places.at holds.serial + 0 + 4 * element_place g.bounds zs

    low : is.known.serial < k.first.state.serials + 1
    low = none_above (k.first.state.serials + 1) k.first.state.living is.known.serial is.known.living
        begun.resumes.stands.lives.falling is.known.lives

    here : at ≡ element_at k x g is zs
    here =
        let moved = o.later.remains.at is.known.serial (omega (arith, low)) in
        let from = is.known.at in
        let one = ap (λ n. p.places.at n) same in
        omega (arith, moved, from, one)

    there_is : generation_at p.state (VariableName holds.serial) ≡ Some (held_generation g holds.values)
    there_is = ap generation_of holds.lives ∙ ap (λ y. Some y) holds.generation

    told : (m : List ℕ) → S.Holds (now p m) →
        Tells (kind_for g.type) (holds.values 0 zs) at m × (at % 4 ≡ 0)
    told m stored =
        let e = element_held (now p m) stored (VariableName holds.serial) (held_generation g holds.values) (pos 0) 0 zs
        there_is (plain_grid g holds.values numeric)
        (record { less = refl; leaf_there = omega arith; within = within }) in
        subst (λ n. Tells (kind_for g.type) (holds.values 0 zs) (p.places.at holds.serial + 0
        + n * element_place g.bounds zs) m × ((p.places.at holds.serial + 0 + n * element_place g.bounds zs) % 4 ≡ 0))
        (four_bytes g.type numeric) e
