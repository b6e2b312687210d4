-- An element of an array at a point of a block: what it holds there, and where that stands.
use Rattle.std.proofs.Common.{◌≡◌, ℕ, ◌+◌, ◌*◌, ◌%◌, ◌^◌, ◌<◌, List, [], ◌∷◌, Some, true, refl, sym, ap, ◌∙◌}
use Rattle.std.proofs.Common.{subst, arith}
use Rattle.std.specs.Prelude.{ℤ, pos}
use Rattle.rv_meaning.specs.Memory.{load}
use Rattle.rv_meaning.specs.Words.{word}
use Rattle.pli_typing.specs.Signatures.{Bounds, Fixed}
use Rattle.pli_meaning.specs.BasicValues.{BasicBit, BasicNumber, BasicOffset, BasicPointer, BasicText, BasicValue}
use Rattle.pli_meaning.specs.BasicValues.{VariableName}
use Rattle.pli_meaning.specs.Contents.{Generation}
use Rattle.pli_meaning.specs.Numbers.{is_of_precision}
use Rattle.pli_meaning.specs.StorageState.{ancestor, binding_in, generation_at, generation_of, living_of, newest_height}
use Rattle.storage_relation.specs.Served as S
use Rattle.storage_relation.specs.Telling.{IsOf, Tells}
use Rattle.storage_relation.proofs.Changes.{element_held}
use Rattle.storage_relation.proofs.Placing.{none_above}
use Rattle.storage_relation.proofs.Values.{word_loaded}
use Rattle.activation_relation.specs.Layers.{Point, now}
use Rattle.activation_relation.specs.Remaining.{LivesOn}
use Rattle.run_steps.specs.Bodies.{PlaceFrom}
use Rattle.run_steps.proofs.Numbers.{above_small, above_sum}
use Rattle.run_steps.specs.Reach.{Family}
use Rattle.block_runs.specs.Machines.{AreIn}
use Rattle.program_runs.specs.Statements.{Block, IsAmong, IsBegun}
use Rattle.expression_runs.specs.Variables.{Spot, number_place}
use Rattle.expression_runs.proofs.VariablePoints.{first_base}
use Rattle.element_runs.specs.Arrays.{IsArray, array_shape}
use Rattle.element_runs.proofs.Bounds.{inside_span, is_between, place_at, within_is}
use Rattle.element_runs.proofs.ElementMeaning.{Holds, array_generation}

-- ---- where it stands

abbrev pub element_at : (k : Block) (x : Spot) (b : Bounds) → IsArray k x b → ℤ → ℕ
element_at k x b is i = is.known.base + 4 * place_at b i + number_place k.environment x

-- its frame, and its distance from the first element, lie in memory
pub frame_small :
    (k : Block) (x : Spot) (b : Bounds) (is : IsArray k x b) (i : ℤ) → is_between b i ≡ true →
    is.known.base + 4 * place_at b i < 15 * 2 ^ 20
frame_small k x b is i between =
    let inside = is.known.inside in
    let less = inside_span b i between in
    omega (arith, inside, less)

pub place_is :
    (k : Block) (x : Spot) (b : Bounds) (is : IsArray k x b) (i : ℤ) → is_between b i ≡ true →
    element_at k x b is i % 4 ≡ 0 →
    PlaceFrom (is.known.base + 4 * place_at b i) (pos (number_place k.environment x)) (element_at k x b is i)
place_is k x b is i between even =
    let inside = is.known.inside in
    let low = is.known.low in
    let less = inside_span b i between in
    let n = number_place k.environment x in
    record {
      small' = above_small n (omega (arith, inside));
      sums = λ b'. above_sum b'.at (is.known.base + 4 * place_at b i) n b'.valid.1 (omega (arith, inside, less));
      aligned = even;
      inside = omega (arith, inside, less);
      above_code = omega (arith, low);
    }

-- ---- what it holds

number_of : (v : BasicValue) → IsOf (Fixed 31) v → (z : ℤ) × (v ≡ BasicNumber z) × (is_of_precision 31 z ≡ true)
number_of (BasicNumber z) is = (z, refl, is.1)
number_of (BasicText t) is = absurd is
number_of (BasicBit b) is = absurd is
number_of (BasicPointer n) is = absurd is
number_of (BasicOffset o) is = absurd is

generation_is :
    (b : Bounds) (g : Generation) → g.shape ≡ array_shape b → g.extent ≡ pos 0 → g ≡ array_generation b g.values
generation_is b g e f =
    ap (λ s. record { shape = s; extent = g.extent; values = g.values }) e
    ∙ ap (λ z. record { shape = array_shape b; extent = z; values = g.values }) f

-- a number of 31 bits, and the word that tells it wherever memory has what is stored
pub record ElementAt (k : Block) (x : Spot) (b : Bounds) (is : IsArray k x b) (p : Point) (holds : Holds p.state x b)
    (i : ℤ) : Type 0
  where
    pub here : p.places.at holds.serial + 0 + 4 * (place_at b i * 1 + 0) ≡ element_at k x b is i
    pub y : ℤ
    pub value : holds.values 0 (i ∷ []) ≡ BasicNumber y
    pub wide : is_of_precision 31 y ≡ true
    pub tells :
        (m : List ℕ) → S.Holds (now p m) →
        (load 4 m (element_at k x b is i) ≡ word y) × (element_at k x b is i % 4 ≡ 0)

-- the array there
pub array_at :
    {k : Block} {numbers : ℕ → ℕ} {p : Point} (x : Spot) (b : Bounds) (is : IsArray k x b) → IsAmong k numbers p →
    (holds : Holds p.state x b) × (holds.serial ≡ is.known.serial)
array_at {k} {p = p} x b is o =
    let known = is.known in
    let on : LivesOn known.living (living_of p.state.living known.serial) =
    o.later.remains.living known.serial known.living known.lives in
    let g = on.there.generation in (
      record {
        serial = known.serial;
        stands =
            ap (λ xs. binding_in (ancestor xs (newest_height xs) x.level) x.index) o.later.activations
            ∙ known.binding;
        values = g.values;
        living = on.there;
        lives = on.lives;
        generation =
            generation_is b g (on.shape ∙ known.shape)
            (o.stands.lives.extents known.serial on.there on.lives);
      },
      refl,
    )

pub held_at :
    {k : Block} {numbers : ℕ → ℕ} {p : Point} {index : ℕ} (x : Spot) (b : Bounds) (is : IsArray k x b) (i : ℤ) →
    is_between b i ≡ true → IsBegun k → IsAmong k numbers p → (f : Family) →
    AreIn k.call.surroundings p numbers index f → (holds : Holds p.state x b) → holds.serial ≡ is.known.serial →
    ElementAt k x b is p holds i
held_at {k} {p = p} x b is i between begun o f there holds same =
    record {
      here = here;
      y = first.0;
      value = first.1;
      wide = first.2;
      tells = λ m stored.
          let t = told m stored in (
            ap (load 4 m) (sym here)
                ∙ word_loaded 31 at first.0 m refl
                (subst (λ v. Tells (Fixed 31) v at m) first.1 t.0),
            subst (λ n. n % 4 ≡ 0) here t.1,
          );
    }
  where
    at : ℕ
    at = p.places.at holds.serial + 0 + 4 * (place_at b i * 1 + 0)

    low : is.known.serial < k.first.state.serials + 1
    low = none_above (k.first.state.serials + 1) k.first.state.living is.known.serial is.known.living
        begun.resumes.stands.lives.falling is.known.lives

    here : at ≡ element_at k x b is i
    here =
        let moved = o.later.remains.at is.known.serial (omega (arith, low)) in
        let from = is.known.at in
        let one = ap (λ n. p.places.at n) same in
        omega (arith, moved, from, one)

    there_is : generation_at p.state (VariableName holds.serial) ≡ Some (array_generation b holds.values)
    there_is = ap generation_of holds.lives ∙ ap (λ y. Some y) holds.generation

    told : (m : List ℕ) → S.Holds (now p m) →
        Tells (Fixed 31) (holds.values 0 (i ∷ [])) at m × (at % 4 ≡ 0)
    told m stored =
        element_held (now p m) stored (VariableName holds.serial) (array_generation b holds.values) (pos 0) 0 (i ∷ [])
        there_is refl (record { less = refl; leaf_there = omega arith; within = within_is b i ∙ between })

    first : (z : ℤ) × (holds.values 0 (i ∷ []) ≡ BasicNumber z) × (is_of_precision 31 z ≡ true)
    first = number_of (holds.values 0 (i ∷ []))
        (told (f first_base).machine.memory (there first_base).at.storage).0.fits
