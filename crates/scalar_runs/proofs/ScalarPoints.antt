-- A scalar at a point of a block: what it holds there, where that stands, and the code that loads it.
use Rattle.std.proofs.Common.{◌≡◌, ℕ, ◌+◌, ◌*◌, ◌%◌, ◌^◌, ◌<◌, ◌≤◌, List, [], Some, Bool, true, refl, sym, ap, ◌∙◌}
use Rattle.std.proofs.Common.{subst, arith}
use Rattle.std.specs.Prelude.{ℤ, pos, ◌==◌}
use Rattle.rv_meaning.specs.Machine.{extended, load_width}
use Rattle.rv_meaning.specs.Memory.{load}
use Rattle.rv_meaning.specs.Words.{flag, word}
use Rattle.pli_typing.specs.Signatures.{Bit, Fixed}
use Rattle.pli_typing.specs.TypedTree as Y
use Rattle.pli_meaning.specs.BasicValues.{BasicBit, BasicNumber, BasicOffset, BasicPointer, BasicText, BasicValue}
use Rattle.pli_meaning.specs.BasicValues.{VariableName}
use Rattle.pli_meaning.specs.Contents.{Generation}
use Rattle.pli_meaning.specs.DeclaredShapes.{shape_of}
use Rattle.pli_meaning.specs.Numbers.{is_of_precision}
use Rattle.pli_meaning.specs.StorageState.{ancestor, binding_in, generation_at, generation_of, living_of, newest_height}
use Rattle.pli_coding.specs.Assembly.{size_of}
use Rattle.pli_coding.specs.Expressions.{bit_code, number_code}
use Rattle.storage_relation.specs.Served as S
use Rattle.storage_relation.specs.Standing.{IsPlain}
use Rattle.storage_relation.specs.Telling.{IsOf, Tells}
use Rattle.storage_relation.proofs.Changes.{element_held}
use Rattle.storage_relation.proofs.Placing.{none_above}
use Rattle.activation_relation.specs.Layers.{Point, now, services_of}
use Rattle.activation_relation.specs.Remaining.{LivesOn}
use Rattle.run_steps.specs.Bodies.{Known, PlaceFrom}
use Rattle.run_steps.specs.Items.{At, Linked}
use Rattle.run_steps.proofs.Numbers.{above_small, above_sum}
use Rattle.run_steps.specs.Reach.{Comes, Family, Reach}
use Rattle.run_steps.proofs.Reaching.{read_based}
use Rattle.block_runs.specs.Machines.{AreIn}
use Rattle.block_runs.proofs.PointGrounds.{known_in, point_frame, point_ground}
use Rattle.program_runs.specs.Statements.{Block, IsAmong, IsBegun}
use Rattle.expression_runs.specs.Laws.{Does}
use Rattle.expression_runs.specs.Values.{HasWord, Setting, Stretch, behind, in_registers, number_aims}
use Rattle.expression_runs.specs.Variables.{Spot, number_place, whole}
use Rattle.expression_runs.proofs.VariablePoints.{first_base, reaches_by}
use Rattle.expression_runs.proofs.Words.{frame_of, valued, word_here}
use Rattle.pli_headline.proofs.Scalars.{IsNumeric, fewer_bits, load_kind}
use Rattle.test_runs.specs.Tests.{Tests, bit_aims}
use Rattle.scalar_runs.specs.Scalars.{IsBit, IsFixed, IsScalar, scalar_declared}
use Rattle.scalar_runs.proofs.ScalarCode as C
use Rattle.scalar_runs.proofs.ScalarMeaning as N
use Rattle.scalar_runs.proofs.ScalarMeaning.{IsWorded, scalar_generation, scalar_shape}
use Rattle.scalar_runs.proofs.ScalarWords.{found_word, kind_for, word_in}

-- ---- where it stands

abbrev pub at_of : {k : Block} → {x : Spot} → {type : Y.LeafType} → IsScalar k x type → ℕ
at_of {k} {x} is = is.known.base + number_place k.environment x

shape_is :
    (type : Y.LeafType) (initial : _) → IsNumeric type →
    shape_of [] (scalar_declared type initial) ≡ scalar_shape (kind_for type)
shape_is (Y.FixedLeaf p) initial is = refl
shape_is Y.BitLeaf initial is = refl
shape_is _ initial is = absurd is

-- there is room for a word there
pub room_at : {k : Block} {x : Spot} {type : Y.LeafType} (is : IsScalar k x type) → at_of is ≤ 15 * 2 ^ 20
room_at is = let inside = is.known.inside in omega (arith, inside)

pub place_at : {k : Block} {x : Spot} {type : Y.LeafType} (is : IsScalar k x type) → at_of is % 4 ≡ 0 →
    PlaceFrom is.known.base (pos (number_place k.environment x)) (at_of is)
place_at {k} {x} is even =
    let inside = is.known.inside in
    let low = is.known.low in
    let n = number_place k.environment x in
    record {
      small' = above_small n (omega (arith, inside));
      sums = λ b. above_sum b.at is.known.base n b.valid.1 (omega (arith, inside));
      aligned = even;
      inside = omega (arith, inside);
      above_code = omega (arith, low);
    }

-- ---- what it holds

generation_is :
    (type : Y.LeafType) (g : Generation) → g.shape ≡ scalar_shape (kind_for type) → g.extent ≡ pos 0 →
    g ≡ scalar_generation (kind_for type) g.values
generation_is type g e f =
    ap (λ s. record { shape = s; extent = g.extent; values = g.values }) e
    ∙ ap (λ z. record { shape = scalar_shape (kind_for type); extent = z; values = g.values }) f

pub plain_scalar :
    (type : Y.LeafType) (values : ℕ → List ℤ → BasicValue) → IsNumeric type →
    IsPlain (scalar_generation (kind_for type) values)
plain_scalar (Y.FixedLeaf p) values is = refl
plain_scalar Y.BitLeaf values is = refl
plain_scalar _ values is = absurd is

-- a value of its kind, and the word that tells it wherever memory has what is stored
pub record ScalarAt {k : Block} {x : Spot} {type : Y.LeafType} (is : IsScalar k x type) (p : Point) : Type 0 where
  pub holds : N.Holds p.state x (kind_for type)
  pub here : p.places.at holds.serial ≡ at_of is
  pub fits : IsOf (kind_for type) (holds.values 0 [])
  pub tells :
      (m : List ℕ) → S.Holds (now p m) →
      (extended (load_kind type) (load (load_width (load_kind type)) m (at_of is)) ≡ word_in (holds.values 0 []))
      × (at_of is % 4 ≡ 0)

address_is : (at size : ℕ) → at + 0 + size * 0 ≡ at
address_is at size = omega arith

pub scalar_at :
    {k : Block} {numbers : ℕ → ℕ} {p : Point} {index : ℕ} {x : Spot} {type : Y.LeafType} (is : IsScalar k x type) →
    IsNumeric type → IsBegun k → IsAmong k numbers p → (f : Family) → AreIn k.call.surroundings p numbers index f →
    ScalarAt is p
scalar_at {k} {p = p} {x = x} {type = type} is numeric begun o f there =
    record {
      holds = holds;
      here = here;
      fits = (told (f first_base).machine.memory (there first_base).at.storage).0.fits;
      tells = λ m stored.
          let t = told m stored in
          subst
          (λ n. (extended (load_kind type) (load (load_width (load_kind type)) m n) ≡ word_in (g.values 0 []))
          × (n % 4 ≡ 0)) here (found_word type (g.values 0 []) (p.places.at serial) m numeric t.0, t.1);
    }
  where
    serial : ℕ
    serial = is.known.serial

    on : LivesOn is.known.living (living_of p.state.living serial)
    on = o.later.remains.living serial is.known.living is.known.lives

    g : Generation
    g = on.there.generation

    same : g ≡ scalar_generation (kind_for type) g.values
    same =
        generation_is type g (on.shape ∙ is.known.shape ∙ shape_is type is.initial numeric)
        (o.stands.lives.extents serial on.there on.lives)

    holds : N.Holds p.state x (kind_for type)
    holds =
        record {
          serial = serial;
          stands =
              ap (λ xs. binding_in (ancestor xs (newest_height xs) x.level) x.index) o.later.activations
              ∙ is.known.binding
              ∙ ap (λ s. Some (record { variable = x.index; name = VariableName serial; shape = s }))
              (shape_is type is.initial numeric);
          values = g.values;
          living = on.there;
          lives = on.lives;
          generation = same;
        }

    low : serial < k.first.state.serials + 1
    low = none_above (k.first.state.serials + 1) k.first.state.living serial is.known.living
        begun.resumes.stands.lives.falling is.known.lives

    here : p.places.at serial ≡ at_of is
    here =
        let moved = o.later.remains.at serial (omega (arith, low)) in
        let at = is.known.at in
        omega (arith, moved, at)

    there_is : generation_at p.state (VariableName serial) ≡ Some (scalar_generation (kind_for type) g.values)
    there_is = ap generation_of on.lives ∙ ap (λ y. Some y) same

    told : (m : List ℕ) → S.Holds (now p m) →
        Tells (kind_for type) (g.values 0 []) (p.places.at serial) m × (p.places.at serial % 4 ≡ 0)
    told m stored =
        let e = element_held (now p m) stored (VariableName serial) (scalar_generation (kind_for type) g.values) (pos 0)
        0 [] there_is (plain_scalar type g.values numeric)
        (record { less = refl; leaf_there = omega arith; within = refl }) in
        subst (λ n. Tells (kind_for type) (g.values 0 []) n m × (n % 4 ≡ 0))
        (address_is (p.places.at serial) _) e

-- ---- the code

-- its word comes into a0
read_reaches :
    {k : Block} {x : Spot} {type : Y.LeafType} (is : IsScalar k x type) {numbers : ℕ → ℕ} {p : Point} {index : ℕ} →
    IsBegun k → (o : IsAmong k numbers p) (c : ℕ) (f : Family) (h : frame_of k p) (n : ScalarAt is p) →
    Linked k.call.surroundings.links k.call.code index (C.loads (load_kind type) k.environment x) →
    AreIn k.call.surroundings p numbers index f →
    Reach k.call.code c f (services_of p) (c + size_of (C.loads (load_kind type) k.environment x)) (services_of p)
    (λ b y. At b (index + size_of (C.loads (load_kind type) k.environment x))
    (Known (point_ground k.call.surroundings p h) (services_of p) numbers (λ j. 0)
    (valued (word_in (n.holds.values 0 []))) b) y)
read_reaches {k} {x} {type} is {numbers} {p} {index} begun o c f h n l there =
    let e = k.environment in
    let inside = room_at is in
    let even = (n.tells (f first_base).machine.memory (there first_base).at.storage).1 in
    read_based (x.level == e.level) x.level {t = λ i. 0} c f is.known.base (load_kind type) (pos (number_place e x))
    (at_of is) (λ b. word_in (n.holds.values 0 [])) (reaches_by x.level is.known.base h begun o is.known.frame)
    (omega (arith, inside)) (place_at is even) (λ b m stands. (n.tells m stands.storage).0) l
    (λ b. known_in h (there b) tt)

-- ---- numbers

number_of : (p : ℕ) (v : BasicValue) → IsOf (Fixed p) v →
    (z : ℤ) × (v ≡ BasicNumber z) × (is_of_precision p z ≡ true) × (p ≤ 31)
number_of p (BasicNumber z) is = (z, refl, is.1, is.0)
number_of p (BasicText t) is = absurd is
number_of p (BasicBit b) is = absurd is
number_of p (BasicPointer n) is = absurd is
number_of p (BasicOffset o) is = absurd is

abbrev at_end : (p : Point) (numbers : ℕ → ℕ) (taken c index j : ℕ) → Stretch
at_end p numbers taken c index j =
    record {
      acts = p.state.world.acts;
      line = p.control.line;
      index = index + j;
      wanted = c + j;
      taken = taken;
      numbers = numbers;
    }

pub number_does :
    (k : Setting) (x : Spot) (precision : ℕ) → IsBegun k.block → IsFixed k.block x precision →
    Does k 0 (Y.NumberIn (whole x))
number_does k x precision begun is p numbers taken c index f o line registers l paid there =
    let e = k.block.environment in
    let w = k.block.call.surroundings in
    let t = in_registers k.words taken in
    let kind = load_kind (Y.FixedLeaf precision) in
    let n = scalar_at is tt begun o f there in
    let h = point_frame o.stands o.image in
    let first = number_of precision (n.holds.values 0 []) n.fits in
    let z = first.0 in
    let code = C.number_loaded e t x precision is.initial is.known.declared in
    let size = ap (λ u. size_of u) code in
    let r = read_reaches is begun o c f h n (subst (Linked w.links k.block.call.code index) code l) there in
    let part = C.loads kind e x in
    subst (λ flow. Comes k.block.call.code c f (services_of p)
    (number_aims k.block k.labels (behind p numbers taken c index (number_code e t (Y.NumberIn (whole x))))) flow)
    (sym (N.number_is k.around precision w.acts z n.holds first.1))
    (record {
      to = λ early. (
        fewer_bits precision 31 z first.3 first.2,
        subst (λ j. HasWord k.block (at_end p numbers taken c index j) (word z) c f (services_of p) p.state) (sym size)
            (subst (λ v. HasWord k.block (at_end p numbers taken c index (size_of part)) v c f (services_of p) p.state)
            (ap word_in first.1)
            (word_here {x = at_end p numbers taken c index (size_of part)} h o (omega arith) refl r)),
      );
    })

-- ---- bits

bit_of : (v : BasicValue) → IsOf Bit v → (b : Bool) × (v ≡ BasicBit b)
bit_of (BasicBit b) is = (b, refl)
bit_of (BasicNumber z) is = absurd is
bit_of (BasicText t) is = absurd is
bit_of (BasicPointer n) is = absurd is
bit_of (BasicOffset o) is = absurd is

pub bit_does :
    (k : Setting) (x : Spot) → IsBegun k.block → IsBit k.block x → Tests k 0 (Y.BitIn (whole x))
bit_does k x begun is p numbers taken c index f o line registers l paid there =
    let e = k.block.environment in
    let w = k.block.call.surroundings in
    let t = in_registers k.words taken in
    let n = scalar_at is tt begun o f there in
    let h = point_frame o.stands o.image in
    let first = bit_of (n.holds.values 0 []) n.fits in
    let b = first.0 in
    let code = C.bit_loaded e t x is.initial is.known.declared in
    let size = ap (λ u. size_of u) code in
    let r = read_reaches is begun o c f h n (subst (Linked w.links k.block.call.code index) code l) there in
    let part = C.loads (load_kind Y.BitLeaf) e x in
    subst (λ flow. Comes k.block.call.code c f (services_of p)
    (bit_aims k.block k.labels (behind p numbers taken c index (bit_code e t (Y.BitIn (whole x))))) flow)
    (sym (N.bit_is k.around w.acts b n.holds first.1))
    (record {
      to = λ early. subst (λ j. HasWord k.block (at_end p numbers taken c index j) (flag b) c f (services_of p) p.state)
          (sym size)
          (subst (λ v. HasWord k.block (at_end p numbers taken c index (size_of part)) v c f (services_of p) p.state)
          (ap word_in first.1)
          (word_here {x = at_end p numbers taken c index (size_of part)} h o (omega arith) refl r));
    })
