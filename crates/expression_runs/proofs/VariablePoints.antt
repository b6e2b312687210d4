-- A FIXED BINARY(31) variable at a point of a block: what it holds there, where that stands, and the code that loads
-- it.
use Rattle.std.proofs.Common.{◌≡◌, ℕ, ◌+◌, ◌*◌, ◌%◌, ◌^◌, ◌<◌, ◌≤◌, ◌⊎◌, inl, inr, List, [], ◌∷◌, Some, Bool, true}
use Rattle.std.proofs.Common.{false}
use Rattle.std.proofs.Common.{refl, sym, ap, ◌∙◌, subst, arith}
use Rattle.std.specs.Prelude.{ℤ, pos, ◌==◌}
use Rattle.rv_meaning.specs.declared.instr.LoadKind.TheVariants as Load
use Rattle.rv_meaning.specs.Machine.{memory_size}
use Rattle.rv_meaning.specs.Memory.{load}
use Rattle.rv_meaning.specs.Words.{word}
use Rattle.pli_typing.specs.Signatures.{Fixed}
use Rattle.pli_typing.specs.TypedTree as Y
use Rattle.pli_meaning.specs.BasicValues.{BasicValue, BasicNumber, BasicText, BasicBit, BasicPointer, BasicOffset}
use Rattle.pli_meaning.specs.BasicValues.{VariableName}
use Rattle.pli_meaning.specs.Contents.{Generation}
use Rattle.pli_meaning.specs.Control.{Normal}
use Rattle.pli_meaning.specs.Evaluating as V
use Rattle.pli_meaning.specs.Numbers.{is_of_precision}
use Rattle.pli_meaning.specs.StorageState.{Activation, ancestor, ancestor_at, binding_in, generation_at, generation_of}
use Rattle.pli_meaning.specs.StorageState.{height_of, living_of, newest_height}
use Rattle.pli_coding.specs.Assembly.{size_of}
use Rattle.pli_coding.specs.Expressions.{number_code}
use Rattle.pli_coding.specs.Frames.{MemoryParts, display}
use Rattle.storage_relation.specs.Served.{Holds}
use Rattle.storage_relation.specs.Telling.{IsOf, Tells}
use Rattle.storage_relation.proofs.Changes.{element_held}
use Rattle.storage_relation.proofs.Placing.{none_above}
use Rattle.storage_relation.proofs.Values.{word_loaded}
use Rattle.activation_relation.specs.Chains.{AreActive, UnitPlaces, frame_at}
use Rattle.activation_relation.specs.Frames.{FramesStand, frame_under, place_from}
use Rattle.activation_relation.specs.Layers.{Layer, Point, now, services_of}
use Rattle.activation_relation.specs.Remaining.{LivesOn}
use Rattle.activation_relation.proofs.Displays.{outer_found}
use Rattle.run_steps.specs.Bodies.{PlaceFrom}
use Rattle.run_steps.specs.Engine.{Base}
use Rattle.run_steps.specs.Items.{Linked}
use Rattle.run_steps.proofs.Numbers.{above_small, above_sum}
use Rattle.run_steps.specs.Reach.{Comes, Family}
use Rattle.run_steps.specs.Reaching.{Reaches}
use Rattle.run_steps.proofs.Reaching.{read_based}
use Rattle.block_runs.specs.Machines.{AreIn, IsIn}
use Rattle.block_runs.proofs.Places.{IsFrame, word_in}
use Rattle.block_runs.proofs.PointGrounds.{StandsIn, known_in, point_frame, point_ground}
use Rattle.program_runs.specs.Statements.{Block, IsAmong, IsBegun}
use Rattle.program_runs.proofs.NewestBlocks.{newest_at}
use Rattle.expression_runs.specs.Values.{Evaluates, HasWord, Setting, Stretch, in_registers, number_aims, behind}
use Rattle.expression_runs.specs.Variables.{IsFrameOf, IsNumber, Spot, number_place, number_shape, whole}
use Rattle.expression_runs.proofs.VariableCode.{loaded_is, loads}
use Rattle.expression_runs.proofs.VariableMeaning as N
use Rattle.expression_runs.proofs.VariableMeaning.{number_generation, number_is}
use Rattle.expression_runs.proofs.Words.{frame_of, word_here}

-- ---- its frame

-- where a display has the frame of a level around
outer_load :
    (parts : MemoryParts) (units : UnitPlaces) (base level : ℕ) (m : List ℕ) (xs : List Activation) (ls : List Layer)
    (a : Activation) (as' : List Activation) (φ : Layer) (φs : List Layer) → AreActive units xs ls →
    FramesStand parts base m xs ls → xs ≡ a ∷ as' → ls ≡ φ ∷ φs → level < φ.level →
    load 4 m (frame_under parts ls + (144 + 4 * level))
    ≡ base + frame_at ls (height_of (ancestor xs (newest_height xs) level))
outer_load parts units base level m [] ls a as' φ φs active frames e f less = absurd (cc e)
outer_load parts units base level m (x ∷ xs) [] a as' φ φs active frames e f less = absurd (cc f)
outer_load parts units base level m (x ∷ xs) (ψ ∷ ψs) a as' φ φs active frames e f less =
    let same : ψ ≡ φ = cc f in
    let level' = ap (λ (y : Layer). y.level) same in
    outer_found units parts base m x xs ψ ψs level active frames (omega (arith, less, level'))

pub reaches_by :
    {k : Block} {numbers : ℕ → ℕ} {p : Point} (level base : ℕ) (h : frame_of k p) → IsBegun k → IsAmong k numbers p →
    IsFrameOf k level base →
    Reaches (level == k.environment.level) level (point_ground k.call.surroundings p h) base
reaches_by {k} {p = p} level base h begun o (inl own) =
    subst (λ q. Reaches q level (point_ground k.call.surroundings p h) base) (sym own.0)
    (ap (λ ls. frame_under k.call.surroundings.parts ls) o.later.layers ∙ sym own.1)
reaches_by {k} {p = p} level base h begun o (inr outer) =
    let n = newest_at begun o in
    let w = k.call.surroundings in
    let less = outer.1 in
    let few = outer.3 in
    let own = n.own in
    let same = ap (λ xs. height_of (ancestor xs (newest_height xs) level)) o.later.activations in
    let frames : frame_at p.control.layers (height_of (ancestor_at p.state level)) ≡ base =
    ap (frame_at p.control.layers) same
    ∙ ap (λ ls. frame_at ls (height_of (ancestor_at k.first.state level))) o.later.layers
    ∙ sym outer.4 in
    subst (λ q. Reaches q level (point_ground w p h) base) (sym outer.0) (
      word_in (frame_under w.parts p.control.layers) (144 + 4 * level) h (omega arith) (omega (arith, less, few)),
      λ t b m stands.
          outer_load w.parts w.units b.at level m p.state.activations p.control.layers n.activation
          k.call.point.state.activations n.layer k.call.point.control.layers o.stands.active stands.frames n.active
          n.layers (omega (arith, less, own))
          ∙ ap (λ i. b.at + i) frames,
    )

pub place_at : (k : Block) (x : Spot) (is : IsNumber k x) → (is.base + number_place k.environment x) % 4 ≡ 0 →
    PlaceFrom is.base (pos (number_place k.environment x)) (is.base + number_place k.environment x)
place_at k x is even =
    let inside = is.inside in
    let low = is.low in
    let n = number_place k.environment x in
    record {
      small' = above_small n (omega (arith, inside));
      sums = λ b. above_sum b.at is.base n b.valid.1 (omega (arith, inside));
      aligned = even;
      inside = omega (arith, inside);
      above_code = low;
    }

-- ---- what it holds

number_of : (v : BasicValue) → IsOf (Fixed 31) v →
    (z : ℤ) × (v ≡ BasicNumber z) × (is_of_precision 31 z ≡ true)
number_of (BasicNumber z) is = (z, refl, is.1)
number_of (BasicText t) is = absurd is
number_of (BasicBit b) is = absurd is
number_of (BasicPointer n) is = absurd is
number_of (BasicOffset o) is = absurd is

generation_is : (g : Generation) → g.shape ≡ number_shape → g.extent ≡ pos 0 → g ≡ number_generation g.values
generation_is g e f =
    ap (λ s. record { shape = s; extent = g.extent; values = g.values }) e
    ∙ ap (λ z. record { shape = number_shape; extent = z; values = g.values }) f

pub first_base : Base
first_base = record { at = 0; valid = (refl, omega arith) }

-- a number of 31 bits, and the word that tells it wherever memory has what is stored
pub record NumberAt (k : Block) (x : Spot) (is : IsNumber k x) (p : Point) : Type 0 where
  pub holds : N.Holds p.state x
  pub here : p.places.at holds.serial + 0 + 0 ≡ is.base + number_place k.environment x
  pub z : ℤ
  pub value : holds.values 0 [] ≡ BasicNumber z
  pub wide : is_of_precision 31 z ≡ true
  pub tells :
      (m : List ℕ) → Holds (now p m) →
      (load 4 m (is.base + number_place k.environment x) ≡ word z)
      × ((is.base + number_place k.environment x) % 4 ≡ 0)

pub number_at :
    {k : Block} {numbers : ℕ → ℕ} {p : Point} {index : ℕ} (x : Spot) (is : IsNumber k x) → IsBegun k →
    IsAmong k numbers p → (f : Family) → AreIn k.call.surroundings p numbers index f → NumberAt k x is p
number_at {k} {p = p} x is begun o f there =
    record {
      holds = holds;
      here = here;
      z = first.0;
      value = first.1;
      wide = first.2;
      tells = λ m stored.
          let t = told m stored in (
            ap (load 4 m) (sym here)
                ∙ word_loaded 31 (p.places.at is.serial + 0 + 0) first.0 m refl
                (subst (λ v. Tells (Fixed 31) v (p.places.at is.serial + 0 + 0) m) first.1 t.0),
            subst (λ n. n % 4 ≡ 0) here t.1,
          );
    }
  where
    on : LivesOn is.living (living_of p.state.living is.serial)
    on = o.later.remains.living is.serial is.living is.lives

    g : Generation
    g = on.there.generation

    same : g ≡ number_generation g.values
    same = generation_is g (on.shape ∙ is.shape) (o.stands.lives.extents is.serial on.there on.lives)

    holds : N.Holds p.state x
    holds =
        record {
          serial = is.serial;
          stands =
              ap (λ xs. binding_in (ancestor xs (newest_height xs) x.level) x.index) o.later.activations ∙ is.binding;
          values = g.values;
          living = on.there;
          lives = on.lives;
          generation = same;
        }

    low : is.serial < k.first.state.serials + 1
    low = none_above (k.first.state.serials + 1) k.first.state.living is.serial is.living
        begun.resumes.stands.lives.falling is.lives

    here : p.places.at is.serial + 0 + 0 ≡ is.base + number_place k.environment x
    here =
        let moved = o.later.remains.at is.serial (omega (arith, low)) in
        let at = is.at in
        omega (arith, moved, at)

    there_is : generation_at p.state (VariableName is.serial) ≡ Some (number_generation g.values)
    there_is = ap generation_of on.lives ∙ ap (λ y. Some y) same

    told : (m : List ℕ) → Holds (now p m) →
        Tells (Fixed 31) (g.values 0 []) (p.places.at is.serial + 0 + 0) m × ((p.places.at is.serial + 0 + 0) % 4 ≡ 0)
    told m stored =
        element_held (now p m) stored (VariableName is.serial) (number_generation g.values) (pos 0) 0 [] there_is refl
        (record { less = refl; leaf_there = omega arith; within = refl })

    first : (z : ℤ) × (g.values 0 [] ≡ BasicNumber z) × (is_of_precision 31 z ≡ true)
    first = number_of (g.values 0 [])
        (told (f first_base).machine.memory (there first_base).at.storage).0.fits

-- ---- the code

pub variable_does :
    (k : Setting) (x : Spot) → IsBegun k.block → IsNumber k.block x →
    Evaluates k 0 (λ taken. number_code k.block.environment taken (Y.NumberIn (whole x)))
    (V.number k.around (Y.NumberIn (whole x)))
variable_does k x begun is p numbers taken c index f o line registers l paid there =
    let e = k.block.environment in
    let w = k.block.call.surroundings in
    let t = in_registers k.words taken in
    let n = number_at x is begun o f there in
    let h = point_frame o.stands o.image in
    let base = first_base in
    let code = loaded_is e t x is.initial is.declared in
    let size = ap (λ u. size_of u) code in
    let inside = is.inside in
    let even = (n.tells (f base).machine.memory (there base).at.storage).1 in
    let part = loads e x in
    let r = read_based (x.level == e.level) x.level {t = λ i. 0} c f is.base Load.Word
    (pos (number_place e x)) (is.base + number_place e x) (λ b. word n.z)
    (reaches_by x.level is.base h begun o is.frame)
    (omega (arith, inside)) (place_at k.block x is even)
    (λ b m stands. (n.tells m stands.storage).0) (subst (Linked w.links k.block.call.code index) code l)
    (λ b. known_in h (there b) tt) in
    subst (λ flow. Comes k.block.call.code c f (services_of p)
    (number_aims k.block k.labels (behind p numbers taken c index (number_code e t (Y.NumberIn (whole x))))) flow)
    (sym (number_is k.around w.acts n.z n.holds n.value))
    (record {
      to = λ early. (
        n.wide,
        subst (λ j. HasWord k.block (at_end j) (word n.z) c f (services_of p) p.state) (sym size)
            (word_here {x = at_end (size_of part)} h o (omega arith) refl r),
      );
    })
  where
    at_end : ℕ → Stretch
    at_end j =
        record {
          acts = p.state.world.acts;
          line = p.control.line;
          index = index + j;
          wanted = c + j;
          taken = taken;
          numbers = numbers;
        }
