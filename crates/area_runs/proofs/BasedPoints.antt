-- A pointer variable at a point of its block, what it points to, and what service 8 answers.
use Rattle.std.proofs.Common.{◌≡◌, ℕ, ◌+◌, ◌%◌, ◌^◌, ◌<◌, ◌≤◌, inl, inr, List, [], length, None, Some}
use Rattle.std.proofs.Common.{true, refl, sym, ap, ◌∙◌, subst, arith}
use Rattle.std.proofs.lemmas.Bool.{le-leb}
use Rattle.std.proofs.lemmas.Bool.Decides.{nat_tests}
use Rattle.std.specs.Prelude.{ℤ, cond, int_le, negsuc, pos, ◌&&◌, nat_le}
use Rattle.rv_meaning.specs.Machine.{memory_size}
use Rattle.rv_meaning.specs.Memory.{load}
use Rattle.rv_meaning.specs.Words.{word}
use Rattle.pli_typing.specs.Signatures.{Fixed, Pointer}
use Rattle.pli_meaning.specs.BasicValues.{BasicBit, BasicNumber, BasicOffset, BasicPointer, BasicText, BasicValue, Name}
use Rattle.pli_meaning.specs.BasicValues.{VariableName}
use Rattle.pli_meaning.specs.Codes.{no_generation_code}
use Rattle.pli_meaning.specs.Contents.{Generation, leaves_with}
use Rattle.pli_meaning.specs.Numbers.{is_of_precision}
use Rattle.pli_meaning.specs.StorageState as Q
use Rattle.pli_meaning.specs.StorageState.{ancestor, binding_in, generation_at, generation_of, newest_height}
use Rattle.pli_serving.specs.Answers.{Answer, Done}
use Rattle.pli_serving.specs.Arguments.{name_in, shape_of_number, where_found}
use Rattle.pli_serving.specs.Bytes.{name_at}
use Rattle.pli_serving.specs.Finding.{Found}
use Rattle.pli_serving.specs.Names.{resolve_served, resolved}
use Rattle.pli_serving.specs.Outcomes.{or_bad}
use Rattle.pli_serving.specs.Templates.{shape_at}
use Rattle.storage_relation.specs.Served as H
use Rattle.storage_relation.specs.Served.{call, place_now}
use Rattle.storage_relation.specs.Standing.{IsElementNow}
use Rattle.storage_relation.specs.Telling.{IsOf, Tells}
use Rattle.storage_relation.proofs.CallArguments.{asked_named, asked_unnamed}
use Rattle.storage_relation.proofs.Changes.{element_held}
use Rattle.storage_relation.proofs.ElementNumbers.{named_same, shape_is}
use Rattle.storage_relation.proofs.Finding.{found_named}
use Rattle.storage_relation.proofs.Locators.{named_lives}
use Rattle.storage_relation.proofs.Named.{named_at}
use Rattle.storage_relation.proofs.Placing.{none_above}
use Rattle.storage_relation.proofs.Values.{name_loaded, word_loaded}
use Rattle.activation_relation.specs.Frames.{frame_under}
use Rattle.activation_relation.specs.Layers.{Point, now, services_of}
use Rattle.activation_relation.specs.Remaining.{LivesOn}
use Rattle.activation_relation.proofs.Remaining.{shapes_remain}
use Rattle.run_steps.specs.Reach.{Family}
use Rattle.block_runs.specs.Machines.{AreIn}
use Rattle.program_runs.specs.Statements.{Block, IsAmong}
use Rattle.expression_runs.specs.Variables.{IsFrameOf, Spot}
use Rattle.expression_runs.proofs.VariablePoints.{first_base}
use Rattle.area_runs.specs.Based.{IsBased, based_shape}
use Rattle.area_runs.proofs.BasedCode.{name_at_place}
use Rattle.area_runs.proofs.BasedMeaning.{Points, pointer_generation, pointer_shape}

-- ---- the pointer

-- where its name stands in memory
abbrev pub pointer_place : {k : Block} {x n : Spot} → IsBased k x n → ℕ
pointer_place {k} {x} is = is.pointer.base + name_at_place k.environment x

-- its block's own frame has it
pub own_base :
    {k : Block} {x n : Spot} {numbers : ℕ → ℕ} {p : Point} (is : IsBased k x n) → IsAmong k numbers p →
    frame_under k.call.surroundings.parts p.control.layers ≡ is.pointer.base
own_base {k} {x} is o =
    ap (λ ls. frame_under k.call.surroundings.parts ls) o.later.layers ∙ by is.pointer.frame
  where
    by : IsFrameOf k x.level is.pointer.base →
        frame_under k.call.surroundings.parts k.first.control.layers ≡ is.pointer.base
    by (inl own) = sym own.1
    by (inr outer) = absurd (cc (sym is.own ∙ outer.0))

pointer_of : (v : BasicValue) → IsOf Pointer v → (n : Name) × (v ≡ BasicPointer n)
pointer_of (BasicPointer n) is = (n, refl)
pointer_of (BasicText t) is = absurd is
pointer_of (BasicBit b) is = absurd is
pointer_of (BasicNumber z) is = absurd is
pointer_of (BasicOffset o) is = absurd is

pointer_is : (g : Generation) → g.shape ≡ pointer_shape → g.extent ≡ pos 0 → g ≡ pointer_generation g.values
pointer_is g e f =
    ap (λ s. record { shape = s; extent = g.extent; values = g.values }) e
    ∙ ap (λ z. record { shape = pointer_shape; extent = z; values = g.values }) f

-- what it holds at a point, and that memory tells it
pub record PointsAt (k : Block) (x n : Spot) (is : IsBased k x n) (p : Point) : Type 0 where
  pub points : Points p.state x
  pub same : points.serial ≡ is.pointer.serial
  pub here : p.places.at points.serial + 0 + 0 ≡ pointer_place is
  pub tells :
      (m : List ℕ) → H.Holds (now p m) →
      Tells Pointer (BasicPointer points.name) (pointer_place is) m × (pointer_place is % 4 ≡ 0)

pub points_at :
    {k : Block} {numbers : ℕ → ℕ} {p : Point} {index : ℕ} (x n : Spot) (is : IsBased k x n) → IsAmong k numbers p →
    (f : Family) → AreIn k.call.surroundings p numbers index f → PointsAt k x n is p
points_at {k} {p = p} x n is o f there =
    record {
      points = record {
        serial = serial;
        stands =
            ap (λ xs. binding_in (ancestor xs (newest_height xs) x.level) x.index) o.later.activations
            ∙ is.pointer.binding;
        values = g.values;
        living = on.there;
        lives = on.lives;
        generation = same;
        name = first.0;
        value = first.1;
      };
      same = refl;
      here = here;
      tells = λ m stored.
          let t = told m stored in (
            subst (λ i. Tells Pointer (BasicPointer first.0) i m) here
                (subst (λ v. Tells Pointer v (p.places.at serial + 0 + 0) m) first.1 t.0),
            subst (λ i. i % 4 ≡ 0) here t.1,
          );
    }
  where
    serial : ℕ
    serial = is.pointer.serial

    on : LivesOn is.pointer.living (Q.living_of p.state.living serial)
    on = o.later.remains.living serial is.pointer.living is.pointer.lives

    g : Generation
    g = on.there.generation

    same : g ≡ pointer_generation g.values
    same = pointer_is g (on.shape ∙ is.pointer.shape) (o.stands.lives.extents serial on.there on.lives)

    low : serial < k.first.state.serials + 1
    low = none_above (k.first.state.serials + 1) k.first.state.living serial is.pointer.living
        is.begun.resumes.stands.lives.falling is.pointer.lives

    here : p.places.at serial + 0 + 0 ≡ pointer_place is
    here =
        let moved = o.later.remains.at serial (omega (arith, low)) in
        let at = is.pointer.at in
        omega (arith, moved, at)

    there_is : generation_at p.state (VariableName serial) ≡ Some (pointer_generation g.values)
    there_is = ap generation_of on.lives ∙ ap (λ y. Some y) same

    told : (m : List ℕ) → H.Holds (now p m) →
        Tells Pointer (g.values 0 []) (p.places.at serial + 0 + 0) m × ((p.places.at serial + 0 + 0) % 4 ≡ 0)
    told m stored =
        element_held (now p m) stored (VariableName serial) (pointer_generation g.values) (pos 0) 0 [] there_is refl
        (record { less = refl; leaf_there = omega arith; within = refl })

    first : (n : Name) × (g.values 0 [] ≡ BasicPointer n)
    first = pointer_of (g.values 0 []) (told (f first_base).machine.memory (there first_base).at.storage).0.fits

-- ---- what it points to

abbrev pub based_generation : ℤ → (ℕ → List ℤ → BasicValue) → Generation
based_generation z values = record { shape = based_shape; extent = z; values = values }

same_extent : (z : ℤ) → int_le z z ≡ true
same_extent (pos n) = le-leb n n (omega arith)
same_extent (negsuc n) = le-leb n n (omega arith)

pub element_now : (z : ℤ) (values : ℕ → List ℤ → BasicValue) → IsElementNow (based_generation z values) z 0 []
element_now z values = record { less = same_extent z; leaf_there = omega arith; within = refl }

number_of : (v : BasicValue) → IsOf (Fixed 31) v → (z : ℤ) × (v ≡ BasicNumber z) × (is_of_precision 31 z ≡ true)
number_of (BasicNumber z) is = (z, refl, is.1)
number_of (BasicText t) is = absurd is
number_of (BasicBit b) is = absurd is
number_of (BasicPointer n) is = absurd is
number_of (BasicOffset o) is = absurd is

-- a number that lives by a name, in the data where that is found
pub record LivesAt (p : Point) (name : Name) : Type 0 where
  pub extent : ℤ
  pub values : ℕ → List ℤ → BasicValue
  pub named : Q.named p.state name based_shape ≡ Some (based_generation extent values)
  pub lives : generation_at p.state name ≡ Some (based_generation extent values)
  pub z : ℤ
  pub value : values 0 [] ≡ BasicNumber z
  pub wide : is_of_precision 31 z ≡ true
  pub tells :
      (m : List ℕ) → H.Holds (now p m) →
      (load 4 m (place_now (now p m) name) ≡ word z) × (place_now (now p m) name % 4 ≡ 0)
      × (place_now (now p m) name + 4 ≤ length m)

pub lives_at :
    (p : Point) (signature : ℕ) (name : Name) (g : Generation) (m : List ℕ) → H.Holds (now p m) →
    shape_at p.places.signatures signature ≡ Some based_shape → Q.named p.state name based_shape ≡ Some g →
    LivesAt p name
lives_at p signature name g m' held shape e =
    record {
      extent = g.extent;
      values = g.values;
      named = e ∙ ap (λ y. Some y) same;
      lives = lives;
      z = first.0;
      value = first.1;
      wide = first.2;
      tells = λ m stored.
          let t = told m stored in
          let at = place_now (now p m) name in
          let there : at + 0 + 0 ≡ at = omega arith in
          let inside = (named_at p.keeper stored.keeps p.places p.state m (p.state.serials + 1) name
          (based_generation g.extent g.values) stored.stored stored.lives.falling lives refl).inside in (
            ap (load 4 m) (sym there)
                ∙ word_loaded 31 (at + 0 + 0) first.0 m refl
                (subst (λ v. Tells (Fixed 31) v (at + 0 + 0) m) first.1 t.0),
            subst (λ i. i % 4 ≡ 0) there t.1,
            omega (arith, inside),
          );
    }
  where
    found : H.FoundFor (now p m') name g
    found =
        found_named p.keeper held.keeps p.layout p.places p.state (services_of p) m' name g held.heap held.lives
        held.stored (named_lives p.state name based_shape g e)

    shapes : g.shape ≡ based_shape
    shapes =
        shape_is p.places.signatures found.found.signature signature g.shape based_shape held.distinct found.shape shape
        (named_same p.state name based_shape g e)

    same : g ≡ based_generation g.extent g.values
    same = ap (λ s. record { shape = s; extent = g.extent; values = g.values }) shapes

    lives : generation_at p.state name ≡ Some (based_generation g.extent g.values)
    lives = named_lives p.state name based_shape g e ∙ ap (λ y. Some y) same

    told : (m : List ℕ) → H.Holds (now p m) →
        Tells (Fixed 31) (g.values 0 []) (place_now (now p m) name + 0 + 0) m
        × ((place_now (now p m) name + 0 + 0) % 4 ≡ 0)
    told m stored =
        element_held (now p m) stored name (based_generation g.extent g.values) g.extent 0 [] lives refl
        (element_now g.extent g.values)

    first : (z : ℤ) × (g.values 0 [] ≡ BasicNumber z) × (is_of_precision 31 z ≡ true)
    first = number_of (g.values 0 []) (told m' held).0.fits

-- ---- what service 8 answers

-- the layout of an image
abbrev pub IsLaidOut : Point → Type 0
IsLaidOut p = (p.layout.code_bytes ≤ 2 ^ 22) × (p.layout.end ≡ memory_size)

-- the name is read where it stands
name_read :
    {k : Block} {x n : Spot} {p : Point} (is : IsBased k x n) (a : PointsAt k x n is p) (m : List ℕ) →
    H.Holds (now p m) → IsLaidOut p → name_in (call (now p m)) (pointer_place is) ≡ Some a.points.name
name_read {k} {x} {p = p} is a m stored layout =
    let at = pointer_place is in
    let start = layout.0 in
    let end = layout.1 in
    let low = is.pointer.low in
    let inside = is.pointer.inside in
    let t1 : nat_le p.layout.code_bytes at ≡ true = le-leb _ _ (omega (arith, start, low)) in
    let t2 : nat_le (at + 16) p.layout.end ≡ true = le-leb _ _ (omega (arith, end, inside)) in
    ap (λ q. cond (q && nat_le (at + 16) p.layout.end) (name_at at m) None) t1
    ∙ ap (λ q. cond q (name_at at m) None) t2
    ∙ name_loaded at a.points.name m (a.tells m stored).0

numbered :
    {k : Block} {x n : Spot} {p : Point} (is : IsBased k x n) {numbers : ℕ → ℕ} → IsAmong k numbers p →
    H.IsNumberOf (now p []) is.signature based_shape
numbered {p = p} is o =
    record {
      shape_same = shapes_remain o.later.remains is.signature based_shape is.numbered;
      own = let few = is.number in grind (arith, few, nat_tests);
    }

number_of_now :
    (p : Point) (signature : ℕ) (m : List ℕ) → H.IsNumberOf (now p []) signature based_shape →
    H.IsNumberOf (now p m) signature based_shape
number_of_now p signature m h = record { shape_same = h.shape_same; own = h.own }

pub resolved_answer :
    {k : Block} {numbers : ℕ → ℕ} {p : Point} {x n : Spot} (is : IsBased k x n) → IsAmong k numbers p →
    (a : PointsAt k x n is p) (l : LivesAt p a.points.name) (m : List ℕ) → H.Holds (now p m) → IsLaidOut p →
    resolve_served (call (now p m)) (pointer_place is) is.signature 0 0
    ≡ Done (services_of p) m (place_now (now p m) a.points.name + 0) 0
resolved_answer {k} {p = p} is o a l m stored layout =
    let v = call (now p m) in
    let at = pointer_place is in
    let g = based_generation l.extent l.values in
    let i = asked_named (now p m) stored at is.signature a.points.name based_shape g
    (number_of_now p is.signature m (numbered is o))
    (name_read is a m stored layout) l.named in
    let found = i.0.found in
    let answer : Found → Answer = λ f. or_bad (shape_of_number v f.signature)
    (λ s. resolved v 0 0 f (leaves_with f.extent s)) in
    ap (λ q. where_found q (Done (services_of p) m at no_generation_code) answer) i.1
    ∙ ap (λ s. or_bad s (λ s'. resolved v 0 0 found (leaves_with found.extent s'))) i.0.shape
    ∙ ap (λ e. resolved v 0 0 found (leaves_with e based_shape)) i.0.extent
    ∙ ap (λ j. Done (services_of p) m (j + 0) 0) i.0.at

pub missing_answer :
    {k : Block} {numbers : ℕ → ℕ} {p : Point} {x n : Spot} (is : IsBased k x n) → IsAmong k numbers p →
    (a : PointsAt k x n is p) (m : List ℕ) → H.Holds (now p m) → IsLaidOut p →
    Q.named p.state a.points.name based_shape ≡ None →
    resolve_served (call (now p m)) (pointer_place is) is.signature 0 0
    ≡ Done (services_of p) m (pointer_place is) no_generation_code
missing_answer {k} {p = p} is o a m stored layout none =
    let v = call (now p m) in
    let at = pointer_place is in
    let answer : Found → Answer = λ f. or_bad (shape_of_number v f.signature)
    (λ s. resolved v 0 0 f (leaves_with f.extent s)) in
    ap (λ q. where_found q (Done (services_of p) m at no_generation_code) answer)
    (asked_unnamed (now p m) stored at is.signature a.points.name based_shape
    (number_of_now p is.signature m (numbered is o))
    (name_read is a m stored layout) none)
