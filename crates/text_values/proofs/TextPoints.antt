-- A CHARACTER variable at a point of a block: the text that it holds there, and where that stands.
use Rattle.std.proofs.Common.{◌≡◌, ℕ, ◌+◌, ◌<◌, ◌≤◌, List, [], None, Some, Bool, true, false, refl}
use Rattle.std.proofs.Common.{ap, ◌∙◌, subst, arith}
use Rattle.std.proofs.lemmas.Bool.{eq-eqb}
use Rattle.std.proofs.lemmas.List.{take_all}
use Rattle.std.specs.Prelude.{ℤ, cond, pos, ◌&&◌}
use Rattle.pli_typing.specs.Signatures.{Character}
use Rattle.pli_meaning.specs.BasicValues.{BasicBit, BasicNumber, BasicOffset, BasicPointer, BasicText, BasicValue}
use Rattle.pli_meaning.specs.BasicValues.{VariableName}
use Rattle.pli_meaning.specs.Contents.{Generation, same_shape, seen, text_in}
use Rattle.pli_meaning.specs.StorageState.{Living, ancestor, binding_in, generation_at, generation_of, if_same_shape}
use Rattle.pli_meaning.specs.StorageState.{living_of, newest_height}
use Rattle.pli_serving.specs.ServiceState.{Entry}
use Rattle.storage_relation.specs.Served.{Holds}
use Rattle.storage_relation.specs.Standing.{IsPlain, address_now, leaf_in}
use Rattle.storage_relation.specs.Telling.{IsOf, Tells}
use Rattle.storage_relation.proofs.Changes.{element_held}
use Rattle.storage_relation.proofs.Placing.{none_above}
use Rattle.storage_relation.proofs.Values.{value_told, varying_loaded}
use Rattle.activation_relation.specs.Layers.{Point, now}
use Rattle.activation_relation.specs.Remaining.{LivesOn}
use Rattle.run_steps.specs.Reach.{Family}
use Rattle.block_runs.specs.Machines.{AreIn}
use Rattle.pli_headline.specs.ProvedSoFar.{text_leaf}
use Rattle.pli_headline.proofs.TextPlaces.{TextThere, text_kind_of}
use Rattle.pli_headline.proofs.TextVariables.{HoldsText}
use Rattle.pli_headline.proofs.Variables.{scalar_generation, scalar_shape}
use Rattle.program_runs.specs.Statements.{Block, IsAmong, IsBegun, waiting}
use Rattle.expression_runs.specs.Variables.{Spot, variable_of}
use Rattle.expression_runs.proofs.VariablePoints.{first_base}
use Rattle.text_runs.specs.Texts.{IsShort}
use Rattle.variable_runs.specs.Known.{place_of}
use Rattle.text_values.specs.Variables.{IsText}

-- ---- what such a variable is

abbrev pub text_generation : (varying : Bool) → (most : ℕ) → (ℕ → List ℤ → BasicValue) → Generation
text_generation varying most values = scalar_generation (text_leaf varying most) values

-- where its data stand, behind its name
abbrev pub data_place : Block → Spot → ℕ
data_place k x = place_of k.environment x + 16 + 0

pub same_text : (varying : Bool) (most : ℕ) →
    same_shape (scalar_shape (text_leaf varying most)) (scalar_shape (text_leaf varying most)) ≡ true
same_text false most = ap (λ t. (t && true) && true) (eq-eqb most most refl)
same_text true most = ap (λ t. (t && true) && true) (eq-eqb most most refl)

pub plain_text : (varying : Bool) (most : ℕ) (values : ℕ → List ℤ → BasicValue) →
    IsPlain (text_generation varying most values)
plain_text false most values = refl
plain_text true most values = refl

-- its only element stands where its data begin
pub address_text :
    (varying : Bool) (most : ℕ) (values : ℕ → List ℤ → BasicValue) (at : ℕ) →
    address_now (text_generation varying most values) (pos 0) 0 [] at ≡ at
address_text false most values at = omega arith
address_text true most values at = omega arith

pub kind_text :
    (varying : Bool) (most : ℕ) (values : ℕ → List ℤ → BasicValue) →
    (leaf_in (text_generation varying most values) 0).kind ≡ text_kind_of varying most
kind_text false most values = refl
kind_text true most values = refl

-- the value is a text, which is seen as it is
text_of :
    (varying : Bool) (most : ℕ) (v : BasicValue) → IsOf (text_kind_of varying most) v →
    (text : List ℕ) × (v ≡ BasicText text)
text_of false most (BasicText t) is = (t, refl)
text_of false most (BasicNumber z) is = absurd is
text_of false most (BasicBit z) is = absurd is
text_of false most (BasicPointer z) is = absurd is
text_of false most (BasicOffset z) is = absurd is
text_of true most (BasicText t) is = (t, refl)
text_of true most (BasicNumber z) is = absurd is
text_of true most (BasicBit z) is = absurd is
text_of true most (BasicPointer z) is = absurd is
text_of true most (BasicOffset z) is = absurd is

seen_text :
    (varying : Bool) (most : ℕ) (t : List ℕ) → IsOf (text_kind_of varying most) (BasicText t) →
    seen (text_kind_of varying most) (BasicText t) ≡ BasicText t
seen_text false most t is = ap BasicText (take_all most t (omega (arith, is)))
seen_text true most t is = refl

short_text :
    (varying : Bool) (most : ℕ) (t : List ℕ) → most ≤ 1024 → IsOf (text_kind_of varying most) (BasicText t) →
    IsShort t
short_text false most t few is = omega (arith, few, is)
short_text true most t few is = let h = is.0 in omega (arith, few, h)

-- what is told of it is what services read
text_there :
    (varying : Bool) (most at : ℕ) (m t : List ℕ) → Tells (text_kind_of varying most) (BasicText t) at m →
    TextThere varying most at m t
text_there false most at m t is = ap text_in (value_told (Character most) (BasicText t) at m is)
text_there true most at m t is =
    let l = varying_loaded most at t m is in
    let fits = is.fits.0 in
    let long = l.0 in
    (omega (arith, fits, long), l.1)

-- ---- at a point

generation_is :
    (varying : Bool) (most : ℕ) (g : Generation) → g.shape ≡ scalar_shape (text_leaf varying most) →
    g.extent ≡ pos 0 → g ≡ text_generation varying most g.values
generation_is varying most g e f =
    ap (λ s. record { shape = s; extent = g.extent; values = g.values }) e
    ∙ ap (λ z. record { shape = scalar_shape (text_leaf varying most); extent = z; values = g.values }) f

-- what it holds, and that memory tells it wherever that has what is stored
pub record TextAt (k : Block) (x : Spot) (varying : Bool) (most base : ℕ) (p : Point) : Type 0 where
  pub text : List ℕ
  pub holds : HoldsText p.state (variable_of x) varying most text
  pub living : Living
  pub lives : living_of p.state.living holds.serial ≡ Some living
  pub generation : living.generation ≡ text_generation varying most holds.values
  pub here : p.places.at holds.serial ≡ base + data_place k x
  pub there : (m : List ℕ) → Holds (now p m) → TextThere varying most (base + data_place k x) m text

pub text_at :
    {k : Block} {numbers : ℕ → ℕ} {p : Point} {index : ℕ} (x : Spot) (varying : Bool) (most : ℕ)
    (is : IsText k x varying most) → IsBegun k → IsAmong k numbers p → (f : Family) →
    AreIn k.call.surroundings p numbers index f → TextAt k x varying most is.known.base p
text_at {k} {p = p} x varying most is begun o f machines =
    record {
      text = first.0;
      holds = record {
        serial = is.known.serial;
        values = g.values;
        stands =
            ap (λ xs. binding_in (ancestor xs (newest_height xs) x.level) x.index) o.later.activations
            ∙ is.known.binding;
        lives =
            ap (λ l. if_same_shape (scalar_shape (text_leaf varying most)) (generation_of l)) on.lives
            ∙ ap (λ y. if_same_shape (scalar_shape (text_leaf varying most)) (Some y)) same
            ∙ ap (λ q. cond q (Some (text_generation varying most g.values)) None) (same_text varying most);
        value = ap (seen (text_kind_of varying most)) first.1 ∙ seen_text varying most first.0 fits;
        short = short_text varying most first.0 is.short fits;
      };
      living = on.there;
      lives = on.lives;
      generation = same;
      here = here;
      there = λ m stored.
          text_there varying most (is.known.base + data_place k x) m first.0
          (subst (λ v. Tells (text_kind_of varying most) v (is.known.base + data_place k x) m) first.1
          (told m stored));
    }
  where
    on : LivesOn is.known.living (living_of p.state.living is.known.serial)
    on = o.later.remains.living is.known.serial is.known.living is.known.lives

    g : Generation
    g = on.there.generation

    same : g ≡ text_generation varying most g.values
    same =
        generation_is varying most g (on.shape ∙ is.known.shape)
        (o.stands.lives.extents is.known.serial on.there on.lives)

    low : is.known.serial < k.first.state.serials + 1
    low = none_above (k.first.state.serials + 1) k.first.state.living is.known.serial is.known.living
        begun.resumes.stands.lives.falling is.known.lives

    here : p.places.at is.known.serial ≡ is.known.base + data_place k x
    here =
        let moved = o.later.remains.at is.known.serial (omega (arith, low)) in
        let at = is.known.at in
        omega (arith, moved, at)

    there_is : generation_at p.state (VariableName is.known.serial) ≡ Some (text_generation varying most g.values)
    there_is = ap generation_of on.lives ∙ ap (λ y. Some y) same

    told : (m : List ℕ) → Holds (now p m) →
        Tells (text_kind_of varying most) (g.values 0 []) (is.known.base + data_place k x) m
    told m stored =
        let t = element_held (now p m) stored (VariableName is.known.serial) (text_generation varying most g.values)
        (pos 0) 0 [] there_is (plain_text varying most g.values)
        (record { less = refl; leaf_there = omega arith; within = refl }) in
        subst (λ n. Tells (text_kind_of varying most) (g.values 0 []) n m)
        (address_text varying most g.values (p.places.at is.known.serial) ∙ here)
        (subst (λ kind. Tells kind (g.values 0 [])
        (address_now (text_generation varying most g.values) (pos 0) 0 [] (p.places.at is.known.serial)) m)
        (kind_text varying most g.values) t.0)

    first : (text : List ℕ) × (g.values 0 [] ≡ BasicText text)
    first = text_of varying most (g.values 0 [])
        (told (f first_base).machine.memory (machines first_base).at.storage).fits

    fits : IsOf (text_kind_of varying most) (BasicText first.0)
    fits = subst (IsOf (text_kind_of varying most)) first.1
        (told (f first_base).machine.memory (machines first_base).at.storage).fits

-- ---- while texts wait

abbrev pub text_waits :
    (k : Block) (entries : List Entry) (x : Spot) (varying : Bool) (most : ℕ) → IsText k x varying most →
    IsText (waiting entries k) x varying most
text_waits k entries x varying most is =
    let h = is.known in
    record {
      initial = is.initial;
      known = record {
        declared = h.declared;
        serial = h.serial;
        binding = h.binding;
        living = h.living;
        lives = h.lives;
        shape = h.shape;
        base = h.base;
        frame = h.frame;
        at = h.at;
        low = h.low;
        inside = h.inside;
      };
      short = is.short;
    }
