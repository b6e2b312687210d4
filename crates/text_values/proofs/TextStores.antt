-- The point behind an assignment to a CHARACTER variable: all that holds at the point before holds there.
use Rattle.std.proofs.Common.{◌≡◌, ℕ, ◌+◌, ◌≤◌, List, [], Some, Bool, true, false, refl}
use Rattle.std.proofs.Common.{ap, ◌∙◌, subst, arith}
use Rattle.std.specs.Prelude.{ℤ}
use Rattle.pli_typing.specs.Signatures.{Character, Varying}
use Rattle.pli_meaning.specs.BasicValues.{BasicText, BasicValue, VariableName}
use Rattle.pli_meaning.specs.Contents.{Generation}
use Rattle.pli_meaning.specs.Evaluating.{Designated, first_leaf}
use Rattle.pli_meaning.specs.Placing.{with_element}
use Rattle.pli_meaning.specs.StorageState.{Living, State, generation_of, living_of, with_generation}
use Rattle.pli_serving.specs.Bytes.{with_bytes}
use Rattle.pli_serving.specs.Stored.{kept_bytes}
use Rattle.area_keeper.specs.KeptAreas.{with_part}
use Rattle.storage_relation.specs.Changes.{IsAssignable, address_of}
use Rattle.storage_relation.specs.Keeping.{IsStorable, StoresText, StoresVarying}
use Rattle.storage_relation.specs.Served.{Holds}
use Rattle.storage_relation.specs.Standing.{Alone, bytes_of, held, leaf_in}
use Rattle.storage_relation.specs.Stored.{IsBeside}
use Rattle.storage_relation.proofs.Changes.{assigned_holds, assigned_served}
use Rattle.storage_relation.proofs.Confined.{beside_written}
use Rattle.storage_relation.proofs.Named.{alone_holder}
use Rattle.activation_relation.specs.Layers.{Point, now, services_of}
use Rattle.activation_relation.specs.Points.{Stands, Surroundings}
use Rattle.activation_relation.proofs.BlockVariables.{stored_stand}
use Rattle.run_steps.specs.Engine.{Base}
use Rattle.block_runs.proofs.PointGrounds.{StandsIn}
use Rattle.pli_headline.specs.ProvedSoFar.{text_leaf}
use Rattle.pli_headline.proofs.TextPlaces.{text_bytes, text_kind_of}
use Rattle.pli_headline.proofs.TextsKept.{kept_length}
use Rattle.pli_headline.proofs.Variables.{designated_scalar}
use Rattle.program_runs.specs.Statements.{Block, IsAmong}
use Rattle.area_runs.proofs.ChangedPoints.{follows_among, generation_follows, with_state}
use Rattle.text_values.proofs.TextPoints.{address_text, plain_text, text_generation}

-- an assignment to a variable that lives, with its text
pub record Storing (p : Point) : Type 0 where
  pub varying : Bool
  pub most : ℕ
  pub short : most ≤ 1024
  pub serial : ℕ
  pub values : ℕ → List ℤ → BasicValue
  pub living : Living
  pub lives : living_of p.state.living serial ≡ Some living
  pub generation : living.generation ≡ text_generation varying most values
  pub text : List ℕ

abbrev pub target : {p : Point} → Storing p → Designated
target a = designated_scalar (text_leaf a.varying a.most) a.serial a.values

abbrev pub change_of : {p : Point} → Storing p → Generation → Generation
change_of a = with_element (target a) (BasicText a.text)

abbrev pub stored_state : (p : Point) → Storing p → State
stored_state p a = with_generation (VariableName a.serial) (change_of a) p.state

abbrev pub behind_stored : (p : Point) → Storing p → Point
behind_stored p a = with_state (stored_state p a) p

-- what is written, and where
abbrev pub bytes_for : {p : Point} → Storing p → List ℕ
bytes_for a = kept_bytes (text_kind_of a.varying a.most) (BasicText a.text)

abbrev pub memory_behind : (p : Point) → Storing p → List ℕ → List ℕ
memory_behind p a m = with_bytes (bytes_for a) (p.places.at a.serial) m

-- any text can be stored
storable :
    (varying : Bool) (most : ℕ) (values : ℕ → List ℤ → BasicValue) (serial : ℕ) (text : List ℕ) → most ≤ 1024 →
    IsStorable (first_leaf (designated_scalar (text_leaf varying most) serial values)).kind
    (leaf_in (text_generation varying most values) 0).kind (BasicText text)
storable false most values serial text short =
    let same : most + 0 ≡ most = omega arith in
    subst (λ n. IsStorable (Character most) (Character n) (BasicText text)) same (StoresText most 0 text)
storable true most values serial text short =
    let same : most + 0 ≡ most = omega arith in
    subst (λ n. IsStorable (Varying most) (Varying n) (BasicText text)) same
    (StoresVarying most 0 text (omega (arith, short)))

assignable : (p : Point) (a : Storing p) (m : List ℕ) → IsAssignable (now p m) (target a) (BasicText a.text)
assignable p a m =
    record {
      lives = ap generation_of a.lives ∙ ap (λ g. Some g) a.generation;
      plain = plain_text a.varying a.most a.values;
      element = record { less = refl; leaf_there = omega arith; within = refl };
      storable = storable a.varying a.most a.values a.serial a.text a.short;
    }

pub services_same : (p : Point) (a : Storing p) → services_of (behind_stored p a) ≡ services_of p
services_same p a = assigned_served (now p []) (target a) (BasicText a.text)

-- ---- memory

kind_first :
    (varying : Bool) (most : ℕ) (values : ℕ → List ℤ → BasicValue) (serial : ℕ) →
    (first_leaf (designated_scalar (text_leaf varying most) serial values)).kind ≡ text_kind_of varying most
kind_first false most values serial = refl
kind_first true most values serial = refl

holds_stored :
    (p : Point) (a : Storing p) (m : List ℕ) → Holds (now p m) → Holds (now (behind_stored p a) (memory_behind p a m))
holds_stored p a m h =
    let d = target a in
    let new = assigned_holds (now p m) h d (BasicText a.text) (assignable p a m) in
    let at = address_text a.varying a.most a.values (p.places.at a.serial) in
    let kind = kind_first a.varying a.most a.values a.serial in
    subst (λ m'. Holds (now (behind_stored p a) m'))
    (ap (λ k. with_part (kept_bytes k (BasicText a.text)) (address_of (now p m) d) m) kind
    ∙ ap (λ n. with_part (bytes_for a) n m) at)
    (record {
      keeps = new.keeps;
      heap = record { at = new.heap.at; capacity = new.heap.capacity };
      lives = record { falling = new.lives.falling; numbered = new.lives.numbered; extents = new.lives.extents };
      stored = new.stored;
      distinct = new.distinct;
    })

held_text : (p : Point) (a : Storing p) (m : List ℕ) → Holds (now p m) →
    held p.state a.serial ≡ Some (Alone (text_generation a.varying a.most a.values))
held_text p a m h =
    alone_holder p.state (p.state.serials + 1) a.serial (text_generation a.varying a.most a.values) h.lives.falling
    (assignable p a m).lives (plain_text a.varying a.most a.values)

-- its bytes lie in its data
within_data :
    (p : Point) (varying : Bool) (most : ℕ) (values : ℕ → List ℤ → BasicValue) →
    text_bytes varying most ≤ bytes_of p.keeper (Alone (text_generation varying most values))
within_data p false most values = omega arith
within_data p true most values = omega arith

pub stands_stored :
    (w : Surroundings) (p : Point) (a : Storing p) (b : Base) (m : List ℕ) → Stands w p → StandsIn w p b m →
    StandsIn w (behind_stored p a) b (memory_behind p a m)
stands_stored w p a b m is stands =
    let at = p.places.at a.serial in
    let bytes = bytes_of p.keeper (Alone (text_generation a.varying a.most a.values)) in
    let there = held_text p a m stands.storage in
    let room = stands.storage.stored.inside a.serial (Alone (text_generation a.varying a.most a.values)) there in
    let long = kept_length a.varying a.most a.text in
    let few = within_data p a.varying a.most a.values in
    let place : at + 0 ≡ at = omega arith in
    record {
      storage = holds_stored p a m stands.storage;
      frames = stored_stand w p b.at a.serial (Alone (text_generation a.varying a.most a.values)) m
          (memory_behind p a m) is stands.frames there
          (subst (λ m'. IsBeside at bytes m m') (ap (λ n. with_part (bytes_for a) n m) place)
          (beside_written (bytes_for a) at bytes 0 m (omega (arith, long, few)) room));
    }

-- ---- among a block's points

pub stored_among :
    {k : Block} {numbers : ℕ → ℕ} {p : Point} (a : Storing p) → IsAmong k numbers p →
    IsAmong k numbers (behind_stored p a)
stored_among {k} {p = p} a o =
    follows_among (stored_state p a) refl
    (generation_follows k.call.surroundings (VariableName a.serial) (change_of a) p (λ y. refl) (λ y. refl)) o
