-- The point behind an assignment to a FIXED BINARY(31) variable: all that holds at the point before holds there.
use Rattle.std.proofs.Common.{◌≡◌, ◌≢◌, ◌⊎◌, inl, inr, ℕ, ◌+◌, ◌*◌, ◌^◌, ◌<◌, ◌≤◌, List, [], ◌∷◌, length, Option, None}
use Rattle.std.proofs.Common.{Some, Bool, true, false, refl, sym, ap, ◌∙◌, subst, arith}
use Rattle.std.proofs.lemmas.Bool.{cases_eq, eqb-true}
use Rattle.std.specs.Prelude.{ℤ, cond, pos, ◌==◌}
use Rattle.rv_meaning.specs.Machine.{memory_size}
use Rattle.rv_meaning.specs.Memory.{store}
use Rattle.rv_meaning.specs.Words.{word}
use Rattle.pli_meaning.specs.BasicValues.{BasicNumber, BasicValue, VariableName}
use Rattle.pli_meaning.specs.Contents.{Generation}
use Rattle.pli_meaning.specs.Evaluating.{Designated}
use Rattle.pli_meaning.specs.Numbers.{is_of_precision}
use Rattle.pli_meaning.specs.Placing.{with_element}
use Rattle.pli_meaning.specs.StorageState.{AreaContents, Living, State, area_of_leaves, generation_at}
use Rattle.pli_meaning.specs.StorageState.{generation_changed}
use Rattle.pli_meaning.specs.StorageState.{generation_of, heap_serial, living_changed, living_of}
use Rattle.area_keeper.specs.Keeper.{Keeper}
use Rattle.pli_coding.specs.Frames.{MemoryParts}
use Rattle.storage_relation.specs.Changes.{IsAssignable, assigned}
use Rattle.storage_relation.specs.Keeping.{StoresNumber}
use Rattle.storage_relation.specs.Served.{Holds}
use Rattle.storage_relation.specs.Standing.{Alone, bytes_of, held, holder_by, holder_of}
use Rattle.storage_relation.specs.Stored.{AreLow, IsBeside}
use Rattle.storage_relation.proofs.Changes.{assigned_holds, assigned_served}
use Rattle.storage_relation.proofs.Confined.{beside_written}
use Rattle.storage_relation.proofs.Holders.{living_of-changed, living_of-others}
use Rattle.storage_relation.proofs.Living.{lives_changed, stays_generation}
use Rattle.storage_relation.proofs.Named.{alone_holder}
use Rattle.storage_relation.proofs.Values.{number_length}
use Rattle.area_keeper.specs.KeptAreas.{with_part}
use Rattle.pli_serving.specs.Stored.{kept_bytes}
use Rattle.pli_typing.specs.Signatures.{Fixed}
use Rattle.run_steps.specs.Engine.{Base}
use Rattle.storage_relation.proofs.MachineStores.{word_stored}
use Rattle.activation_relation.specs.Entering.{Later}
use Rattle.activation_relation.specs.Frames.{FramesStand}
use Rattle.activation_relation.specs.Layers.{Layer, Point, now, services_of}
use Rattle.activation_relation.specs.Owned.{AreOwned, IsPlaceOf}
use Rattle.activation_relation.specs.Points.{Stands, Surroundings}
use Rattle.activation_relation.specs.Remaining.{with_assigned}
use Rattle.activation_relation.proofs.BlockVariables.{stored_stand}
use Rattle.activation_relation.proofs.Remaining.{remains_assigned}
use Rattle.activation_relation.proofs.Returning.{later_then}
use Rattle.block_runs.specs.Machines.{IsImage}
use Rattle.block_runs.proofs.PointGrounds.{StandsIn}
use Rattle.program_runs.specs.Statements.{Block, IsAmong}
use Rattle.expression_runs.proofs.VariableMeaning.{designated_number, number_generation}

-- ---- what lives

low_changed :
    (most n : ℕ) (change : Generation → Generation) (ls : List Living) → AreLow most ls →
    AreLow most (living_changed n (generation_changed change) ls)
low_changed most n change [] low = tt
low_changed most n change (l ∷ ls) low = by (l.serial == n) (low_changed most n change ls low.1)
  where
    by :
        (q : Bool) → AreLow most (living_changed n (generation_changed change) ls) →
        AreLow most (cond q (generation_changed change l ∷ ls) (l ∷ living_changed n (generation_changed change) ls))
    by true rest = (low.0, low.1)
    by false rest = (low.0, rest)

bytes_same :
    (k : Keeper) (d : Designated) (v : BasicValue) (g : Generation) (o : Option AreaContents) →
    bytes_of k (holder_by (with_element d v g) o) ≡ bytes_of k (holder_by g o)
bytes_same k d v g None = refl
bytes_same k d v g (Some a) = refl

owned_assigned :
    (parts : MemoryParts) (serial : ℕ) (d : Designated) (v : BasicValue) (p : Point) →
    AreOwned p.keeper p.places p.state parts p.control.layers →
    AreOwned p.keeper p.places (with_assigned serial d v p).state parts p.control.layers
owned_assigned parts serial d v p is =
    record {
      living = λ n l e. by n l e (cases_eq n serial) (living_of p.state.living n) refl;
      heap = is.heap;
      constants = is.constants;
    }
  where
    change : Living → Living
    change = generation_changed (with_element d v)

    place : (n : ℕ) → Living → Type 0
    place n l = IsPlaceOf parts p.control.layers l.owner (p.places.at n) (bytes_of p.keeper (holder_of l))

    changed : (n : ℕ) (l : Living) → place n l → place n (change l)
    changed n l here =
        subst (IsPlaceOf parts p.control.layers l.owner (p.places.at n))
        (sym (bytes_same p.keeper d v l.generation
        (area_of_leaves l.generation.shape.signature.leaves l.placed))) here

    none : (n : ℕ) (ls : List Living) (l : Living) → living_of ls n ≡ None →
        living_of (living_changed n change ls) n ≡ Some l → ⊥
    none n [] l a b = cc b
    none n (x ∷ ls) l a b = one (x.serial == n) refl a b (λ c e. none n ls l c e)
      where
        one :
            (q : Bool) → (x.serial == n) ≡ q → cond q (Some x) (living_of ls n) ≡ None →
            living_of (cond q (change x ∷ ls) (x ∷ living_changed n change ls)) n ≡ Some l →
            (living_of ls n ≡ None → living_of (living_changed n change ls) n ≡ Some l → ⊥) → ⊥
        one true q a b rest = cc a
        one false q a b rest =
            rest a (sym (ap (λ r. cond r (Some x) (living_of (living_changed n change ls) n)) q) ∙ b)

    by :
        (n : ℕ) (l : Living) → living_of (living_changed serial change p.state.living) n ≡ Some l →
        (n ≡ serial) ⊎ (n ≢ serial) → (o : Option Living) → living_of p.state.living n ≡ o → place n l
    by n l e (inr other) o f =
        is.living n l (sym (living_of-others serial n change p.state.living (λ x. refl) other) ∙ e)
    by n l e (inl same) None f =
        absurd (none n p.state.living l f (subst (λ i. living_of (living_changed i change p.state.living) n ≡ Some l)
        (sym same) e))
    by n l e (inl same) (Some x) f =
        let e' : living_of (living_changed n change p.state.living) n ≡ Some l =
        subst (λ i. living_of (living_changed i change p.state.living) n ≡ Some l) (sym same) e in
        let g : change x ≡ l = cc (living_of-changed n change p.state.living x (λ y. refl) f, e') in
        subst (place n) g (changed n x (is.living n x f))

-- ---- the point

-- an assignment to a variable that lives, with its number
pub record Assigning (p : Point) : Type 0 where
  pub serial : ℕ
  pub values : ℕ → List ℤ → BasicValue
  pub living : Living
  pub lives : living_of p.state.living serial ≡ Some living
  pub generation : living.generation ≡ number_generation values
  pub z : ℤ
  pub wide : is_of_precision 31 z ≡ true

abbrev pub behind_assigned : (p : Point) → Assigning p → Point
behind_assigned p a = with_assigned a.serial (designated_number a.serial a.values) (BasicNumber a.z) p

assignable : (p : Point) (a : Assigning p) (m : List ℕ) →
    IsAssignable (now p m) (designated_number a.serial a.values) (BasicNumber a.z)
assignable p a m =
    record {
      lives = ap generation_of a.lives ∙ ap (λ g. Some g) a.generation;
      plain = refl;
      element = record { less = refl; leaf_there = omega arith; within = refl };
      storable = StoresNumber 31 a.z (omega arith) a.wide;
    }

pub services_same : (p : Point) (a : Assigning p) → services_of (behind_assigned p a) ≡ services_of p
services_same p a = assigned_served (now p []) (designated_number a.serial a.values) (BasicNumber a.z)

-- memory has then what the storage machine has
pub holds_assigned :
    (p : Point) (a : Assigning p) (m : List ℕ) → Holds (now p m) → p.places.at a.serial + 0 + 0 + 4 ≤ length m →
    Holds (now (behind_assigned p a) (store 4 m (p.places.at a.serial + 0 + 0) (word a.z)))
holds_assigned p a m h room =
    let d = designated_number a.serial a.values in
    let new = assigned_holds (now p m) h d (BasicNumber a.z) (assignable p a m) in
    let same = word_stored 31 a.z (p.places.at a.serial + 0 + 0) m refl room in
    subst (λ m'. Holds (now (behind_assigned p a) m')) same
    (record {
      keeps = new.keeps;
      heap = record { at = new.heap.at; capacity = new.heap.capacity };
      lives = record { falling = new.lives.falling; numbered = new.lives.numbered; extents = new.lives.extents };
      stored = new.stored;
      distinct = new.distinct;
    })

held_number : (p : Point) (a : Assigning p) (m : List ℕ) → Holds (now p m) →
    held p.state a.serial ≡ Some (Alone (number_generation a.values))
held_number p a m h =
    alone_holder p.state (p.state.serials + 1) a.serial (number_generation a.values) h.lives.falling
    (assignable p a m).lives refl

-- its bytes lie in memory
pub inside_number : (p : Point) (a : Assigning p) (m : List ℕ) → Holds (now p m) →
    p.places.at a.serial + 0 + 0 + 4 ≤ length m
inside_number p a m h =
    let i = h.stored.inside a.serial (Alone (number_generation a.values)) (held_number p a m h) in
    omega (arith, i)

beside_number : (p : Point) (a : Assigning p) (m : List ℕ) → Holds (now p m) →
    IsBeside (p.places.at a.serial) (bytes_of p.keeper (Alone (number_generation a.values))) m
    (store 4 m (p.places.at a.serial + 0 + 0) (word a.z))
beside_number p a m h =
    let at = p.places.at a.serial in
    let i = h.stored.inside a.serial (Alone (number_generation a.values)) (held_number p a m h) in
    let b = kept_bytes (Fixed 31) (BasicNumber a.z) in
    let n = number_length 4 (word a.z) in
    let place : at + 0 ≡ at + 0 + 0 = omega arith in
    subst (λ m'. IsBeside at (bytes_of p.keeper (Alone (number_generation a.values))) m m')
    (ap (λ j. with_part b j m) place ∙ word_stored 31 a.z (at + 0 + 0) m refl (omega (arith, i)))
    (beside_written b at (bytes_of p.keeper (Alone (number_generation a.values))) 0 m (omega (arith, n)) i)

pub stands_assigned :
    (w : Surroundings) (p : Point) (a : Assigning p) (b : Base) (m : List ℕ) → Stands w p → StandsIn w p b m →
    StandsIn w (behind_assigned p a) b (store 4 m (p.places.at a.serial + 0 + 0) (word a.z))
stands_assigned w p a b m is stands =
    record {
      storage = holds_assigned p a m stands.storage (inside_number p a m stands.storage);
      frames = stored_stand w p b.at a.serial (Alone (number_generation a.values)) m
          (store 4 m (p.places.at a.serial + 0 + 0) (word a.z)) is stands.frames (held_number p a m stands.storage)
          (beside_number p a m stands.storage);
    }

point_assigned : (w : Surroundings) (p : Point) (a : Assigning p) → Stands w p → Stands w (behind_assigned p a)
point_assigned w p a is =
    let d = designated_number a.serial a.values in
    let change = with_element d (BasicNumber a.z) in
    record {
      active = is.active;
      laid = is.laid;
      low = low_changed _ a.serial change p.state.living is.low;
      lives = lives_changed p.places p.state a.serial (generation_changed change)
          (stays_generation change (λ y. refl) (λ y. refl)) is.lives;
      owned = owned_assigned w.parts a.serial d (BasicNumber a.z) p is.owned;
      over = is.over;
      running = is.running;
      allowed = is.allowed;
    }

assigned_later : (p : Point) (a : Assigning p) → Later p (behind_assigned p a)
assigned_later p a =
    record {
      activations = refl;
      layers = refl;
      edits = refl;
      waiting = refl;
      acts = omega arith;
      remains = remains_assigned p a.serial (designated_number a.serial a.values) (BasicNumber a.z);
    }

pub assigned_among :
    {k : Block} {numbers : ℕ → ℕ} {p : Point} (a : Assigning p) → IsAmong k numbers p →
    IsAmong k numbers (behind_assigned p a)
assigned_among {k} {p = p} a o =
    record {
      stands = point_assigned k.call.surroundings p a o.stands;
      image = record {
        keeper = o.image.keeper;
        layout = o.image.layout;
        parts = o.image.parts;
        even = o.image.even;
      };
      later = later_then k.first p (behind_assigned p a) o.later (assigned_later p a);
      few = o.few;
      entries = o.entries;
      others = o.others;
      words = o.words;
    }
