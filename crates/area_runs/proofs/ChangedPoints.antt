-- Points at which something changes that lives, but not where it stands: all that holds at the point before
-- holds there.
use Rattle.std.proofs.Common.{◌≡◌, ◌≢◌, ◌⊎◌, inl, inr, ℕ, ◌+◌, ◌*◌, ◌≤◌, List, [], ◌∷◌, Option, None, Some, Bool, true}
use Rattle.std.proofs.Common.{false, refl, sym, ap, ◌∙◌, subst, arith}
use Rattle.std.proofs.lemmas.Bool.{cases_eq}
use Rattle.std.specs.Prelude.{cond, nat_lt, ◌==◌}
use Rattle.pli_typing.specs.Signatures.{Area, Bit, Character, Fixed, Leaf, LeafKind, Offset, Pointer, Varying}
use Rattle.pli_meaning.specs.BasicValues.{BasedName, Name, NullName, VariableName}
use Rattle.pli_meaning.specs.Contents.{Generation, Placed, changed_at, footprint_of}
use Rattle.pli_meaning.specs.StorageState.{AreaContents, Living, State, area_changed, area_of_kind, area_of_leaves}
use Rattle.pli_meaning.specs.StorageState.{generation_changed, heap_serial, living_changed, living_of, with_area}
use Rattle.pli_meaning.specs.StorageState.{with_generation}
use Rattle.area_keeper.specs.Keeper.{Keeper}
use Rattle.storage_relation.specs.Standing.{bytes_of, holder_by, holder_of}
use Rattle.storage_relation.specs.Stored.{AreLow}
use Rattle.storage_relation.proofs.Fills.{grows_same}
use Rattle.storage_relation.proofs.Holders.{living_of-changed, living_of-others}
use Rattle.storage_relation.proofs.Living.{Stays, lives_changed, stays_area, stays_generation}
use Rattle.activation_relation.specs.Entering.{Later}
use Rattle.storage_relation.specs.Served.{call}
use Rattle.activation_relation.specs.Layers.{Point, now, services_of}
use Rattle.activation_relation.specs.Owned.{AreOwned, IsPlaceOf}
use Rattle.activation_relation.specs.Points.{Stands, Surroundings}
use Rattle.activation_relation.specs.Remaining.{LivesOn, Remains, in_use_up_to}
use Rattle.activation_relation.proofs.Remaining.{remains_same}
use Rattle.activation_relation.proofs.Returning.{later_then}
use Rattle.program_runs.specs.Statements.{Block, IsAmong}

-- ---- a change of something that lives

-- it keeps its serial, owner, shape and extent, and takes as many bytes
pub record Keeping (change : Living → Living) : Type 0 where
  pub stays : Stays change
  pub owner : (x : Living) → (change x).owner ≡ x.owner
  pub bytes : (k : Keeper) (x : Living) → bytes_of k (holder_of (change x)) ≡ bytes_of k (holder_of x)

footprint_same : (a b : Generation) → a.shape ≡ b.shape → a.extent ≡ b.extent → footprint_of a ≡ footprint_of b
footprint_same a b e f = cc (e, f)

bytes_by :
    (k : Keeper) (a b : Generation) (o : Option AreaContents) → a.shape ≡ b.shape → a.extent ≡ b.extent →
    bytes_of k (holder_by a o) ≡ bytes_of k (holder_by b o)
bytes_by k a b None e f = cc (e, f)
bytes_by k a b (Some c) e f = refl

kind_bytes :
    (k : Keeper) (g : Generation) (kind : LeafKind) (ps qs : List Placed) →
    bytes_of k (holder_by g (area_of_kind kind ps)) ≡ bytes_of k (holder_by g (area_of_kind kind qs))
kind_bytes k g (Area n) ps qs = refl
kind_bytes k g (Fixed p) ps qs = refl
kind_bytes k g (Character p) ps qs = refl
kind_bytes k g (Varying p) ps qs = refl
kind_bytes k g Bit ps qs = refl
kind_bytes k g Pointer ps qs = refl
kind_bytes k g Offset ps qs = refl

leaves_bytes :
    (k : Keeper) (g : Generation) (leaves : List Leaf) (ps qs : List Placed) →
    bytes_of k (holder_by g (area_of_leaves leaves ps)) ≡ bytes_of k (holder_by g (area_of_leaves leaves qs))
leaves_bytes k g [] ps qs = refl
leaves_bytes k g (l ∷ []) ps qs = kind_bytes k g l.kind ps qs
leaves_bytes k g (l ∷ m ∷ ls) ps qs = refl

pub generation_keeping :
    (change : Generation → Generation) → ((y : Generation) → (change y).shape ≡ y.shape) →
    ((y : Generation) → (change y).extent ≡ y.extent) → Keeping (generation_changed change)
generation_keeping change shape extent =
    record {
      stays = stays_generation change shape extent;
      owner = λ x. refl;
      bytes = λ k x.
          let g = x.generation in
          ap (λ s. bytes_of k (holder_by (change g) (area_of_leaves s.signature.leaves x.placed))) (shape g)
          ∙ bytes_by k (change g) g (area_of_leaves g.shape.signature.leaves x.placed) (shape g) (extent g);
    }

pub area_keeping : (change : List Placed → List Placed) → Keeping (area_changed change)
area_keeping change =
    record {
      stays = stays_area change;
      owner = λ x. refl;
      bytes = λ k x.
          leaves_bytes k x.generation x.generation.shape.signature.leaves (change x.placed) x.placed;
    }

-- ---- what lives

low_changed :
    (most n : ℕ) (change : Living → Living) (ls : List Living) → Keeping change → AreLow most ls →
    AreLow most (living_changed n change ls)
low_changed most n change [] keeping low = tt
low_changed most n change (l ∷ ls) keeping low = by (l.serial == n) (low_changed most n change ls keeping low.1)
  where
    by : (q : Bool) → AreLow most (living_changed n change ls) →
        AreLow most (cond q (change l ∷ ls) (l ∷ living_changed n change ls))
    by true rest = (subst (λ o. o ≤ most) (sym (keeping.owner l)) low.0, low.1)
    by false rest = (low.0, rest)

in_use_changed :
    (height n : ℕ) (change : Living → Living) (ls : List Living) → Keeping change →
    in_use_up_to height (living_changed n change ls) ≡ in_use_up_to height ls
in_use_changed height n change [] keeping = refl
in_use_changed height n change (l ∷ ls) keeping = by (l.serial == n) (in_use_changed height n change ls keeping)
  where
    own : (o size rest : ℕ) → ℕ
    own o size rest = cond (o == 0) rest (cond (nat_lt height o) rest (size + rest))

    by : (q : Bool) → in_use_up_to height (living_changed n change ls) ≡ in_use_up_to height ls →
        in_use_up_to height (cond q (change l ∷ ls) (l ∷ living_changed n change ls)) ≡ in_use_up_to height (l ∷ ls)
    by true rest =
        ap (λ o. own o (footprint_of (change l).generation) (in_use_up_to height ls)) (keeping.owner l)
        ∙ ap (λ size. own l.owner size (in_use_up_to height ls))
        (footprint_same (change l).generation l.generation (keeping.stays.shape l) (keeping.stays.extent l))
    by false rest = ap (λ u. own l.owner (footprint_of l.generation) u) rest

lives_on :
    (n serial : ℕ) (change : Living → Living) (ls : List Living) (l : Living) → Keeping change →
    living_of ls serial ≡ Some l → LivesOn l (living_of (living_changed n change ls) serial)
lives_on n serial change ls l keeping e = by (cases_eq serial n)
  where
    by : (serial ≡ n) ⊎ (serial ≢ n) → LivesOn l (living_of (living_changed n change ls) serial)
    by (inl same) =
        record {
          there = change l;
          lives =
              subst (λ i. living_of (living_changed i change ls) serial ≡ Some (change l)) same
              (living_of-changed serial change ls l keeping.stays.serial e);
          owner = keeping.owner l;
          shape = keeping.stays.shape l;
        }
    by (inr other) =
        record {
          there = l;
          lives = living_of-others n serial change ls keeping.stays.serial other ∙ e;
          owner = refl;
          shape = refl;
        }

owned_changed :
    (parts : _) (n : ℕ) (change : Living → Living) (p : Point) → Keeping change →
    AreOwned p.keeper p.places p.state parts p.control.layers →
    AreOwned p.keeper p.places (record p.state { living = living_changed n change p.state.living }) parts
    p.control.layers
owned_changed parts n change p keeping is =
    record {
      living = λ j l e. by j l e (cases_eq j n) (living_of p.state.living j) refl;
      heap = is.heap;
      constants = is.constants;
    }
  where
    place : (j : ℕ) → Living → Type 0
    place j l = IsPlaceOf parts p.control.layers l.owner (p.places.at j) (bytes_of p.keeper (holder_of l))

    changed : (j : ℕ) (l : Living) → place j l → place j (change l)
    changed j l here =
        subst (λ o. IsPlaceOf parts p.control.layers o (p.places.at j) (bytes_of p.keeper (holder_of (change l))))
        (sym (keeping.owner l))
        (subst (IsPlaceOf parts p.control.layers l.owner (p.places.at j)) (sym (keeping.bytes p.keeper l)) here)

    none : (j : ℕ) (ls : List Living) (l : Living) → living_of ls j ≡ None →
        living_of (living_changed j change ls) j ≡ Some l → ⊥
    none j [] l a b = cc b
    none j (x ∷ ls) l a b = one (x.serial == j) refl a b (λ c e. none j ls l c e)
      where
        one :
            (q : Bool) → (x.serial == j) ≡ q → cond q (Some x) (living_of ls j) ≡ None →
            living_of (cond q (change x ∷ ls) (x ∷ living_changed j change ls)) j ≡ Some l →
            (living_of ls j ≡ None → living_of (living_changed j change ls) j ≡ Some l → ⊥) → ⊥
        one true q a b rest = cc a
        one false q a b rest =
            rest a (sym (ap (λ r. cond r (Some x) (living_of (living_changed j change ls) j)) q) ∙ b)

    by :
        (j : ℕ) (l : Living) → living_of (living_changed n change p.state.living) j ≡ Some l →
        (j ≡ n) ⊎ (j ≢ n) → (o : Option Living) → living_of p.state.living j ≡ o → place j l
    by j l e (inr other) o f =
        is.living j l (sym (living_of-others n j change p.state.living keeping.stays.serial other) ∙ e)
    by j l e (inl same) None f =
        absurd (none j p.state.living l f (subst (λ i. living_of (living_changed i change p.state.living) j ≡ Some l)
        (sym same) e))
    by j l e (inl same) (Some x) f =
        let e' : living_of (living_changed j change p.state.living) j ≡ Some l =
        subst (λ i. living_of (living_changed i change p.state.living) j ≡ Some l) (sym same) e in
        let g : change x ≡ l = cc (living_of-changed j change p.state.living x keeping.stays.serial f, e') in
        subst (place j) g (changed j x (is.living j x f))

-- ---- the points

-- where the storage machine's state has become another
abbrev pub with_state : State → Point → Point
with_state s p = record p { state = s }

-- all that holds there, whatever memory is
pub record Follows (w : Surroundings) (p q : Point) : Type 0 where
  pub stands : Stands w p → Stands w q
  pub later : Later p q
  pub serials : q.state.serials ≡ p.state.serials

pub living_follows :
    (w : Surroundings) (n : ℕ) (change : Living → Living) (p : Point) → Keeping change →
    Follows w p (with_state (record p.state { living = living_changed n change p.state.living }) p)
living_follows w n change p keeping =
    record {
      stands = λ is. record {
        active = is.active;
        laid = is.laid;
        low = low_changed _ n change p.state.living keeping is.low;
        lives = lives_changed p.places p.state n change keeping.stays is.lives;
        owned = owned_changed w.parts n change p keeping is.owned;
        over = is.over;
        running = is.running;
        allowed = is.allowed;
      };
      later = record {
        activations = refl;
        layers = refl;
        edits = refl;
        waiting = refl;
        acts = omega arith;
        remains = record {
          living = λ j l e. lives_on n j change p.state.living l keeping e;
          serials = omega arith;
          at = λ j few. refl;
          number = λ j few. refl;
          signatures = grows_same p.places.fills p.places.signatures;
          statics = refl;
          low = refl;
          constants = refl;
          active = omega arith;
          in_use = λ height low. in_use_changed height n change p.state.living keeping;
        };
      };
      serials = refl;
    }

heap_follows :
    (w : Surroundings) (heap : List Placed) (p : Point) → Follows w p (with_state (record p.state { heap = heap }) p)
heap_follows w heap p =
    record {
      stands = λ is. record {
        active = is.active;
        laid = is.laid;
        low = is.low;
        lives = record { falling = is.lives.falling; numbered = is.lives.numbered; extents = is.lives.extents };
        owned = record { living = is.owned.living; heap = is.owned.heap; constants = is.owned.constants };
        over = is.over;
        running = is.running;
        allowed = is.allowed;
      };
      later = record {
        activations = refl;
        layers = refl;
        edits = refl;
        waiting = refl;
        acts = omega arith;
        remains = same_remains (remains_same p);
      };
      serials = refl;
    }
  where
    same_remains : Remains p p → Remains p (with_state (record p.state { heap = heap }) p)
    same_remains r =
        record {
          living = r.living;
          serials = r.serials;
          at = r.at;
          number = r.number;
          signatures = r.signatures;
          statics = r.statics;
          low = r.low;
          constants = r.constants;
          active = r.active;
          in_use = r.in_use;
        }

-- an area's generations become others
pub area_follows :
    (w : Surroundings) (n : ℕ) (change : List Placed → List Placed) (p : Point) →
    Follows w p (with_state (with_area n change p.state) p)
area_follows w n change p = by (n == heap_serial)
  where
    by :
        (q : Bool) →
        Follows w p (with_state (cond q (record p.state { heap = change p.state.heap })
        (record p.state { living = living_changed n (area_changed change) p.state.living })) p)
    by true = heap_follows w (change p.state.heap) p
    by false = living_follows w n (area_changed change) p (area_keeping change)

-- a generation changes, wherever it lives
pub generation_follows :
    (w : Surroundings) (n : Name) (change : Generation → Generation) (p : Point) →
    ((y : Generation) → (change y).shape ≡ y.shape) → ((y : Generation) → (change y).extent ≡ y.extent) →
    Follows w p (with_state (with_generation n change p.state) p)
generation_follows w NullName change p shape extent =
    record {
      stands = λ is. is;
      later = record {
        activations = refl;
        layers = refl;
        edits = refl;
        waiting = refl;
        acts = omega arith;
        remains = remains_same p;
      };
      serials = refl;
    }
generation_follows w (VariableName n) change p shape extent =
    living_follows w n (generation_changed change) p (generation_keeping change shape extent)
generation_follows w (BasedName n o) change p shape extent = area_follows w n (changed_at o change) p

-- the world stays
pub area_world : (n : ℕ) (change : List Placed → List Placed) (s : State) → (with_area n change s).world ≡ s.world
area_world n change s = by (n == heap_serial)
  where
    by :
        (q : Bool) →
        (cond q (record s { heap = change s.heap })
        (record s { living = living_changed n (area_changed change) s.living })).world
        ≡ s.world
    by true = refl
    by false = refl

pub generation_world :
    (n : Name) (change : Generation → Generation) (s : State) → (with_generation n change s).world ≡ s.world
generation_world NullName change s = refl
generation_world (VariableName n) change s = refl
generation_world (BasedName n o) change s = area_world n (changed_at o change) s

-- so does what is read
pub area_input : (n : ℕ) (change : List Placed → List Placed) (s : State) → (with_area n change s).input ≡ s.input
area_input n change s = by (n == heap_serial)
  where
    by :
        (q : Bool) →
        (cond q (record s { heap = change s.heap })
        (record s { living = living_changed n (area_changed change) s.living })).input
        ≡ s.input
    by true = refl
    by false = refl

pub generation_input :
    (n : Name) (change : Generation → Generation) (s : State) → (with_generation n change s).input ≡ s.input
generation_input NullName change s = refl
generation_input (VariableName n) change s = refl
generation_input (BasedName n o) change s = area_input n (changed_at o change) s

-- and all that services have, if they know what lives as before
pub same_services :
    (s : State) (p : Point) → s.world ≡ p.state.world → s.input ≡ p.state.input →
    (call (record (now p []) { state = s })).services ≡ services_of p → services_of (with_state s p) ≡ services_of p
same_services s p world input same =
    let x = (call (record (now p []) { state = s })).services in
    ap (λ u. record x { world = u; input = s.input }) world
    ∙ ap (λ u. record x { world = p.state.world; input = u }) input ∙ same

-- one after the other
pub follows_then : {w : Surroundings} {p q r : Point} → Follows w p q → Follows w q r → Follows w p r
follows_then {w} {p} {q} {r} a b =
    record {
      stands = λ is. b.stands (a.stands is);
      later = later_then p q r a.later b.later;
      serials = b.serials ∙ a.serials;
    }

-- ---- among a block's points

pub follows_among :
    {k : Block} {numbers : ℕ → ℕ} {p : Point} (s : State) → s.world ≡ p.state.world →
    Follows k.call.surroundings p (with_state s p) → IsAmong k numbers p → IsAmong k numbers (with_state s p)
follows_among {k} {numbers} {p} s world f o =
    let few = o.few in
    let same = f.serials in
    record {
      stands = f.stands o.stands;
      image = record {
        keeper = o.image.keeper;
        layout = o.image.layout;
        parts = o.image.parts;
        even = o.image.even;
      };
      later = later_then k.first p (with_state s p) o.later f.later;
      few =
          omega (arith, few, same);
      entries = o.entries;
      others = o.others;
      words = o.words;
    }
