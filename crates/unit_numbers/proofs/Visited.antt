-- What is called, in each phase that the ONs of its list give its block.
use Rattle.std.proofs.Common.{◌≡◌, ◌⊎◌, inl, inr, ℕ, suc, ◌+◌, ◌^◌, ◌<◌, ◌≤◌, List, [], ◌∷◌, length, Bool, Some}
use Rattle.std.proofs.Common.{None, true, false, refl, sym, ap, ◌∙◌, subst, arith}
use Rattle.std.specs.Prelude.{◌==◌, cond, drop}
use Rattle.pli_language.specs.declared.condition.Condition.{Condition}
use Rattle.pli_typing.specs.TypedTree as Y
use Rattle.pli_meaning.specs.DeclaredShapes.{variables_of_block}
use Rattle.pli_meaning.specs.StorageState.{Activation, OnUnit, ancestor, automatic_in_use, force, height_of}
use Rattle.pli_meaning.specs.StorageState.{newest_height, oncode_of}
use Rattle.pli_meaning.specs.World.{World}
use Rattle.storage_relation.proofs.Holders.{eqb-refl}
use Rattle.rv_meaning.specs.declared.instr.Instr.{Instr}
use Rattle.pli_coding.specs.Frames.{MemoryParts, frame_end}
use Rattle.pli_serving.specs.ServiceState as S
use Rattle.activation_relation.specs.Chains.{AreActive, UnitPlaces}
use Rattle.activation_relation.specs.Changes.{newest_with}
use Rattle.activation_relation.specs.Points.{Surroundings}
use Rattle.activation_relation.proofs.Returning.{later_same}
use Rattle.block_runs.specs.Machines.{AreEven, IsImage}
use Rattle.jump_runs.specs.Functions.{IsFunctionList}
use Rattle.activation_relation.specs.Landing.{resumed, with_units}
use Rattle.activation_relation.specs.Layers.{Layer, Point}
use Rattle.activation_relation.specs.Remaining.{Remains}
use Rattle.activation_relation.specs.ServiceLaws.{IsSystem}
use Rattle.activation_relation.proofs.Displays.{ancestor_low}
use Rattle.program_places.specs.Programs.{environment_for}
use Rattle.program_runs.specs.Calls.{left_over}
use Rattle.program_runs.specs.Starts.{image_parts}
use Rattle.program_runs.specs.Statements.{Block, IsBegun, IsOwn, Outer, own_height}
use Rattle.program_runs.proofs.NewestBlocks.{newest_ancestor}
use Rattle.nested_calls.specs.Nested.{IsNested, parent_at}
use Rattle.number_runs.specs.Knowledge.{GoesThrough, IsHome}
use Rattle.number_runs.specs.Numbers.{grid_known, type_known}
use Rattle.number_runs.specs.Statements.{statements_set}
use Rattle.number_runs.specs.Variables.{AreTabled}
use Rattle.unit_runs.specs.Establishing as T
use Rattle.phase_runs.specs.Units.{AreBy, ArePlaced, Past, changed, meant_by, newest_units, own_units, past_point}
use Rattle.phase_runs.proofs.Units.{past_begun}
use Rattle.unit_numbers.proofs.Arrays.{past_array, past_narrow, past_number, past_places, phase_at}
use Rattle.unit_numbers.proofs.Forces.{AreOwn, FoundOwn, change_own, force_over}
use Rattle.unit_numbers.proofs.Homes.{Home, past_layered, world_of}
use Rattle.unit_numbers.proofs.Hosts.{InForce, InForceBelow, Lower, MayLand, Part}
use Rattle.unit_numbers.proofs.Mains.{Main, all_ons, units_for}
use Rattle.unit_numbers.proofs.Past.{height_same, past_like, past_living, past_same}
use Rattle.unit_numbers.proofs.Places.{listed_at, placed_by}
use Rattle.unit_numbers.proofs.Puts.{past_constants}
use Rattle.unit_numbers.proofs.Scenes.{IsAt, IsBare, IsEntered, IsVisited, block_of, ons_in, scope_of}

abbrev pub past_outer : Past → Outer → Outer
past_outer past o = record o { first = past_point past o.first }

-- its statements write, or they don't
abbrev pub writing : Bool → Part → Part
writing writes c = record c { writes = writes }

-- ---- what its own units leave as it was

pub past_world : (past : Past) (p : Point) → (past_point past p).state.world ≡ p.state.world
past_world [] p = refl
past_world (e ∷ past) p = past_world past p

many_same : (us : List (Condition × OnUnit)) (as' : List Activation) → length (newest_units us as') ≡ length as'
many_same us [] = refl
many_same us (a ∷ as') = refl

past_many :
    (past : Past) (p : Point) → length (past_point past p).state.activations ≡ length p.state.activations
past_many [] p = refl
past_many (e ∷ past) p = many_same _ (past_point past p).state.activations ∙ past_many past p

code_same : (us : List (Condition × OnUnit)) (as' : List Activation) → oncode_of (newest_units us as') ≡ oncode_of as'
code_same us [] = refl
code_same us (a ∷ as') = refl

past_code : (past : Past) (p : Point) → oncode_of (past_point past p).state.activations ≡ oncode_of p.state.activations
past_code [] p = refl
past_code (e ∷ past) p = code_same _ (past_point past p).state.activations ∙ past_code past p

remains_past : (past : Past) (p q : Point) → Remains p q → Remains p (past_point past q)
remains_past [] p q r = r
remains_past (e ∷ past) p q r =
    let o = past_point past q in
    let h = remains_past past p q r in
    let n = many_same (meant_by e (own_units o.state.activations)) o.state.activations in
    let active = h.active in
    record {
      living = h.living;
      serials = h.serials;
      at = h.at;
      number = h.number;
      signatures = h.signatures;
      statics = h.statics;
      low = h.low;
      constants = h.constants;
      active = omega (arith, n, active);
      in_use = h.in_use;
    }

-- ---- its static ancestors

-- the newest is no ancestor of those below it
same_below :
    (us : List (Condition × OnUnit)) (a : Activation) (as' : List Activation) (j n : ℕ) →
    a.height ≡ suc (length as') → height_of (ancestor as' j n) ≤ length as' →
    ancestor (a ∷ as') j n ≡ ancestor (a ∷ as') a.height n →
    ancestor (with_units us a ∷ as') j n ≡ ancestor (with_units us a ∷ as') a.height n
same_below us a as' j n height low h =
    by (a.height == j) (a.level == n) (a.height == a.height) (eqb-refl a.height) h
  where
    by :
        (q r t : Bool) → t ≡ true →
        cond q (cond r (Some a) (ancestor as' a.parent n)) (ancestor as' j n)
        ≡ cond t (cond r (Some a) (ancestor as' a.parent n)) (ancestor as' a.height n) →
        cond q (cond r (Some (with_units us a)) (ancestor as' a.parent n)) (ancestor as' j n)
        ≡ cond t (cond r (Some (with_units us a)) (ancestor as' a.parent n)) (ancestor as' a.height n)
    by q r false e g = absurd (cc e)
    by true r true e g = refl
    by false false true e g = g
    by false true true e g =
        let found = ap height_of g in
        absurd (omega (arith, found, height, low))

nested_units :
    (units : UnitPlaces) (us : List (Condition × OnUnit)) (as' : List Activation) (φs : List Layer) (outer n : ℕ) →
    AreActive units as' φs →
    ancestor as' (height_of (ancestor as' (newest_height as') outer)) n ≡ ancestor as' (newest_height as') n →
    ancestor (newest_units us as')
    (height_of (ancestor (newest_units us as') (newest_height (newest_units us as')) outer)) n
    ≡ ancestor (newest_units us as') (newest_height (newest_units us as')) n
nested_units units us [] φs outer n active h = h
nested_units units us (a ∷ as') [] outer n active h = absurd active
nested_units units us (a ∷ as') (φ ∷ φs) outer n active h =
    let j = height_of (ancestor (a ∷ as') a.height outer) in
    ap (λ i. ancestor (with_units us a ∷ as') i n) (height_same us (a ∷ as') outer)
    ∙ same_below us a as' j n active.0.height (ancestor_low units as' φs j n active.1) h

past_nested :
    (k : Block) (ons : List (T.OnUnit × ℕ)) (past : Past) → ArePlaced k.call.surroundings.units ons → AreBy ons past →
    IsBegun k → IsNested k → IsNested (phase_at k past)
past_nested k ons [] placed known b nest =
    record { own = nest.own; few = nest.few; some = nest.some; same = nest.same }
past_nested k ons (e ∷ past) placed known b nest =
    let q = past_point past k.first in
    let us = meant_by e (own_units q.state.activations) in
    let n = past_nested k ons past placed known.1 b nest in
    let begun = past_begun k ons past placed known.1 b in
    record {
      own = n.own;
      few = n.few;
      some = λ i less. subst (λ j. 0 < j) (sym (height_same us q.state.activations i)) (n.some i less);
      same = λ outer i less high.
          nested_units k.call.surroundings.units us q.state.activations q.control.layers outer i
          begun.resumes.stands.active (n.same outer i less high);
    }

-- ---- the unit in force

record HasUnits (ons : List (T.OnUnit × ℕ)) (a : Activation) (as' : List Activation) (p : Point) : Type 0 where
  units : List (Condition × OnUnit)
  own : AreOwn ons units
  is : p.state.activations ≡ with_units units a ∷ as'

past_units :
    (ons : List (T.OnUnit × ℕ)) (a : Activation) (as' : List Activation) (past : Past) (p : Point) → AreBy ons past →
    a.units ≡ [] → p.state.activations ≡ a ∷ as' → HasUnits ons a as' (past_point past p)
past_units ons a as' [] p known none is =
    record { units = []; own = tt; is = is ∙ ap (λ us. with_units us a ∷ as') none }
past_units ons a as' (e ∷ past) p known none is =
    let h = past_units ons a as' past p known.1 none is in
    record {
      units = meant_by e h.units;
      own = change_own ons e h.units known.0 h.own;
      is = ap (λ xs. changed e xs) h.is;
    }

-- its activation is the newest, and its own ancestor
record IsNewest (k : Block) (a : Activation) (level : ℕ) : Type 0 where
  own : a.height ≡ own_height k
  parent : a.height ≡ parent_at k level

newest_of :
    (k : Block) (level : ℕ) (v : IsBare k.first) → IsBegun k → IsNested k → k.environment.level ≡ level →
    IsNewest k v.activation level
newest_of k level v b nest e =
    let r = b.resumes in
    let units = k.call.surroundings.units in
    let as' = k.call.point.state.activations in
    let φs = k.call.point.control.layers in
    let a = with_units r.own b.activation in
    let active : AreActive units (a ∷ as') (resumed r.changed k.call.beginning.layer ∷ φs) =
    subst (λ xs. AreActive units xs (resumed r.changed k.call.beginning.layer ∷ φs)) r.activations
    (subst (λ ls. AreActive units k.first.state.activations ls) r.layers r.stands.active) in
    let height = active.0.height in
    let same : v.activation.height ≡ a.height =
    ap (λ xs. newest_height xs) (sym v.is) ∙ ap (λ xs. newest_height xs) r.activations in
    record {
      own = omega (arith, same, height);
      parent = same
          ∙ sym (ap (λ xs. height_of (ancestor xs (newest_height xs) level)) r.activations
          ∙ newest_ancestor a as' level (active.0.level ∙ sym nest.own ∙ e));
    }

-- the program has its ONs
pub visited_placed :
    {program : Y.Program} {m : Main program} {h : Home} {c : Part} {o : Outer} {os : List Outer} →
    IsVisited m h c o os → ArePlaced (units_for m) (ons_in c o)
visited_placed {m = m} {c = c} {o} v =
    placed_by (units_for m) (ons_in c o) (λ e h. listed_at e (all_ons m) (v.ons e h).listed)

-- that of a block below is in force as it was
lower_past :
    {program : Y.Program} {m : Main program} (k : Block) (past : Past) (v : IsBare k.first) {φ : Layer}
    {φs : List Layer} {d : Condition} {units : List (Condition × OnUnit)} →
    (past_point past k.first).state.activations ≡ with_units units v.activation ∷ v.others →
    k.first.control.layers ≡ φ ∷ φs →
    force (past_point past k.first).state.activations d ≡ force k.first.state.activations d → Lower m k d →
    Lower m (phase_at k past) d
lower_past k past v {φ} {φs} {d} is newest same n =
    let l = past_layered past k.first φ φs newest in
    let count = suc n.host.count in
    record {
      host = n.host;
      newest = record {
        unit = n.newest.unit;
        index = n.newest.index;
        on = n.newest.on;
        condition = n.newest.condition;
        by = n.newest.by;
        forced = same ∙ n.newest.forced;
      };
      own = n.own;
      parent = n.parent;
      is = n.is;
      over = record {
        activations = ap (λ xs. drop count xs) is ∙ sym (ap (λ xs. drop count xs) v.is) ∙ n.over.activations;
        layers = ap (λ ls. drop count ls) l.newest ∙ sym (ap (λ ls. drop count ls) newest) ∙ n.over.layers;
        remains = remains_past past n.host.point k.first n.over.remains;
        carried = n.over.carried;
      };
    }

-- a jump lands there as it did
past_lands :
    {program : Y.Program} (k : Block) (head : Y.BlockHead) (all : Y.Stmts) (past : Past) → MayLand program k head all →
    MayLand program (phase_at k past) head all
past_lands {program} k head all past l =
    let like = past_like past k.first in
    record {
      registers = l.registers;
      entries = like.entries ∙ l.entries;
      edits = like.edits ∙ l.edits;
      top = like.top ∙ l.top ∙ ap (λ n. n + frame_end image_parts program head.number head.level) (sym like.frame);
      number = l.number;
      placed = l.placed;
    }

past_force :
    {program : Y.Program} {m : Main program} {h : Home} {more blocks : ℕ} {c : Part} {o : Outer} {os : List Outer} →
    IsAt m h more blocks c o os → c.unit ≡ false → IsVisited m h c o os → (past : Past) → AreBy (ons_in c o) past →
    (d : Condition) →
    InForce m (phase_at (block_of m h o os) past) c.unit c.caller c.all d
past_force {m = m} {h} {c = c} {o} {os} at unit v past known d = by (force_over (ons_in c o) a v.bare.others d u.own)
  where
    k : Block
    k = block_of m h o os

    u : HasUnits (ons_in c o) v.bare.activation v.bare.others (past_point past o.first)
    u = past_units (ons_in c o) v.bare.activation v.bare.others past o.first known v.bare.none v.bare.is

    a : Activation
    a = with_units u.units v.bare.activation

    newest : IsNewest k v.bare.activation c.caller.level
    newest = newest_of k c.caller.level v.bare at.begun at.nested v.level

    -- without units of its own
    bare : force o.first.state.activations d ≡ force v.bare.others d
    bare =
        ap (λ xs. force xs d) v.bare.is
        ∙ ap (λ us. force (with_units us v.bare.activation ∷ v.bare.others) d) v.bare.none

    of :
        InForceBelow m k d → force (past_point past o.first).state.activations d ≡ force o.first.state.activations d →
        InForce m (phase_at k past) c.unit c.caller c.all d
    of (inl system) same = inl (subst IsSystem (sym same) system)
    of (inr n) same = inr (inr (lower_past k past v.bare u.is at.free.newest same n))

    by :
        IsSystem (force (a ∷ v.bare.others) d)
        ⊎ (FoundOwn (ons_in c o) a v.bare.others d ⊎ (force (a ∷ v.bare.others) d ≡ force v.bare.others d)) →
        InForce m (phase_at k past) c.unit c.caller c.all d
    by (inl system) = inl (subst (λ xs. IsSystem (force xs d)) (sym u.is) system)
    by (inr (inl f)) =
        inr (inl (record {
          newest = record {
            unit = f.unit;
            index = f.index;
            on = v.ons (f.unit, f.index) f.listed;
            condition = f.condition;
            by = a;
            forced = ap (λ xs. force xs d) u.is ∙ f.is;
          };
          itself = unit;
          level = v.level;
          own = newest.own;
          parent = newest.parent ∙ sym ((past_like past o.first).ancestors c.caller.level);
          lands = λ jumps. past_lands k c.caller c.all past (v.lands jumps);
        }))
    by (inr (inr below)) = of (v.below d) (ap (λ xs. force xs d) u.is ∙ below ∙ sym bare)

-- ---- all of it

-- a block where its statements run, with the words of its frame
pub record IsSet {program : Y.Program} (m : Main program) (h : Home) (more blocks : ℕ) (c : Part) (o : Outer)
    (os : List Outer) : Type 0
  where
    pub at : IsAt m h more blocks c o os
    pub words : at.free.layer.words ≡ statements_set c.body
    pub clear : (n : ℕ) → at.free.layer.waits n ≡ None
    pub home : c.unit ≡ false → IsHome (scope_of m c) c.valued (block_of m h o os) left_over

-- a RETURN goes on where it did
own_past :
    {program : Y.Program} (m : Main program) (h : Home) (o : Outer) (os : List Outer) (past : Past) →
    IsBegun (block_of m h (past_outer past o) os) →
    IsOwn (block_of m h o os) left_over ⊎ GoesThrough (block_of m h o os) left_over →
    IsOwn (block_of m h (past_outer past o) os) left_over ⊎ GoesThrough (block_of m h (past_outer past o) os) left_over
own_past m h o os past begun (inl q) =
    inl (record {
      owner = q.owner;
      end = q.end;
      near = q.near;
      enough = q.enough;
      function = q.function;
      begun = begun;
      kind = q.kind;
      registers = q.registers;
    })
own_past m h o os past begun (inr t) =
    let q = t.is in
    inr (record {
      through = t.through;
      is = record {
        begun = begun;
        there = q.there;
        begins = q.begins;
        procedure = q.procedure;
        function = q.function;
        own = q.own;
        inner = q.inner;
        few = q.few;
        found = (past_like past o.first).ancestors t.through.level ∙ q.found;
        registers = q.registers;
        numbers = q.numbers;
        owner = q.owner;
        end = q.end;
        near = q.near;
        enough = q.enough;
      };
    })

pub past_at :
    {program : Y.Program} {m : Main program} {h : Home} {more blocks : ℕ} {c : Part} {o : Outer} {os : List Outer} →
    IsEntered m h more blocks c o os → (unit : c.unit ≡ false) → IsVisited m h c o os → (writes : Bool) (past : Past) →
    AreBy (ons_in c o) past → IsSet m h more blocks (writing writes c) (past_outer past o) os
past_at {program} {m} {h} {more} {blocks} {c} {o} {os} e unit v writes past known =
    let a = e.at in
    let k = block_of m h o os in
    let placed = visited_placed v in
    let world = ap (λ (u : World). u.acts) (past_world past o.first) in
    let same = past_same past o.first in
    let places = past_places past o.first in
    let l = past_layered past o.first a.free.layer a.free.below a.free.newest in
    let many = past_many past o.first in
    let living = ap automatic_in_use (past_living past o.first) in
    let top = l.top in
    let lower = l.lower in
    let turns = a.turns in
    let enough = a.enough in
    let even = a.free.even in
    let under = a.free.under in
    let used = a.free.used in
    let fits = a.free.fits in
    let deep = a.depth.all in
    let begun = past_begun k (ons_in c o) past placed known a.begun in
    let inner = v.inner in
    record {
      at = record {
        begun = begun;
        source = a.source;
        parts = a.parts;
        around = a.around;
        enter = a.enter;
        turns = omega (arith, turns, world);
        enough = omega (arith, enough, world);
        held = a.held;
        nested = past_nested k (ons_in c o) past placed known a.begun a.nested;
        inside = a.inside;
        variables = λ x is. past_number k past x refl (a.variables x is);
        arrays = λ x is. past_array k past x (grid_known (scope_of m c) x) refl (a.arrays x is);
        narrows = λ x is. past_narrow k past x (type_known (scope_of m c) x) refl (a.narrows x is);
        forced = λ d. past_force a unit v past known d;
        settled = λ jumped outer. absurd (omega (arith, inner, outer));
        oldest = (past_like past o.first).ancestors 0 ∙ a.oldest;
        idle = same.waiting ∙ a.idle;
        code = subst (λ n. n < 2 ^ 16) (sym (past_code past o.first)) a.code;
        told = record {
          code = a.told.code;
          links = a.told.links;
          constants = past_constants past o.first ∙ a.told.constants;
        };
        free = record {
          layer = l.layer;
          below = a.free.below;
          newest = l.newest;
          even = omega (arith, even, top);
          under = omega (arith, under, lower);
          low = subst (λ n. n ≤ (world_of m h).parts.stack_start) (sym same.low) a.free.low;
          used = omega (arith, used, living);
          fits = omega (arith, fits, living, top, lower);
        };
        tabled = λ head.
            subst (λ (ps : _). AreTabled (environment_for program head) ps.signatures
            (variables_of_block program head.number)) (sym places) (a.tabled head);
        depth = record { some = a.depth.some; all = omega (arith, deep, many) };
      };
      words = l.words ∙ e.words;
      clear = λ n. ap (λ waits. waits n) l.waits ∙ e.clear n;
      home = λ own.
          let i = v.home in
          record {
            level = i.level;
            own = i.own;
            block = i.block;
            returns = λ none. own_past m h o os past begun (i.returns none);
            values = λ may one.
                let q = i.values may one in record {
                  owner = q.owner;
                  end = q.end;
                  near = q.near;
                  enough = q.enough;
                  function = q.function;
                  kind = q.kind;
                  saved = q.saved;
                };
          };
    }

-- ---- a function's list

even_same :
    (parts : MemoryParts) (xs : List (Condition × S.OnUnit)) (φs : List Layer) → AreEven parts φs →
    AreEven parts (newest_with xs φs)
even_same parts xs [] e = e
even_same parts xs (φ ∷ φs) e = e

past_image :
    (w : Surroundings) (code : List Instr) (past : Past) (p : Point) → IsImage w code p →
    IsImage w code (past_point past p)
past_image w code [] p i = i
past_image w code (e ∷ past) p i =
    let h = past_image w code past p i in
    record {
      keeper = h.keeper;
      layout = h.layout;
      parts = h.parts;
      even = even_same w.parts _ (past_point past p).control.layers h.even;
    }

past_serials : (past : Past) (p : Point) → (past_point past p).state.serials ≡ p.state.serials
past_serials [] p = refl
past_serials (e ∷ past) p = past_serials past p

pub past_list :
    (k : Block) (ons : List (T.OnUnit × ℕ)) (past : Past) → ArePlaced k.call.surroundings.units ons → AreBy ons past →
    (body : Y.Stmts) (index : ℕ) → IsFunctionList k body index → IsFunctionList (phase_at k past) body index
past_list k ons past placed known body index z =
    let w = k.call.surroundings in
    let begun = past_begun k ons past placed known z.begun in
    let world = ap (λ (u : World). u.acts) (past_world past k.first) in
    let serials = past_serials past k.first in
    let few = z.among.few in
    let called = z.called in
    let enough = z.enough in
    record {
      begun = begun;
      among = record {
        stands = begun.resumes.stands;
        image = past_image w k.call.code past k.first z.among.image;
        later = later_same (past_point past k.first);
        few = omega (arith, few, serials);
        entries = refl;
        others = z.among.others;
        words = z.among.words;
      };
      linked = z.linked;
      kind = z.kind;
      line = z.line;
      acts = z.acts;
      called = omega (arith, called, world);
      enough = omega (arith, enough, world);
      routines = z.routines;
      raises = z.raises;
    }
