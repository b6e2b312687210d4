-- ON, ON with SYSTEM and REVERT come to another phase.
use Rattle.std.proofs.Common.{◌≡◌, ◌⊎◌, inl, inr, ℕ, ◌+◌, ◌*◌, ◌<◌, List, [], ◌∷◌, ◌++◌, Bool, true, false, length}
use Rattle.std.proofs.Common.{refl, sym, ap, ◌∙◌, subst, arith}
use Rattle.pli_language.specs.declared.condition.Condition.{Condition}
use Rattle.pli_typing.specs.TypedTree as Y
use Rattle.rv_meaning.specs.declared.instr.Instr.TheVariants as I
use Rattle.pli_meaning.specs.Control.{Label, Meaning, act, stored, ◌>>◌}
use Rattle.pli_meaning.specs.Executing as M
use Rattle.pli_meaning.specs.StorageState as St
use Rattle.pli_meaning.specs.StorageState.{Activation, State, with_activations, without_unit}
use Rattle.pli_meaning.specs.World.{counted}
use Rattle.pli_serving.specs.Answers.{Done}
use Rattle.pli_serving.specs.OnUnits as U
use Rattle.pli_serving.specs.ServiceState as S
use Rattle.pli_serving.specs.ServiceState.{Services}
use Rattle.pli_coding.specs.Allocating.{act_code}
use Rattle.pli_coding.specs.Arithmetic.{condition_number}
use Rattle.pli_coding.specs.Assembly.{Code, Plain, size_of}
use Rattle.pli_coding.specs.Instructions.{small}
use Rattle.pli_coding.specs.Registers.{a1, a7}
use Rattle.pli_coding.specs.Statements.{condition_given, stmt_code}
use Rattle.storage_relation.specs.Served.{Holds}
use Rattle.storage_relation.proofs.Making.{same_held}
use Rattle.activation_relation.specs.Chains.{StandsAt, UnitPlaces}
use Rattle.activation_relation.specs.Changes.{established, newest_with, reverted, units_of}
use Rattle.activation_relation.specs.Entering.{Later}
use Rattle.activation_relation.specs.Frames.{FramesStand, frame_under}
use Rattle.activation_relation.specs.Landing.{with_units}
use Rattle.activation_relation.specs.Layers.{Layer, Point, now, services_of}
use Rattle.activation_relation.specs.Points.{Stands, Surroundings}
use Rattle.activation_relation.specs.Remaining.{Remains}
use Rattle.activation_relation.proofs.PointSteps.{established_stands, reverted_stands}
use Rattle.activation_relation.proofs.Units.{on_answered, revert_answered}
use Rattle.run_steps.specs.Bodies.{Known}
use Rattle.run_steps.proofs.Bodies.{frame_is, zero_is}
use Rattle.run_steps.specs.Calls.{Calling}
use Rattle.run_steps.proofs.Calls.{call_done, called}
use Rattle.run_steps.specs.Engine.{Base, served}
use Rattle.run_steps.specs.Items.{At, Linked}
use Rattle.run_steps.proofs.Items.{straight}
use Rattle.run_steps.proofs.Jumps.{back_of, front_of}
use Rattle.run_steps.proofs.Linking.{size_append}
use Rattle.run_steps.proofs.Temporaries.{held_is}
use Rattle.run_steps.specs.Reach.{Comes, Family, Reach, cost, reached}
use Rattle.run_steps.proofs.Owing.{comes_owing, done_owing, owing_closed}
use Rattle.run_steps.proofs.Reach.{before_closed, comes_on, reach_map, reach_then, reached_holds, stay}
use Rattle.run_steps.proofs.Reaching.{reach_moved}
use Rattle.run_steps.specs.Temporaries.{nothing}
use Rattle.image_runs.specs.Runs.{Whole}
use Rattle.block_runs.specs.Machines.{AreEven, AreIn, HasParts, IsImage, IsIn, acted, limits_of}
use Rattle.block_runs.proofs.BlockEntries.{small_is}
use Rattle.block_runs.proofs.FrameBeginnings.{stack_is}
use Rattle.block_runs.proofs.Places.{IsFrame}
use Rattle.block_runs.proofs.PointActs.{act_comes}
use Rattle.block_runs.proofs.PointGrounds.{call_is, known_in, point_frame, point_ground}
use Rattle.program_runs.specs.Statements.{Block, IsAmong, IsBegun, set_aside, size_in, size_with, statement_aims}
use Rattle.program_runs.proofs.NewestBlocks.{newest_at}
use Rattle.program_runs.proofs.Statements.{acted_among, statement_closed}
use Rattle.unit_runs.specs.Establishing.{OnUnit, on_of, unit_index, unit_of, with_unit}
use Rattle.unit_runs.proofs.Establishing.{condition_is, number_small, top_same, under_same, unit_does}
use Rattle.phase_runs.specs.Phases.{AreBegun, DoesThrough, Phases, in_phase, phase_aims}
use Rattle.phase_runs.specs.Units.{AreBy, ArePlaced, ByRevert, BySystem, ByUnit, Change, IsAlone, IsBy, IsKept}
use Rattle.phase_runs.specs.Units.{IsListed, Past, PhasesChange, UnitsChange, changed, coded_by, meant_by}
use Rattle.phase_runs.specs.Units.{newest_units, own_units}
use Rattle.phase_runs.specs.Units.{past_point, phases_of, with_change}
use Rattle.phase_runs.proofs.Aims.{comes_in}

-- ---- the changes of the newest block's units

abbrev with_all : Change → List Activation → Point → Point
with_all e as' p =
    record p {
      state = with_activations as' p.state;
      control = record p.control { layers = newest_with (coded_by e (units_of p.control.layers)) p.control.layers };
    }

unit_same :
    (x : OnUnit) (i : ℕ) (as' : List Activation) →
    St.established x.condition (St.BlockUnit (unit_of x)) as' ≡ changed (ByUnit x i) as'
unit_same x i [] = refl
unit_same x i (a ∷ as') = refl

system_same : (c : Condition) (as' : List Activation) → St.established c St.SystemUnit as' ≡ changed (BySystem c) as'
system_same c [] = refl
system_same c (a ∷ as') = refl

none_same : (c : Condition) (as' : List Activation) → St.reverted c as' ≡ changed (ByRevert c) as'
none_same c [] = refl
none_same c (a ∷ as') = refl

pub with_unit_is : (x : OnUnit) (i : ℕ) (p : Point) → with_unit x (unit_index x i) p ≡ with_change (ByUnit x i) p
with_unit_is x i p = ap (λ as'. with_all (ByUnit x i) as' p) (unit_same x i p.state.activations)

with_system_is :
    (c : Condition) (p : Point) → established c St.SystemUnit S.SystemUnit p ≡ with_change (BySystem c) p
with_system_is c p = ap (λ as'. with_all (BySystem c) as' p) (system_same c p.state.activations)

reverted_is : (c : Condition) (p : Point) → reverted c p ≡ with_change (ByRevert c) p
reverted_is c p = ap (λ as'. with_all (ByRevert c) as' p) (none_same c p.state.activations)

-- ---- what they leave as it was

even_same :
    (k : Surroundings) (xs : List (Condition × S.OnUnit)) (φs : List Layer) → AreEven k.parts φs →
    AreEven k.parts (newest_with xs φs)
even_same k xs [] e = e
even_same k xs (φ ∷ φs) e = e

many_same : (us : List (Condition × St.OnUnit)) (as' : List Activation) → length (newest_units us as') ≡ length as'
many_same us [] = refl
many_same us (a ∷ as') = refl

frames_same :
    (k : Surroundings) (base : ℕ) (m : List ℕ) (us : List (Condition × St.OnUnit)) (xs : List (Condition × S.OnUnit))
    (as' : List Activation) (φs : List Layer) → FramesStand k.parts base m as' φs →
    FramesStand k.parts base m (newest_units us as') (newest_with xs φs)
frames_same k base m us xs [] [] h = h
frames_same k base m us xs [] (φ ∷ φs) h = absurd h
frames_same k base m us xs (a ∷ as') [] h = absurd h
frames_same k base m us xs (a ∷ as') (φ ∷ φs) h = (
  record {
    back = h.0.back;
    below = h.0.below;
    saved = h.0.saved;
    own = h.0.own;
    lower = h.0.lower;
    display_words = h.0.display_words;
    waits = h.0.waits;
    told = h.0.told;
    list = h.0.list;
  },
  h.1,
)

holds_same : (e : Change) (p : Point) (m : List ℕ) → Holds (now p m) → Holds (now (with_change e p) m)
holds_same e p m h =
    record {
      keeps = h.keeps;
      heap = record { at = h.heap.at; capacity = h.heap.capacity };
      lives = record { falling = h.lives.falling; numbered = h.lives.numbered; extents = h.lives.extents };
      stored = same_held p.keeper p.places p.state (with_change e p).state m refl refl h.stored;
      distinct = h.distinct;
    }

remains_changed : (e : Change) (p q : Point) → Remains p q → Remains (with_change e p) (with_change e q)
remains_changed e p q r =
    let n = many_same (meant_by e (own_units p.state.activations)) p.state.activations in
    let m = many_same (meant_by e (own_units q.state.activations)) q.state.activations in
    let active = r.active in
    record {
      living = r.living;
      serials = r.serials;
      at = r.at;
      number = r.number;
      signatures = r.signatures;
      statics = r.statics;
      low = r.low;
      constants = r.constants;
      active = omega (arith, n, m, active);
      in_use = λ height low. r.in_use height (omega (arith, n, low));
    }

later_changed : (e : Change) (p q : Point) → Later p q → Later (with_change e p) (with_change e q)
later_changed e p q l =
    record {
      activations = ap (λ as'. changed e as') l.activations;
      layers = ap (λ ls. newest_with (coded_by e (units_of ls)) ls) l.layers;
      edits = l.edits;
      waiting = l.waiting;
      acts = l.acts;
      remains = remains_changed e p q l.remains;
    }

-- the block still stands
abbrev Keeps : Block → Change → Type 0
Keeps k e = (p : Point) → Stands k.call.surroundings p → Stands k.call.surroundings (with_change e p)

among_changed :
    (k : Block) (e : Change) {numbers : ℕ → ℕ} {p : Point} → Keeps k e → IsAmong k numbers p →
    IsAmong (in_phase k (with_change e k.first)) numbers (with_change e p)
among_changed k e {p = p} keeps o =
    record {
      stands = keeps p o.stands;
      image = record {
        keeper = o.image.keeper;
        layout = o.image.layout;
        parts = o.image.parts;
        even = even_same k.call.surroundings _ p.control.layers o.image.even;
      };
      later = later_changed e k.first p o.later;
      few = o.few;
      entries = o.entries;
      others = o.others;
      words = o.words;
    }

begun_changed : (k : Block) (e : Change) → Keeps k e → IsBegun k → IsBegun (in_phase k (with_change e k.first))
begun_changed k e keeps b =
    let r = b.resumes in
    let active = many_same (meant_by e (own_units k.first.state.activations)) k.first.state.activations in
    let more = b.remains.active in
    record {
      activation = b.activation;
      resumes = record {
        stands = keeps k.first r.stands;
        idle = r.idle;
        changed = record r.changed { units = coded_by e r.changed.units };
        layers = ap (λ ls. newest_with (coded_by e (units_of ls)) ls) r.layers;
        own = meant_by e r.own;
        activations = ap (λ as'. changed e as') r.activations;
        more = r.more;
      };
      acts = b.acts;
      remains = record {
        living = b.remains.living;
        serials = b.remains.serials;
        at = b.remains.at;
        number = b.remains.number;
        signatures = b.remains.signatures;
        statics = b.remains.statics;
        low = b.remains.low;
        constants = b.remains.constants;
        active = omega (arith, active, more);
        in_use = b.remains.in_use;
      };
      outer = b.outer;
    }

keeps_unit :
    (k : Block) (x : OnUnit) (i : ℕ) → StandsAt k.call.surroundings.units (unit_of x) (4 * unit_index x i) →
    Keeps k (ByUnit x i)
keeps_unit k x i place p stands =
    subst (λ q. Stands k.call.surroundings q) (with_unit_is x i p)
    (established_stands k.call.surroundings p x.condition (St.BlockUnit (unit_of x))
    (S.CodeUnit (4 * unit_index x i)) stands place)

keeps_system : (k : Block) (c : Condition) → Keeps k (BySystem c)
keeps_system k c p stands =
    subst (λ q. Stands k.call.surroundings q) (with_system_is c p)
    (established_stands k.call.surroundings p c St.SystemUnit S.SystemUnit stands tt)

keeps_none : (k : Block) (c : Condition) → Keeps k (ByRevert c)
keeps_none k c p stands =
    subst (λ q. Stands k.call.surroundings q) (reverted_is c p) (reverted_stands k.call.surroundings p c stands)

-- ---- the phases that they give a block

listed_stands :
    (units : UnitPlaces) (ons : List (OnUnit × ℕ)) (e : OnUnit × ℕ) → ArePlaced units ons → IsListed e ons →
    StandsAt units (unit_of e.0) (4 * unit_index e.0 e.1)
listed_stands units [] e placed is = absurd is
listed_stands units (on ∷ ons) e placed (inl same) =
    subst (λ (o : OnUnit × ℕ). StandsAt units (unit_of o.0) (4 * unit_index o.0 o.1)) same placed.0
listed_stands units (on ∷ ons) e placed (inr later) = listed_stands units ons e placed.1 later

keeps_by :
    (k : Block) (ons : List (OnUnit × ℕ)) (e : Change) → ArePlaced k.call.surroundings.units ons → IsBy ons e →
    Keeps k e
keeps_by k ons (ByUnit x i) placed is =
    keeps_unit k x i (listed_stands k.call.surroundings.units ons (x, i) placed is)
keeps_by k ons (BySystem c) placed is = keeps_system k c
keeps_by k ons (ByRevert c) placed is = keeps_none k c

pub past_begun :
    (k : Block) (ons : List (OnUnit × ℕ)) (past : Past) → ArePlaced k.call.surroundings.units ons → AreBy ons past →
    IsBegun k → IsBegun (in_phase k (past_point past k.first))
past_begun k ons [] placed by b = b
past_begun k ons (e ∷ past) placed by b =
    begun_changed (in_phase k (past_point past k.first)) e (keeps_by k ons e placed by.0)
    (past_begun k ons past placed by.1 b)

pub phases_change : (k : Block) (ons : List (OnUnit × ℕ)) → PhasesChange k ons
phases_change k ons =
    record {
      first = ([], tt, refl);
      kept = λ e by first is. (e ∷ is.0, (by, is.1), ap (with_change e) is.2);
      begun = λ b placed first is.
          subst (λ q. IsBegun (in_phase k q)) (sym is.2) (past_begun k ons is.0 placed is.1 b);
    }

-- ---- the code behind the act

-- a machine that knows the services of the point behind is one at it
changed_in :
    (k : Block) {p : Point} {numbers : ℕ → ℕ} {index : ℕ} {b : Base} {y : Whole} (e : Change)
    (h : IsFrame (frame_under k.call.surroundings.parts p.control.layers)) → HasParts k.call.surroundings.parts →
    At b index (Known (point_ground k.call.surroundings p h) (services_of (with_change e p)) numbers (λ n. 0) nothing
    b) y → IsIn k.call.surroundings (with_change e p) numbers index b y
changed_in k {p} {numbers} {index} {b} {y} e h parts o =
    let w = k.call.surroundings in
    let body = o.holds.body in
    let g = point_ground w p h in
    let last = parts.inside in
    let bytes = body.bytes in
    record {
      services = body.services;
      at = record {
        pc = o.pc;
        frame = frame_is body ∙ ap (λ n. b.at + n) (sym (under_same w _ p.control.layers));
        top = stack_is g b numbers y.machine.registers body.registers
            ∙ ap (λ n. b.at + n) (sym (top_same w _ p.control.layers));
        registers = λ n less. held_is n g b numbers y.machine.registers less body.registers;
        room = omega (arith, bytes, last);
        frames = frames_same w b.at y.machine.memory (meant_by e (own_units p.state.activations)) _ p.state.activations
            p.control.layers body.memory.frames;
        storage = holds_same e p y.machine.memory body.memory.storage;
      };
      zero = zero_is body;
      bytes = body.bytes;
    }

-- a machine that calls a service which changes them comes to the point behind
changed_reach :
    (k : Block) (e : Change) (i n number : ℕ) (given : Base → ℕ) {numbers : ℕ → ℕ} {p : Point} (c : ℕ) (f : Family) →
    (o : IsAmong k numbers p) → Linked k.call.surroundings.links k.call.code i (Plain I.Ecall ∷ []) →
    ((b : Base) →
    At b i
    (Known (point_ground k.call.surroundings p (point_frame o.stands o.image)) (services_of p) numbers (λ j. 0)
    nothing b)
    (f b)) →
    ((b : Base) →
    served k.call.code (f b) ≡ Done (services_of (with_change e p)) (f b).machine.memory number (given b)) →
    Reach k.call.code c f (services_of p) (c + 1) (services_of (with_change e p))
    (λ b y. IsIn k.call.surroundings (with_change e p) numbers (i + 1) b y)
changed_reach k e i n number given {numbers} {p} c f o l there answers =
    let w = k.call.surroundings in
    let h = point_frame o.stands o.image in
    let g = point_ground w p h in
    let v' = services_of (with_change e p) in
    let calling : Calling w.links k.call.code i f (λ b. Done v' (f b).machine.memory number (given b)) =
    record { linked = l; pc = λ b. (there b).pc; answers = answers } in
    let r = call_done c f (services_of p) v' (λ b. (f b).machine.memory) (λ b. number) given
    (λ b. Known g v' numbers (λ j. 0) nothing b) (omega arith) calling
    (λ b. let q = (there b).holds.body in
    record {
      body = record { services = refl {a = v'}; registers = q.registers; bytes = q.bytes; memory = q.memory };
      regs = tt;
    }) in
    reach_map _ r (λ b y q. changed_in k e h o.image.parts q)

-- ---- the statements

-- behind the act some code comes to the point with the change, as the statement means it
changes_through :
    (words : ℕ) (k : Block) (ps : Phases) (labels : List Label) (e : Change) (stmt : Y.Stmt) (line index left' : ℕ)
    (rest : Code) → stmt_code k.environment (set_aside words) stmt ≡ act_code line ++ rest →
    (meant : List Activation → List Activation) → ((as' : List Activation) → meant as' ≡ changed e as') →
    ((p : Point) → M.statement k.around stmt k.call.surroundings.acts p.state
    ≡ (act counted >> stored (λ s. with_activations (meant s.activations) s)) k.call.surroundings.acts p.state) →
    IsAlone words k stmt line index → AreBegun k ps → Keeps k e → IsKept ps e →
    ((first : Point) → ps first → (p : Point) (numbers : ℕ → ℕ) (c : ℕ) (f : Family) →
    IsAmong (in_phase k first) numbers p →
    Linked k.call.surroundings.links k.call.code (index + size_of (act_code line)) rest →
    AreIn k.call.surroundings p numbers (index + size_of (act_code line)) f →
    Reach k.call.code c f (services_of p) (c + size_of rest) (services_of (with_change e p))
    (λ b y. IsIn k.call.surroundings (with_change e p) numbers (index + size_of (act_code line) + size_of rest) b y)) →
    DoesThrough words k ps labels stmt index left'
unfolding stored ◌>>◌
changes_through words k ps labels e stmt line index left' rest coded meant same means h begun keeps goes reach' first
    is p numbers c wanted f o paid there =
    let w = k.call.surroundings in
    let one = act_code line in
    let n0 = ap (λ u. size_of u) coded in
    let n1 = size_append one rest in
    let l = subst (Linked w.links k.call.code index) coded h.statement in
    let acts = p.state.world.acts in
    let end = index + size_with words k stmt in
    let k' = in_phase k (with_change e first) in
    let debt = size_of rest in
    let goal = statement_aims k' labels acts end wanted left' in
    let closed = statement_closed k' labels acts end wanted left' in
    let next' : Unit {0} → Meaning (Unit {0}) =
    λ u. stored (λ s. with_activations (meant s.activations) s) in
    comes_in (limits_of w) ps (λ q. statement_aims (in_phase k q) labels acts end wanted left') (with_change e first)
    (goes first is) refl (M.statement k.around stmt w.acts p.state)
    (subst (Comes k.call.code c f (services_of p) goal) (sym (means p))
    (comes_owing debt ((act counted >> next' tt) w.acts p.state)
    (comes_on w.acts (act counted w.acts p.state) next'
    (act_comes (before_closed w.acts next' (owing_closed k.call.code debt goal)) line (c + debt) 0 f
    (o.stands, o.image) (h.act.line_fits, h.act.acts, omega (arith, paid, n0, n1)) (front_of one rest l) there
    (λ g less at.
    let p' = acted line p in
    let o' = acted_among line o less in
    let r = reach' first is p' numbers 0 g o' (back_of one rest l) at in
    record {
      to = λ early. done_owing closed debt wanted (omega arith) r tt
          (with_activations (meant p'.state.activations) p'.state)
          (λ g' at'. record {
            point = with_change e p';
            numbers = numbers;
            among = among_changed (in_phase k first) e keeps o';
            since = omega arith;
            state = ap (λ as'. with_activations as' p'.state) (same p'.state.activations);
            reach = stay k.call.code wanted g' (services_of (with_change e p'))
                (λ b y. IsIn w (with_change e p') numbers end b y)
                (λ b. subst (λ j. IsIn w (with_change e p') numbers j b (g' b)) (omega (arith, n0, n1)) (at' b));
          });
    })))))

-- ---- each of them

-- a0 has the condition's number, a1 what ON gives it, and a7 the service's
abbrev asked_with : (n number : ℕ) → List (ℕ × ℕ) → Base → List (ℕ × ℕ)
asked_with n number more b = (17, n) ∷ (10, number) ∷ more

system_reach :
    (k : Block) (c : Condition) (i : ℕ) (p : Point) (numbers : ℕ → ℕ) (credits : ℕ) (f : Family) → IsBegun k →
    (o : IsAmong k numbers p) →
    Linked k.call.surroundings.links k.call.code i
    (condition_given c ∷ small a1 0 ∷ small a7 28 ∷ Plain I.Ecall ∷ []) →
    AreIn k.call.surroundings p numbers i f →
    Reach k.call.code credits f (services_of p) (credits + 4) (services_of (with_change (BySystem c) p))
    (λ b y. IsIn k.call.surroundings (with_change (BySystem c) p) numbers (i + 4) b y)
system_reach k c i p numbers credits f b o l there =
    let w = k.call.surroundings in
    let h = point_frame o.stands o.image in
    let g = point_ground w p h in
    let number = condition_number c in
    let front = condition_given c ∷ small a1 0 ∷ small a7 28 ∷ [] in
    let n = newest_at b o in
    let r1 = straight credits f (services_of p) (services_of p)
    (λ b'. Known g (services_of p) numbers (λ j. 0) (asked_with 28 number ((11, 0) ∷ [])) b')
    (front_of front (Plain I.Ecall ∷ []) l) (omega arith)
    (λ b'. (known_in {t = λ j. 0} {rs = nothing} h (there b') tt).pc)
    (λ b'. let q = (known_in {t = λ j. 0} {rs = nothing} h (there b') tt).holds in record {
      body = record {
        services = q.body.services;
        registers = q.body.registers;
        bytes = q.body.bytes;
        memory = q.body.memory;
      };
      regs = (
        small_is _ 28 (zero_is q.body) (omega arith),
        (small_is _ number (zero_is q.body) (number_small c), (small_is _ 0 (zero_is q.body) (omega arith), tt)),
      );
    }) in
    let f1 = reached r1 in
    let r2 = changed_reach k (BySystem c) (i + 3) 28 number (λ b'. 0) (credits + 3) f1 o
    (back_of front (Plain I.Ecall ∷ []) l)
    (λ b'. let q = reached_holds r1 b' in record { pc = q.pc; holds = record { body = q.holds.body; regs = tt } })
    (λ b'.
    let q = (reached_holds r1 b').holds in
    let m = (f1 b').machine.memory in
    let y = (f1 b').machine.registers in
    called k.call.code (f1 b') (services_of p) 28 number 0 (y 12) (y 13) (y 14)
    (λ call x0 x1 x2 x3 x4. U.on_served call x0 x1) q.body.services q.regs.0 q.regs.1.0 q.regs.1.1.0 refl refl refl
    (λ call y'. refl)
    ∙ ap (λ call'. U.on_served call' number 0) (call_is w k.call.code p m o.image)
    ∙ on_answered p m n.layer k.call.point.control.layers c St.SystemUnit number 0 n.layers (condition_is c)
    ∙ ap (λ s. Done (services_of s) m number 0) (with_system_is c p)) in
    subst (λ m. Reach k.call.code credits f (services_of p) m (services_of (with_change (BySystem c) p))
    (λ b' y. IsIn w (with_change (BySystem c) p) numbers (i + 4) b' y)) (omega arith)
    (reach_map _ (reach_then r1 r2)
    (λ b' y q. subst (λ j. IsIn w (with_change (BySystem c) p) numbers j b' y) (omega arith) q))

revert_reach :
    (k : Block) (c : Condition) (i : ℕ) (p : Point) (numbers : ℕ → ℕ) (credits : ℕ) (f : Family) → IsBegun k →
    (o : IsAmong k numbers p) →
    Linked k.call.surroundings.links k.call.code i (condition_given c ∷ small a7 29 ∷ Plain I.Ecall ∷ []) →
    AreIn k.call.surroundings p numbers i f →
    Reach k.call.code credits f (services_of p) (credits + 3) (services_of (with_change (ByRevert c) p))
    (λ b y. IsIn k.call.surroundings (with_change (ByRevert c) p) numbers (i + 3) b y)
revert_reach k c i p numbers credits f b o l there =
    let w = k.call.surroundings in
    let h = point_frame o.stands o.image in
    let g = point_ground w p h in
    let number = condition_number c in
    let front = condition_given c ∷ small a7 29 ∷ [] in
    let n = newest_at b o in
    let r1 = straight credits f (services_of p) (services_of p)
    (λ b'. Known g (services_of p) numbers (λ j. 0) (asked_with 29 number []) b')
    (front_of front (Plain I.Ecall ∷ []) l) (omega arith)
    (λ b'. (known_in {t = λ j. 0} {rs = nothing} h (there b') tt).pc)
    (λ b'. let q = (known_in {t = λ j. 0} {rs = nothing} h (there b') tt).holds in record {
      body = record {
        services = q.body.services;
        registers = q.body.registers;
        bytes = q.body.bytes;
        memory = q.body.memory;
      };
      regs = (
        small_is _ 29 (zero_is q.body) (omega arith),
        (small_is _ number (zero_is q.body) (number_small c), tt),
      );
    }) in
    let f1 = reached r1 in
    let given : Base → ℕ = λ b'. (f1 b').machine.registers 11 in
    let r2 = changed_reach k (ByRevert c) (i + 2) 29 number given (credits + 2) f1 o
    (back_of front (Plain I.Ecall ∷ []) l)
    (λ b'. let q = reached_holds r1 b' in record { pc = q.pc; holds = record { body = q.holds.body; regs = tt } })
    (λ b'.
    let q = (reached_holds r1 b').holds in
    let m = (f1 b').machine.memory in
    let y = (f1 b').machine.registers in
    called k.call.code (f1 b') (services_of p) 29 number (y 11) (y 12) (y 13) (y 14)
    (λ call x0 x1 x2 x3 x4. U.revert_served call x0 x1) q.body.services q.regs.0 q.regs.1.0 refl refl refl refl
    (λ call y'. refl)
    ∙ ap (λ call'. U.revert_served call' number (y 11)) (call_is w k.call.code p m o.image)
    ∙ revert_answered p m n.layer k.call.point.control.layers c number (y 11) n.layers (condition_is c)
    ∙ ap (λ s. Done (services_of s) m number (y 11)) (reverted_is c p)) in
    subst (λ m. Reach k.call.code credits f (services_of p) m (services_of (with_change (ByRevert c) p))
    (λ b' y. IsIn w (with_change (ByRevert c) p) numbers (i + 3) b' y)) (omega arith)
    (reach_map _ (reach_then r1 r2)
    (λ b' y q. subst (λ j. IsIn w (with_change (ByRevert c) p) numbers j b' y) (omega arith) q))

pub on_through :
    (words : ℕ) (k : Block) (ps : Phases) (labels : List Label) (x : OnUnit) (index left' : ℕ) →
    IsAlone words k (on_of x) x.line index → AreBegun k ps →
    StandsAt k.call.surroundings.units (unit_of x) (4 * unit_index x index) → IsKept ps (ByUnit x index) →
    DoesThrough words k ps labels (on_of x) index left'
on_through words k ps labels x index left' h begun place kept first is p numbers c wanted f o paid there =
    let acts = p.state.world.acts in
    comes_in (limits_of k.call.surroundings) ps
    (λ q. statement_aims (in_phase k q) labels acts (index + size_in k (on_of x)) wanted left')
    (with_unit x (unit_index x index) first) (subst ps (sym (with_unit_is x index first)) (kept first is))
    refl (M.statement k.around (on_of x) k.call.surroundings.acts p.state)
    (unit_does (in_phase k first) labels x index left'
    (record {
      act = record { line_fits = h.act.line_fits; acts = h.act.acts };
      begun = begun first is;
      statement = h.statement;
      place = place;
    })
    p numbers c wanted f o paid there)

pub system_through :
    (words : ℕ) (k : Block) (ps : Phases) (labels : List Label) (c : Condition) (line index left' : ℕ) →
    IsAlone words k (Y.OnSystem c line) line index → AreBegun k ps → IsKept ps (BySystem c) →
    DoesThrough words k ps labels (Y.OnSystem c line) index left'
unfolding M.statement M.established_by stored ◌>>◌
system_through words k ps labels c line index left' h begun kept =
    changes_through words k ps labels (BySystem c) (Y.OnSystem c line) line index left'
    (condition_given c ∷ small a1 0 ∷ small a7 28 ∷ Plain I.Ecall ∷ []) refl (St.established c St.SystemUnit)
    (system_same c) (λ p. refl) h begun (keeps_system k c) kept
    (λ first is p numbers credits f o l at.
    system_reach (in_phase k first) c (index + size_of (act_code line)) p numbers credits f (begun first is) o l at)

pub revert_through :
    (words : ℕ) (k : Block) (ps : Phases) (labels : List Label) (c : Condition) (line index left' : ℕ) →
    IsAlone words k (Y.Revert c line) line index → AreBegun k ps → IsKept ps (ByRevert c) →
    DoesThrough words k ps labels (Y.Revert c line) index left'
unfolding M.statement M.established_by stored ◌>>◌
revert_through words k ps labels c line index left' h begun kept =
    changes_through words k ps labels (ByRevert c) (Y.Revert c line) line index left'
    (condition_given c ∷ small a7 29 ∷ Plain I.Ecall ∷ []) refl (St.reverted c) (none_same c) (λ p. refl)
    h begun (keeps_none k c) kept
    (λ first is p numbers credits f o l at.
    revert_reach (in_phase k first) c (index + size_of (act_code line)) p numbers credits f (begun first is) o l at)

pub units_change : (k : Block) (ps : Phases) → UnitsChange k ps
units_change k ps =
    record {
      on = λ words labels x index left' h begun place kept.
          on_through words k ps labels x index left' h begun place kept;
      system = λ words labels c line index left' h begun kept.
          system_through words k ps labels c line index left' h begun kept;
      revert = λ words labels c line index left' h begun kept.
          revert_through words k ps labels c line index left' h begun kept;
    }
