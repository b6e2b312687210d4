-- ON with a unit: its code, the point behind it, and what stays as it was.
use Rattle.std.proofs.Common.{◌≡◌, ℕ, suc, ◌+◌, ◌*◌, ◌^◌, ◌<◌, ◌≤◌, ◌⊎◌, inl, inr, List, [], ◌∷◌, ◌++◌, Bool, Some}
use Rattle.std.proofs.Common.{true, false, length, refl, sym, ap, ◌∙◌, subst, arith}
use Rattle.std.proofs.lemmas.Bool.Decides.{nat_tests}
use Rattle.std.specs.Prelude.{cond, ◌==◌}
use Rattle.pli_language.specs.declared.condition.Condition.{Condition}
use Rattle.pli_language.specs.declared.condition.Condition.TheVariants as C
use Rattle.rv_meaning.specs.declared.instr.Instr.{Instr}
use Rattle.rv_meaning.specs.declared.instr.Instr.TheVariants as I
use Rattle.rv_meaning.specs.declared.instr.ImmediateOp.TheVariants as Imm
use Rattle.rv_meaning.specs.declared.instr.Register.{Register}
use Rattle.rv_meaning.specs.Words.{sum, word}
use Rattle.rv_meaning.specs.Machine.{written}
use Rattle.pli_meaning.specs.Control.{Label, Meaning, act, stored, ◌>>◌}
use Rattle.pli_meaning.specs.Executing as M
use Rattle.pli_meaning.specs.StorageState as St
use Rattle.pli_meaning.specs.StorageState.{Activation, BlockUnit, ancestor, binding_in, force, height_of, newest_height}
use Rattle.pli_meaning.specs.StorageState.{with_activations}
use Rattle.pli_meaning.specs.World.{counted}
use Rattle.pli_serving.specs.Answers.{Done}
use Rattle.pli_serving.specs.OnUnits as U
use Rattle.pli_serving.specs.ServiceState as S
use Rattle.pli_serving.specs.ServiceState.{CodeUnit, Services}
use Rattle.pli_coding.specs.Allocating.{act_code}
use Rattle.pli_coding.specs.Arithmetic.{condition_number}
use Rattle.pli_coding.specs.Assembly.{Code, JumpAhead, OffsetAhead, Plain, size_of}
use Rattle.pli_coding.specs.Environments.{none_taken}
use Rattle.pli_coding.specs.Instructions.{small}
use Rattle.pli_coding.specs.Linking.{Links, lower_part, upper_part}
use Rattle.pli_coding.specs.Registers.{a1, a7}
use Rattle.pli_coding.specs.Statements.{condition_given, stmts_code, unit_code, unit_environment}
use Rattle.pli_coding.specs.Statements.{unit_held, unit_words}
use Rattle.storage_relation.specs.Served.{Holds}
use Rattle.storage_relation.proofs.Making.{same_held}
use Rattle.activation_relation.specs.Chains.{AreActive, frame_at}
use Rattle.activation_relation.specs.Changes.{established, newest_with, units_of}
use Rattle.activation_relation.specs.Entering.{Later}
use Rattle.activation_relation.specs.Frames.{FramesStand, frame_under, upper_top}
use Rattle.activation_relation.specs.Landing.{Changed, resumed, with_units}
use Rattle.activation_relation.specs.Layers.{Layer, Point, now, services_of}
use Rattle.activation_relation.specs.Points.{Stands, Surroundings}
use Rattle.activation_relation.specs.ServiceLaws.{at_point}
use Rattle.activation_relation.specs.Remaining.{Remains}
use Rattle.activation_relation.proofs.PointSteps.{established_stands}
use Rattle.activation_relation.proofs.Units.{on_answered}
use Rattle.run_steps.specs.Bodies.{Free, Ground, Known, with'}
use Rattle.run_steps.proofs.Bodies.{frame_is, lose_known, set_known, zero_is}
use Rattle.run_steps.specs.Calls.{Calling}
use Rattle.run_steps.proofs.Calls.{call_done, called}
use Rattle.run_steps.specs.Engine.{Base, HasAt, address}
use Rattle.run_steps.specs.Items.{At, Linked}
use Rattle.run_steps.proofs.Items.{parts_sum, straight}
use Rattle.run_steps.proofs.Jumps.{ahead_piece, back_of, front_of}
use Rattle.run_steps.proofs.Linking.{size_append}
use Rattle.run_steps.proofs.Temporaries.{held_is}
use Rattle.run_steps.specs.Reach.{Comes, Family, Reach, cost, reached}
use Rattle.run_steps.proofs.Owing.{comes_owing, done_owing, owing_closed}
use Rattle.run_steps.proofs.Reach.{before_closed, comes_on, reach_map, reach_then, reached_holds, stay}
use Rattle.run_steps.proofs.Reaching.{reach_moved}
use Rattle.run_steps.specs.Temporaries.{nothing}
use Rattle.image_runs.specs.Runs.{Whole}
use Rattle.block_runs.specs.Machines.{AreEven, AreIn, HasParts, IsImage, IsIn, acted}
use Rattle.block_runs.proofs.BlockEntries.{small_is}
use Rattle.block_runs.proofs.FrameBeginnings.{stack_is}
use Rattle.block_runs.proofs.Places.{IsFrame}
use Rattle.block_runs.proofs.PointActs.{act_comes}
use Rattle.block_runs.proofs.PointGrounds.{call_is, known_in, point_frame, point_ground}
use Rattle.program_runs.specs.Statements.{Block, IsAmong, IsBegun, own_height, size_in, statement_aims}
use Rattle.program_runs.proofs.NewestBlocks.{newest_at}
use Rattle.program_runs.proofs.Statements.{acted_among, statement_closed}
use Rattle.expression_runs.specs.Variables.{IsFrameOf, IsNumber, Spot}
use Rattle.unit_runs.specs.Establishing.{IsInForce, IsOn, OnUnit, UnitsEstablished, behind_on, on_of, unit_index}
use Rattle.unit_runs.specs.Establishing.{unit_of, with_unit}

-- ---- what the newest block's units leave as it was

pub under_same :
    (k : Surroundings) (xs : List (Condition × S.OnUnit)) (φs : List Layer) →
    frame_under k.parts (newest_with xs φs) ≡ frame_under k.parts φs
under_same k xs [] = refl
under_same k xs (φ ∷ φs) = refl

pub top_same :
    (k : Surroundings) (xs : List (Condition × S.OnUnit)) (φs : List Layer) →
    upper_top k.parts (newest_with xs φs) ≡ upper_top k.parts φs
top_same k xs [] = refl
top_same k xs (φ ∷ φs) = refl

even_same :
    (k : Surroundings) (xs : List (Condition × S.OnUnit)) (φs : List Layer) → AreEven k.parts φs →
    AreEven k.parts (newest_with xs φs)
even_same k xs [] e = e
even_same k xs (φ ∷ φs) e = e

length_same : (xs : List (Condition × S.OnUnit)) (φs : List Layer) → length (newest_with xs φs) ≡ length φs
length_same xs [] = refl
length_same xs (φ ∷ φs) = refl

frame_same :
    (xs : List (Condition × S.OnUnit)) (φs : List Layer) (height : ℕ) →
    frame_at (newest_with xs φs) height ≡ frame_at φs height
frame_same xs [] height = refl
frame_same xs (φ ∷ φs) height = refl

pub active_length :
    (c : Condition) (u : St.OnUnit) (as' : List Activation) → length (St.established c u as') ≡ length as'
active_length c u [] = refl
active_length c u (a ∷ as') = refl

-- the ancestors of the newest block are the same ones, as far as heights and variables go
pub height_same :
    (c : Condition) (u : St.OnUnit) (as' : List Activation) (level : ℕ) →
    height_of (ancestor (St.established c u as') (newest_height (St.established c u as')) level)
    ≡ height_of (ancestor as' (newest_height as') level)
height_same c u [] level = refl
height_same c u (a ∷ as') level =
    by (a.height == a.height) (a.level == level)
  where
    by :
        (q r : Bool) →
        height_of (cond q (cond r (Some (with_units ((c, u) ∷ St.without_unit c a.units) a))
        (ancestor as' a.parent level)) (ancestor as' a.height level))
        ≡ height_of (cond q (cond r (Some a) (ancestor as' a.parent level)) (ancestor as' a.height level))
    by true true = refl
    by true false = refl
    by false r = refl

binding_same :
    (c : Condition) (u : St.OnUnit) (as' : List Activation) (level variable : ℕ) →
    binding_in (ancestor (St.established c u as') (newest_height (St.established c u as')) level) variable
    ≡ binding_in (ancestor as' (newest_height as') level) variable
binding_same c u [] level variable = refl
binding_same c u (a ∷ as') level variable =
    by (a.height == a.height) (a.level == level)
  where
    by :
        (q r : Bool) →
        binding_in (cond q (cond r (Some (with_units ((c, u) ∷ St.without_unit c a.units) a))
        (ancestor as' a.parent level)) (ancestor as' a.height level)) variable
        ≡ binding_in (cond q (cond r (Some a) (ancestor as' a.parent level)) (ancestor as' a.height level)) variable
    by true true = refl
    by true false = refl
    by false r = refl

frames_same :
    (k : Surroundings) (base : ℕ) (m : List ℕ) (c : Condition) (u : St.OnUnit) (xs : List (Condition × S.OnUnit))
    (as' : List Activation) (φs : List Layer) → FramesStand k.parts base m as' φs →
    FramesStand k.parts base m (St.established c u as') (newest_with xs φs)
frames_same k base m c u xs [] [] h = h
frames_same k base m c u xs [] (φ ∷ φs) h = absurd h
frames_same k base m c u xs (a ∷ as') [] h = absurd h
frames_same k base m c u xs (a ∷ as') (φ ∷ φs) h = (
  record {
    back = h.0.back;
    below = h.0.below;
    saved = h.0.saved;
    own = h.0.own;
    lower = h.0.lower;
    display_words = h.0.display_words;
    waits = h.0.waits;
    told = h.0.told;
    list = h.0.list;
  },
  h.1,
)

holds_same : (x : OnUnit) (at : ℕ) (p : Point) (m : List ℕ) → Holds (now p m) → Holds (now (with_unit x at p) m)
holds_same x at p m h =
    record {
      keeps = h.keeps;
      heap = record { at = h.heap.at; capacity = h.heap.capacity };
      lives = record { falling = h.lives.falling; numbered = h.lives.numbered; extents = h.lives.extents };
      stored = same_held p.keeper p.places p.state (with_unit x at p).state m refl refl h.stored;
      distinct = h.distinct;
    }

-- what lived lives, on both ways
remains_unit :
    (p q : Point) (x : OnUnit) (at : ℕ) → Remains p q → Remains (with_unit x at p) (with_unit x at q)
remains_unit p q x at r =
    let u = BlockUnit (unit_of x) in
    let n = active_length x.condition u p.state.activations in
    let m = active_length x.condition u q.state.activations in
    let active = r.active in
    record {
      living = r.living;
      serials = r.serials;
      at = r.at;
      number = r.number;
      signatures = r.signatures;
      statics = r.statics;
      low = r.low;
      constants = r.constants;
      active = omega (arith, n, m, active);
      in_use = λ height low. r.in_use height (omega (arith, n, low));
    }

-- ---- points

unit_stands :
    (k : Block) (x : OnUnit) (index : ℕ) (p : Point) → IsOn k x index →
    Stands k.call.surroundings p × IsImage k.call.surroundings k.call.code p →
    Stands k.call.surroundings (with_unit x (unit_index x index) p)
    × IsImage k.call.surroundings k.call.code (with_unit x (unit_index x index) p)
unit_stands k x index p h known =
    let w = k.call.surroundings in (
      established_stands w p x.condition (BlockUnit (unit_of x)) (CodeUnit (4 * unit_index x index)) known.0 h.place,
      record {
        keeper = known.1.keeper;
        layout = known.1.layout;
        parts = known.1.parts;
        even = even_same w _ p.control.layers known.1.even;
      },
    )

later_unit : (p q : Point) (x : OnUnit) (at : ℕ) → Later p q → Later (with_unit x at p) (with_unit x at q)
later_unit p q x at l =
    record {
      activations = ap (λ as'. St.established x.condition (BlockUnit (unit_of x)) as') l.activations;
      layers = ap (λ ls. newest_with ((x.condition, CodeUnit (4 * at)) ∷ St.without_unit x.condition (units_of ls)) ls)
          l.layers;
      edits = l.edits;
      waiting = l.waiting;
      acts = l.acts;
      remains = remains_unit p q x at l.remains;
    }

pub unit_among :
    (k : Block) (x : OnUnit) (index : ℕ) {numbers : ℕ → ℕ} {p : Point} → IsOn k x index → IsAmong k numbers p →
    IsAmong (behind_on k x index) numbers (with_unit x (unit_index x index) p)
unit_among k x index {p = p} h o =
    let known = unit_stands k x index p h (o.stands, o.image) in
    record {
      stands = known.0;
      image = known.1;
      later = later_unit k.first p x (unit_index x index) o.later;
      few = o.few;
      entries = o.entries;
      others = o.others;
      words = o.words;
    }

abbrev changed_unit : OnUnit → (at : ℕ) → Changed → Changed
changed_unit x at c = record c { units = (x.condition, CodeUnit (4 * at)) ∷ St.without_unit x.condition c.units }

pub unit_begun : (k : Block) (x : OnUnit) (index : ℕ) → IsOn k x index → IsBegun (behind_on k x index)
unit_begun k x index h =
    let b = h.begun in
    let r = b.resumes in
    let at = unit_index x index in
    let u = BlockUnit (unit_of x) in
    let active = active_length x.condition u k.first.state.activations in
    let more = b.remains.active in
    record {
      activation = b.activation;
      resumes = record {
        stands = established_stands k.call.surroundings k.first x.condition u (CodeUnit (4 * at)) r.stands h.place;
        idle = r.idle;
        changed = changed_unit x at r.changed;
        layers = ap (λ ls. newest_with ((x.condition, CodeUnit (4 * at)) ∷ St.without_unit x.condition (units_of ls))
            ls) r.layers;
        own = (x.condition, u) ∷ St.without_unit x.condition r.own;
        activations = ap (λ as'. St.established x.condition u as') r.activations;
        more = r.more;
      };
      acts = b.acts;
      remains = record {
        living = b.remains.living;
        serials = b.remains.serials;
        at = b.remains.at;
        number = b.remains.number;
        signatures = b.remains.signatures;
        statics = b.remains.statics;
        low = b.remains.low;
        constants = b.remains.constants;
        active = omega (arith, active, more);
        in_use = b.remains.in_use;
      };
      outer = b.outer;
    }

-- ---- the unit in force

condition_same : (c : Condition) → St.same_condition c c ≡ true
condition_same C.Area = refl
condition_same C.FixedOverflow = refl
condition_same C.ZeroDivide = refl
condition_same C.Endfile = refl
condition_same C.Error = refl

pub unit_forced : (k : Block) (x : OnUnit) (index : ℕ) → IsOn k x index → IsInForce (behind_on k x index) x
unit_forced k x index h =
    let b = h.begun in
    let u = BlockUnit (unit_of x) in
    let a = with_units b.resumes.own b.activation in
    let as' = k.call.point.state.activations in
    let a' = with_units ((x.condition, u) ∷ St.without_unit x.condition a.units) a in
    record {
      by = a';
      own = height;
      force = ap (λ xs. force (St.established x.condition u xs) x.condition) b.resumes.activations
          ∙ ap (λ q. St.first_unit a' (cond q (Some u)
          (St.unit_for (St.without_unit x.condition a.units) x.condition)) (force as' x.condition))
          (condition_same x.condition);
    }
  where
    height : h.begun.activation.height ≡ own_height k
    height =
        let r = h.begun.resumes in
        let units = k.call.surroundings.units in
        let φ = resumed r.changed k.call.beginning.layer in
        let φs = k.call.point.control.layers in
        let active = subst (λ xs. AreActive units xs (φ ∷ φs)) r.activations
        (subst (λ ls. AreActive units k.first.state.activations ls) r.layers r.stands.active) in
        let n = active.0.height in
        omega (arith, n)

-- ---- variables

frame_is_same :
    (k : Block) (x : OnUnit) (index level base : ℕ) → IsFrameOf k level base →
    IsFrameOf (behind_on k x index) level base
frame_is_same k x index level base (inl own) =
    let w = k.call.surroundings in
    inl (own.0, own.1 ∙ sym (under_same w _ k.first.control.layers))
frame_is_same k x index level base (inr out) =
    let u = BlockUnit (unit_of x) in
    let e = height_same x.condition u k.first.state.activations level in
    inr (
      out.0,
      out.1,
      subst (λ n. 0 < n) (sym e) out.2,
      out.3,
      out.4 ∙ sym (frame_same _ k.first.control.layers _ ∙ ap (frame_at k.first.control.layers) e),
    )

pub unit_numbers :
    (k : Block) (x : OnUnit) (index : ℕ) (spot : Spot) → IsNumber k spot → IsNumber (behind_on k x index) spot
unit_numbers k x index spot n =
    let u = BlockUnit (unit_of x) in
    record {
      initial = n.initial;
      declared = n.declared;
      serial = n.serial;
      binding = binding_same x.condition u k.first.state.activations spot.level spot.index ∙ n.binding;
      living = n.living;
      lives = n.lives;
      shape = n.shape;
      base = n.base;
      frame = frame_is_same k x index spot.level n.base n.frame;
      at = n.at;
      low = n.low;
      inside = n.inside;
    }

-- ---- the offset of a place ahead comes into a register

none_of : ⊥ ⊎ (⊥ ⊎ ⊥) → ⊥
none_of (inl h) = h
none_of (inr (inl h)) = h
none_of (inr (inr h)) = h

ahead_is :
    {links : Links} {code : List Instr} {i : ℕ} (r : Register) (words : ℕ) →
    Linked links code i (OffsetAhead r words ∷ []) →
    Linked links code i (Plain (I.LoadUpper r (upper_part (4 * i + 4 * (2 + words))))
    ∷ Plain (I.Immediate Imm.Add r r (lower_part (4 * i + 4 * (2 + words)))) ∷ [])
ahead_is {links} {code} {i} r words l =
    let one : suc i ≡ i + 1 = omega arith in
    let o = l.has.0 in
    let lower = lower_part (4 * i + 4 * (2 + words)) in
    record {
      small' = l.small';
      inside = l.inside;
      has = ((o.0, tt), (subst (λ j. HasAt code j (I.Immediate Imm.Add r r lower ∷ [])) one o.1, tt));
      named = λ d h. absurd (none_of h);
    }

offset_piece :
    {links : Links} {code : List Instr} {i : ℕ} {g : Ground} {v : Services} {h t : ℕ → ℕ} {rs : Base → List (ℕ × ℕ)}
    (c : ℕ) (f : Family) (r : Register) (words : ℕ) → 4 * i + 4 * (2 + words) < 2 ^ 32 → Free rs r.index →
    Linked links code i (OffsetAhead r words ∷ []) → ((b : Base) → At b i (Known g v h t rs b) (f b)) →
    Reach code c f v (c + 2) v
    (λ b w. At b (i + 2) (Known g v h t (with' r.index (λ b'. 4 * i + 4 * (2 + words)) rs) b) w)
offset_piece {i = i} {g = g} {v = v} {h = h} {t = t} {rs = rs} c f r words small' free l there =
    let n = 4 * i + 4 * (2 + words) in
    straight c f v v (λ b. Known g v h t (with' r.index (λ b'. n) rs) b) (ahead_is r words l) (omega arith)
    (λ b. (there b).pc)
    (λ b.
    let x = (f b).machine.registers in
    let up = upper_part n * 2 ^ 12 in
    set_known _ r.index (sum (written x r.index up r.index) (word (lower_part n))) _ (λ b'. n) free
    (ap (λ u. sum u (word (lower_part n))) (free.set x up) ∙ parts_sum n small')
    (lose_known (f b) r.index up (address b (suc i)) free (there b).holds))

-- ---- the code of the statement, behind its act

abbrev unit_code_of : Block → OnUnit → Code
unit_code_of k x =
    unit_code k.environment x.head (unit_words k.environment x.head x.head.kind x.body)
    (unit_held k.environment x.head x.head.kind x.body)
    (stmts_code (unit_environment x.head k.environment) none_taken x.body)

pub number_small : (c : Condition) → condition_number c < 2 ^ 32
number_small C.Area = omega arith
number_small C.FixedOverflow = omega arith
number_small C.ZeroDivide = omega arith
number_small C.Endfile = omega arith
number_small C.Error = omega arith

pub condition_is : (c : Condition) → U.condition_of (condition_number c) ≡ Some c
condition_is C.Area = refl
condition_is C.FixedOverflow = refl
condition_is C.ZeroDivide = refl
condition_is C.Endfile = refl
condition_is C.Error = refl

unit_coded : (at : ℕ) → 0 < at → U.unit_of (4 * at) ≡ CodeUnit (4 * at)
unit_coded at some =
    let e : (4 * at == 0) ≡ false = grind (arith, nat_tests) in
    ap (λ q. cond q S.SystemUnit (CodeUnit (4 * at))) e

unit_answered :
    (x : OnUnit) (at : ℕ) (p : Point) (m : List ℕ) (φ : Layer) (φs : List Layer) → p.control.layers ≡ φ ∷ φs →
    0 < at →
    U.on_served (at_point p m) (condition_number x.condition) (4 * at)
    ≡ Done (services_of (with_unit x at p)) m (condition_number x.condition) (4 * at)
unit_answered x at p m φ φs newest some =
    let number = condition_number x.condition in
    let u = BlockUnit (unit_of x) in
    on_answered p m φ φs x.condition u number (4 * at) newest (condition_is x.condition)
    ∙ ap (λ s. Done (services_of (established x.condition u s p)) m number (4 * at)) (unit_coded at some)

abbrev asked_regs : (number at : ℕ) → Base → List (ℕ × ℕ)
asked_regs number at b = (17, 28) ∷ (10, number) ∷ (11, at) ∷ []

-- a machine that knows the services of the point behind is one at it
unit_in :
    (k : Block) {p : Point} {numbers : ℕ → ℕ} {index : ℕ} {b : Base} {y : Whole} (x : OnUnit) (at : ℕ)
    (h : IsFrame (frame_under k.call.surroundings.parts p.control.layers)) → HasParts k.call.surroundings.parts →
    At b index (Known (point_ground k.call.surroundings p h) (services_of (with_unit x at p)) numbers (λ n. 0) nothing
    b) y → IsIn k.call.surroundings (with_unit x at p) numbers index b y
unit_in k {p} {numbers} {index} {b} {y} x at h parts o =
    let w = k.call.surroundings in
    let body = o.holds.body in
    let g = point_ground w p h in
    let last = parts.inside in
    let bytes = body.bytes in
    let u = BlockUnit (unit_of x) in
    record {
      services = body.services;
      at = record {
        pc = o.pc;
        frame = frame_is body ∙ ap (λ n. b.at + n) (sym (under_same w _ p.control.layers));
        top = stack_is g b numbers y.machine.registers body.registers
            ∙ ap (λ n. b.at + n) (sym (top_same w _ p.control.layers));
        registers = λ n less. held_is n g b numbers y.machine.registers less body.registers;
        room = omega (arith, bytes, last);
        frames = frames_same w b.at y.machine.memory x.condition u _ p.state.activations p.control.layers
            body.memory.frames;
        storage = holds_same x at p y.machine.memory body.memory.storage;
      };
      zero = zero_is body;
      bytes = body.bytes;
    }

-- service 28 and the jump over the unit's code
established_reach :
    (k : Block) (x : OnUnit) (index : ℕ) {numbers : ℕ → ℕ} {p : Point} (c : ℕ) (f : Family) → IsOn k x index →
    IsAmong k numbers p →
    Linked k.call.surroundings.links k.call.code (index + size_of (act_code x.line))
    (OffsetAhead a1 5 ∷ condition_given x.condition
    ∷ small a7 28 ∷ Plain I.Ecall ∷ JumpAhead (size_of (unit_code_of k x)) ∷ unit_code_of k x) →
    AreIn k.call.surroundings p numbers (index + size_of (act_code x.line)) f →
    Reach k.call.code c f (services_of p) (c + 7 + size_of (unit_code_of k x))
    (services_of (with_unit x (unit_index x index) p))
    (λ b y. IsIn k.call.surroundings (with_unit x (unit_index x index) p) numbers
    (unit_index x index + size_of (unit_code_of k x)) b y)
established_reach k x index {numbers} {p} c f z o l there =
    let w = k.call.surroundings in
    let code = k.call.code in
    let i = index + size_of (act_code x.line) in
    let at = unit_index x index in
    let number = condition_number x.condition in
    let h = point_frame o.stands o.image in
    let g = point_ground w p h in
    let v = services_of p in
    let v' = services_of (with_unit x at p) in
    let unit = unit_code_of k x in
    let offset = OffsetAhead a1 5 ∷ [] in
    let front = condition_given x.condition ∷ small a7 28 ∷ [] in
    let call = Plain I.Ecall ∷ [] in
    let over = JumpAhead (size_of unit) ∷ [] in
    let l1 = back_of offset (front ++ (call ++ (over ++ unit))) l in
    let l2 = back_of front (call ++ (over ++ unit)) l1 in
    let l3 = back_of call (over ++ unit) l2 in
    let inside = l3.inside in
    let long = l3.small' in
    let place : 4 * i + 4 * (2 + 5) ≡ 4 * at = omega arith in
    let r1 = offset_piece {t = λ n. 0} {rs = nothing} c f a1 5 (omega (arith, inside, long))
    (record { reserved_stay = λ y u. refl; known_stay = λ b y u q. q; set = λ y u. refl })
    (front_of offset (front ++ (call ++ (over ++ unit))) l) (λ b. known_in h (there b) tt) in
    let r2 = straight (c + 2) (reached r1) v v
    (λ b. Known g v numbers (λ n. 0) (asked_regs number (4 * at)) b) (front_of front (call ++ (over ++ unit)) l1)
    (omega arith) (λ b. (reached_holds r1 b).pc)
    (λ b. let q = (reached_holds r1 b).holds in record {
      body = record {
        services = q.body.services;
        registers = q.body.registers;
        bytes = q.body.bytes;
        memory = q.body.memory;
      };
      regs = (
        small_is _ 28 (zero_is q.body) (omega arith),
        (small_is _ number (zero_is q.body) (number_small x.condition), (q.regs.0 ∙ place, tt)),
      );
    }) in
    let f2 = reached r2 in
    let n = newest_at z.begun o in
    let calling : Calling w.links code (i + 2 + 2) f2 (λ b. Done v' (f2 b).machine.memory number (4 * at)) = record {
      linked = front_of call (over ++ unit) l2;
      pc = λ b. (reached_holds r2 b).pc;
      answers = λ b.
          let q = (reached_holds r2 b).holds in
          let m = (f2 b).machine.memory in
          let y = (f2 b).machine.registers in
          called code (f2 b) v 28 number (4 * at) (y 12) (y 13) (y 14) (λ call x0 x1 x2 x3 x4. U.on_served call x0 x1)
          q.body.services q.regs.0 q.regs.1.0 q.regs.1.1.0 refl refl refl (λ call y'. refl)
          ∙ ap (λ call'. U.on_served call' number (4 * at)) (call_is w code p m o.image)
          ∙ unit_answered x at p m n.layer k.call.point.control.layers n.layers (omega arith);
    } in
    let r3 = call_done (c + 2 + 2) f2 v v' (λ b. (f2 b).machine.memory) (λ b. number) (λ b. 4 * at)
    (λ b. Known g v' numbers (λ j. 0) nothing b) (omega arith) calling
    (λ b. let q = (reached_holds r2 b).holds.body in
    record {
      body = record { services = refl {a = v'}; registers = q.registers; bytes = q.bytes; memory = q.memory };
      regs = tt;
    }) in
    let r4 = ahead_piece (c + 2 + 2 + 1) (reached r3) (size_of unit) (omega (arith, inside))
    (record { reserved_stay = λ y u. refl; known_stay = λ b y u q. q; set = λ y u. refl }) (front_of over unit l3)
    (reached_holds r3) in
    reach_map _ (reach_moved (omega arith) (omega arith) (reach_then r1 (reach_then r2 (reach_then r3 r4))))
    (λ b y q. unit_in k x at h o.image.parts q)

-- ---- the statement

on_size :
    (k : Block) (x : OnUnit) → size_in k (on_of x) ≡ size_of (act_code x.line) + 7 + size_of (unit_code_of k x)
on_size k x =
    let n = size_append (act_code x.line) (OffsetAhead a1 5 ∷ condition_given x.condition
    ∷ small a7 28 ∷ Plain I.Ecall ∷ JumpAhead (size_of (unit_code_of k x)) ∷ unit_code_of k x) in
    omega (arith, n)

pub unit_does :
    (k : Block) (labels : List Label) (x : OnUnit) (index left' : ℕ) → IsOn k x index → (p : Point)
    (numbers : ℕ → ℕ) (credits wanted : ℕ) (f : Family) → IsAmong k numbers p →
    credits + size_in k (on_of x) ≤ cost k.call.code → AreIn k.call.surroundings p numbers index f →
    Comes k.call.code credits f (services_of p)
    (statement_aims (behind_on k x index) labels p.state.world.acts (index + size_in k (on_of x)) wanted left')
    (M.statement k.around (on_of x) k.call.surroundings.acts p.state)
unfolding M.statement M.established_by stored ◌>>◌
unit_does k labels x index left' h p numbers c wanted f o paid there =
    let w = k.call.surroundings in
    let one = act_code x.line in
    let rest = OffsetAhead a1 5 ∷ condition_given x.condition
    ∷ small a7 28 ∷ Plain I.Ecall ∷ JumpAhead (size_of (unit_code_of k x)) ∷ unit_code_of k x in
    let n = on_size k x in
    let at = unit_index x index in
    let debt = 7 + size_of (unit_code_of k x) in
    let goal = statement_aims (behind_on k x index) labels p.state.world.acts (index + size_in k (on_of x)) wanted
    left' in
    let closed = statement_closed (behind_on k x index) labels p.state.world.acts (index + size_in k (on_of x)) wanted
    left' in
    let next' : Unit {0} → Meaning (Unit {0}) = λ u. stored (λ s. with_activations
    (St.established x.condition (BlockUnit (unit_of x)) s.activations) s) in
    comes_owing debt (M.statement k.around (on_of x) w.acts p.state)
    (comes_on w.acts (act counted w.acts p.state) next'
    (act_comes (before_closed w.acts next' (owing_closed k.call.code debt goal)) x.line (c + debt) 0 f
    (o.stands, o.image) (h.act.line_fits, h.act.acts, omega (arith, paid, n)) (front_of one rest h.statement) there
    (λ g less there'.
    let p' = acted x.line p in
    let o' = acted_among x.line o less in
    let r = established_reach k x index 0 g h o' (back_of one rest h.statement) there' in
    record {
      to = λ early. done_owing closed debt wanted (omega arith) r tt (with_unit x at p').state
          (λ g' at'. record {
            point = with_unit x at p';
            numbers = numbers;
            among = unit_among k x index h o';
            since = omega arith;
            state = refl;
            reach = stay k.call.code wanted g' (services_of (with_unit x at p'))
                (λ b y. IsIn w (with_unit x at p') numbers (index + size_in k (on_of x)) b y)
                (λ b. subst (λ j. IsIn w (with_unit x at p') numbers j b (g' b)) (omega (arith, n)) (at' b));
          });
    })))

pub units_established : UnitsEstablished
units_established =
    record { does = unit_does; begun = unit_begun; force = unit_forced; numbers = unit_numbers }
