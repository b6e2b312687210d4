-- A raise of ERROR finds the unit in force: from its routine, through an act, to the unit's first instruction. The
-- unit goes on with the end of the run.
use Rattle.std.proofs.Common.{◌≡◌, ℕ, suc, ◌+◌, ◌-◌, ◌*◌, ◌^◌, ◌<◌, ◌≤◌, List, [], ◌∷◌, ◌++◌, length, Some, false}
use Rattle.std.proofs.Common.{refl, ap, ◌∙◌, arith, lit<, add-one}
use Rattle.std.proofs.lemmas.Bool.{lt-ltb}
use Rattle.std.proofs.lemmas.Bool.Decides.{nat_tests}
use Rattle.std.specs.Prelude.{◌==◌, pos}
use Rattle.rv_meaning.specs.declared.instr.BranchTest.TheVariants as Test
use Rattle.rv_meaning.specs.declared.instr.Instr.{Instr}
use Rattle.rv_meaning.specs.declared.instr.Instr.TheVariants as I
use Rattle.rv_meaning.specs.Words.{sum, word}
use Rattle.pli_language.specs.declared.condition.Condition.TheVariants as C
use Rattle.pli_typing.specs.TypedTree as Y
use Rattle.pli_meaning.specs.Control.{act}
use Rattle.pli_meaning.specs.StorageState.{Activation, BlockUnit, force}
use Rattle.pli_meaning.specs.World.{raising}
use Rattle.pli_serving.specs.Answers.{Done}
use Rattle.pli_serving.specs.OnUnits as U
use Rattle.pli_coding.specs.Assembly.{BaseIn, Code, ErrorEnd, JumpAhead, Mark, OffsetOf, Plain, RaiseCondition}
use Rattle.pli_coding.specs.Assembly.{RaiseError, size_of}
use Rattle.pli_coding.specs.Images.{error_code, error_end, to_unit, unit_begun}
use Rattle.pli_coding.specs.Instructions.{add, small, subtract}
use Rattle.pli_coding.specs.Registers.{a0, a1, a2, a7, return_register, u0, u1, zero_register}
use Rattle.storage_relation.specs.Served.{Holds}
use Rattle.storage_relation.proofs.Making.{same_held}
use Rattle.activation_relation.specs.Chains.{StandsAt, frame_at}
use Rattle.activation_relation.specs.Changes.{awaiting}
use Rattle.activation_relation.specs.Frames.{frame_under}
use Rattle.activation_relation.specs.Layers.{Point, now, services_of}
use Rattle.activation_relation.specs.Points.{Stands, Surroundings}
use Rattle.activation_relation.specs.ServiceLaws.{at_point}
use Rattle.activation_relation.proofs.Blocks.{same_length}
use Rattle.activation_relation.proofs.Units.{raise_answered}
use Rattle.run_steps.specs.Bodies.{Known}
use Rattle.run_steps.proofs.Bodies.{zero_is}
use Rattle.run_steps.specs.Calls.{Calling}
use Rattle.run_steps.proofs.Calls.{call_acts, call_pauses, called, comes_act}
use Rattle.run_steps.specs.Engine.{Base, address, most_code}
use Rattle.run_steps.specs.Items.{At, Linked}
use Rattle.run_steps.proofs.Items.{straight}
use Rattle.run_steps.proofs.Jumps.{ahead_piece, back_of, first_of, front_of, hop, jump_register, linked_at, rest_of}
use Rattle.run_steps.proofs.Jumps.{skip_passed}
use Rattle.run_steps.specs.Reach.{Aims, Closed, Comes, Family, Reach, cost, reached}
use Rattle.run_steps.proofs.Reach.{onward, reach_then, reached_holds}
use Rattle.block_runs.specs.Machines.{IsImage, IsIn}
use Rattle.block_runs.proofs.Places.{IsFrame, frame_found}
use Rattle.block_runs.proofs.PointGrounds.{call_is, in_known, point_frame, point_ground}
use Rattle.expression_runs.proofs.Raises.{coded, raised_at}
use Rattle.unit_runs.proofs.UnitRaises.{force_height}
use Rattle.error_units.specs.Errors.{ErrorRoutines}

-- a raise of ERROR with a code, the unit and its first instruction
pub record Finding : Type 0 where
  pub surroundings : Surroundings
  pub code : List Instr
  pub routines : ErrorRoutines surroundings.links code
  pub point : Point
  pub numbers : ℕ → ℕ
  pub number : ℕ
  pub by : Activation
  pub unit : Y.Block
  pub entry : ℕ

-- the end of the run
abbrev pub back_index : Finding → ℕ
back_index z = z.routines.routines.at + 16

abbrev pub raised_point : Finding → Point
raised_point z = raised_at C.Error z.number z.point

abbrev pub waiting_point : Finding → Point
waiting_point z = awaiting z.number (4 * back_index z) (raised_point z)

pub record IsFinding (z : Finding) : Type 0 where
  pub stands : Stands z.surroundings z.point
  pub image : IsImage z.surroundings z.code z.point
  pub acts : z.surroundings.acts + 1 < 2 ^ 64
  pub small' : z.number < 2 ^ 16
  pub force : force z.point.state.activations C.Error ≡ Some (z.by, BlockUnit z.unit)
  pub only : (at : ℕ) → StandsAt z.surroundings.units z.unit at → at ≡ 4 * z.entry
  pub some : 0 < z.entry
  pub inside : z.entry < length z.code

frame_of : (z : Finding) → IsFinding z → IsFrame (frame_at z.point.control.layers z.by.height)
frame_of z h =
    let w = z.surroundings in
    let p = z.point in
    let n = force_height w.units p.state.activations p.control.layers C.Error z.by (BlockUnit z.unit)
    h.stands.active h.force in
    let low = n.some in
    let high = n.most in
    let many = same_length w.units p.state.activations p.control.layers h.stands.active in
    frame_found w.parts p.control.layers z.by.height h.image.parts h.stands.laid h.image.even low
    (omega (arith, high, many))

-- ---- where the routine's parts stand

abbrev before_routine : Code
before_routine =
    Mark RaiseCondition ∷ BaseIn u0 ∷ subtract a2 return_register u0 ∷ small a7 30 ∷ Plain I.Ecall
    ∷ to_unit (size_of error_code)

abbrev front_code : Code
front_code = Mark RaiseError ∷ small a0 5 ∷ OffsetOf a2 ErrorEnd ∷ small a7 30 ∷ []

abbrev tested_code : Code
tested_code = to_unit (size_of error_end) ++ error_end

abbrev behind_code : Code
behind_code = Plain I.Ecall ∷ tested_code

routine_linked : (z : Finding) → Linked z.surroundings.links z.code (z.routines.routines.at + 8) error_code
routine_linked z =
    front_of error_code unit_begun (back_of before_routine (error_code ++ unit_begun) z.routines.routines.linked)

begun_linked : (z : Finding) → Linked z.surroundings.links z.code (z.routines.routines.at + 19) unit_begun
begun_linked z =
    linked_at (z.routines.routines.at + 19) unit_begun (omega arith) (back_of error_code unit_begun
    (back_of before_routine (error_code ++ unit_begun) z.routines.routines.linked))

pub end_linked : (z : Finding) → Linked z.surroundings.links z.code (back_index z) error_end
end_linked z =
    linked_at (back_index z) error_end (omega arith) (back_of (to_unit (size_of error_end)) error_end
    (rest_of (Plain I.Ecall) tested_code (back_of front_code behind_code (routine_linked z))))

-- ---- up to the service

abbrev asking_regs : Finding → Base → List (ℕ × ℕ)
asking_regs z b = (10, 5) ∷ (11, z.number) ∷ (12, 4 * back_index z) ∷ (17, 30) ∷ []

small_is : (z n : ℕ) → z ≡ 0 → n < 2 ^ 32 → sum z n ≡ n
small_is z n e h = omega (arith, e, h)

asked_reach :
    (z : Finding) (h : IsFinding z) (g : IsFrame (frame_under z.surroundings.parts z.point.control.layers)) (c : ℕ)
    (f : Family) →
    ((b : Base) → At b (z.routines.routines.at + 8)
    (Known (point_ground z.surroundings z.point g) (services_of z.point) z.numbers (λ n. 0) (coded z.number) b)
    (f b)) →
    Reach z.code c f (services_of z.point) (c + 4) (services_of z.point)
    (λ b y. At b (z.routines.routines.at + 8 + 4)
    (Known (point_ground z.surroundings z.point g) (services_of z.point) z.numbers (λ n. 0) (asking_regs z) b) y)
asked_reach z h g c f there =
    let v = services_of z.point in
    let ground = point_ground z.surroundings z.point g in
    straight c f v v (λ b. Known ground v z.numbers (λ n. 0) (asking_regs z) b)
    (front_of front_code behind_code (routine_linked z)) (omega arith) (λ b. (there b).pc)
    (λ b. let o = (there b).holds in let y = zero_is o.body in (
      z.routines.routines.end,
      refl,
      record {
        body = record {
          services = o.body.services;
          registers = o.body.registers;
          bytes = o.body.bytes;
          memory = o.body.memory;
        };
        regs = (small_is _ 5 y (lit< tt), (o.regs.0, (z.routines.end, (small_is _ 30 y (lit< tt), tt))));
      },
    ))

-- ---- behind it, to the unit

abbrev found_regs : Finding → Base → List (ℕ × ℕ)
found_regs z b = (10, 4 * z.entry) ∷ (11, frame_at z.point.control.layers z.by.height) ∷ []

abbrev begun_regs : Finding → Base → List (ℕ × ℕ)
begun_regs z b = (10, b.at + frame_at z.point.control.layers z.by.height) ∷ (6, address b z.entry) ∷ []

begun_sum : (b : Base) (x y at : ℕ) → at < 2 ^ 24 → x ≡ b.at → y ≡ at → sum x y ≡ b.at + at
begun_sum b x y at near e f = let v = b.valid.1 in omega (arith, e, f, v, near)

unit_sum : (b : Base) (x index : ℕ) → index ≤ most_code → x ≡ b.at + 4 * index →
    sum x (word (pos 0)) ≡ address b index
unit_sum b x index near e = let v = b.valid.1 in omega (arith, e, near, v)

not_zero : (x y at : ℕ) → 0 < at → x ≡ at → y ≡ 0 → (x == y) ≡ false
not_zero x y at some e f = grind (arith, nat_tests)

found_reach :
    (z : Finding) (h : IsFinding z) (g : IsFrame (frame_under z.surroundings.parts z.point.control.layers))
    (f : Family) →
    ((b : Base) → At b (z.routines.routines.at + 8 + 4 + 1)
    (Known (point_ground z.surroundings (waiting_point z) g) (services_of (waiting_point z)) z.numbers
    (λ n. 0) (found_regs z) b) (f b)) →
    Reach z.code 0 f (services_of (waiting_point z)) 11 (services_of (waiting_point z))
    (λ b y. At b z.entry (Known (point_ground z.surroundings (waiting_point z) g) (services_of (waiting_point z))
    z.numbers (λ n. 0) (begun_regs z) b) y)
found_reach z h g f there =
    let v = services_of (waiting_point z) in
    let ground = point_ground z.surroundings (waiting_point z) g in
    let tested = to_unit (size_of error_end) in
    let lt = front_of tested error_end (rest_of (Plain I.Ecall) tested_code
    (back_of front_code behind_code (routine_linked z))) in
    let lb = begun_linked z in
    let whole = z.routines.routines.linked.inside in
    let long = z.routines.routines.linked.small' in
    let j = z.routines.routines.at + 8 + 4 + 1 in
    let some = h.some in
    let inside = h.inside in
    let room = (frame_of z h).room in
    let r1 = skip_passed 0 f Test.Equal a0 zero_register (JumpAhead (size_of error_end) ∷ []) lt there
    (λ b. not_zero _ _ (4 * z.entry) (omega (arith, some)) (there b).holds.regs.0 (zero_is (there b).holds.body)) in
    let r2 = ahead_piece (0 + 1) (reached r1) (size_of error_end) (omega (arith, whole))
    (record { reserved_stay = λ y u. refl; known_stay = λ b y u q. q; set = λ y u. refl })
    (rest_of _ (JumpAhead (size_of error_end) ∷ []) lt) (reached_holds r1) in
    let there' : j + 1 + 5 ≡ z.routines.routines.at + 19 = omega arith in
    let adds = BaseIn u0 ∷ add u1 u0 a0 ∷ add a0 u0 a1 ∷ [] in
    let jump = Plain (I.JumpRegister zero_register u1 (pos 0)) ∷ [] in
    let r3 = straight (0 + 1 + (2 + size_of error_end)) (reached r2) v v
    (λ b. Known ground v z.numbers (λ n. 0) (begun_regs z) b) (front_of adds jump lb) (omega arith)
    (λ b. (reached_holds r2 b).pc ∙ ap (address b) there')
    (λ b. let o = (reached_holds r2 b).holds in (
      refl,
      record {
        body = record {
          services = o.body.services;
          registers = o.body.registers;
          bytes = o.body.bytes;
          memory = o.body.memory;
        };
        regs = (
          begun_sum b _ _ (frame_at z.point.control.layers z.by.height) (omega (arith, room)) refl o.regs.1.0,
          (begun_sum b _ _ (4 * z.entry) (omega (arith, inside, long)) refl o.regs.0, tt),
        );
      },
    )) in
    let lj = back_of adds jump lb in
    let r4 = hop z.code 10 11 (reached r3) v
    (λ b y. At b z.entry (Known ground v z.numbers (λ n. 0) (begun_regs z) b) y) (omega arith)
    (λ b.
    let o = (reached_holds r3 b).holds in
    let ji = lj.inside in (
      _,
      jump_register z.code b (z.routines.routines.at + 19 + 4) z.entry zero_register u1 (pos 0) (reached r3 b)
          (omega (arith, ji, long)) (reached_holds r3 b).pc lj.has.0.0
          (unit_sum b _ z.entry (omega (arith, inside, long)) o.regs.1.0),
      record {
        pc = refl;
        holds = record {
          body = record {
            services = o.body.services;
            registers = o.body.registers;
            bytes = o.body.bytes;
            memory = o.body.memory;
          };
          regs = o.regs;
        };
      },
    )) in
    reach_then r1 (reach_then r2 (reach_then r3 r4))

-- ---- the whole

unit_placed :
    (z : Finding) (h : IsFinding z) (m : List ℕ) →
    U.raise_served (at_point z.point m) 5 z.number (4 * back_index z)
    ≡ Done (services_of (waiting_point z)) m (4 * z.entry) (frame_at z.point.control.layers z.by.height)
unit_placed z h m =
    let allowed = h.stands.allowed in
    let most = h.acts in
    let r = raise_answered z.surroundings.units z.point m C.Error 5 z.number (4 * back_index z) z.by z.unit
    h.stands.active (lt-ltb (z.point.state.world.acts + 1) (2 ^ 64) (omega (arith, allowed, most))) refl
    (lt-ltb z.number (2 ^ 16) h.small') h.force in
    r.2
    ∙ ap (λ at. Done (services_of (waiting_point z)) m at (frame_at z.point.control.layers z.by.height))
    (h.only r.0 r.1)

-- behind the act of the raise the run is at the unit's first instruction
pub error_finds :
    (z : Finding) {aims : Aims (Unit {0})} (closed : Closed z.code aims) (credits : ℕ) (f : Family) → IsFinding z →
    credits + 4 < cost z.code →
    (g : IsFrame (frame_under z.surroundings.parts z.point.control.layers)) →
    ((b : Base) → At b (z.routines.routines.at + 8)
    (Known (point_ground z.surroundings z.point g) (services_of z.point) z.numbers (λ n. 0) (coded z.number) b)
    (f b)) →
    ((f' : Family) → z.point.state.world.acts < z.surroundings.acts →
    ((b : Base) → IsIn z.surroundings (waiting_point z) z.numbers z.entry b (f' b)
    × ((f' b).machine.registers 10 ≡ b.at + frame_at z.point.control.layers z.by.height)) →
    aims.done 11 f' (services_of (waiting_point z)) tt (raised_point z).state) →
    Comes z.code credits f (services_of z.point) aims (act (raising C.Error z.number) z.surroundings.acts
    z.point.state)
error_finds z closed c f h fits g there goal =
    let w = z.surroundings in
    let p = z.point in
    let v = services_of p in
    let v' = services_of (waiting_point z) in
    let at : Base → ℕ = λ b. 4 * z.entry in
    let frame : Base → ℕ = λ b. frame_at p.control.layers z.by.height in
    let i = z.routines.routines.at + 8 + 4 in
    onward closed (asked_reach z h g c f there)
    (λ f1 at1.
    let calling : Calling w.links z.code i f1
    (λ b. Done v' (f1 b).machine.memory (4 * z.entry) (frame_at p.control.layers z.by.height)) = record {
      linked = first_of (Plain I.Ecall) tested_code (back_of front_code behind_code (routine_linked z));
      pc = λ b. (at1 b).pc;
      answers = λ b.
          let o = (at1 b).holds in
          let m = (f1 b).machine.memory in
          called z.code (f1 b) v 30 5 z.number (4 * back_index z) _ _
          (λ call x0 x1 x2 x3 x4. U.raise_served call x0 x1 x2) o.body.services o.regs.1.1.1.0 o.regs.0 o.regs.1.0
          o.regs.1.1.0 refl refl (λ call y. refl)
          ∙ ap (λ call. U.raise_served call 5 z.number (4 * back_index z)) (call_is w z.code p m h.image)
          ∙ unit_placed z h m;
    } in
    let more : v'.world.acts ≡ suc v.world.acts = add-one v.world.acts in
    comes_act (raising C.Error z.number) w.acts p.state refl
    (call_pauses (c + 4) f1 v v' (λ b. (f1 b).machine.memory) at frame (omega (arith, fits)) h.stands.running
    (λ b. (at1 b).holds.body.services) more calling)
    (λ below.
    let r = call_acts (c + 4) 0 f1 v v' (λ b. (f1 b).machine.memory) at frame
    (λ b. Known (point_ground w (waiting_point z) g) v' z.numbers (λ n. 0) (found_regs z) b) (omega (arith, fits)) more
    calling
    (λ b. let o = (at1 b).holds in record {
      body = record {
        services = refl;
        registers = o.body.registers;
        bytes = o.body.bytes;
        memory = record {
          storage = holds_waiting z (f1 b).machine.memory o.body.memory.storage;
          frames = o.body.memory.frames;
        };
      };
      regs = (refl, (refl, tt));
    }) in
    let q = reach_then r (found_reach z h g (reached r) (reached_holds r)) in
    closed.done q tt _ (goal (reached q) below
    (λ b. let o = reached_holds q b in (in_known g h.image.parts o, o.holds.regs.0)))))
  where
    holds_waiting : (z : Finding) (m : List ℕ) → Holds (now z.point m) → Holds (now (waiting_point z) m)
    holds_waiting z m o =
        record {
          keeps = o.keeps;
          heap = record { at = o.heap.at; capacity = o.heap.capacity };
          lives = record { falling = o.lives.falling; numbered = o.lives.numbered; extents = o.lives.extents };
          stored = same_held z.point.keeper z.point.places z.point.state (waiting_point z).state m refl refl o.stored;
          distinct = o.distinct;
        }
