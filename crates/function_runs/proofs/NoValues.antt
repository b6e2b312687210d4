-- A function that runs off its end: its line is told, and ERROR is raised.
use Rattle.std.proofs.Common.{◌≡◌, ℕ, ◌+◌, ◌*◌, ◌^◌, ◌<◌, ◌≤◌, List, [], ◌∷◌, ◌++◌, refl, sym, ap, ◌∙◌, arith, lit<}
use Rattle.std.specs.Prelude.{pos}
use Rattle.rv_meaning.specs.declared.instr.Instr.{Instr}
use Rattle.rv_meaning.specs.declared.instr.Instr.TheVariants as I
use Rattle.pli_language.specs.declared.condition.Condition.TheVariants as C
use Rattle.pli_meaning.specs.Raising as R
use Rattle.pli_meaning.specs.Raising.{Around}
use Rattle.pli_meaning.specs.StorageState.{force}
use Rattle.pli_serving.specs.ActsAndEnds as W
use Rattle.pli_serving.specs.Answers.{Done}
use Rattle.pli_coding.specs.Assembly.{JumpTo, Plain, RaiseError, size_of}
use Rattle.pli_coding.specs.Instructions.{number, small}
use Rattle.pli_coding.specs.Linking.{place_of}
use Rattle.pli_coding.specs.Procedures.{no_value}
use Rattle.pli_coding.specs.Registers.{a0, a1, a7}
use Rattle.storage_relation.specs.Served.{Holds}
use Rattle.activation_relation.specs.Changes.{with_line}
use Rattle.activation_relation.specs.Frames.{frame_under}
use Rattle.activation_relation.specs.Layers.{Point, now, services_of}
use Rattle.activation_relation.specs.Points.{Stands, Surroundings}
use Rattle.activation_relation.specs.ServiceLaws.{IsSystem}
use Rattle.activation_relation.proofs.Blocks.{line_answered}
use Rattle.run_steps.specs.Bodies.{Known}
use Rattle.run_steps.proofs.Bodies.{constant_piece, zero_is}
use Rattle.run_steps.specs.Calls.{Calling}
use Rattle.run_steps.proofs.Calls.{call_done, called}
use Rattle.run_steps.specs.Engine.{Base, address}
use Rattle.run_steps.specs.Items.{At, Linked}
use Rattle.run_steps.proofs.Items.{straight}
use Rattle.run_steps.proofs.Jumps.{back_of, first_of, front_of, jump_piece, rest_of}
use Rattle.run_steps.proofs.Linking.{size_append}
use Rattle.run_steps.specs.Reach.{Aims, Closed, Comes, Family, cost, reached}
use Rattle.run_steps.proofs.Reach.{onward, reach_then, reached_holds}
use Rattle.run_steps.specs.Temporaries.{nothing}
use Rattle.block_runs.specs.Machines.{AreIn, IsImage}
use Rattle.block_runs.proofs.BlockEntries.{small_is, word_fits, word_is}
use Rattle.block_runs.proofs.Places.{IsFrame}
use Rattle.block_runs.proofs.PointGrounds.{call_is, known_in, point_ground}
use Rattle.expression_runs.specs.Raises.{Routines}
use Rattle.expression_runs.proofs.Raises.{coded, error_comes}

-- ---- the point with its line told

lined_stands : (w : Surroundings) (line : ℕ) (p : Point) → Stands w p → Stands w (with_line line p)
lined_stands w line p h =
    record {
      active = h.active;
      laid = h.laid;
      low = h.low;
      lives = h.lives;
      owned = h.owned;
      over = h.over;
      running = h.running;
      allowed = h.allowed;
    }

lined_image : (w : Surroundings) (code : List Instr) (line : ℕ) (p : Point) → IsImage w code p →
    IsImage w code (with_line line p)
lined_image w code line p h =
    record { keeper = h.keeper; layout = h.layout; parts = h.parts; even = h.even }

lined_holds : (line : ℕ) (p : Point) (m : List ℕ) → Holds (now p m) → Holds (now (with_line line p) m)
lined_holds line p m h =
    record {
      keeps = h.keeps;
      heap = record { at = h.heap.at; capacity = h.heap.capacity };
      lives = record { falling = h.lives.falling; numbered = h.lives.numbered; extents = h.lives.extents };
      stored = h.stored;
      distinct = h.distinct;
    }

abbrev asked_regs : (line : ℕ) → Base → List (ℕ × ℕ)
asked_regs line b = (17, 1) ∷ (11, 1) ∷ (10, line) ∷ []

-- ---- its code

pub value_lacks :
    {X : Type 0} {w : Surroundings} {code : List Instr} {p : Point} {numbers : ℕ → ℕ} {i : ℕ} {aims : Aims X}
    (closed : Closed code aims) (routines : Routines w.links code) (around : Around) (c : ℕ) (f : Family)
    (h : IsFrame (frame_under w.parts p.control.layers)) → Stands w p × IsImage w code p → around.line < 2 ^ 31 →
    (c + size_of (no_value around.line) + 4 < cost code) × (w.acts + 1 < 2 ^ 64) →
    place_of w.links RaiseError ≡ 4 * (routines.at + 8) → IsSystem (force p.state.activations C.Error) →
    Linked w.links code i (no_value around.line) → AreIn w p numbers i f →
    Comes code c f (services_of p) aims (R.error {R = X} around 112 w.acts p.state)
value_lacks {X} {w} {code} {p} {numbers} {i} closed routines around c f h known fits few raises only l there =
    let line = around.line in
    let q = with_line line p in
    let v = services_of p in
    let g = point_ground w p h in
    let g' = point_ground w q h in
    let first = number a0 line in
    let asks = small a1 1 ∷ small a7 1 ∷ [] in
    let code' = small a1 112 ∷ [] in
    let jump = JumpTo RaiseError ∷ [] in
    let tail = Plain I.Ecall ∷ (code' ++ jump) in
    let l1 = back_of first (asks ++ tail) l in
    let l2 = back_of asks tail l1 in
    let l3 = rest_of (Plain I.Ecall) (code' ++ jump) l2 in
    let n0 = size_append first (asks ++ tail) in
    let paid = few.0 in
    let inside = routines.linked.inside in
    let near = routines.linked.small' in
    let r1 = constant_piece {t = λ j. 0} {rs = nothing} c f a0 (pos line) (word_fits line fits)
    (record { reserved_stay = λ y u. refl; known_stay = λ b y u o. o; set = λ y u. refl })
    (front_of first (asks ++ tail) l) (λ b. known_in h (there b) tt) in
    let r2 = straight (c + size_of first) (reached r1) v v
    (λ b y. Known g v numbers (λ j. 0) (asked_regs line) b y) (front_of asks tail l1) (omega arith)
    (λ b. (reached_holds r1 b).pc)
    (λ b. let o = (reached_holds r1 b).holds in record {
      body = record {
        services = o.body.services;
        registers = o.body.registers;
        bytes = o.body.bytes;
        memory = o.body.memory;
      };
      regs = (
        small_is _ 1 (zero_is o.body) (omega arith),
        (small_is _ 1 (zero_is o.body) (omega arith), (o.regs.0 ∙ word_is line fits, tt)),
      );
    }) in
    let g2 = reached r2 in
    let calling :
    Calling w.links code (i + size_of first + 2) g2 (λ b. Done (services_of q) (g2 b).machine.memory line 1) =
    record {
      linked = first_of (Plain I.Ecall) (code' ++ jump) l2;
      pc = λ b. (reached_holds r2 b).pc;
      answers = λ b.
          let o = (reached_holds r2 b).holds in
          let m = (g2 b).machine.memory in
          let x = (g2 b).machine.registers in
          called code (g2 b) v 1 line 1 (x 12) (x 13) (x 14) (λ call x0 x1 x2 x3 x4. W.act_served call x0 x1)
          o.body.services o.regs.0 o.regs.1.1.0 o.regs.1.0 refl refl refl (λ call y. refl)
          ∙ ap (λ call. W.act_served call line 1) (call_is w code p m known.1)
          ∙ line_answered p m line;
    } in
    let r3 = call_done (c + size_of first + 2) g2 v (services_of q) (λ b. (g2 b).machine.memory) (λ b. line) (λ b. 1)
    (λ b y. Known g' (services_of q) numbers (λ j. 0) nothing b y) (omega arith) calling
    (λ b. let o = (reached_holds r2 b).holds.body in record {
      body = record {
        services = refl;
        registers = o.registers;
        bytes = o.bytes;
        memory = record {
          storage = lined_holds line p (g2 b).machine.memory o.memory.storage;
          frames = o.memory.frames;
        };
      };
      regs = tt;
    }) in
    let r4 = straight (c + size_of first + 2 + 1) (reached r3) (services_of q) (services_of q)
    (λ b y. Known g' (services_of q) numbers (λ j. 0) (coded 112) b y) (front_of code' jump l3) (omega arith)
    (λ b. (reached_holds r3 b).pc)
    (λ b. let o = (reached_holds r3 b).holds in record {
      body = record {
        services = o.body.services;
        registers = o.body.registers;
        bytes = o.body.bytes;
        memory = o.body.memory;
      };
      regs = (small_is _ 112 (zero_is o.body) (omega arith), tt);
    }) in
    let r5 = jump_piece (c + size_of first + 2 + 1 + 1) (c + size_of first + 2 + 1 + 1 + 2) (reached r4) RaiseError
    (routines.at + 8) (omega arith) raises (omega (arith, inside, near))
    (record { reserved_stay = λ y u. refl; known_stay = λ b y u o. o; set = λ y u. refl }) (back_of code' jump l3)
    (reached_holds r4) in
    onward closed (reach_then r1 (reach_then r2 (reach_then r3 (reach_then r4 r5))))
    (λ g5 at5.
    error_comes closed routines (c + size_of first + 2 + 1 + 1 + 2) g5 around 112 h
    (lined_stands w line p known.0, lined_image w code line p known.1) (lit< tt) (omega (arith, paid, n0), few.1) refl
    only at5)
