-- The step of a DO that counts: its line without an act, and a constant that is added to the value in a0.
use Rattle.std.proofs.Common.{◌≡◌, ℕ, ◌+◌, ◌^◌, ◌<◌, ◌≤◌, List, [], ◌∷◌, ◌++◌, Bool, true, false, refl, sym, ap, ◌∙◌}
use Rattle.std.proofs.Common.{subst, arith}
use Rattle.std.specs.Prelude.{ℤ, cond, pos, ◌+ℤ◌, int_lt, ◌==◌, if◌then◌else◌}
use Rattle.rv_meaning.specs.declared.instr.BranchTest.{BranchTest}
use Rattle.rv_meaning.specs.declared.instr.BranchTest.TheVariants as Test
use Rattle.rv_meaning.specs.declared.instr.Instr.{Instr}
use Rattle.rv_meaning.specs.declared.instr.Instr.TheVariants as I
use Rattle.rv_meaning.specs.Machine.{value}
use Rattle.rv_meaning.specs.Words.{word, signed, sum, flag, holds_of}
use Rattle.pli_language.specs.declared.condition.Condition.TheVariants as C
use Rattle.pli_meaning.specs.Control.{Meaning, give, ◌>>◌}
use Rattle.pli_meaning.specs.Numbers.{Gives, Raises, is_of_precision, wrapped, checked}
use Rattle.pli_meaning.specs.Raising as R
use Rattle.pli_serving.specs.ActsAndEnds as W
use Rattle.pli_serving.specs.Answers.{Done}
use Rattle.pli_coding.specs.Arithmetic.{constant_added, order_of_sum, overflow_raised}
use Rattle.pli_coding.specs.Assembly.{Code, Plain, size_of}
use Rattle.pli_coding.specs.Instructions.{move, number, plus, service, skip_where, small}
use Rattle.pli_coding.specs.Registers.{a0, a1, a7, u1}
use Rattle.storage_relation.specs.Served.{Holds}
use Rattle.activation_relation.specs.Changes.{with_line}
use Rattle.activation_relation.specs.Layers.{Point, now, services_of}
use Rattle.activation_relation.specs.Points.{Stands, Surroundings}
use Rattle.activation_relation.proofs.Blocks.{line_answered}
use Rattle.run_steps.specs.Bodies.{Known}
use Rattle.run_steps.proofs.Bodies.{constant_piece, plus_piece, zero_is}
use Rattle.run_steps.specs.Calls.{Calling}
use Rattle.run_steps.proofs.Calls.{call_done, called}
use Rattle.run_steps.specs.Engine.{Base}
use Rattle.run_steps.specs.Items.{At, Linked}
use Rattle.run_steps.proofs.Items.{straight}
use Rattle.run_steps.proofs.Jumps.{back_of, front_of, rest_of, skip_passed, skip_taken}
use Rattle.run_steps.proofs.Linking.{size_append}
use Rattle.run_steps.specs.Numbers.{IsWide, sum_test}
use Rattle.run_steps.proofs.Numbers.{sum-word, sum_fits, sum_over, word_small}
use Rattle.run_steps.specs.Reach.{Comes, Family, Reach, before, cost, reached}
use Rattle.run_steps.proofs.Reach.{comes_on, onward, reach_map, reach_then, reached_holds, stay}
use Rattle.run_steps.specs.Temporaries.{nothing}
use Rattle.pli_headline.proofs.WordProducts.{signed_word}
use Rattle.block_runs.specs.Machines.{AreIn, IsImage, IsIn}
use Rattle.block_runs.proofs.BlockEntries.{small_is, word_fits, word_is}
use Rattle.block_runs.proofs.CallStatements.{comes_map}
use Rattle.block_runs.proofs.PointGrounds.{call_is, in_known, known_in, point_frame, point_ground}
use Rattle.program_runs.specs.Statements.{Block, IsAmong}
use Rattle.expression_runs.specs.Values.{HasRegisters, HasWord, OverflowComes, Setting, Stretch, behind, in_registers}
use Rattle.expression_runs.specs.Values.{number_aims, word_aims}
use Rattle.expression_runs.proofs.Words.{frame_of, known_word, number_closed, number_further, valued}
use Rattle.expression_runs.proofs.Words.{word_further, word_here}
use Rattle.expression_runs.proofs.Wrapping.{sum_residue, wrapped_wide, wrapped_word}

-- ---- the line

-- how much code sets it
abbrev pub line_size : (line : ℕ) → ℕ
line_size line = size_of (number a0 line) + 3

-- at the same point with another line
pub lined_among :
    {k : Block} {numbers : ℕ → ℕ} {p : Point} (line : ℕ) → IsAmong k numbers p → IsAmong k numbers (with_line line p)
lined_among line o =
    record {
      stands = record {
        active = o.stands.active;
        laid = o.stands.laid;
        low = o.stands.low;
        lives = o.stands.lives;
        owned = o.stands.owned;
        over = o.stands.over;
        running = o.stands.running;
        allowed = o.stands.allowed;
      };
      image = record {
        keeper = o.image.keeper;
        layout = o.image.layout;
        parts = o.image.parts;
        even = o.image.even;
      };
      later = record {
        activations = o.later.activations;
        layers = o.later.layers;
        edits = o.later.edits;
        waiting = o.later.waiting;
        acts = o.later.acts;
        remains = (let h = o.later.remains in record {
          living = h.living;
          serials = h.serials;
          at = h.at;
          number = h.number;
          signatures = h.signatures;
          statics = h.statics;
          low = h.low;
          constants = h.constants;
          active = h.active;
          in_use = h.in_use;
        });
      };
      few = o.few;
      entries = o.entries;
      others = o.others;
      words = o.words;
    }

holds_lined : (line : ℕ) (p : Point) (m : List ℕ) → Holds (now p m) → Holds (now (with_line line p) m)
holds_lined line p m h =
    record {
      keeps = h.keeps;
      heap = record { at = h.heap.at; capacity = h.heap.capacity };
      lives = record { falling = h.lives.falling; numbered = h.lives.numbered; extents = h.lives.extents };
      stored = h.stored;
      distinct = h.distinct;
    }

abbrev asked_regs : (line : ℕ) → Base → List (ℕ × ℕ)
asked_regs line b = (17, 1) ∷ (11, 1) ∷ (10, line) ∷ []

pub line_reaches :
    {w : Surroundings} {code : List Instr} {p : Point} {numbers : ℕ → ℕ} {i : ℕ} (line c : ℕ) (f : Family) →
    Stands w p × IsImage w code p → line < 2 ^ 31 → Linked w.links code i (number a0 line) →
    Linked w.links code (i + size_of (number a0 line)) (small a1 1 ∷ service 1) → AreIn w p numbers i f →
    Reach code c f (services_of p) (c + line_size line) (services_of (with_line line p))
    (λ b y. IsIn w (with_line line p) numbers (i + line_size line) b y)
line_reaches {w} {code} {p} {numbers} {i} line c f known fits l l1 there =
    let h = point_frame known.0 known.1 in
    let image = known.1 in
    let v = services_of p in
    let v' = services_of (with_line line p) in
    let m = number a0 line in
    let two = small a1 1 ∷ small a7 1 ∷ [] in
    let last = Plain I.Ecall ∷ [] in
    let r1 = constant_piece {rs = nothing} c f a0 (pos line) (word_fits line fits)
    (record { reserved_stay = λ y u. refl; known_stay = λ b y u o. o; set = λ y u. refl })
    l (λ b. known_in {t = λ n. 0} {rs = nothing} h (there b) tt) in
    let r2 = straight (c + size_of m) (reached r1) v v
    (λ b y. Known (point_ground w p h) v numbers (λ n. 0) (asked_regs line) b y) (front_of two last l1) (omega arith)
    (λ b. (reached_holds r1 b).pc)
    (λ b. let o = (reached_holds r1 b).holds in record {
      body = record {
        services = o.body.services;
        registers = o.body.registers;
        bytes = o.body.bytes;
        memory = o.body.memory;
      };
      regs = (
        small_is _ 1 (zero_is o.body) (omega arith),
        (small_is _ 1 (zero_is o.body) (omega arith), (o.regs.0 ∙ word_is line fits, tt)),
      );
    }) in
    let g = reached r2 in
    let at = reached_holds r2 in
    let calling : Calling w.links code (i + size_of m + 2) g (λ b. Done v' (g b).machine.memory line 1) = record {
      linked = back_of two last l1;
      pc = λ b. (at b).pc;
      answers = λ b.
          let o = (at b).holds in
          let x = (g b).machine.registers in
          called code (g b) v 1 line 1 (x 12) (x 13) (x 14) (λ call x0 x1 x2 x3 x4. W.act_served call x0 x1)
          o.body.services o.regs.0 o.regs.1.1.0 o.regs.1.0 refl refl refl (λ call y. refl)
          ∙ ap (λ call. W.act_served call line 1) (call_is w code p (g b).machine.memory image)
          ∙ line_answered p (g b).machine.memory line;
    } in
    let r3 = call_done (c + size_of m + 2) g v v' (λ b. (g b).machine.memory) (λ b. line) (λ b. 1)
    (λ b y. Known (point_ground w (with_line line p) h) v' numbers (λ n. 0) nothing b y) (omega arith) calling
    (λ b. let o = (at b).holds.body in
    record {
      body = record {
        services = refl;
        registers = o.registers;
        bytes = o.bytes;
        memory = record {
          storage = holds_lined line p (g b).machine.memory o.memory.storage;
          frames = o.memory.frames;
        };
      };
      regs = tt;
    }) in
    subst (λ n. Reach code c f v n v' (λ b y. IsIn w (with_line line p) numbers (i + line_size line) b y)) (omega arith)
    (reach_map _ (reach_then r1 (reach_then r2 r3)) (λ b y o.
    subst (λ n. IsIn w (with_line line p) numbers n b y) (omega arith) (in_known h image.parts o)))

-- ---- what the order of a sum and its left operand tells

below_tells : (p q : Bool) → (flag p == flag true) ≡ q → p ≡ q
below_tells true q e = e
below_tells false q e = e

above_tells : (p q : Bool) → (flag p == flag false) ≡ q → (if p then false else true) ≡ q
above_tells true q e = e
above_tells false q e = e

tested_as :
    (x z : ℤ) (q : Bool) → IsWide x → IsWide z → is_of_precision 31 (x +ℤ z) ≡ q → sum_test (word x) (word z) ≡ q
tested_as x z true wx wz e = sum_fits x z wx wz e
tested_as x z false wx wz e = sum_over x z wx wz e

order_tells :
    (falls : Bool) (x z : ℤ) → IsWide x → IsWide z → int_lt z (pos 0) ≡ falls →
    holds_of (if falls then Test.Less else Test.GreaterOrEqual) (sum (word x) (word z)) (word x)
    ≡ is_of_precision 31 (x +ℤ z)
order_tells falls x z wx wz e =
    by_sign falls (sym (ap (λ u. flag p == flag u) (ap (λ u. int_lt u (pos 0)) (signed_word z wz) ∙ e))
    ∙ tested_as x z q wx wz refl)
  where
    p : Bool
    p = int_lt (signed (sum (word x) (word z))) (signed (word x))

    q : Bool
    q = is_of_precision 31 (x +ℤ z)

    by_sign :
        (falls' : Bool) → (flag p == flag falls') ≡ q →
        holds_of (if falls' then Test.Less else Test.GreaterOrEqual) (sum (word x) (word z)) (word x) ≡ q
    by_sign true h = below_tells p q h
    by_sign false h = above_tells p q h

-- ---- the sum

abbrev before_sum : ℕ → Base → List (ℕ × ℕ)
before_sum y b = (6, y) ∷ []

abbrev summed : (x y : ℕ) → Base → List (ℕ × ℕ)
summed x y b = (10, x) ∷ (6, y) ∷ []

sum_small : (x y : ℕ) → sum x y < 2 ^ 32
sum_small x y = omega arith

moved_is : (x y : ℕ) → x ≡ y → y < 2 ^ 32 → sum x (word (pos 0)) ≡ y
moved_is x y e small' = omega (arith, e, small')

-- a0 and u1 are compared: the sum fits, or FIXEDOVERFLOW comes
ordered_does :
    (k : Setting) → OverflowComes k → (p : Point) (numbers : ℕ → ℕ) (credits index : ℕ) (f : Family) (x z : ℤ)
    (h : frame_of k.block p) → IsAmong k.block numbers p → p.control.line ≡ k.around.line → HasRegisters k 0 1 →
    IsWide x → IsWide z →
    Linked k.block.call.surroundings.links k.block.call.code index
    (skip_where (order_of_sum z) a0 u1 (overflow_raised (in_registers k.words 0))) →
    credits + size_of (skip_where (order_of_sum z) a0 u1 (overflow_raised (in_registers k.words 0))) + k.most
    ≤ cost k.block.call.code →
    ((b : Base) → At b index (Known (point_ground k.block.call.surroundings p h) (services_of p) numbers (λ j. 0)
    (summed (sum (word x) (word z)) (word x)) b) (f b)) →
    Comes k.block.call.code credits f (services_of p)
    (number_aims k.block k.labels
    (behind p numbers 0 credits index (skip_where (order_of_sum z) a0 u1 (overflow_raised (in_registers k.words 0)))))
    (R.value_of k.around (checked 31 (x +ℤ z)) k.block.call.surroundings.acts p.state)
unfolding R.value_of give ◌>>◌
ordered_does k over p numbers credits index f x z h o line registers wx wz l paid at =
    by (is_of_precision 31 (x +ℤ z)) refl
  where
    test : BranchTest
    test = order_of_sum z

    raise' : Code
    raise' = overflow_raised (in_registers k.words 0)

    part : Code
    part = skip_where test a0 u1 raise'

    whole : Stretch
    whole = behind p numbers 0 credits index part

    acts : ℕ
    acts = k.block.call.surroundings.acts

    total : ℕ
    total = sum (word x) (word z)

    tests : (q : Bool) → is_of_precision 31 (x +ℤ z) ≡ q → (b : Base) →
        holds_of test ((f b).machine.registers 10) ((f b).machine.registers 6) ≡ q
    tests q e b =
        let o' = (at b).holds.regs in
        ap (λ u. holds_of test u ((f b).machine.registers 6)) o'.0 ∙ ap (holds_of test total) o'.1.0
        ∙ order_tells (int_lt z (pos 0)) x z wx wz refl ∙ e

    by :
        (q : Bool) → is_of_precision 31 (x +ℤ z) ≡ q →
        Comes k.block.call.code credits f (services_of p) (number_aims k.block k.labels whole)
        (R.value_of k.around
        (cond (is_of_precision 31 (x +ℤ z)) (Gives (x +ℤ z)) (Raises C.FixedOverflow 20 (wrapped 31 (x +ℤ z)))) acts
        p.state)
    by true e =
        let r = skip_taken credits f test a0 u1 raise' l at (tests true e) in
        subst (λ q. Comes k.block.call.code credits f (services_of p) (number_aims k.block k.labels whole)
        (R.value_of k.around (cond q (Gives (x +ℤ z)) (Raises C.FixedOverflow 20 (wrapped 31 (x +ℤ z)))) acts p.state))
        (sym e)
        (onward (number_closed k.block k.labels whole) r
        (λ g at'. record {
          to = λ early. (
            e,
            word_here {x = whole} h o (omega arith) refl
                (stay k.block.call.code whole.wanted g (services_of p)
                (λ b y. At b whole.index (Known (point_ground k.block.call.surroundings p h) (services_of p) numbers
                (λ j. 0) (valued (word (x +ℤ z))) b) y)
                (λ b. record {
                  pc = (at' b).pc;
                  holds = record {
                    body = (at' b).holds.body;
                    regs = ((at' b).holds.regs.0 ∙ sum-word x z wx wz e, tt);
                  };
                })),
          );
        }))
    by false e =
        let r = skip_passed credits f test a0 u1 raise' l at (tests false e) in
        let next' : Unit {0} → Meaning ℤ = λ u. give (wrapped 31 (x +ℤ z)) in
        let flow = R.raised k.around C.FixedOverflow 20 acts p.state in
        let goal = number_aims k.block k.labels whole in
        subst (λ q. Comes k.block.call.code credits f (services_of p) goal
        (R.value_of k.around (cond q (Gives (x +ℤ z)) (Raises C.FixedOverflow 20 (wrapped 31 (x +ℤ z)))) acts p.state))
        (sym e)
        (onward (number_closed k.block k.labels whole) r
        (λ g at'.
        comes_on acts flow next'
        (comes_map (word_aims k.block k.labels (behind p numbers 0 (credits + 1) (index + 1) raise') total)
        (before k.block.call.code goal acts next') refl flow
        (λ c' f' v' u s q. record {
          to = λ early. (
            wrapped_wide (x +ℤ z),
            subst (λ n. HasWord k.block whole n c' f' v' s)
                (sum_residue x z wx wz ∙ sym (wrapped_word (x +ℤ z)))
                (word_further
                (record {
                  acts = omega arith;
                  line = refl;
                  index = omega arith;
                  wanted = omega arith;
                  taken = omega arith;
                  stays = λ i less. refl;
                }) q),
          );
        })
        (λ c' f' v' height label s q. q)
        (λ c' f' v' u s q. absurd q)
        (over p numbers 0 (credits + 1) (index + 1) total g o line registers (sum_small (word x) (word z))
        (rest_of _ raise' l) (omega (arith, paid))
        (λ b. (
          in_known h o.image.parts (at' b),
          (at' b).holds.regs.0,
        ))))))

-- a constant is added to the value in a0
pub added_does :
    (k : Setting) → OverflowComes k → (p : Point) (numbers : ℕ → ℕ) (credits index : ℕ) (f : Family) (x z : ℤ) →
    IsAmong k.block numbers p → p.control.line ≡ k.around.line → HasRegisters k 0 1 → IsWide x → IsWide z →
    Linked k.block.call.surroundings.links k.block.call.code index (constant_added (in_registers k.words 0) z) →
    credits + size_of (constant_added (in_registers k.words 0) z) + k.most ≤ cost k.block.call.code →
    ((b : Base) → IsIn k.block.call.surroundings p numbers index b (f b) × (value (f b).machine a0 ≡ word x)) →
    Comes k.block.call.code credits f (services_of p)
    (number_aims k.block k.labels (behind p numbers 0 credits index (constant_added (in_registers k.words 0) z)))
    (R.value_of k.around (checked 31 (x +ℤ z)) k.block.call.surroundings.acts p.state)
added_does k over p numbers credits index f x z o line registers wx wz l paid there =
    let w = k.block.call.surroundings in
    let h = point_frame o.stands o.image in
    let v = services_of p in
    let g = point_ground w p h in
    let first = move u1 a0 ∷ [] in
    let added = plus a0 u1 z in
    let last = skip_where (order_of_sum z) a0 u1 (overflow_raised (in_registers k.words 0)) in
    let l2 = back_of first (added ++ last) l in
    let size = size_append added last in
    let closed = number_closed k.block k.labels
    (behind p numbers 0 credits index (constant_added (in_registers k.words 0) z)) in
    onward closed
    (straight credits f v v (λ b. Known g v numbers (λ j. 0) (before_sum (word x)) b) (front_of first (added ++ last) l)
    (omega arith) (λ b. (there b).0.at.pc)
    (λ b. let o' = (known_word k.block h (there b)).holds in record {
      body = record {
        services = o'.body.services;
        registers = o'.body.registers;
        bytes = o'.body.bytes;
        memory = o'.body.memory;
      };
      regs = (moved_is _ (word x) o'.regs.0 (word_small x wx), tt);
    }))
    (λ f1 at1.
    onward closed
    (plus_piece (credits + 1) f1 a0 u1 z (λ b. word x) (λ b. sum (word x) (word z)) (word_small z wz)
    (λ b. word_small x wx) (λ u n. refl) (λ b w' o'. o'.regs.0) (λ b. refl)
    (record { reserved_stay = λ u n. refl; known_stay = λ b u n o'. o'; set = λ u n. refl })
    (record { reserved_stay = λ u n. refl; known_stay = λ b u n o'. o'; set = λ u n. refl })
    (front_of added last l2) at1)
    (λ f2 at2.
    number_further
    (record {
      acts = omega arith;
      line = refl;
      index = omega (arith, size);
      wanted = omega (arith, size);
      taken = omega arith;
      stays = λ i less. refl;
    })
    (ordered_does k over p numbers (credits + 1 + size_of added) (index + 1 + size_of added) f2 x z h o line registers
    wx wz (back_of added last l2) (omega (arith, paid, size)) at2)))
