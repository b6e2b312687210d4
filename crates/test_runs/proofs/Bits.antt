-- Comparisons, and operators of bits.
use Rattle.std.proofs.Common.{◌≡◌, ℕ, suc, ◌+◌, ◌^◌, ◌<◌, [], ◌∷◌, Bool, true, false, ap}
use Rattle.std.proofs.Common.{◌∙◌, arith, lit<}
use Rattle.std.specs.Ordering.{int_cmp}
use Rattle.std.specs.Prelude.{bit_xor, max, nat_lt, not, pos, ◌&&◌, ◌||◌}
use Rattle.rv_meaning.specs.declared.instr.RegisterOp.TheVariants as Op
use Rattle.rv_meaning.specs.Words.{flag, operated, sum, word}
use Rattle.pli_typing.specs.TypedTree as Y
use Rattle.pli_meaning.specs.Evaluating as V
use Rattle.pli_meaning.specs.Texts.{bit_order, holds}
use Rattle.pli_coding.specs.Arithmetic.{combined_code, compared_code, negated_code}
use Rattle.pli_coding.specs.Assembly.{size_of}
use Rattle.pli_coding.specs.Expressions.{bit_code, number_code}
use Rattle.activation_relation.specs.Layers.{Point, services_of}
use Rattle.run_steps.specs.Bodies.{Known}
use Rattle.run_steps.proofs.Bodies.{zero_is}
use Rattle.run_steps.specs.Engine.{Base}
use Rattle.run_steps.specs.Items.{At, Linked}
use Rattle.run_steps.proofs.Items.{straight}
use Rattle.run_steps.specs.Numbers.{IsWide}
use Rattle.run_steps.proofs.Numbers.{word_small}
use Rattle.run_steps.specs.Reach.{Family, Reach}
use Rattle.run_steps.proofs.Reach.{onward}
use Rattle.run_steps.specs.Temporaries.{nothing}
use Rattle.block_runs.proofs.PointGrounds.{known_in, point_frame, point_ground}
use Rattle.pli_headline.proofs.WordComparisons.{and_flags, bits_compared, compared_word, negated_flag, numbers_compared}
use Rattle.pli_headline.proofs.WordComparisons.{or_flags}
use Rattle.expression_runs.specs.Laws.{Does}
use Rattle.expression_runs.specs.Values.{Setting, behind, in_registers}
use Rattle.expression_runs.proofs.Words.{frame_of, paired, valued}
use Rattle.test_runs.specs.Tests.{Tests}
use Rattle.test_runs.proofs.Operands.{Compares, IsBit, bit_closed, both_decide, decided_leaves, leaves_bit, one_decides}

-- ---- constants

constant_word : (z n : ℕ) → z ≡ 0 → n < 2 ^ 32 → sum z n ≡ n
constant_word z n e h = omega (arith, e, h)

pub constant_tests : (k : Setting) (b : Bool) → Tests k 0 (Y.BitConstant b)
unfolding V.bit
constant_tests k true p numbers taken c index f o line registers l paid there =
    let part = bit_code k.block.environment (in_registers k.words taken) (Y.BitConstant true) in
    let h = point_frame o.stands o.image in
    let v = services_of p in
    let r = straight c f v v (λ b. Known (point_ground k.block.call.surroundings p h) v numbers (λ j. 0) (valued 1) b) l
    (omega arith) (λ b. (known_in {t = λ j. 0} {rs = nothing} h (there b) tt).pc)
    (λ b. let o' = (known_in {t = λ j. 0} {rs = nothing} h (there b) tt).holds in record {
      body = record {
        services = o'.body.services;
        registers = o'.body.registers;
        bytes = o'.body.bytes;
        memory = o'.body.memory;
      };
      regs = (constant_word _ 1 (zero_is o'.body) (lit< tt), tt);
    }) in
    onward (bit_closed k.block k.labels (behind p numbers taken c index part)) r
    (λ g at. leaves_bit k p numbers taken c index g true part h o at)
constant_tests k false p numbers taken c index f o line registers l paid there =
    let part = bit_code k.block.environment (in_registers k.words taken) (Y.BitConstant false) in
    let h = point_frame o.stands o.image in
    let v = services_of p in
    let r = straight c f v v (λ b. Known (point_ground k.block.call.surroundings p h) v numbers (λ j. 0) (valued 0) b) l
    (omega arith) (λ b. (known_in {t = λ j. 0} {rs = nothing} h (there b) tt).pc)
    (λ b. let o' = (known_in {t = λ j. 0} {rs = nothing} h (there b) tt).holds in record {
      body = record {
        services = o'.body.services;
        registers = o'.body.registers;
        bytes = o'.body.bytes;
        memory = o'.body.memory;
      };
      regs = (constant_word _ 0 (zero_is o'.body) (lit< tt), tt);
    }) in
    onward (bit_closed k.block k.labels (behind p numbers taken c index part)) r
    (λ g at. leaves_bit k p numbers taken c index g false part h o at)

-- ---- comparisons

pub compared_reach :
    (k : Setting) (p : Point) (numbers : ℕ → ℕ) (c index : ℕ) (f : Family) (h : frame_of k.block p)
    (comparison : Y.Comparison) (left right : ℕ) (z : Bool) → compared_word comparison left right ≡ flag z →
    Linked k.block.call.surroundings.links k.block.call.code index (compared_code comparison) →
    ((b : Base) → At b index (Known (point_ground k.block.call.surroundings p h) (services_of p) numbers (λ j. 0)
    (paired left right) b) (f b)) →
    Reach k.block.call.code c f (services_of p) (c + size_of (compared_code comparison)) (services_of p)
    (λ b y. At b (index + size_of (compared_code comparison)) (Known (point_ground k.block.call.surroundings p h)
    (services_of p) numbers (λ j. 0) (valued (flag z)) b) y)
compared_reach k p numbers c index f h Y.IsEqual left right z e l at =
    let v = services_of p in
    straight c f v v (λ b. Known (point_ground k.block.call.surroundings p h) v numbers (λ j. 0) (valued (flag z)) b) l
    (omega arith) (λ b. (at b).pc)
    (λ b. let o' = (at b).holds in record {
      body = record {
        services = o'.body.services;
        registers = o'.body.registers;
        bytes = o'.body.bytes;
        memory = o'.body.memory;
      };
      regs = (
        ap (λ u. compared_word Y.IsEqual u ((f b).machine.registers 10)) o'.regs.0
            ∙ ap (compared_word Y.IsEqual left) o'.regs.1.0 ∙ e,
        tt,
      );
    })
compared_reach k p numbers c index f h Y.IsNotEqual left right z e l at =
    let v = services_of p in
    straight c f v v (λ b. Known (point_ground k.block.call.surroundings p h) v numbers (λ j. 0) (valued (flag z)) b) l
    (omega arith) (λ b. (at b).pc)
    (λ b. let o' = (at b).holds in record {
      body = record {
        services = o'.body.services;
        registers = o'.body.registers;
        bytes = o'.body.bytes;
        memory = o'.body.memory;
      };
      regs = (
        ap (λ u. flag (nat_lt u (bit_xor ((f b).machine.registers 6) ((f b).machine.registers 10)))) (zero_is o'.body)
            ∙ ap (λ u. compared_word Y.IsNotEqual u ((f b).machine.registers 10)) o'.regs.0
            ∙ ap (compared_word Y.IsNotEqual left) o'.regs.1.0 ∙ e,
        tt,
      );
    })
compared_reach k p numbers c index f h Y.IsLess left right z e l at =
    let v = services_of p in
    straight c f v v (λ b. Known (point_ground k.block.call.surroundings p h) v numbers (λ j. 0) (valued (flag z)) b) l
    (omega arith) (λ b. (at b).pc)
    (λ b. let o' = (at b).holds in record {
      body = record {
        services = o'.body.services;
        registers = o'.body.registers;
        bytes = o'.body.bytes;
        memory = o'.body.memory;
      };
      regs = (
        ap (λ u. compared_word Y.IsLess u ((f b).machine.registers 10)) o'.regs.0
            ∙ ap (compared_word Y.IsLess left) o'.regs.1.0 ∙ e,
        tt,
      );
    })
compared_reach k p numbers c index f h Y.IsGreater left right z e l at =
    let v = services_of p in
    straight c f v v (λ b. Known (point_ground k.block.call.surroundings p h) v numbers (λ j. 0) (valued (flag z)) b) l
    (omega arith) (λ b. (at b).pc)
    (λ b. let o' = (at b).holds in record {
      body = record {
        services = o'.body.services;
        registers = o'.body.registers;
        bytes = o'.body.bytes;
        memory = o'.body.memory;
      };
      regs = (
        ap (λ u. compared_word Y.IsGreater u ((f b).machine.registers 10)) o'.regs.0
            ∙ ap (compared_word Y.IsGreater left) o'.regs.1.0 ∙ e,
        tt,
      );
    })
compared_reach k p numbers c index f h Y.IsLessOrEqual left right z e l at =
    let v = services_of p in
    straight c f v v (λ b. Known (point_ground k.block.call.surroundings p h) v numbers (λ j. 0) (valued (flag z)) b) l
    (omega arith) (λ b. (at b).pc)
    (λ b. let o' = (at b).holds in record {
      body = record {
        services = o'.body.services;
        registers = o'.body.registers;
        bytes = o'.body.bytes;
        memory = o'.body.memory;
      };
      regs = (
        ap (λ u. compared_word Y.IsLessOrEqual u ((f b).machine.registers 10)) o'.regs.0
            ∙ ap (compared_word Y.IsLessOrEqual left) o'.regs.1.0 ∙ e,
        tt,
      );
    })
compared_reach k p numbers c index f h Y.IsGreaterOrEqual left right z e l at =
    let v = services_of p in
    straight c f v v (λ b. Known (point_ground k.block.call.surroundings p h) v numbers (λ j. 0) (valued (flag z)) b) l
    (omega arith) (λ b. (at b).pc)
    (λ b. let o' = (at b).holds in record {
      body = record {
        services = o'.body.services;
        registers = o'.body.registers;
        bytes = o'.body.bytes;
        memory = o'.body.memory;
      };
      regs = (
        ap (λ u. compared_word Y.IsGreaterOrEqual u ((f b).machine.registers 10)) o'.regs.0
            ∙ ap (compared_word Y.IsGreaterOrEqual left) o'.regs.1.0 ∙ e,
        tt,
      );
    })

numbers_compare :
    (k : Setting) (comparison : Y.Comparison) →
    Compares word IsWide k (compared_code comparison) (λ x y. holds comparison (int_cmp x y))
numbers_compare k comparison p numbers taken c index f x y h o wx wy l at =
    let z = holds comparison (int_cmp x y) in
    onward (bit_closed k.block k.labels (behind p numbers taken c index (compared_code comparison)))
    (compared_reach k p numbers c index f h comparison (word x) (word y) z (numbers_compared comparison x y wx wy) l at)
    (λ g at'. leaves_bit k p numbers taken c index g z (compared_code comparison) h o at')

pub numbers_tests :
    (k : Setting) (comparison : Y.Comparison) (left right : Y.Number) (m n : ℕ) → Does k m left → Does k n right →
    Tests k (max m (suc n)) (Y.NumbersCompared comparison left right)
unfolding V.bit
numbers_tests k comparison left right m n el er =
    both_decide word IsWide word_small k m n (λ t. number_code k.block.environment t left)
    (λ t. number_code k.block.environment t right) (compared_code comparison) (V.number k.around left)
    (V.number k.around right) (λ x y. holds comparison (int_cmp x y)) el er (numbers_compare k comparison)

flag_small : (b : Bool) → IsBit b → flag b < 2 ^ 32
flag_small true h = lit< tt
flag_small false h = lit< tt

bits_compare :
    (k : Setting) (comparison : Y.Comparison) →
    Compares flag IsBit k (compared_code comparison) (λ x y. holds comparison (bit_order x y))
bits_compare k comparison p numbers taken c index f x y h o wx wy l at =
    let z = holds comparison (bit_order x y) in
    onward (bit_closed k.block k.labels (behind p numbers taken c index (compared_code comparison)))
    (compared_reach k p numbers c index f h comparison (flag x) (flag y) z (bits_compared comparison x y) l at)
    (λ g at'. leaves_bit k p numbers taken c index g z (compared_code comparison) h o at')

pub bits_tests :
    (k : Setting) (comparison : Y.Comparison) (left right : Y.Bit) (m n : ℕ) → Tests k m left → Tests k n right →
    Tests k (max m (suc n)) (Y.BitsCompared comparison left right)
unfolding V.bit
bits_tests k comparison left right m n el er =
    both_decide flag IsBit flag_small k m n (λ t. bit_code k.block.environment t left)
    (λ t. bit_code k.block.environment t right) (compared_code comparison) (V.bit k.around left)
    (V.bit k.around right) (λ x y. holds comparison (bit_order x y))
    (decided_leaves k m (λ t. bit_code k.block.environment t left) (V.bit k.around left) el)
    (decided_leaves k n (λ t. bit_code k.block.environment t right) (V.bit k.around right) er)
    (bits_compare k comparison)

-- ---- operators of bits

and_compares : (k : Setting) → Compares flag IsBit k (combined_code Y.Conjunction ∷ []) (λ x y. x && y)
and_compares k p numbers taken c index f x y h o wx wy l at =
    let v = services_of p in
    let part = combined_code Y.Conjunction ∷ [] in
    let r = straight c f v v (λ b. Known (point_ground k.block.call.surroundings p h) v numbers (λ j. 0)
    (valued (flag (x && y))) b) l (omega arith) (λ b. (at b).pc)
    (λ b. let o' = (at b).holds in record {
      body = record {
        services = o'.body.services;
        registers = o'.body.registers;
        bytes = o'.body.bytes;
        memory = o'.body.memory;
      };
      regs = (
        ap (λ u. operated Op.And u ((f b).machine.registers 10)) o'.regs.0 ∙ ap (operated Op.And (flag x)) o'.regs.1.0
            ∙ and_flags x y,
        tt,
      );
    }) in
    onward (bit_closed k.block k.labels (behind p numbers taken c index part)) r
    (λ g at'. leaves_bit k p numbers taken c index g (x && y) part h o at')

pub and_tests :
    (k : Setting) (left right : Y.Bit) (m n : ℕ) → Tests k m left → Tests k n right →
    Tests k (max m (suc n)) (Y.Combined Y.Conjunction left right)
unfolding V.bit
and_tests k left right m n el er =
    both_decide flag IsBit flag_small k m n (λ t. bit_code k.block.environment t left)
    (λ t. bit_code k.block.environment t right) (combined_code Y.Conjunction ∷ []) (V.bit k.around left)
    (V.bit k.around right) (λ x y. x && y)
    (decided_leaves k m (λ t. bit_code k.block.environment t left) (V.bit k.around left) el)
    (decided_leaves k n (λ t. bit_code k.block.environment t right) (V.bit k.around right) er) (and_compares k)

or_compares : (k : Setting) → Compares flag IsBit k (combined_code Y.Disjunction ∷ []) (λ x y. x || y)
or_compares k p numbers taken c index f x y h o wx wy l at =
    let v = services_of p in
    let part = combined_code Y.Disjunction ∷ [] in
    let r = straight c f v v (λ b. Known (point_ground k.block.call.surroundings p h) v numbers (λ j. 0)
    (valued (flag (x || y))) b) l (omega arith) (λ b. (at b).pc)
    (λ b. let o' = (at b).holds in record {
      body = record {
        services = o'.body.services;
        registers = o'.body.registers;
        bytes = o'.body.bytes;
        memory = o'.body.memory;
      };
      regs = (
        ap (λ u. operated Op.Or u ((f b).machine.registers 10)) o'.regs.0 ∙ ap (operated Op.Or (flag x)) o'.regs.1.0
            ∙ or_flags x y,
        tt,
      );
    }) in
    onward (bit_closed k.block k.labels (behind p numbers taken c index part)) r
    (λ g at'. leaves_bit k p numbers taken c index g (x || y) part h o at')

pub or_tests :
    (k : Setting) (left right : Y.Bit) (m n : ℕ) → Tests k m left → Tests k n right →
    Tests k (max m (suc n)) (Y.Combined Y.Disjunction left right)
unfolding V.bit
or_tests k left right m n el er =
    both_decide flag IsBit flag_small k m n (λ t. bit_code k.block.environment t left)
    (λ t. bit_code k.block.environment t right) (combined_code Y.Disjunction ∷ []) (V.bit k.around left)
    (V.bit k.around right) (λ x y. x || y)
    (decided_leaves k m (λ t. bit_code k.block.environment t left) (V.bit k.around left) el)
    (decided_leaves k n (λ t. bit_code k.block.environment t right) (V.bit k.around right) er) (or_compares k)

pub negated_tests : (k : Setting) (operand : Y.Bit) (m : ℕ) → Tests k m operand → Tests k m (Y.Negated operand)
unfolding V.bit
negated_tests k operand m does =
    one_decides k m (λ t. bit_code k.block.environment t operand) (negated_code ∷ []) (V.bit k.around operand)
    (λ x. not x) does
    (λ p numbers taken c index f x h o l at.
    let v = services_of p in
    let part = negated_code ∷ [] in
    onward (bit_closed k.block k.labels (behind p numbers taken c index part))
    (straight c f v v (λ b. Known (point_ground k.block.call.surroundings p h) v numbers (λ j. 0)
    (valued (flag (not x))) b) l (omega arith) (λ b. (at b).pc)
    (λ b. let o' = (at b).holds in record {
      body = record {
        services = o'.body.services;
        registers = o'.body.registers;
        bytes = o'.body.bytes;
        memory = o'.body.memory;
      };
      regs = (ap (λ u. bit_xor u (word (pos 1))) o'.regs.0 ∙ negated_flag x, tt);
    }))
    (λ g at'. leaves_bit k p numbers taken c index g (not x) part h o at'))
