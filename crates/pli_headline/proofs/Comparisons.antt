-- Comparisons, and operators of bits: straight code that leaves a bit.
use Rattle.std.proofs.Common.{◌≡◌, ℕ, List, [], ◌∷◌, Bool, ap, ◌∙◌}
use Rattle.std.specs.Prelude.{ℤ, pos, not, ◌&&◌, ◌||◌, nat_lt, bit_xor}
use Rattle.std.specs.Ordering.{int_cmp}
use Rattle.rv_meaning.specs.declared.instr.Instr.{Instr}
use Rattle.rv_meaning.specs.declared.instr.RegisterOp.TheVariants as Op
use Rattle.rv_meaning.specs.Words.{word, flag, operated}
use Rattle.pli_typing.specs.TypedTree as Y
use Rattle.pli_meaning.specs.Texts.{holds, bit_order}
use Rattle.pli_meaning.specs.StorageState.{State}
use Rattle.pli_meaning.specs.Control.{give}
use Rattle.pli_serving.specs.ServiceState.{Services}
use Rattle.pli_coding.specs.Arithmetic.{negated_code, combined_code, compared_code}
use Rattle.pli_coding.specs.Linking.{Links}
use Rattle.run_steps.specs.Numbers.{IsWide}
use Rattle.pli_headline.proofs.WordComparisons.{compared_word, negated_flag, and_flags, or_flags, numbers_compared, bits_compared}
use Rattle.run_steps.specs.Bodies.{Ground}
use Rattle.run_steps.proofs.Bodies.{zero_is}
use Rattle.pli_headline.proofs.Operators.{valued, paired}
use Rattle.pli_headline.proofs.Evaluations.{bit_kind, Operates, straight_operates}

compared_operates : {links : Links} {code : List Instr} {g : Ground} {v : Services} {s : State} {k words : ℕ} (c : Y.Comparison) (l r : ℕ) (z : Bool) → compared_word c l r ≡ flag z → Operates bit_kind links code g v s k words (paired l r) (λ taken. compared_code c) (give z)
compared_operates Y.IsEqual l r z e =
    straight_operates z tt
    (λ h t b i w o. record {
      body = record { services = o.body.services; registers = o.body.registers; bytes = o.body.bytes; memory = o.body.memory };
      regs = (ap (λ u. compared_word Y.IsEqual u (w.machine.registers 10)) o.regs.0 ∙ ap (compared_word Y.IsEqual l) o.regs.1.0 ∙ e, tt);
    })
compared_operates Y.IsNotEqual l r z e =
    straight_operates z tt
    (λ h t b i w o. record {
      body = record { services = o.body.services; registers = o.body.registers; bytes = o.body.bytes; memory = o.body.memory };
      regs = (
        ap (λ u. flag (nat_lt u (bit_xor (w.machine.registers 6) (w.machine.registers 10)))) (zero_is o.body)
            ∙ ap (λ u. compared_word Y.IsNotEqual u (w.machine.registers 10)) o.regs.0
            ∙ ap (compared_word Y.IsNotEqual l) o.regs.1.0
            ∙ e,
        tt,
      );
    })
compared_operates Y.IsLess l r z e =
    straight_operates z tt
    (λ h t b i w o. record {
      body = record { services = o.body.services; registers = o.body.registers; bytes = o.body.bytes; memory = o.body.memory };
      regs = (ap (λ u. compared_word Y.IsLess u (w.machine.registers 10)) o.regs.0 ∙ ap (compared_word Y.IsLess l) o.regs.1.0 ∙ e, tt);
    })
compared_operates Y.IsGreater l r z e =
    straight_operates z tt
    (λ h t b i w o. record {
      body = record { services = o.body.services; registers = o.body.registers; bytes = o.body.bytes; memory = o.body.memory };
      regs = (ap (λ u. compared_word Y.IsGreater u (w.machine.registers 10)) o.regs.0 ∙ ap (compared_word Y.IsGreater l) o.regs.1.0 ∙ e, tt);
    })
compared_operates Y.IsLessOrEqual l r z e =
    straight_operates z tt
    (λ h t b i w o. record {
      body = record { services = o.body.services; registers = o.body.registers; bytes = o.body.bytes; memory = o.body.memory };
      regs = (ap (λ u. compared_word Y.IsLessOrEqual u (w.machine.registers 10)) o.regs.0 ∙ ap (compared_word Y.IsLessOrEqual l) o.regs.1.0 ∙ e, tt);
    })
compared_operates Y.IsGreaterOrEqual l r z e =
    straight_operates z tt
    (λ h t b i w o. record {
      body = record { services = o.body.services; registers = o.body.registers; bytes = o.body.bytes; memory = o.body.memory };
      regs = (ap (λ u. compared_word Y.IsGreaterOrEqual u (w.machine.registers 10)) o.regs.0 ∙ ap (compared_word Y.IsGreaterOrEqual l) o.regs.1.0 ∙ e, tt);
    })

pub numbers_operate : {links : Links} {code : List Instr} {g : Ground} {v : Services} {s : State} {k words : ℕ} (c : Y.Comparison) (x y : ℤ) → IsWide x → IsWide y → Operates bit_kind links code g v s k words (paired (word x) (word y)) (λ taken. compared_code c) (give (holds c (int_cmp x y)))
numbers_operate c x y wx wy = compared_operates c (word x) (word y) (holds c (int_cmp x y)) (numbers_compared c x y wx wy)

pub bits_operate : {links : Links} {code : List Instr} {g : Ground} {v : Services} {s : State} {k : ℕ} (c : Y.Comparison) (a b : Bool) → Operates bit_kind links code g v s k 1 (paired (flag a) (flag b)) (λ taken. compared_code c) (give (holds c (bit_order a b)))
bits_operate c a b = compared_operates c (flag a) (flag b) (holds c (bit_order a b)) (bits_compared c a b)

pub negated_operates : {links : Links} {code : List Instr} {g : Ground} {v : Services} {s : State} {k : ℕ} (a : Bool) → Operates bit_kind links code g v s k 0 (valued (flag a)) (λ taken. negated_code ∷ []) (give (not a))
negated_operates a =
    straight_operates (not a) tt
    (λ h t b i w o. record {
      body = record { services = o.body.services; registers = o.body.registers; bytes = o.body.bytes; memory = o.body.memory };
      regs = (ap (λ u. bit_xor u (word (pos 1))) o.regs.0 ∙ negated_flag a, tt);
    })

pub and_operates : {links : Links} {code : List Instr} {g : Ground} {v : Services} {s : State} {k : ℕ} (a b : Bool) → Operates bit_kind links code g v s k 1 (paired (flag a) (flag b)) (λ taken. combined_code Y.Conjunction ∷ []) (give (a && b))
and_operates a b =
    straight_operates (a && b) tt
    (λ h t base i w o. record {
      body = record { services = o.body.services; registers = o.body.registers; bytes = o.body.bytes; memory = o.body.memory };
      regs = (ap (λ u. operated Op.And u (w.machine.registers 10)) o.regs.0 ∙ ap (operated Op.And (flag a)) o.regs.1.0 ∙ and_flags a b, tt);
    })

pub or_operates : {links : Links} {code : List Instr} {g : Ground} {v : Services} {s : State} {k : ℕ} (a b : Bool) → Operates bit_kind links code g v s k 1 (paired (flag a) (flag b)) (λ taken. combined_code Y.Disjunction ∷ []) (give (a || b))
or_operates a b =
    straight_operates (a || b) tt
    (λ h t base i w o. record {
      body = record { services = o.body.services; registers = o.body.registers; bytes = o.body.bytes; memory = o.body.memory };
      regs = (ap (λ u. operated Op.Or u (w.machine.registers 10)) o.regs.0 ∙ ap (operated Op.Or (flag a)) o.regs.1.0 ∙ or_flags a b, tt);
    })
