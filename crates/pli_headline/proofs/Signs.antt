-- Signs and absolute values, with their overflow.
use Rattle.std.proofs.Common.{ℕ, List, [], ◌∷◌, refl, ap, ◌∙◌, subst, arith}
use Rattle.std.specs.Prelude.{ℤ, pos, nat_abs, int_lt}
use Rattle.rv_meaning.specs.declared.instr.Instr.{Instr}
use Rattle.rv_meaning.specs.declared.instr.RegisterOp.TheVariants as Op
use Rattle.rv_meaning.specs.declared.instr.ShiftOp.TheVariants as Shift
use Rattle.rv_meaning.specs.declared.instr.BranchTest.TheVariants as Test
use Rattle.rv_meaning.specs.Words.{word, signed, flag, operated}
use Rattle.pli_typing.specs.TypedTree as Y
use Rattle.pli_meaning.specs.Numbers.{is_of_precision, sign_applied}
use Rattle.pli_meaning.specs.Operations.{absolute, sign_of}
use Rattle.pli_meaning.specs.StorageState.{State}
use Rattle.pli_meaning.specs.Control.{give}
use Rattle.pli_meaning.specs.Raising as R
use Rattle.pli_meaning.specs.Raising.{Around}
use Rattle.pli_serving.specs.ServiceState.{Services}
use Rattle.pli_coding.specs.Registers.{a0, u1}
use Rattle.pli_coding.specs.Instructions.{shift, registers, subtract, lowest_number, skip_where}
use Rattle.pli_coding.specs.Arithmetic.{overflow_raised, signed_code, absolute_code, sign_code}
use Rattle.pli_coding.specs.Linking.{Links}
use Rattle.temporary_bounds.proofs.Takes.{none_spare}
use Rattle.run_steps.specs.Engine.{address}
use Rattle.run_steps.proofs.Items.{straight}
use Rattle.run_steps.specs.Numbers.{IsWide, least_word}
use Rattle.pli_headline.proofs.WordSigns.{absolute_bits_of, absolute-word, absolute_most, absolute_tested, sign-word, sign_wide}
use Rattle.run_steps.specs.Bodies.{Ground, Known}
use Rattle.run_steps.proofs.Bodies.{zero_is}
use Rattle.run_steps.proofs.Jumps.{front_of, back_of}
use Rattle.run_steps.specs.Temporaries.{Temporaries}
use Rattle.pli_headline.proofs.Serving.{Serving}
use Rattle.pli_headline.proofs.Raising.{Routines}
use Rattle.pli_headline.proofs.Operators.{valued, negated, lowest_by, signed_piece}
use Rattle.pli_headline.proofs.Evaluations.{number_kind, Operates, straight_operates}
use Rattle.run_steps.proofs.Reach.{onward}

pub signed_operates : {links : Links} {code : List Instr} {g : Ground} {v : Services} {s : State} {k : ℕ} (routines : Routines links code) (temps : Temporaries g) (around : Around) → Serving k s v around.line → (sign : Y.Sign) (x : ℤ) → IsWide x → Operates number_kind links code g v s k 1 (valued (word x)) (λ taken. signed_code taken sign) (R.value_of around (sign_applied sign x))
signed_operates {k = k} routines temps around serving sign x wx =
    record {
      does = λ closed f taken room l at gone.
          signed_piece sign closed routines temps f around taken x k wx
          (λ none. let z = none_spare taken none in omega (arith, z, room)) l serving at gone;
    }

pub absolute_operates : {links : Links} {code : List Instr} {g : Ground} {v : Services} {s : State} {k : ℕ} (routines : Routines links code) (temps : Temporaries g) (around : Around) → Serving k s v around.line → (x : ℤ) → IsWide x → Operates number_kind links code g v s k 1 (valued (word x)) absolute_code (R.value_of around (absolute x))
absolute_operates {g = g} {v = v} {s = s} {k = k} routines temps around serving x wx =
    record {
      does = λ {i} {h} {t} {aims} closed f taken room l at gone.
          let front = shift Shift.RightArithmetic u1 a0 31 ∷ registers Op.Xor a0 a0 u1 ∷ subtract a0 a0 u1 ∷ lowest_number u1 ∷ [] in
          let behind = skip_where Test.NotEqual a0 u1 (overflow_raised taken) in
          let z = pos (nat_abs x) in
          let most = absolute_most x wx in
          let r = straight i f v v (λ b. Known g v h t (negated (word z) least_word) b) (front_of front behind l) (omega arith) (λ b. (at b).pc)
          (λ b.
          let o = (at b).holds in
          record {
            body = record { services = o.body.services; registers = o.body.registers; bytes = o.body.bytes; memory = o.body.memory };
            regs = (ap absolute_bits_of o.regs.0 ∙ absolute-word x wx, (refl, tt));
          }) in
          onward closed r (λ f' at'.
          lowest_by (is_of_precision 31 z) closed routines temps f' around taken z k (omega (arith, most)) refl
          (absolute_tested (is_of_precision 31 z) (nat_abs x) most refl)
          (λ none. let z = none_spare taken none in omega (arith, z, room)) (back_of front behind l) serving at'
          (λ z' f'' w at''. subst (λ n. aims.done n f'' v z' s) (omega arith) (gone z' f'' w (λ b. record { pc = (at'' b).pc ∙ ap (address b) (omega arith); holds = (at'' b).holds }))));
    }

pub sign_operates : {links : Links} {code : List Instr} {g : Ground} {v : Services} {s : State} {k : ℕ} (x : ℤ) → IsWide x → Operates number_kind links code g v s k 0 (valued (word x)) (λ taken. sign_code) (give (sign_of x))
sign_operates x wx =
    straight_operates (sign_of x) (sign_wide x)
    (λ h t b i w o.
    let x10 = w.machine.registers 10 in
    record {
      body = record { services = o.body.services; registers = o.body.registers; bytes = o.body.bytes; memory = o.body.memory };
      regs = (
        ap (λ u. operated Op.Subtract (flag (int_lt (signed u) (signed x10))) (flag (int_lt (signed x10) (signed (word (pos 0)))))) (zero_is o.body)
            ∙ ap (λ u. operated Op.Subtract (flag (int_lt (signed 0) (signed u))) (flag (int_lt (signed u) (signed (word (pos 0)))))) o.regs.0
            ∙ sign-word x wx,
        tt,
      );
    })
