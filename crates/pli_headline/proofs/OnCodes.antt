-- ONCODE: the code for which the newest on-unit runs, 0 where none does.
use Rattle.std.proofs.Common.{◌≡◌, ℕ, ◌^◌, ◌<◌, List, refl, sym, ap, ◌∙◌, arith, lit<}
use Rattle.std.specs.Prelude.{pos}
use Rattle.std.proofs.lemmas.Bool.{lt-ltb}
use Rattle.rv_meaning.specs.declared.instr.Instr.{Instr}
use Rattle.rv_meaning.specs.Words.{word}
use Rattle.pli_typing.specs.TypedTree as Y
use Rattle.pli_meaning.specs.StorageState.{State, oncode_of}
use Rattle.pli_meaning.specs.Control.{looked, give, ◌>>=◌}
use Rattle.pli_meaning.specs.Raising.{Around}
use Rattle.pli_meaning.specs.Evaluating as V
use Rattle.pli_serving.specs.ServiceState.{Services}
use Rattle.pli_serving.specs.Answers.{Done}
use Rattle.pli_serving.specs.ActsAndEnds as W
use Rattle.pli_coding.specs.Instructions.{service}
use Rattle.pli_coding.specs.Linking.{Links}
use Rattle.run_steps.specs.Engine.{Base}
use Rattle.run_steps.specs.Numbers.{IsWide}
use Rattle.pli_headline.proofs.Acts.{word_is}
use Rattle.run_steps.specs.Bodies.{Ground}
use Rattle.run_steps.proofs.Temporaries.{stays_same}
use Rattle.pli_headline.proofs.Activations.{small_oncode, same_oncode}
use Rattle.pli_headline.proofs.Serving.{Serving}
use Rattle.pli_headline.proofs.TextCalls.{asking_piece}
use Rattle.pli_headline.proofs.Evaluations.{number_kind, Evaluates}

small_wide : (n : ℕ) → n < 2 ^ 16 → IsWide (pos n)
small_wide n h = lt-ltb n (2 ^ 31) (omega (arith, h))

small_word : (n : ℕ) → n < 2 ^ 16 → word (pos n) ≡ n
small_word n h = word_is n (omega (arith, h))

pub oncode_evaluates : {links : Links} {code : List Instr} {g : Ground} {v : Services} {s : State} {k : ℕ} (around : Around) → Serving k s v around.line → Evaluates number_kind links code g v s k 0 (λ taken. service 33) (V.number around Y.OnCode)
unfolding V.number looked ◌>>=◌ give
oncode_evaluates {code = code} {v = v} {s = s} around serving =
    record {
      does = λ {i} {h} {t} {aims} closed f taken room l at goal.
          let x : Base → ℕ = λ b. (f b).machine.registers 10 in
          let y : Base → ℕ = λ b. (f b).machine.registers 11 in
          let z : Base → ℕ = λ b. (f b).machine.registers 12 in
          let n = oncode_of s.activations in
          let small' = small_oncode s.activations v.activations serving.nested in
          let served = same_oncode s.activations v.activations serving.nested in
          asking_piece closed f v 33 x y z (λ b. n) y (λ c x0 x1 x2 x3 x4. W.oncode_served c x1) (lit< tt) (λ c u. refl) (omega arith)
          (λ b m x3 x4. ap (λ u. Done v m u (y b)) served) l
          (λ b. record { pc = (at b).pc; holds = record { body = (at b).holds.body; regs = (refl, (refl, (refl, tt))) } })
          (λ f1 at1.
          record {
            to = λ early.
                goal (pos n) f1 h t (small_wide n small') (stays_same taken h t) (λ b. record { pc = (at1 b).pc; holds = record { body = (at1 b).holds.body; regs = ((at1 b).holds.regs.0 ∙ sym (small_word n small'), tt) } });
          });
    }
