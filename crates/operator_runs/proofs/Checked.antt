-- A value is tested: it stays where it fits, else FIXEDOVERFLOW is raised, behind which it is cut to 31 bits and sign.
use Rattle.std.proofs.Common.{◌≡◌, ℕ, ◌+◌, ◌^◌, ◌<◌, ◌≤◌, Bool, true, false, refl, sym, ◌∙◌}
use Rattle.std.proofs.Common.{subst, arith}
use Rattle.std.specs.Prelude.{ℤ, cond}
use Rattle.rv_meaning.specs.declared.instr.BranchTest.{BranchTest}
use Rattle.rv_meaning.specs.declared.instr.Register.{Register}
use Rattle.rv_meaning.specs.Words.{holds_of, word}
use Rattle.pli_language.specs.declared.condition.Condition.TheVariants as C
use Rattle.pli_meaning.specs.Control.{Meaning, give, ◌>>◌}
use Rattle.pli_meaning.specs.Numbers.{Gives, Raises, checked, is_of_precision, wrapped}
use Rattle.pli_meaning.specs.Raising as R
use Rattle.pli_coding.specs.Arithmetic.{overflow_raised}
use Rattle.pli_coding.specs.Assembly.{Code, size_of}
use Rattle.pli_coding.specs.Environments.{Taken}
use Rattle.pli_coding.specs.Instructions.{skip_where}
use Rattle.activation_relation.specs.Layers.{Point, services_of}
use Rattle.run_steps.specs.Bodies.{Known}
use Rattle.run_steps.specs.Engine.{Base}
use Rattle.run_steps.specs.Items.{At, Linked}
use Rattle.run_steps.proofs.Jumps.{rest_of, skip_passed, skip_taken}
use Rattle.run_steps.specs.Reach.{Comes, Family, before, cost}
use Rattle.run_steps.proofs.Reach.{comes_on, onward, stay}
use Rattle.block_runs.proofs.CallStatements.{comes_map}
use Rattle.block_runs.proofs.PointGrounds.{in_known, point_ground}
use Rattle.program_runs.specs.Statements.{IsAmong}
use Rattle.expression_runs.specs.Values.{HasRegisters, HasWord, OverflowComes, Setting, Stretch, behind, in_registers}
use Rattle.expression_runs.specs.Values.{number_aims, word_aims}
use Rattle.expression_runs.proofs.Words.{frame_of, number_closed, valued, word_further, word_here}
use Rattle.expression_runs.proofs.Wrapping.{wrapped_wide}

-- the word is that of the value, cut where it doesn't fit
pub record Cuts (z : ℤ) (x : ℕ) : Type 0 where
  pub word_is : x ≡ word (wrapped 31 z)
  pub small' : x < 2 ^ 32
  pub fits : is_of_precision 31 z ≡ true → x ≡ word z

-- the registers that are compared tell whether it fits
abbrev pub Tells : BranchTest → (r s : Register) → ℤ → Family → Type 0
Tells test r s z f =
    (b : Base) →
    holds_of test ((f b).machine.registers r.index) ((f b).machine.registers s.index) ≡ is_of_precision 31 z

pub checked_does :
    (k : Setting) → OverflowComes k → (p : Point) (numbers : ℕ → ℕ) (taken credits index : ℕ) (f : Family) (z : ℤ)
    (x : ℕ) (test : BranchTest) (r s : Register) (h : frame_of k.block p) → IsAmong k.block numbers p →
    p.control.line ≡ k.around.line → HasRegisters k taken 1 → Cuts z x →
    Linked k.block.call.surroundings.links k.block.call.code index
    (skip_where test r s (overflow_raised (in_registers k.words taken))) →
    credits + size_of (skip_where test r s (overflow_raised (in_registers k.words taken))) + k.most
    ≤ cost k.block.call.code →
    ((b : Base) → At b index (Known (point_ground k.block.call.surroundings p h) (services_of p) numbers (λ j. 0)
    (valued x) b) (f b)) →
    Tells test r s z f →
    Comes k.block.call.code credits f (services_of p)
    (number_aims k.block k.labels
    (behind p numbers taken credits index (skip_where test r s (overflow_raised (in_registers k.words taken)))))
    (R.value_of k.around (checked 31 z) k.block.call.surroundings.acts p.state)
unfolding R.value_of give ◌>>◌
checked_does k over p numbers taken credits index f z x test r s h o line registers is l paid at tells =
    by (is_of_precision 31 z) refl
  where
    t : Taken
    t = in_registers k.words taken

    raise' : Code
    raise' = overflow_raised t

    part : Code
    part = skip_where test r s raise'

    whole : Stretch
    whole = behind p numbers taken credits index part

    acts : ℕ
    acts = k.block.call.surroundings.acts

    by :
        (q : Bool) → is_of_precision 31 z ≡ q →
        Comes k.block.call.code credits f (services_of p) (number_aims k.block k.labels whole)
        (R.value_of k.around
        (cond (is_of_precision 31 z) (Gives z) (Raises C.FixedOverflow 20 (wrapped 31 z))) acts p.state)
    by true e =
        let reach = skip_taken credits f test r s raise' l at (λ b. tells b ∙ e) in
        subst (λ q. Comes k.block.call.code credits f (services_of p) (number_aims k.block k.labels whole)
        (R.value_of k.around (cond q (Gives z) (Raises C.FixedOverflow 20 (wrapped 31 z))) acts p.state)) (sym e)
        (onward (number_closed k.block k.labels whole) reach
        (λ g at'. record {
          to = λ early. (
            e,
            word_here {x = whole} h o (omega arith) refl
                (stay k.block.call.code whole.wanted g (services_of p)
                (λ b y. At b whole.index (Known (point_ground k.block.call.surroundings p h) (services_of p) numbers
                (λ j. 0) (valued (word z)) b) y)
                (λ b. record {
                  pc = (at' b).pc;
                  holds = record {
                    body = (at' b).holds.body;
                    regs = ((at' b).holds.regs.0 ∙ is.fits e, tt);
                  };
                })),
          );
        }))
    by false e =
        let reach = skip_passed credits f test r s raise' l at (λ b. tells b ∙ e) in
        let next' : Unit {0} → Meaning ℤ = λ u. give (wrapped 31 z) in
        let flow = R.raised k.around C.FixedOverflow 20 acts p.state in
        let goal = number_aims k.block k.labels whole in
        subst (λ q. Comes k.block.call.code credits f (services_of p) goal
        (R.value_of k.around (cond q (Gives z) (Raises C.FixedOverflow 20 (wrapped 31 z))) acts p.state)) (sym e)
        (onward (number_closed k.block k.labels whole) reach
        (λ g at'.
        comes_on acts flow next'
        (comes_map (word_aims k.block k.labels (behind p numbers taken (credits + 1) (index + 1) raise') x)
        (before k.block.call.code goal acts next') refl flow
        (λ c' f' v' u s' q. record {
          to = λ early. (
            wrapped_wide z,
            subst (λ n. HasWord k.block whole n c' f' v' s') is.word_is
                (word_further
                (record {
                  acts = omega arith;
                  line = refl;
                  index = omega arith;
                  wanted = omega arith;
                  taken = omega arith;
                  stays = λ i less. refl;
                }) q),
          );
        })
        (λ c' f' v' height label s' q. q)
        (λ c' f' v' u s' q. absurd q)
        (over p numbers taken (credits + 1) (index + 1) x g o line registers is.small' (rest_of _ raise' l)
        (omega (arith, paid))
        (λ b. (in_known h o.image.parts (at' b), (at' b).holds.regs.0))))))
