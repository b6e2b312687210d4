-- A bit as a number: its code is the bit's.
use Rattle.std.proofs.Common.{◌≡◌, ℕ, Bool, true, false, refl, subst}
use Rattle.rv_meaning.specs.Words.{flag, word}
use Rattle.pli_typing.specs.TypedTree as Y
use Rattle.pli_meaning.specs.Control.{give, ◌>>=◌}
use Rattle.pli_meaning.specs.Evaluating as V
use Rattle.pli_meaning.specs.Texts.{bit_number}
use Rattle.pli_coding.specs.Expressions.{bit_code}
use Rattle.run_steps.specs.Numbers.{IsWide}
use Rattle.run_steps.specs.Reach.{before}
use Rattle.run_steps.proofs.Reach.{comes_on}
use Rattle.block_runs.proofs.CallStatements.{comes_map}
use Rattle.expression_runs.specs.Laws.{Does}
use Rattle.expression_runs.specs.Values.{HasWord, Setting, behind, in_registers, number_aims}
use Rattle.test_runs.specs.Tests.{Tests, bit_aims}

flag_word : (b : Bool) → flag b ≡ word (bit_number b)
flag_word true = refl
flag_word false = refl

flag_wide : (b : Bool) → IsWide (bit_number b)
flag_wide true = refl
flag_wide false = refl

pub converted_does : (k : Setting) (x : Y.Bit) (m : ℕ) → Tests k m x → Does k m (Y.NumberOfBit x)
unfolding V.number ◌>>=◌ give
converted_does k x m does p numbers taken c index f o line registers l paid there =
    let w = k.block.call.surroundings in
    let code = k.block.call.code in
    let whole = behind p numbers taken c index (bit_code k.block.environment (in_registers k.words taken) x) in
    let goal = number_aims k.block k.labels whole in
    let flow = V.bit k.around x w.acts p.state in
    comes_on w.acts flow (λ b. give (bit_number b))
    (comes_map (bit_aims k.block k.labels whole) (before code goal w.acts (λ b. give (bit_number b))) refl flow
    (λ c' f' v' b s q. record {
      to = λ early. (flag_wide b, subst (λ n. HasWord k.block whole n c' f' v' s) (flag_word b) q);
    })
    (λ c' f' v' height label s q. q)
    (λ c' f' v' u s q. absurd q)
    (does p numbers taken c index f o line registers l paid there))
