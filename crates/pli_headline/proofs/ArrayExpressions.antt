-- Elements of arrays in expressions, for a ground on which the array stands.
use Rattle.std.proofs.Common.{◌≡◌, ℕ, suc, ◌+◌, ◌≤◌, List, length, refl, sym, ap, ◌∙◌, arith}
use Rattle.std.specs.Prelude.{ℤ, max}
use Rattle.std.proofs.Math.Nat.{le-max_right}
use Rattle.rv_meaning.specs.declared.instr.Instr.{Instr}
use Rattle.rv_meaning.specs.Words.{word}
use Rattle.pli_typing.specs.Signatures.{Bounds}
use Rattle.pli_typing.specs.TypedTree as Y
use Rattle.pli_meaning.specs.Contents.{number_in, bit_in}
use Rattle.pli_meaning.specs.StorageState.{State}
use Rattle.pli_meaning.specs.Control.{Meaning, give, ◌>>=◌}
use Rattle.pli_meaning.specs.Raising.{Around}
use Rattle.pli_meaning.specs.Evaluating as V
use Rattle.pli_serving.specs.ServiceState.{Services}
use Rattle.pli_coding.specs.Assembly.{Code}
use Rattle.pli_coding.specs.Environments.{Environment, Taken}
use Rattle.pli_coding.specs.Expressions.{given_in, number_code, bit_code}
use Rattle.pli_coding.specs.Linking.{Links}
use Rattle.temporary_bounds.specs.WordBounds.{number_words, bit_words, subscripts_words}
use Rattle.pli_headline.specs.ProvedSoFar.{Names}
use Rattle.run_steps.specs.Bodies.{Ground}
use Rattle.pli_headline.proofs.Serving.{Serving}
use Rattle.pli_headline.proofs.Raising.{Routines}
use Rattle.pli_headline.proofs.Scalars.{bit_of, bit_word, fits_wide}
use Rattle.pli_headline.proofs.Evaluations.{Kind, number_kind, bit_kind, Evaluates}
use Rattle.pli_headline.proofs.Subscripts.{EvaluatesAll}
use Rattle.pli_headline.proofs.ArrayMeant.{element}
use Rattle.pli_headline.proofs.ArrayElements.{ArrayScope, ReadAs, element_evaluates}

number_read : (p : ℕ) → ReadAs number_kind (Y.FixedLeaf p) number_in
number_read p = record { fits = λ z fits. fits_wide (Y.FixedLeaf p) z fits; same = λ z fits. refl }

bit_read : ReadAs bit_kind Y.BitLeaf bit_in
bit_read = record { fits = λ z fits. tt; same = λ z fits. ap word fits ∙ sym (bit_word (bit_of z)) }

-- more words are enough
evaluates_with : {X : Type 0} {kind : Kind X} {links : Links} {code : List Instr} {g : Ground} {v : Services} {s : State} {k m : ℕ} {part : Taken → Code} {meaning : Meaning X} (n : ℕ) → m ≤ n → Evaluates kind links code g v s k m part meaning → Evaluates kind links code g v s k n part meaning
evaluates_with n more e =
    record { does = λ closed f taken room l at goal. e.does closed f taken (omega (arith, room, more)) l at goal }

words_enough : (n : ℕ) → n ≤ max 0 (0 + n)
words_enough n = let m = le-max_right 0 (0 + n) in omega (arith, m)

-- the subscripts are evaluated before it
abbrev pub AllEvaluate : Links → List Instr → Ground → Services → State → (k : ℕ) → Environment → Around → Y.Numbers → Type 1
AllEvaluate links code g v s k e around xs = EvaluatesAll links code g v s k (subscripts_words xs) e around xs

pub element_number_does : {links : Links} {code : List Instr} {g : Ground} {v : Services} {s : State} {k : ℕ} {e :
    Environment} (around : Around) {block : Names} {j p : ℕ} {bs : List Bounds} {n : ℕ → ℤ} (routines :
    Routines links code) (serving : Serving k s v around.line) (scope : ArrayScope g e s block j (Y.FixedLeaf p) bs n)
    (first : Y.Number) (rest : Y.Numbers) → AllEvaluate links code g v s k e around (Y.NumberThen first rest)
    → suc (given_in rest) ≡ length bs
    → Evaluates number_kind links code g v s k (number_words (Y.NumberIn (element block j first rest)))
    (λ taken. number_code e taken (Y.NumberIn (element block j first rest)))
    (V.number around (Y.NumberIn (element block j first rest)))
unfolding V.number ◌>>=◌ give
element_number_does around {p = p} routines serving scope first rest all same =
    let xs = Y.NumberThen first rest in
    evaluates_with (max 0 (0 + subscripts_words xs)) (words_enough (subscripts_words xs))
    (element_evaluates (number_read p) routines scope around (subscripts_words xs) first rest all same serving)

pub element_bit_does : {links : Links} {code : List Instr} {g : Ground} {v : Services} {s : State} {k : ℕ} {e :
    Environment} (around : Around) {block : Names} {j : ℕ} {bs : List Bounds} {n : ℕ → ℤ} (routines :
    Routines links code) (serving : Serving k s v around.line) (scope : ArrayScope g e s block j Y.BitLeaf bs n)
    (first : Y.Number) (rest : Y.Numbers) → AllEvaluate links code g v s k e around (Y.NumberThen first rest)
    → suc (given_in rest) ≡ length bs
    → Evaluates bit_kind links code g v s k (bit_words (Y.BitIn (element block j first rest)))
    (λ taken. bit_code e taken (Y.BitIn (element block j first rest)))
    (V.bit around (Y.BitIn (element block j first rest)))
unfolding V.bit ◌>>=◌ give
element_bit_does around routines serving scope first rest all same =
    let xs = Y.NumberThen first rest in
    evaluates_with (max 0 (0 + subscripts_words xs)) (words_enough (subscripts_words xs))
    (element_evaluates bit_read routines scope around (subscripts_words xs) first rest all same serving)
