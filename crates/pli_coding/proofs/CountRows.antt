-- The code of DO with a variable that counts by a constant step, computed.
use Rattle.std.proofs.Common.{◌≡◌, ℕ, pos, negsuc, List, [], ◌∷◌, map, Some, None, refl}
use Rattle.std.specs.Prelude.{ℤ}
use Rattle.rv_meaning.specs.declared.instr.Instr.TheVariants as I
use Rattle.rv_meaning.specs.declared.instr.RegisterOp.TheVariants as Op
use Rattle.rv_meaning.specs.declared.instr.ImmediateOp.TheVariants as Imm
use Rattle.rv_meaning.specs.declared.instr.LoadKind.TheVariants as Load
use Rattle.rv_meaning.specs.declared.instr.BranchTest.{BranchTest}
use Rattle.rv_meaning.specs.declared.instr.BranchTest.TheVariants as Test
use Rattle.rv_meaning.specs.declared.instr.Register.{Register}
use Rattle.pli_typing.specs.TypedTree as Y
use Rattle.area_keeper.specs.Chain.{chain}
use Rattle.pli_coding.specs.Registers as R
use Rattle.pli_coding.specs.Assembly.{Plain, CallTo, JumpAhead, RaiseCondition, Code, size_of}
use Rattle.pli_coding.specs.Frames.{MemoryParts}
use Rattle.pli_coding.specs.Environments.{Environment, none_taken}
use Rattle.pli_coding.specs.Expressions.{stored_code}
use Rattle.pli_coding.specs.Statements.{constant_step, step_code, step_added, limit_tested, turn_of, turns_code}
use Rattle.pli_coding.specs.Statements.{counter_converted, started_code}
use Rattle.pli_coding.specs.Images.{environment_of}
use Rattle.pli_coding.proofs.RowPieces.{head, procedure, program, automatic, whole}

abbrev number : ℕ → Y.Number
number n = Y.NumberConstant n

abbrev minus : Y.Number → Y.Number
minus x = Y.Signed Y.Negative x

abbrev parts : MemoryParts
parts = record { stack_start = 4096; stack_end = 8192; area_bytes = chain.bytes_for }

abbrev anywhere : Environment
anywhere =
    environment_of parts
    (program ([] ∷ []) (procedure (Y.BlockOf (head Y.ProcedureBlock 1 0 1) (Y.EndOfList [])) [] None ∷ []))

-- 5, +5, -5, -0 and -(-5)
constants_with_a_sign_are_steps :
    map constant_step (number 5 ∷ Y.Signed Y.Positive (number 5) ∷ minus (number 5) ∷ minus (number 0)
    ∷ minus (minus (number 5)) ∷ [])
    ≡ (Some (pos 5) ∷ Some (pos 5) ∷ Some (negsuc 4) ∷ Some (pos 0) ∷ None ∷ [])
constants_with_a_sign_are_steps = refl

-- of these the last one is evaluated, and kept
constant_step_waits_nowhere :
    map (λ x. size_of (step_code anywhere none_taken x)) (number 5 ∷ minus (number 5) ∷ minus (minus (number 5)) ∷ [])
    ≡ (0 ∷ 0 ∷ 20 ∷ [])
constant_step_waits_nowhere = refl

-- ---- the limit

abbrev tested_by : (r s : Register) → Code
tested_by r s =
    Plain (I.Load Load.Word R.u1 R.frame_register (negsuc 3)) ∷ Plain (I.Branch Test.GreaterOrEqual r s (pos 12))
    ∷ JumpAhead 9 ∷ []

-- up with 1 and with 0, down with -1
limit_is_tested_by_the_sign :
    map (λ z. limit_tested none_taken (Some z) 9) (pos 1 ∷ pos 0 ∷ negsuc 0 ∷ [])
    ≡ (tested_by R.u1 R.a0 ∷ tested_by R.u1 R.a0 ∷ tested_by R.a0 R.u1 ∷ [])
limit_is_tested_by_the_sign = refl

-- ---- the step

abbrev raised_unless : BranchTest → Code
raised_unless test =
    Plain (I.Branch test R.a0 R.u1 (pos 28))
    ∷ Plain (I.Immediate Imm.Add (R.held 0) R.a0 (pos 0))
    ∷ Plain (I.Immediate Imm.Add R.a0 R.zero_register (pos 2))
    ∷ Plain (I.Immediate Imm.Add R.a1 R.zero_register (pos 20))
    ∷ CallTo RaiseCondition
    ∷ Plain (I.Immediate Imm.Add R.a0 (R.held 0) (pos 0))
    ∷ []

abbrev added_as : ℤ → BranchTest → Code
added_as z test =
    Plain (I.Immediate Imm.Add R.u1 R.a0 (pos 0)) ∷ Plain (I.Immediate Imm.Add R.a0 R.u1 z) ∷ raised_unless test

-- a sum below the value overflows, with a negative step one that isn't
step_is_added_and_tested :
    map (λ z. step_added none_taken (Some z)) (pos 1 ∷ pos 0 ∷ pos 2047 ∷ negsuc 2 ∷ negsuc 2047 ∷ [])
    ≡ (added_as (pos 1) Test.GreaterOrEqual
    ∷ added_as (pos 0) Test.GreaterOrEqual
    ∷ added_as (pos 2047) Test.GreaterOrEqual
    ∷ added_as (negsuc 2) Test.Less
    ∷ added_as (negsuc 2047) Test.Less
    ∷ [])
step_is_added_and_tested = refl

-- 5000 is 4096 and 904
wide_step_takes_two_words_more :
    step_added none_taken (Some (pos 5000))
    ≡ (Plain (I.Immediate Imm.Add R.u1 R.a0 (pos 0))
    ∷ Plain (I.LoadUpper R.far_register 1)
    ∷ Plain (I.Registers Op.Add R.far_register R.far_register R.u1)
    ∷ Plain (I.Immediate Imm.Add R.a0 R.far_register (pos 904))
    ∷ raised_unless Test.GreaterOrEqual)
wide_step_takes_two_words_more = refl

-- ---- a turn

-- the number of each service that code asks for, in order
abbrev services_in : Code → List ℕ
services_in [] = []
services_in (Plain (I.Immediate op rd rs (pos n)) ∷ Plain I.Ecall ∷ is) = n ∷ services_in is
services_in (i ∷ is) = services_in is

abbrev counter : Y.Counter
counter = Y.NumberCounter 31 (whole (automatic 1 0 0))

-- DO I = 1 BY 0; END; has an act before each test; the second call of service 1 sets its line alone
turns_make_acts :
    services_in (turns_code (turn_of anywhere none_taken counter None (Some (pos 0)) None 7 [])) ≡ (1 ∷ 1 ∷ [])
turns_make_acts = refl

-- ---- numbers of fewer bits

abbrev narrow : Y.Counter
narrow = Y.NumberCounter 15 (whole (automatic 1 0 0))

abbrev one : Y.Value
one = Y.NumberValue 31 (number 1)

-- two shifts, a branch, and seven words that raise FIXEDOVERFLOW; the start is loaded by one more
narrow_counter_is_tested :
    map size_of
    (counter_converted none_taken narrow ∷ started_code none_taken narrow one
    ∷ counter_converted none_taken counter ∷ started_code none_taken counter one ∷ [])
    ≡ (10 ∷ 11 ∷ 0 ∷ 1 ∷ [])
narrow_counter_is_tested = refl

-- what is assigned, returned or given as a copy
narrow_value_is_tested :
    map (λ p. size_of (stored_code anywhere none_taken (Y.StoredNumber p (number 1)))) (15 ∷ 31 ∷ []) ≡ (11 ∷ 1 ∷ [])
narrow_value_is_tested = refl
