-- The statement CALL of a procedure without parameters ends with its call.
use Rattle.std.proofs.Common.{ℕ, ◌+◌, ◌-◌, List, [], ◌∷◌, ◌++◌, arith}
use Rattle.rv_meaning.specs.declared.instr.Instr.{Instr}
use Rattle.pli_typing.specs.TypedTree as Y
use Rattle.pli_coding.specs.Allocating.{act_code}
use Rattle.pli_coding.specs.Assembly.{CallTo, ProcedureEntry, size_of}
use Rattle.pli_coding.specs.Environments.{Environment, none_taken}
use Rattle.pli_coding.specs.Expressions.{frame_given, list_at}
use Rattle.pli_coding.specs.Frames.{words_place}
use Rattle.pli_coding.specs.Instructions.{number, plus}
use Rattle.pli_coding.specs.Linking.{Links}
use Rattle.pli_coding.specs.Registers.{a1, a2, frame_register}
use Rattle.pli_coding.specs.Statements.{stmt_code}
use Rattle.run_steps.specs.Items.{Linked}
use Rattle.run_steps.proofs.Jumps.{back_of, linked_at}
use Rattle.run_steps.proofs.Linking.{size_append}

pub call_stands :
    (links : Links) (code : List Instr) (i : ℕ) (e : Environment) (procedure level line : ℕ) →
    Linked links code i (stmt_code e none_taken (Y.CallProcedure (Y.Calling procedure level Y.NoArgument) line)) →
    Linked links code
    (i + size_of (stmt_code e none_taken (Y.CallProcedure (Y.Calling procedure level Y.NoArgument) line)) - 2)
    (CallTo (ProcedureEntry procedure) ∷ [])
call_stands links code i e procedure level line l =
    let list = list_at none_taken Y.NoArgument in
    let one = act_code line in
    let two = plus a1 frame_register (words_place list.place list.words) in
    let three = number a2 0 in
    let four = frame_given e level in
    let call = CallTo (ProcedureEntry procedure) ∷ [] in
    let s1 = size_append one (two ++ (three ++ (four ++ call))) in
    let s2 = size_append two (three ++ (four ++ call)) in
    let s3 = size_append three (four ++ call) in
    let s4 = size_append four call in
    linked_at
    (i + size_of (stmt_code e none_taken (Y.CallProcedure (Y.Calling procedure level Y.NoArgument) line)) - 2) call
    (omega (arith, s1, s2, s3, s4))
    (back_of four call
    (back_of three (four ++ call)
    (back_of two (three ++ (four ++ call)) (back_of one (two ++ (three ++ (four ++ call))) l))))
