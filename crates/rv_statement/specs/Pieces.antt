-- Pieces of the code of statements, each under a name of its own: whoever walks over the statements sees the names alone.
use Rattle.std.specs.Prelude.{ℕ, ℤ, ◌==◌, pos, List, [], ◌∷◌, ◌++◌, Option, Some, None, if◌then◌else◌}
use Rattle.rv_meaning.specs.declared.instr.BranchTest.TheVariants as Test
use Rattle.rv_meaning.specs.declared.instr.Instr.TheVariants as I
use Rattle.rv_meaning.specs.declared.instr.RegisterOp.TheVariants as Op
use Rattle.pli_language.specs.declared.condition.Condition.{Condition}
use Rattle.pli_typing.specs.TypedTree as Y
use Rattle.pli_typing.specs.SingleStatements.{Turns, do_statement}
use Rattle.pli_coding.specs.Registers.{zero_register, frame_register, a0, a1, u0, u1, u2, u3}
use Rattle.pli_coding.specs.Assembly.{Plain, BaseIn, OffsetAhead, JumpAhead, Code}
use Rattle.pli_coding.specs.Instructions.{add, load_word, move, number, registers, service, skip_where, small, store_word, tested_service}
use Rattle.pli_coding.specs.Environments.{Environment, Taken}
use Rattle.pli_coding.specs.Arithmetic.{sum_code}
use Rattle.pli_coding.specs.Expressions.{bit_code, call_code, stored_code}
use Rattle.pli_coding.specs.Storing.{area_code', assignment_code, emptied_code}
use Rattle.pli_coding.specs.Allocating.{act_code, allocations_code, freeings_code}
use Rattle.pli_coding.specs.Entries.{block_left, entered_without_texts, frame_begun, frame_ended, registers_restored, variables_code}
use Rattle.pli_coding.specs.Streams.{get_code, put_code}
use Rattle.pli_coding.specs.Statements.{begin_code, condition_given, constant_step, count_begun, counter_read}
use Rattle.pli_coding.specs.Statements.{counter_stored, goto_code, goto_outer, if_met, in_turns, limit_place}
use Rattle.pli_coding.specs.Statements.{limit_tested, once_code, one_of, returned_by, signal_code, start_loaded}
use Rattle.pli_coding.specs.Statements.{start_place, step_added, step_place, stepped_code, stmt_code, text_cut}
use Rattle.pli_coding.specs.Statements.{turn_of, turns_code, unit_code, unit_established, unit_mark, unit_variables}
use Rattle.pli_coding.specs.Statements.{value_returned, while_met}
use Rattle.rv_assignment.specs.Pieces.{aggregate_put, elements_put}

-- ---- RETURN and GOTO

abbrev pub text_returned : Environment → (mode : ℕ) → Y.Extent → Code
text_returned e mode size = text_cut mode size ++ returned_by e 1 e.owner

abbrev pub level_left : Environment → (level : ℕ) → Code
level_left e level = if level == e.level then [] else goto_outer e level

-- ---- DO with a variable that counts

abbrev pub start_kept : Taken → Code
start_kept t = store_word frame_register a0 (start_place t)

abbrev pub limit_kept : Taken → Code
limit_kept t = store_word frame_register a0 (limit_place t)

abbrev pub step_kept : Taken → Code
step_kept t = store_word frame_register a0 (step_place t)

-- the start as a number
abbrev pub start_read : Taken → Y.Value → Code
start_read t (Y.TextValue x) = small a0 0 ∷ tested_service 26
start_read t v = start_loaded t

abbrev pub step_loaded : Taken → Code
step_loaded t = load_word a0 frame_register (step_place t)

unfoldable pub act_begun : (line : ℕ) → Code
act_begun line = number a0 line ++ (small a1 1 ∷ service 1)

-- a step that waits, and any step, and the value in a0
unfoldable pub kept_added : Taken → Code
kept_added t = move u1 a0 ∷ (step_loaded t ++ sum_code (in_turns t))

unfoldable pub summed_by : Taken → (step : Option ℤ) → Code
summed_by t step = step_added t step

-- the next value
unfoldable pub stepped : Environment → Taken → Y.Counter → (step : Option ℤ) → (line : ℕ) → Code
stepped e t counter step line = stepped_code e t counter step line

-- ---- tests, with a jump over so many words where they aren't met

abbrev pub bit_tested : Environment → Taken → Y.Bit → (behind : ℕ) → Code
bit_tested e t x behind = bit_code e t x ++ skip_where Test.NotEqual a0 zero_register (JumpAhead behind ∷ [])

-- behind an act
abbrev pub test_begun : Environment → Taken → Y.Bit → (line behind : ℕ) → Code
test_begun e t x line behind = act_code line ++ bit_tested e t x behind

-- a step below 0 compares the other way
abbrev pub turned_if_negative : Code
turned_if_negative = skip_where Test.GreaterOrEqual u2 zero_register (registers Op.SetLess u3 a0 u1 ∷ [])

abbrev pub limit_loaded : Taken → Code
limit_loaded t = load_word u1 frame_register (limit_place t)

abbrev pub step_beside : Taken → Code
step_beside t = load_word u2 frame_register (step_place t)

-- whether the value in a0 has passed the limit in u1, in u3
unfoldable pub limit_compared : Taken → Code
limit_compared t = step_beside t ++ (registers Op.SetLess u3 u1 a0 ∷ turned_if_negative)

abbrev pub flag_tested : (behind : ℕ) → Code
flag_tested behind = skip_where Test.Equal u3 zero_register (JumpAhead behind ∷ [])

abbrev pub limit_ahead : Environment → Taken → Y.Counter → (step : Option ℤ) → (behind : ℕ) → Code
limit_ahead e t counter step behind = counter_read e t counter ++ limit_tested t step behind

-- what each turn begins with
abbrev pub turn_opened : Environment → Taken → Y.Counter → (line : ℕ) → Code
turn_opened e t counter line = counter_stored e t counter ++ act_code line

-- ---- statements that hold no others

unfoldable pub acted : (line : ℕ) → Code
acted line = act_code line

unfoldable pub assign_statement : Environment → Taken → Y.Reference → Y.Stored → (line : ℕ) → Code
assign_statement e t target source line = acted line ++ assignment_code e t target source

unfoldable pub elements_statement : Environment → Taken → Y.Reference → Y.Stored → (line : ℕ) → Code
elements_statement e t target source line = acted line ++ elements_put e t target source

unfoldable pub aggregate_statement : Environment → Taken → (target source : Y.Reference) → (line : ℕ) → Code
aggregate_statement e t target source line = acted line ++ aggregate_put e t target source

unfoldable pub area_statement : Environment → Taken → (target source : Y.Variable) → (line : ℕ) → Code
area_statement e t target source line = acted line ++ area_code' e t target source

unfoldable pub emptied_statement : Environment → Taken → (target : Y.Variable) → (line : ℕ) → Code
emptied_statement e t target line = acted line ++ emptied_code e t target

unfoldable pub system_statement : Condition → (line : ℕ) → Code
system_statement c line = acted line ++ (condition_given c ∷ small a1 0 ∷ service 28)

unfoldable pub call_statement : Environment → Taken → Y.Call → (line : ℕ) → Code
call_statement e t call line = acted line ++ call_code e t call

unfoldable pub return_statement : Environment → (line : ℕ) → Code
return_statement e line = acted line ++ returned_by e 0 e.owner

unfoldable pub value_statement : Environment → Taken → Y.LeafType → Y.Stored → (line : ℕ) → Code
value_statement e t type source line = acted line ++ (stored_code e t source ++ value_returned e t type)

unfoldable pub goto_statement : Environment → (level : ℕ) → (label : List ℕ) → (line : ℕ) → Code
goto_statement e level label line = acted line ++ goto_code e level label

unfoldable pub stop_statement : (line : ℕ) → Code
stop_statement line = acted line ++ (small a0 1 ∷ small a1 0 ∷ service 2)

unfoldable pub signal_statement : Condition → (line : ℕ) → Code
signal_statement c line = acted line ++ signal_code c

unfoldable pub revert_statement : Condition → (line : ℕ) → Code
revert_statement c line = acted line ++ (condition_given c ∷ service 29)

unfoldable pub allocate_statement : Environment → Taken → List Y.Allocation → (line : ℕ) → Code
allocate_statement e t all line = acted line ++ allocations_code e t line all

unfoldable pub free_statement : Environment → Taken → List Y.Freeing → (line : ℕ) → Code
free_statement e t all line = acted line ++ freeings_code e t all

unfoldable pub get_statement : Environment → Taken → Option ℕ → List Y.GetPair → (line : ℕ) → Code
get_statement e t skip pairs line = acted line ++ get_code e t skip pairs

unfoldable pub put_statement : Environment → Taken → Option ℕ → List Y.PutPair → (line : ℕ) → Code
put_statement e t skip pairs line = acted line ++ put_code e t skip pairs

-- ---- what stands before and behind the statements of others

-- before the only turn, with a jump over so many words
abbrev pub once_tested : Environment → Taken → Option Y.Bit → (line behind : ℕ) → Code
once_tested e t None line behind = []
once_tested e t (Some x) line behind = test_begun e t x line behind

abbrev pub once_begun : Environment → Taken → Y.Reference → Y.Stored → Option Y.Bit → (line behind : ℕ) → Code
once_begun e t variable start condition line behind = assign_statement e t variable start line ++ once_tested e t condition line behind

-- before the first of all turns
unfoldable pub counting : Environment → Taken → Y.Counter → Y.Value → Option Y.Number → Y.Number → (line : ℕ) → Code
counting e t counter start limit step line = acted line ++ count_begun e t counter start limit step

-- a block; the environment is that of its statements
unfoldable pub block_begun : Environment → (level : ℕ) → (words line : ℕ) → Code
block_begun e level words line =
    acted line
    ++ (move a0 frame_register
    ∷ (frame_begun words level 0 None ++ (entered_without_texts 1 line ++ variables_code e line)))

unfoldable pub block_ended : (words : ℕ) → Code
block_ended words = block_left 0 ++ frame_ended words

-- an on-unit, before its frame begins, with a jump over so many words
unfoldable pub unit_told : Condition → (line : ℕ) → Code
unit_told c line = acted line ++ (OffsetAhead a1 5 ∷ condition_given c ∷ service 28)

abbrev pub unit_announced : Condition → (line behind : ℕ) → Code
unit_announced c line behind = unit_told c line ++ JumpAhead behind ∷ []

unfoldable pub unit_begun : Environment → Y.BlockHead → (words held : ℕ) → Code
unit_begun e head words held =
    frame_begun words head.level 0 (Some held)
    ++ (entered_without_texts 2 head.line ++ (unit_variables e head head.kind ++ acted head.line))

unfoldable pub held_back : (held : ℕ) → Code
held_back held = registers_restored 0 held

unfoldable pub unit_gone : (words held : ℕ) → Code
unit_gone words held =
    service 31
    ++ (held_back held
    ++ (frame_ended words ++ (BaseIn u0 ∷ add u0 u0 a0 ∷ Plain (I.JumpRegister zero_register u0 (pos 0)) ∷ [])))

unfoldable pub unit_ended : Y.BlockHead → (words held : ℕ) → Code
unit_ended head words held = unit_mark head head.kind ++ unit_gone words held

-- ---- statements that hold others, by the code of these

unfoldable pub if_statement : Environment → Taken → Y.Bit → (unit : Code) → (line : ℕ) → Code
if_statement e t x unit line = act_code line ++ (bit_code e t x ++ if_met unit)

unfoldable pub if_else_statement : Environment → Taken → Y.Bit → (unit otherwise : Code) → (line : ℕ) → Code
if_else_statement e t x unit otherwise line = act_code line ++ (bit_code e t x ++ one_of unit otherwise)

unfoldable pub while_statement : Environment → Taken → Y.Bit → (body : Code) → (line : ℕ) → Code
while_statement e t x body line = act_code line ++ while_met (act_code line ++ bit_code e t x) body

unfoldable pub once_statement : Environment → Taken → Y.Reference → Y.Stored → Option Y.Bit → (body : Code) → (line : ℕ) → Code
once_statement e t variable start condition body line =
    act_code line ++ (assignment_code e t variable start ++ once_code e t condition line body)

unfoldable pub count_statement : Environment → Taken → Y.Counter → Y.Value → Option Y.Number → Y.Number → Option Y.Bit → (body : Code) → (line : ℕ) → Code
count_statement e t counter start limit step condition body line =
    act_code line
    ++ (count_begun e t counter start limit step
    ++ turns_code (turn_of e t counter limit (constant_step step) condition line body))

unfoldable pub begin_statement : Environment → Y.BlockHead → (words : ℕ) → (body : Code) → Code
begin_statement e head words body = act_code head.line ++ begin_code e head words body

unfoldable pub unit_statement : Environment → Condition → Y.BlockHead → (words held : ℕ) → (body : Code) → (line : ℕ)
    → Code
unit_statement e c head words held body line = act_code line ++ unit_established c (unit_code e head words held body)

-- DO, by what it says of its turns
unfoldable pub turns_statement : Environment → Taken → Turns → Y.Stmts → (line : ℕ) → Code
turns_statement e t turns body line = stmt_code e t (do_statement turns body line)
