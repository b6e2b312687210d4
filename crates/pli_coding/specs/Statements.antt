-- The code of statements, with the blocks that stand among them. Each begins with its act, which sets its line.
use Rattle.std.specs.Prelude.{ℕ, suc, ◌+◌, ◌==◌, max, ℤ, pos, int_lt, Bool, true, false, List, [], ◌∷◌, ◌++◌, map}
use Rattle.std.specs.Prelude.{Option, Some, None, if◌then◌else◌, min}
use Rattle.rv_meaning.specs.declared.instr.Instr.TheVariants as I
use Rattle.rv_meaning.specs.declared.instr.RegisterOp.TheVariants as Op
use Rattle.rv_meaning.specs.declared.instr.BranchTest.TheVariants as Test
use Rattle.pli_language.specs.declared.condition.Condition.{Condition}
use Rattle.pli_language.specs.declared.condition.Condition.TheVariants as C
use Rattle.pli_typing.specs.TypedTree as Y
use Rattle.pli_meaning.specs.Codes.{code_signalled}
use Rattle.pli_meaning.specs.Numbers.{operator_precision, signed_result}
use Rattle.pli_meaning.specs.DeclaredShapes.{variables_of_block}
use Rattle.pli_coding.specs.Registers.{held_registers, zero_register, stack_register, frame_register, a0, a1, a2, u0}
use Rattle.pli_coding.specs.Registers.{u1, u2, u3}
use Rattle.pli_coding.specs.Assembly.{Item, Plain, BaseIn, LabelPlace, ReturnPlace, Mark, OffsetAhead, JumpTo}
use Rattle.pli_coding.specs.Assembly.{JumpAhead, JumpBack, Code, size_of}
use Rattle.pli_coding.specs.Instructions.{registers, add, move, small, number, plus, load_word, store_word, skip_where}
use Rattle.pli_coding.specs.Instructions.{service, tested_service, error_raised}
use Rattle.pli_coding.specs.Frames.{own_offset, result, display, frame_end, words_place}
use Rattle.pli_coding.specs.Environments.{Owner, BlockOwner, UnitOwner, Environment, in_frame, owned_by, block_around}
use Rattle.pli_coding.specs.Environments.{Taken, none_taken, with_words, with_number, most_taken}
use Rattle.pli_coding.specs.Arithmetic.{condition_number, raised, sum_code, constant_added, fitted_code}
use Rattle.pli_coding.specs.Locating.{frame_found, frame_in, waiting_name, Address, loaded, name_copied, in_own_frame}
use Rattle.pli_coding.specs.Locating.{text_pushed, length_loaded}
use Rattle.pli_coding.specs.Expressions.{type_in, address_in, number_code, text_code, bit_code, reference_code}
use Rattle.pli_coding.specs.Expressions.{call_code, stored_code}
use Rattle.pli_coding.specs.Temporaries.{number_takes, bit_takes, reference_takes, call_takes, stored_takes}
use Rattle.pli_coding.specs.Storing.{word_stored, top_stored, assignment_code, elements_code, aggregate_code}
use Rattle.pli_coding.specs.Storing.{area_code', emptied_code, assigned_takes, elements_takes, aggregate_takes}
use Rattle.pli_coding.specs.Allocating.{act_code, allocations_code, freeings_code, allocations_take, freeings_take}
use Rattle.pli_coding.specs.Streams.{as_text, put_code, get_code, value_takes, put_takes, get_takes}
use Rattle.pli_coding.specs.Entries.{registers_restored, frame_begun, frame_ended, entered_without_texts, block_left}
use Rattle.pli_coding.specs.Entries.{variables_code, variables_take}

-- ---- tests

-- the code where a0 is 1, else over it
abbrev pub if_met : Code → Code
if_met code = skip_where Test.NotEqual a0 zero_register (JumpAhead (size_of code) ∷ []) ++ code

abbrev pub one_of : (met otherwise : Code) → Code
one_of met otherwise = if_met (met ++ JumpAhead (size_of otherwise) ∷ []) ++ otherwise

-- the test, then the code and back to the test
abbrev pub while_met : (test body : Code) → Code
while_met test body =
    test ++ if_met (body ++ JumpBack (size_of test + (3 + size_of body)) ∷ [])

-- ---- DO with a variable that counts: its limit and its step stand in two words as long as the turns go on, and its
-- start in a third one until it is assigned. A step that is a constant stands in the code, and its word has nothing.

abbrev pub constant_step : Y.Number → Option ℤ
constant_step (Y.NumberConstant n) = Some (pos n)
constant_step (Y.Signed sign (Y.NumberConstant n)) = Some (signed_result sign (pos n))
constant_step _ = None

abbrev pub limit_place : Taken → ℤ
limit_place t = words_place t.words 1

abbrev pub step_place : Taken → ℤ
step_place t = words_place (t.words + 1) 1

abbrev pub start_place : Taken → ℤ
start_place t = words_place (t.words + 2) 1

abbrev pub in_turns : Taken → Taken
in_turns t = with_words 2 t

abbrev pub before_turns : Taken → Taken
before_turns t = with_words 3 t

-- a start isn't converted before limit and step are evaluated; a text waits on the stack
abbrev pub start_code : Environment → Taken → Y.Value → Code
start_code e t (Y.NumberValue precision x) =
    number_code e (before_turns t) x ++ store_word frame_register a0 (start_place t)
start_code e t (Y.TextValue x) = text_code e (before_turns t) x
start_code e t (Y.BitValue x) = bit_code e (before_turns t) x ++ store_word frame_register a0 (start_place t)
start_code e t _ = []

abbrev pub limit_code : Environment → Taken → Option Y.Number → Code
limit_code e t None = []
limit_code e t (Some x) = number_code e (before_turns t) x ++ store_word frame_register a0 (limit_place t)

abbrev pub step_kept : Environment → Taken → Y.Number → (constant : Option ℤ) → Code
step_kept e t x None = number_code e (before_turns t) x ++ store_word frame_register a0 (step_place t)
step_kept e t x (Some z) = []

abbrev pub step_code : Environment → Taken → Y.Number → Code
step_code e t x = step_kept e t x (constant_step x)

abbrev pub start_loaded : Taken → Code
start_loaded t = load_word a0 frame_register (start_place t)

abbrev pub text_started : Taken → Y.Value → Code
text_started t (Y.NumberValue precision x) = start_loaded t ++ as_text precision
text_started t (Y.TextValue x) = []
text_started t (Y.BitValue x) = start_loaded t ++ as_text 0
text_started t _ = []

abbrev pub number_started : Taken → (precision : ℕ) → Y.Value → Code
number_started t precision (Y.TextValue x) = small a0 0 ∷ (tested_service 26 ++ fitted_code (in_turns t) precision)
number_started t precision v = start_loaded t ++ fitted_code (in_turns t) precision

abbrev pub started_code : Taken → Y.Counter → Y.Value → Code
started_code t (Y.NumberCounter precision r) v = number_started t precision v
started_code t (Y.TextCounter r) v = text_started t v

abbrev pub counter_stored : Environment → Taken → Y.Counter → Code
counter_stored e t (Y.NumberCounter precision r) = word_stored e (in_turns t) r
counter_stored e t (Y.TextCounter r) = top_stored e (in_turns t) r

abbrev pub counter_read : Environment → Taken → Y.Counter → Code
counter_read e t (Y.NumberCounter precision r) =
    reference_code e (in_turns t) r ++ loaded (type_in e r) a0 (address_in e r)
counter_read e t (Y.TextCounter r) =
    reference_code e (in_turns t) r ++ (text_pushed (type_in e r) (address_in e r) ++ (small a0 0 ∷ tested_service 26))

abbrev pub counter_converted : Taken → Y.Counter → Code
counter_converted t (Y.NumberCounter precision r) = fitted_code (in_turns t) precision
counter_converted t (Y.TextCounter r) = as_text operator_precision

-- the step and the value in a0
abbrev pub step_added : Taken → (step : Option ℤ) → Code
step_added t None = move u1 a0 ∷ (load_word a0 frame_register (step_place t) ++ sum_code (in_turns t))
step_added t (Some z) = constant_added (in_turns t) z

-- the next value, with the line of the DO
abbrev pub stepped_code : Environment → Taken → Y.Counter → (step : Option ℤ) → (line : ℕ) → Code
stepped_code e t counter step line =
    number a0 line
    ++ (small a1 1 ∷ (service 1 ++ (counter_read e t counter ++ (step_added t step ++ counter_converted t counter))))

-- past so many words where a0 is above u1, or where turns go down and it is below u1
abbrev pub passed : (falls : Bool) → (behind : ℕ) → Code
passed true behind = skip_where Test.GreaterOrEqual a0 u1 (JumpAhead behind ∷ [])
passed false behind = skip_where Test.GreaterOrEqual u1 a0 (JumpAhead behind ∷ [])

-- the same by the step
abbrev pub passed_by : Taken → (step : Option ℤ) → (behind : ℕ) → Code
passed_by t None behind =
    load_word u2 frame_register (step_place t)
    ++ (registers Op.SetLess u3 u1 a0
    ∷ (skip_where Test.GreaterOrEqual u2 zero_register (registers Op.SetLess u3 a0 u1 ∷ [])
    ++ skip_where Test.Equal u3 zero_register (JumpAhead behind ∷ [])))
passed_by t (Some z) behind = passed (int_lt z (pos 0)) behind

-- past so many words where the value in a0 has passed the limit
abbrev pub limit_tested : Taken → (step : Option ℤ) → (behind : ℕ) → Code
limit_tested t step behind = load_word u1 frame_register (limit_place t) ++ passed_by t step behind

abbrev pub limit_kept : Environment → Taken → Y.Counter → Option Y.Number → (step : Option ℤ) → (behind : ℕ) → Code
limit_kept e t counter None step behind = []
limit_kept e t counter (Some x) step behind = counter_read e t counter ++ limit_tested t step behind

abbrev pub while_kept : Environment → Taken → Option Y.Bit → (behind : ℕ) → Code
while_kept e t None behind = []
while_kept e t (Some x) behind =
    bit_code e (in_turns t) x ++ skip_where Test.NotEqual a0 zero_register (JumpAhead behind ∷ [])

-- the parts of one turn, which ends where the way back begins
pub record Turn : Type 0 where
  pub begun : Code
  pub limit : (behind : ℕ) → Code
  pub condition : (behind : ℕ) → Code
  pub body : Code
  pub stepped : Code

abbrev pub words_behind_condition : Turn → ℕ
words_behind_condition u = size_of u.body + (size_of u.stepped + 2)

abbrev pub words_behind_limit : Turn → ℕ
words_behind_limit u = size_of (u.condition 0) + words_behind_condition u

abbrev pub words_back : Turn → ℕ
words_back u =
    size_of u.begun + (size_of (u.limit 0) + (size_of (u.condition 0) + (size_of u.body + size_of u.stepped)))

abbrev pub turns_code : Turn → Code
turns_code u =
    u.begun
    ++ (u.limit (words_behind_limit u)
    ++ (u.condition (words_behind_condition u) ++ (u.body ++ (u.stepped ++ JumpBack (words_back u) ∷ []))))

-- the value in a0, or the top text, is assigned; then comes the act of the test
abbrev pub turn_of : Environment → Taken → Y.Counter → Option Y.Number → (step : Option ℤ) → Option Y.Bit → (line : ℕ)
    → (body : Code) → Turn
turn_of e t counter limit step condition line body =
    record {
      begun = counter_stored e t counter ++ act_code line;
      limit = limit_kept e t counter limit step;
      condition = while_kept e t condition;
      body = body;
      stepped = stepped_code e t counter step line;
    }

abbrev pub count_begun : Environment → Taken → Y.Counter → Y.Value → Option Y.Number → Y.Number → Code
count_begun e t counter start limit step =
    start_code e t start ++ (limit_code e t limit ++ (step_code e t step ++ started_code t counter start))

-- without TO and BY there is one turn at most, and with WHILE a test before it
abbrev pub once_code : Environment → Taken → Option Y.Bit → (line : ℕ) → (body : Code) → Code
once_code e t None line body = body
once_code e t (Some x) line body = act_code line ++ (bit_code e t x ++ if_met body)

-- ---- RETURN and GOTO

-- the frame at an outer level runs again: all activations above it end; with 1 the top text is kept
abbrev pub unwound_to : (level keep : ℕ) → Code
unwound_to level keep =
    load_word frame_register frame_register (display level)
    ++ (load_word a0 frame_register own_offset ++ (small a1 keep ∷ service 6))

abbrev pub unwound_if : Environment → (level keep : ℕ) → Code
unwound_if e level keep = if level == e.level then [] else unwound_to level keep

abbrev pub returned_by : Environment → (keep : ℕ) → Owner → Code
returned_by e keep (BlockOwner owner) = unwound_if e owner.level keep ++ JumpTo (ReturnPlace owner.number) ∷ []
returned_by e keep UnitOwner = []

-- the result's place in the frame of the procedure
abbrev pub result_address : Environment → Owner → Address
result_address e (BlockOwner owner) = record { register = frame_in e owner.level u3; displacement = pos result }
result_address e UnitOwner = in_own_frame (pos result)

abbrev pub owner_found : Environment → Owner → Code
owner_found e (BlockOwner owner) = frame_found e owner.level u3
owner_found e UnitOwner = []

abbrev pub text_cut : (mode : ℕ) → Y.Extent → Code
text_cut mode size = length_loaded a0 size ++ (small a2 mode ∷ tested_service 23)

abbrev pub word_returned : Environment → Code
word_returned e =
    owner_found e e.owner
    ++ (store_word (result_address e e.owner).register a0 (pos result) ++ returned_by e 0 e.owner)

abbrev pub name_returned : Environment → Taken → Code
name_returned e t =
    owner_found e e.owner
    ++ (name_copied (in_own_frame (waiting_name t)) (result_address e e.owner) ++ returned_by e 0 e.owner)

-- a text is made as long as RETURNS says, and stays on the stack
abbrev pub value_returned : Environment → Taken → Y.LeafType → Code
value_returned e t (Y.CharacterLeaf size) = text_cut 2 size ++ returned_by e 1 e.owner
value_returned e t (Y.VaryingLeaf size) = text_cut 3 size ++ returned_by e 1 e.owner
value_returned e t Y.PointerLeaf = name_returned e t
value_returned e t type = word_returned e

abbrev pub goto_outer : Environment → (level : ℕ) → Code
goto_outer e level =
    unwound_to level 0
    ++ plus stack_register frame_register (pos (frame_end e.parts e.program (block_around e level) level))

abbrev pub goto_code : Environment → (level : ℕ) → (label : List ℕ) → Code
goto_code e level label =
    (if level == e.level then [] else goto_outer e level) ++ JumpTo (LabelPlace (block_around e level) label) ∷ []

-- ---- conditions

abbrev pub condition_given : Condition → Item
condition_given c = small a0 (condition_number c)

abbrev pub signal_code : Condition → Code
signal_code C.Error = error_raised (code_signalled C.Error)
signal_code c = raised c (code_signalled c)

-- the unit stands here, and is jumped over
abbrev pub unit_established : Condition → (unit : Code) → Code
unit_established c unit =
    OffsetAhead a1 (size_of (service 28) + 3) ∷ condition_given c ∷ (service 28 ++ (JumpAhead (size_of unit) ∷ unit))

-- ---- what statements take at most, behind what is taken already; a block among them has a frame of its own

abbrev pub number_if_takes : Taken → Option Y.Number → Taken
number_if_takes t None = t
number_if_takes t (Some x) = number_takes t x

abbrev pub bit_if_takes : Taken → Option Y.Bit → Taken
bit_if_takes t None = t
bit_if_takes t (Some x) = bit_takes t x

-- the value waits while its target is reached
abbrev pub counter_takes : Taken → Y.Counter → Taken
counter_takes t (Y.NumberCounter precision r) = reference_takes (with_number t) r
counter_takes t (Y.TextCounter r) = reference_takes (with_number t) r

-- start, limit and step, which are evaluated before the first turn
abbrev pub begun_takes : Taken → Y.Value → Option Y.Number → Y.Number → Taken
begun_takes t start limit step =
    most_taken (value_takes t start) (most_taken (number_if_takes t limit) (number_takes t step))

-- what each turn takes while limit and step wait
abbrev pub turn_takes : Taken → Y.Counter → Option Y.Bit → (body : Taken) → Taken
turn_takes t counter condition body = most_taken (counter_takes t counter) (most_taken (bit_if_takes t condition) body)

abbrev mutual
  pub stmt_takes : Taken → Y.Stmt → Taken
  stmt_takes t (Y.Assign target source line) = assigned_takes t target source
  stmt_takes t (Y.AssignElements target source line) = elements_takes t target source
  stmt_takes t (Y.AssignAggregate target source line) = most_taken (aggregate_takes t target) (aggregate_takes t source)
  stmt_takes t (Y.If condition unit line) = most_taken (bit_takes t condition) (stmt_takes t unit)
  stmt_takes t (Y.IfElse condition unit otherwise line) =
      most_taken (bit_takes t condition) (most_taken (stmt_takes t unit) (stmt_takes t otherwise))
  stmt_takes t (Y.Do body line) = stmts_take t body
  stmt_takes t (Y.DoWhile condition body line) = most_taken (bit_takes t condition) (stmts_take t body)
  stmt_takes t (Y.DoOnce variable start condition body line) =
      most_taken (assigned_takes t variable start) (most_taken (bit_if_takes t condition) (stmts_take t body))
  stmt_takes t (Y.DoCount counter start limit step condition body line) =
      most_taken (begun_takes (before_turns t) start limit step)
      (turn_takes (in_turns t) counter condition (stmts_take (in_turns t) body))
  stmt_takes t (Y.CallProcedure call line) = call_takes t call
  stmt_takes t (Y.ReturnValue type source line) = stored_takes t source
  stmt_takes t (Y.Allocate all line) = allocations_take t all
  stmt_takes t (Y.Free all line) = freeings_take t all
  stmt_takes t (Y.Get skip pairs line) = get_takes t pairs
  stmt_takes t (Y.Put skip pairs line) = put_takes t pairs
  stmt_takes t _ = t

  pub stmts_take : Taken → Y.Stmts → Taken
  stmts_take t (Y.EndOfList labels) = t
  stmts_take t (Y.StmtThen labels first rest) = most_taken (stmt_takes t first) (stmts_take t rest)

-- and a block, with what its variables' extents take
abbrev pub block_takes : Y.Program → (block : ℕ) → Y.Stmts → Taken
block_takes program block body =
    most_taken (variables_take (variables_of_block program block)) (stmts_take none_taken body)

-- a simple unit declares nothing
abbrev pub unit_takes : Y.Program → Y.BlockHead → Y.BlockKind → Y.Stmts → Taken
unit_takes program head Y.SimpleUnit body = stmts_take none_taken body
unit_takes program head _ body = block_takes program head.number body

-- ---- blocks where they stand

-- the words of a block's temporaries
abbrev pub block_words : Environment → (block : ℕ) → Y.Stmts → ℕ
block_words e block body = (block_takes e.program block body).words

abbrev pub begin_environment : Y.BlockHead → Environment → Environment
begin_environment head e = in_frame head.number head.level e

-- no temporaries wait in registers where a block begins
abbrev pub begin_code : Environment → Y.BlockHead → (words : ℕ) → (body : Code) → Code
begin_code e head words body =
    move a0 frame_register
    ∷ (frame_begun words head.level 0 None
    ++ (entered_without_texts 1 head.line
    ++ (variables_code (begin_environment head e) head.line ++ (body ++ (block_left 0 ++ frame_ended words)))))

-- a simple unit declares nothing
abbrev pub unit_variables : Environment → Y.BlockHead → Y.BlockKind → Code
unit_variables e head Y.SimpleUnit = []
unit_variables e head _ = variables_code e head.line

abbrev pub owner_of_unit : Y.BlockHead → Y.BlockKind → Owner
owner_of_unit head Y.SimpleUnit = UnitOwner
owner_of_unit head _ = BlockOwner (record { number = head.number; level = head.level })

abbrev pub unit_environment : Y.BlockHead → Environment → Environment
unit_environment head e = owned_by (owner_of_unit head head.kind) (in_frame head.number head.level e)

abbrev pub unit_words : Environment → Y.BlockHead → Y.BlockKind → Y.Stmts → ℕ
unit_words e head kind body = (unit_takes e.program head kind body).words

abbrev pub unit_mark : Y.BlockHead → Y.BlockKind → Code
unit_mark head Y.SimpleUnit = []
unit_mark head _ = Mark (ReturnPlace head.number) ∷ []

-- a unit goes on where its raise said, with its condition's code in a1
abbrev pub unit_left : (words held : ℕ) → Code
unit_left words held =
    service 31
    ++ (registers_restored 0 held
    ++ (frame_ended words ++ (BaseIn u0 ∷ add u0 u0 a0 ∷ Plain (I.JumpRegister zero_register u0 (pos 0)) ∷ [])))

abbrev pub unit_code : Environment → Y.BlockHead → (words held : ℕ) → (body : Code) → Code
unit_code e head words held body =
    frame_begun words head.level 0 (Some held)
    ++ (entered_without_texts 2 head.line
    ++ (unit_variables (unit_environment head e) head head.kind
    ++ (act_code head.line ++ (body ++ (unit_mark head head.kind ++ unit_left words held)))))

-- ---- registers that procedures and on-units save: those that the block's temporaries take, and those of the BEGIN
-- blocks in it, which save none. A GOTO ends frames without restoring what they saved: where one may come to a label,
-- all are saved.

abbrev pub labels_held : List (List ℕ) → ℕ
labels_held [] = 0
labels_held (l ∷ ls) = held_registers

-- for what stands in a frame beside its own temporaries
abbrev mutual
  pub stmt_held : Y.Program → Y.Stmt → ℕ
  stmt_held program (Y.If condition unit line) = stmt_held program unit
  stmt_held program (Y.IfElse condition unit otherwise line) =
      max (stmt_held program unit) (stmt_held program otherwise)
  stmt_held program (Y.Do body line) = stmts_held program body
  stmt_held program (Y.DoWhile condition body line) = stmts_held program body
  stmt_held program (Y.DoOnce variable start condition body line) = stmts_held program body
  stmt_held program (Y.DoCount counter start limit step condition body line) = stmts_held program body
  stmt_held program (Y.Begin (Y.BlockOf head body)) =
      max (block_takes program head.number body).registers (stmts_held program body)
  stmt_held program _ = 0

  pub stmts_held : Y.Program → Y.Stmts → ℕ
  stmts_held program (Y.EndOfList labels) = labels_held labels
  stmts_held program (Y.StmtThen labels first rest) =
      max (labels_held labels) (max (stmt_held program first) (stmts_held program rest))

-- of a frame whose own temporaries take so many
abbrev pub held_with : Y.Program → (registers : ℕ) → Y.Stmts → ℕ
held_with program registers body = min held_registers (max registers (stmts_held program body))

abbrev pub block_held : Environment → (block : ℕ) → Y.Stmts → ℕ
block_held e block body = held_with e.program (block_takes e.program block body).registers body

abbrev pub unit_held : Environment → Y.BlockHead → Y.BlockKind → Y.Stmts → ℕ
unit_held e head kind body = held_with e.program (unit_takes e.program head kind body).registers body

-- ---- statements

abbrev pub marked : (block : ℕ) → List (List ℕ) → Code
marked block labels = map (λ l. Mark (LabelPlace block l)) labels

abbrev mutual
  pub stmt_code : Environment → Taken → Y.Stmt → Code
  stmt_code e t (Y.Null line) = act_code line
  stmt_code e t (Y.Assign target source line) = act_code line ++ assignment_code e t target source
  stmt_code e t (Y.AssignElements target source line) = act_code line ++ elements_code e t target source
  stmt_code e t (Y.AssignAggregate target source line) = act_code line ++ aggregate_code e t target source
  stmt_code e t (Y.AssignArea target source line) = act_code line ++ area_code' e t target source
  stmt_code e t (Y.EmptyArea target line) = act_code line ++ emptied_code e t target
  stmt_code e t (Y.If condition unit line) = act_code line ++ (bit_code e t condition ++ if_met (stmt_code e t unit))
  stmt_code e t (Y.IfElse condition unit otherwise line) =
      act_code line ++ (bit_code e t condition ++ one_of (stmt_code e t unit) (stmt_code e t otherwise))
  stmt_code e t (Y.Do body line) = act_code line ++ stmts_code e t body
  stmt_code e t (Y.DoWhile condition body line) =
      act_code line ++ while_met (act_code line ++ bit_code e t condition) (stmts_code e t body)
  stmt_code e t (Y.DoOnce variable start condition body line) =
      act_code line ++ (assignment_code e t variable start ++ once_code e t condition line (stmts_code e t body))
  stmt_code e t (Y.DoCount counter start limit step condition body line) =
      act_code line
      ++ (count_begun e t counter start limit step
      ++ turns_code (turn_of e t counter limit (constant_step step) condition line (stmts_code e (in_turns t) body)))
  stmt_code e t (Y.Begin (Y.BlockOf head body)) =
      act_code head.line
      ++ begin_code e head (block_words e head.number body) (stmts_code (begin_environment head e) none_taken body)
  stmt_code e t (Y.OnSystem c line) = act_code line ++ (condition_given c ∷ small a1 0 ∷ service 28)
  stmt_code e t (Y.OnUnit c (Y.BlockOf head body) line) =
      act_code line
      ++ unit_established c
      (unit_code e head (unit_words e head head.kind body) (unit_held e head head.kind body)
      (stmts_code (unit_environment head e) none_taken body))
  stmt_code e t (Y.CallProcedure call line) = act_code line ++ call_code e t call
  stmt_code e t (Y.Return line) = act_code line ++ returned_by e 0 e.owner
  stmt_code e t (Y.ReturnValue type source line) = act_code line ++ (stored_code e t source ++ value_returned e t type)
  stmt_code e t (Y.Goto level label line) = act_code line ++ goto_code e level label
  stmt_code e t (Y.Stop line) = act_code line ++ (small a0 1 ∷ small a1 0 ∷ service 2)
  stmt_code e t (Y.Signal c line) = act_code line ++ signal_code c
  stmt_code e t (Y.Revert c line) = act_code line ++ (condition_given c ∷ service 29)
  stmt_code e t (Y.Allocate all line) = act_code line ++ allocations_code e t line all
  stmt_code e t (Y.Free all line) = act_code line ++ freeings_code e t all
  stmt_code e t (Y.Get skip pairs line) = act_code line ++ get_code e t skip pairs
  stmt_code e t (Y.Put skip pairs line) = act_code line ++ put_code e t skip pairs

  pub stmts_code : Environment → Taken → Y.Stmts → Code
  stmts_code e t (Y.EndOfList labels) = marked e.block labels
  stmts_code e t (Y.StmtThen labels first rest) = marked e.block labels ++ (stmt_code e t first ++ stmts_code e t rest)
