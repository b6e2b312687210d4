-- The code of small forms, the frame of a block, the table and the static data, computed.
use Rattle.std.proofs.Common.{◌≡◌, ℕ, zero, suc, ◌+◌, pos, negsuc, true, false, List, [], ◌∷◌, ◌++◌, map, Some, None}
use Rattle.std.proofs.Common.{refl, ℤ}
use lib.Chars.{codes}
use Rattle.rv_meaning.specs.declared.instr.Instr.TheVariants as I
use Rattle.rv_meaning.specs.declared.instr.RegisterOp.TheVariants as Op
use Rattle.rv_meaning.specs.declared.instr.ImmediateOp.TheVariants as Imm
use Rattle.rv_meaning.specs.declared.instr.ShiftOp.TheVariants as Shift
use Rattle.rv_meaning.specs.declared.instr.LoadKind.TheVariants as Load
use Rattle.rv_meaning.specs.declared.instr.StoreKind.TheVariants as Store
use Rattle.rv_meaning.specs.declared.instr.BranchTest.TheVariants as Test
use Rattle.rv_meaning.specs.Tables.{table_words}
use Rattle.pli_language.specs.declared.condition.Condition.TheVariants as C
use Rattle.pli_language.specs.declared.expr.Place.{Place}
use Rattle.pli_language.specs.Tree as T
use Rattle.pli_typing.specs.TypedTree as Y
use Rattle.area_keeper.specs.Chain.{chain}
use Rattle.pli_coding.specs.Registers as R
use Rattle.pli_coding.specs.Assembly.{ConstantBytes, InitialValues, StaticStorage, DataPlace, Plain, BaseIn, OffsetOf}
use Rattle.pli_coding.specs.Assembly.{JumpTo, CallTo, RaiseError, RaiseCondition, Code, JumpBack}
use Rattle.pli_coding.specs.StaticData.{static_data, placed_from, bytes_from}
use Rattle.pli_coding.specs.Frames.{MemoryParts, fixed_size, automatic_place, frame_end, word_in, words_place}
use Rattle.pli_coding.specs.SignatureTable.{table_of}
use Rattle.pli_coding.specs.Environments.{Environment, Taken, none_taken, block_around, with_number}
use Rattle.pli_coding.specs.Arithmetic.{sum_code, fitted_code}
use Rattle.pli_coding.specs.Locating.{leaf_resolved, located, subscript_given}
use Rattle.pli_coding.specs.Expressions.{are_few, elements_code, number_code, subscripts_code, text_code, bit_code}
use Rattle.pli_coding.specs.Expressions.{reference_code}
use Rattle.pli_coding.specs.Storing.{word_stored, assignment_code}
use Rattle.pli_coding.specs.Allocating.{allocation_code}
use Rattle.pli_coding.specs.Temporaries.{number_takes}
use Rattle.pli_coding.specs.Entries.{frame_begun}
use Rattle.pli_coding.specs.Statements.{block_held}
use Rattle.pli_coding.specs.Procedures.{end_reached, frame_returned}
use Rattle.pli_coding.specs.Instructions.{immediate, add, move, tested_service}
use Rattle.pli_coding.specs.Streams.{is_counted, item_put, item_got, controls_carried_out, field_awaited}
use Rattle.pli_coding.specs.Streams.{number_written}
use Rattle.pli_coding.specs.Images.{environment_of, code_of, blocks_of}
use Rattle.pli_coding.proofs.RowPieces.{part, variable, automatic, parameter, whole, scalar, bounds, initial, leaf}
use Rattle.pli_coding.proofs.RowPieces.{member, declared, head, procedure, program, plain}

abbrev parts : MemoryParts
parts = record { stack_start = 4096; stack_end = 8192; area_bytes = chain.bytes_for }

-- ---- a program with a procedure in it: A FIXED(31), B(2,3) FIXED(15), C CHAR(5) VARYING INIT('AB'), S FIXED(31) STATIC; the
-- procedure P(N) has D FIXED(31), another A FIXED(31), and a begin block with X FIXED(15)

abbrev up_to : ℕ → Y.Bounds
up_to n = bounds (Y.ConstantExtent (pos 1)) (Y.ConstantExtent (pos n))

abbrev small : Y.Program
small =
    program ([] ∷
    (scalar Y.AutomaticClass (Y.FixedLeaf 31)
    ∷ declared Y.AutomaticClass (member 0 2 ∷ []) (leaf (Y.FixedLeaf 15) (up_to 2 ∷ up_to 3 ∷ []) [] ∷ []) None []
    ∷ declared Y.AutomaticClass (member 0 0 ∷ [])
    (leaf (Y.VaryingLeaf (Y.ConstantExtent (pos 5))) [] (initial 1 (T.InitialText (codes "AB")) ∷ []) ∷ []) None []
    ∷ scalar Y.StaticClass (Y.FixedLeaf 31) ∷ [])
    ∷ (scalar Y.ParameterClass (Y.FixedLeaf 31) ∷ scalar Y.AutomaticClass (Y.FixedLeaf 31) ∷ scalar Y.AutomaticClass (Y.FixedLeaf 31) ∷ [])
    ∷ (scalar Y.AutomaticClass (Y.FixedLeaf 15) ∷ []) ∷ [])
    (procedure (Y.BlockOf (head Y.ProcedureBlock 1 0 1) (Y.EndOfList [])) [] None
    ∷ procedure
    (Y.BlockOf (head Y.ProcedureBlock 2 1 2)
    (Y.StmtThen [] (Y.Begin (Y.BlockOf (head Y.BeginBlock 3 2 3) (Y.EndOfList []))) (Y.EndOfList []))) (0 ∷ []) None
    ∷ [])

abbrev within : (block level : ℕ) → Environment
within block level = record (environment_of parts small) { block = block; level = level }

-- ---- frames

-- one after the other, each name with its data behind it: 16 and 16, 16 and 24 rounded up, 16 and 7 rounded up
variables_stand_apart :
    map (automatic_place parts small 1 0) (0 ∷ 1 ∷ 2 ∷ 3 ∷ []) ≡ (144 ∷ 176 ∷ 224 ∷ 256 ∷ [])
variables_stand_apart = refl

frame_holds_all : frame_end parts small 1 0 ≡ 256
frame_holds_all = refl

-- a display of one word, and one where the list of arguments is, however many there are: 144 and 8
fixed_part_is_rounded : fixed_size 1 0 ∷ fixed_size 1 1 ∷ fixed_size 1 3 ∷ fixed_size 3 0 ∷ fixed_size 4 1 ∷ []
    ≡ (160 ∷ 160 ∷ 160 ∷ 160 ∷ 176 ∷ [])
fixed_part_is_rounded = refl

parameters_take_no_storage : map (automatic_place parts small 2 1) (1 ∷ 2 ∷ []) ≡ (160 ∷ 192 ∷ [])
parameters_take_no_storage = refl

-- six words from the third one on end below the first two
temporaries_stand_below : words_place 2 6 ∷ word_in 2 6 5 ∷ words_place 0 2 ∷ [] ≡ (negsuc 31 ∷ negsuc 11 ∷ negsuc 7 ∷ [])
temporaries_stand_below = refl

blocks_are_in_order : map (λ b. b.level) (blocks_of small.procedures) ≡ (0 ∷ 1 ∷ 2 ∷ [])
blocks_are_in_order = refl

block_around_is_found : map (block_around (within 3 2)) (0 ∷ 1 ∷ 2 ∷ []) ≡ (1 ∷ 2 ∷ 3 ∷ [])
block_around_is_found = refl

-- ---- the table

-- four signatures of eight variables
equal_signatures_stand_once :
    table_words (table_of small)
    ≡ (0 ∷ 1 ∷ 0 ∷ 1 ∷ 31 ∷ 0 ∷
    0 ∷ 1 ∷ 0 ∷ 1 ∷ 15 ∷ 2 ∷ 1 ∷ 2 ∷ 1 ∷ 3 ∷
    0 ∷ 1 ∷ 0 ∷ 3 ∷ 5 ∷ 0 ∷
    0 ∷ 1 ∷ 0 ∷ 1 ∷ 15 ∷ 0 ∷ [])
equal_signatures_stand_once = refl

-- ---- numbers

abbrev number : ℕ → Y.Number
number n = Y.NumberConstant n

abbrev plus : Y.Number → Y.Number → Y.Number
plus a b = Y.Calculated Y.Sum a b

abbrev stores_in : Code → ℕ
stores_in [] = 0
stores_in (Plain (I.Store kind rs value offset) ∷ is) = 1 + stores_in is
stores_in (i ∷ is) = stores_in is

-- (1 + 2) + (3 + 4) goes without memory
sum_of_sums_needs_no_memory :
    stores_in (number_code (within 1 0) none_taken (plus (plus (number 1) (number 2)) (plus (number 3) (number 4)))) ≡ 0
sum_of_sums_needs_no_memory = refl

abbrev deep : ℕ → Y.Number
deep zero = number 1
deep (suc n) = plus (number 1) (deep n)

-- of nine operands that wait two are in words: each is stored once, and once more where its sum overflows
eighth_number_waits_in_a_word :
    stores_in (number_code (within 1 0) none_taken (deep 7)) ∷ stores_in (number_code (within 1 0) none_taken (deep 9)) ∷ []
    ≡ (0 ∷ 4 ∷ [])
eighth_number_waits_in_a_word = refl

seven_take_registers : number_takes none_taken (deep 9) ≡ record { registers = 7; words = 2 }
seven_take_registers = refl

-- a sum below its left operand, against a negative right one
sum_is_tested :
    sum_code none_taken
    ≡ (Plain (I.Registers Op.Add R.u2 R.u1 R.a0)
    ∷ Plain (I.Registers Op.SetLess R.u3 R.u2 R.u1)
    ∷ Plain (I.Immediate Imm.SetLess R.u4 R.a0 (pos 0))
    ∷ Plain (I.Immediate Imm.Add R.a0 R.u2 (pos 0))
    ∷ Plain (I.Branch Test.Equal R.u3 R.u4 (pos 28))
    ∷ Plain (I.Immediate Imm.Add (R.held 0) R.a0 (pos 0))
    ∷ Plain (I.Immediate Imm.Add R.a0 R.zero_register (pos 2))
    ∷ Plain (I.Immediate Imm.Add R.a1 R.zero_register (pos 20))
    ∷ CallTo RaiseCondition
    ∷ Plain (I.Immediate Imm.Add R.a0 (R.held 0) (pos 0))
    ∷ [])
sum_is_tested = refl

-- a count that isn't above 0
count_is_tested :
    elements_code none_taken (bounds (Y.ConstantExtent (pos 1)) (Y.EvaluatedExtent 0)) 0
    ≡ (Plain (I.Load Load.Word R.a0 R.frame_register (pos 76))
    ∷ Plain (I.Immediate Imm.Add R.u1 R.zero_register (pos 1))
    ∷ Plain (I.Registers Op.Subtract R.a0 R.a0 R.u1)
    ∷ Plain (I.Immediate Imm.Add R.a0 R.a0 (pos 1))
    ∷ Plain (I.Branch Test.Less R.zero_register R.a0 (pos 28))
    ∷ Plain (I.Immediate Imm.Add (R.held 0) R.a0 (pos 0))
    ∷ Plain (I.Immediate Imm.Add R.a0 R.zero_register (pos 2))
    ∷ Plain (I.Immediate Imm.Add R.a1 R.zero_register (pos 20))
    ∷ CallTo RaiseCondition
    ∷ Plain (I.Immediate Imm.Add R.a0 (R.held 0) (pos 0))
    ∷ [])
count_is_tested = refl

few_elements_need_no_test :
    elements_code none_taken (up_to 3) 0
    ≡ (Plain (I.Immediate Imm.Add R.a0 R.zero_register (pos 3))
    ∷ Plain (I.Immediate Imm.Add R.u1 R.zero_register (pos 1))
    ∷ Plain (I.Registers Op.Subtract R.a0 R.a0 R.u1)
    ∷ Plain (I.Immediate Imm.Add R.a0 R.a0 (pos 1))
    ∷ [])
few_elements_need_no_test = refl

-- 2^31 - 1 and 2^31 elements
few_is_what_a_number_holds : map (λ n. are_few (Y.ConstantExtent (pos 1)) (Y.ConstantExtent (pos n))) (2147483647 ∷ 2147483648 ∷ []) ≡ (true ∷ false ∷ [])
few_is_what_a_number_holds = refl

abbrev first_of : Code → Code
first_of [] = []
first_of (i ∷ is) = i ∷ []

left_operand_comes_first :
    first_of (number_code (within 1 0) none_taken (Y.Calculated Y.Difference (number 5) (number 3)))
    ≡ (Plain (I.Immediate Imm.Add R.a0 R.zero_register (pos 5)) ∷ [])
left_operand_comes_first = refl

abbrev number_in : Y.Variable → Y.Number
number_in v = Y.NumberIn (whole v)

-- a variable of the running block is one load, one of the block around two
direct_scalar_is_a_load :
    number_code (within 1 0) none_taken (number_in (automatic 1 0 0))
    ∷ number_code (within 2 1) none_taken (number_in (automatic 1 0 0)) ∷ []
    ≡ ((Plain (I.Load Load.Word R.a0 R.frame_register (pos 160)) ∷ [])
    ∷ (Plain (I.Load Load.Word R.u3 R.frame_register (pos 144)) ∷ Plain (I.Load Load.Word R.a0 R.u3 (pos 160)) ∷ [])
    ∷ [])
direct_scalar_is_a_load = refl

-- ---- registers that procedures save

abbrev one : Y.Stmt → Y.Stmts
one s = Y.StmtThen [] s (Y.EndOfList [])

-- so many numbers wait, and one more
abbrev tested : ℕ → Y.Stmt
tested n = Y.If (Y.NumbersCompared Y.IsLess (number 1) (deep n)) (Y.Null 1) 1

abbrev begun : Y.Stmts → Y.Stmt
begun body = Y.Begin (Y.BlockOf (head Y.BeginBlock 3 2 3) body)

abbrev labelled : Y.Stmts
labelled = Y.EndOfList (codes "L" ∷ [])

-- those of its own temporaries, of its BEGIN blocks, and all where a label stands in them
registers_are_counted :
    map (block_held (within 1 0) 1)
    (Y.EndOfList [] ∷ one (tested 2) ∷ one (tested 8) ∷ one (begun (one (tested 2)))
    ∷ one (begun (one (begun (one (tested 3)))))
    ∷ one (begun labelled) ∷ labelled ∷ Y.StmtThen (codes "L" ∷ []) (Y.Null 1) (Y.EndOfList []) ∷ [])
    ≡ (0 ∷ 3 ∷ 7 ∷ 3 ∷ 4 ∷ 7 ∷ 7 ∷ 7 ∷ [])
registers_are_counted = refl

-- groups hold statements of the same frame; an on-unit has a frame of its own, which saves its own
registers_of_groups_are_counted :
    map (λ s. block_held (within 1 0) 1 (one s))
    (Y.Do (one (begun (one (tested 2)))) 1 ∷ Y.DoWhile (Y.BitConstant true) (one (begun (one (tested 2)))) 1
    ∷ Y.If (Y.BitConstant true) (begun (one (tested 2))) 1 ∷ Y.IfElse (Y.BitConstant true) (tested 1)
    (begun (one (tested 2))) 1
    ∷ Y.IfElse (Y.BitConstant true) (Y.Do labelled 1) (begun (one (tested 2))) 1
    ∷ Y.OnUnit C.Area (Y.BlockOf (head Y.UnitBlock 3 1 3) (one (tested 2))) 1 ∷ [])
    ≡ (3 ∷ 3 ∷ 3 ∷ 3 ∷ 7 ∷ 0 ∷ [])
registers_of_groups_are_counted = refl

-- where it goes on, three registers, the frame below, the top of the lower stack, the display and its own offset
three_registers_are_saved : stores_in (frame_begun 3 1 0 (Some 3)) ∷ stores_in (frame_begun 3 1 0 None) ∷ []
    ≡ (8 ∷ 4 ∷ [])
three_registers_are_saved = refl

last_register_is_restored :
    frame_returned 0 2
    ≡ (Plain (I.Load Load.Word R.return_register R.frame_register (pos 0))
    ∷ Plain (I.Load Load.Word (R.held 0) R.frame_register (pos 8))
    ∷ Plain (I.Load Load.Word (R.held 1) R.frame_register (pos 12))
    ∷ Plain (I.Immediate Imm.Add R.stack_register R.frame_register (pos 0))
    ∷ Plain (I.Load Load.Word R.frame_register R.frame_register (pos 4))
    ∷ Plain (I.JumpRegister R.zero_register R.return_register (pos 0))
    ∷ [])
last_register_is_restored = refl

-- ---- services

abbrev last_three : Code → Code
last_three (a ∷ b ∷ c ∷ []) = a ∷ b ∷ c ∷ []
last_three [] = []
last_three (a ∷ is) = last_three is

-- behind service 8 comes the test of its status
status_is_tested :
    last_three (leaf_resolved (within 2 1) (located (within 2 1) none_taken (parameter 2 1 0)) 0 false)
    ≡ (Plain I.Ecall ∷ Plain (I.Branch Test.Equal R.a1 R.zero_register (pos 12)) ∷ JumpTo RaiseError ∷ [])
status_is_tested = refl

-- ---- errors

abbrev errors_in : Code → ℕ
errors_in [] = 0
errors_in (JumpTo RaiseError ∷ is) = 1 + errors_in is
errors_in (i ∷ is) = errors_in is

-- a function that ends without a value, but the main procedure
missing_value_is_an_error :
    errors_in (end_reached (within 2 1) (head Y.ProcedureBlock 2 1 2) (Some Y.BitLeaf))
    ∷ errors_in (end_reached (within 1 0) (head Y.ProcedureBlock 1 0 1) (Some Y.BitLeaf)) ∷ []
    ≡ (1 ∷ 0 ∷ [])
missing_value_is_an_error = refl

-- an element of two dimensions is tested twice
subscripts_are_tested :
    errors_in
    (number_code (within 1 0) none_taken
    (Y.NumberIn (Y.Referring (automatic 1 0 1) Y.NotLocated (part 0 1) (Y.NumberThen (number 1) (Y.NumberThen (number 2) Y.NoNumber)))))
    ≡ 2
subscripts_are_tested = refl

abbrev between : ℤ → ℤ → Y.Bounds
between l u = bounds (Y.ConstantExtent l) (Y.ConstantExtent u)

-- K FIXED(31), V(0:3) FIXED(31), W(-5:5) FIXED(15), T(2) CHAR(3), S FIXED(15) STATIC
abbrev rows : Y.Program
rows =
    program ([] ∷
    (scalar Y.AutomaticClass (Y.FixedLeaf 31)
    ∷ declared Y.AutomaticClass (member 0 1 ∷ []) (leaf (Y.FixedLeaf 31) (between (pos 0) (pos 3) ∷ []) [] ∷ []) None []
    ∷ declared Y.AutomaticClass (member 0 1 ∷ []) (leaf (Y.FixedLeaf 15) (between (negsuc 4) (pos 5) ∷ []) [] ∷ [])
    None []
    ∷ declared Y.AutomaticClass (member 0 1 ∷ []) (leaf (Y.CharacterLeaf (Y.ConstantExtent (pos 3))) (up_to 2 ∷ []) []
    ∷ []) None []
    ∷ scalar Y.StaticClass (Y.FixedLeaf 15) ∷ []) ∷ [])
    (procedure (Y.BlockOf (head Y.ProcedureBlock 1 0 1) (Y.EndOfList [])) [] None ∷ [])

abbrev in_rows : Environment
in_rows = record (environment_of parts rows) { block = 1; level = 0 }

abbrev k : Y.Number
k = number_in (automatic 1 0 0)

abbrev element : Y.Variable → Y.Numbers → Y.Number
element v xs = Y.NumberIn (Y.Referring v Y.NotLocated (part 0 1) xs)

abbrev subscript : Y.Number → Y.Numbers
subscript x = Y.NumberThen x Y.NoNumber

abbrev subscripts : Y.Number → Y.Number → Y.Numbers
subscripts x y = Y.NumberThen x (subscript y)

-- V(K): the subscript is loaded, tested and shifted, where the lower bound is 0
simple_subscript_takes_no_other_register :
    number_code in_rows none_taken (element (automatic 1 0 1) (subscript k))
    ≡ (Plain (I.Load Load.Word R.u1 R.frame_register (pos 160))
    ∷ Plain (I.Immediate Imm.Add R.u2 R.zero_register (pos 3))
    ∷ Plain (I.Branch Test.GreaterOrEqualUnsigned R.u2 R.u1 (pos 16))
    ∷ Plain (I.Immediate Imm.Add R.a1 R.zero_register (pos 102))
    ∷ JumpTo RaiseError
    ∷ Plain (I.Shift Shift.Left R.u4 R.u1 2)
    ∷ Plain (I.Registers Op.Add R.u3 R.frame_register R.u4)
    ∷ Plain (I.Load Load.Word R.a0 R.u3 (pos 192)) ∷ [])
simple_subscript_takes_no_other_register = refl

abbrev first_three : Code → Code
first_three (i ∷ j ∷ k ∷ is) = i ∷ j ∷ k ∷ []
first_three is = is

-- W(K): another lower bound is taken off
lower_bound_is_taken_off :
    first_three (number_code in_rows none_taken (element (automatic 1 0 2) (subscript k)))
    ≡ (Plain (I.Load Load.Word R.u1 R.frame_register (pos 160))
    ∷ Plain (I.Immediate Imm.Add R.u1 R.u1 (pos 5))
    ∷ Plain (I.Immediate Imm.Add R.u2 R.zero_register (pos 10)) ∷ [])
lower_bound_is_taken_off = refl

-- a STATIC variable is reached by way of the same register
static_subscript_takes_the_same_register :
    subscript_given in_rows none_taken (number_in (variable Y.StaticClass 1 0 4)) Y.NoNumber
    ≡ (BaseIn R.u1
    ∷ OffsetOf R.u0 (DataPlace (StaticStorage 1 4 16))
    ∷ Plain (I.Registers Op.Add R.u1 R.u1 R.u0)
    ∷ Plain (I.Load Load.Half R.u1 R.u1 (pos 16)) ∷ [])
static_subscript_takes_the_same_register = refl

-- a subscript waits where it or one behind it isn't simple: those of (SIGN(K), K), (K, SIGN(K)), (K, V(K)), (2, K)
abbrev all_held : Taken
all_held = record { registers = 7; words = 0 }

subscripts_wait_before_others :
    stores_in (subscripts_code in_rows all_held (subscripts (Y.SignOf k) k))
    ∷ stores_in (subscripts_code in_rows all_held (subscripts k (Y.SignOf k)))
    ∷ stores_in (subscripts_code in_rows all_held (subscripts k (element (automatic 1 0 1) (subscript k))))
    ∷ stores_in (subscripts_code in_rows all_held (subscripts (number 2) k)) ∷ []
    ≡ (1 ∷ 2 ∷ 2 ∷ 0 ∷ [])
subscripts_wait_before_others = refl

-- ---- stores

abbrev at_subscript : Y.Variable → Y.Number → Y.Reference
at_subscript v x = Y.Referring v Y.NotLocated (part 0 1) (subscript x)

-- V(K) takes a value that stays in a0
near_target_leaves_the_value :
    word_stored in_rows none_taken (at_subscript (automatic 1 0 1) k)
    ≡ (Plain (I.Load Load.Word R.u1 R.frame_register (pos 160))
    ∷ Plain (I.Immediate Imm.Add R.u2 R.zero_register (pos 3))
    ∷ Plain (I.Branch Test.GreaterOrEqualUnsigned R.u2 R.u1 (pos 16))
    ∷ Plain (I.Immediate Imm.Add R.a1 R.zero_register (pos 102))
    ∷ JumpTo RaiseError
    ∷ Plain (I.Shift Shift.Left R.u4 R.u1 2)
    ∷ Plain (I.Registers Op.Add R.u3 R.frame_register R.u4)
    ∷ Plain (I.Store Store.Word R.u3 R.a0 (pos 192)) ∷ [])
near_target_leaves_the_value = refl

-- K and V(K) are near; V(SIGN(K)) isn't, whose subscript waits too, nor is a parameter
value_waits_for_other_targets :
    stores_in (word_stored in_rows all_held (whole (automatic 1 0 0)))
    ∷ stores_in (word_stored in_rows all_held (at_subscript (automatic 1 0 1) k))
    ∷ stores_in (word_stored in_rows all_held (at_subscript (automatic 1 0 1) (Y.SignOf k)))
    ∷ stores_in (word_stored (within 2 1) all_held (whole (parameter 2 1 0))) ∷ []
    ≡ (1 ∷ 1 ∷ 3 ∷ 2 ∷ [])
value_waits_for_other_targets = refl

-- ---- locators

-- P and Q POINTER, R POINTER STATIC, E(2) POINTER, X FIXED(31) BASED, V(3) FIXED(31) BASED, 1 S BASED with 2 N
-- FIXED(31) and 2 M(K REFER(N)) FIXED(31), I FIXED(31)
abbrev pointing : Y.Program
pointing =
    program ([] ∷
    (scalar Y.AutomaticClass Y.PointerLeaf ∷ scalar Y.AutomaticClass Y.PointerLeaf ∷ scalar Y.StaticClass Y.PointerLeaf
    ∷ declared Y.AutomaticClass (member 0 1 ∷ []) (leaf Y.PointerLeaf (up_to 2 ∷ []) [] ∷ []) None []
    ∷ scalar Y.BasedClass (Y.FixedLeaf 31)
    ∷ declared Y.BasedClass (member 0 1 ∷ []) (leaf (Y.FixedLeaf 31) (up_to 3 ∷ []) [] ∷ []) None []
    ∷ declared Y.BasedClass (member 0 0 ∷ member 1 0 ∷ member 1 1 ∷ [])
    (plain (Y.FixedLeaf 31) ∷ leaf (Y.FixedLeaf 31) (bounds (Y.ConstantExtent (pos 1)) Y.ReferExtent ∷ []) [] ∷ [])
    (Some (record { member = 0; amount = Y.EvaluatedExtent 0 })) []
    ∷ scalar Y.AutomaticClass (Y.FixedLeaf 31) ∷ []) ∷ [])
    (procedure (Y.BlockOf (head Y.ProcedureBlock 1 0 1) (Y.EndOfList [])) [] None ∷ [])

abbrev among_pointers : Environment
among_pointers = record (environment_of parts pointing) { block = 1; level = 0 }

abbrev q : Y.Variable
q = automatic 1 0 1

abbrev behind : Y.Variable → Y.Variable → (leaves : ℕ) → Y.Numbers → Y.Reference
behind locator v leaves subscripts = Y.Referring v (Y.LocatedBy (Y.PointerIn (whole locator))) (part 0 leaves)
    subscripts

abbrev first_two : Code → Code
first_two (a ∷ b ∷ is) = a ∷ b ∷ []
first_two is = is

-- the service is told where Q itself stands, behind its name, or where the STATIC one does
locator_stands_where_it_is :
    first_two (reference_code among_pointers none_taken (behind q (variable Y.BasedClass 1 0 4) 1 Y.NoNumber))
    ∷ first_two
    (reference_code among_pointers none_taken (behind (variable Y.StaticClass 1 0 2) (variable Y.BasedClass 1 0 4)
    1 Y.NoNumber))
    ∷ []
    ≡ ((Plain (I.Load Load.Word R.a0 R.frame_register (pos 36)) ∷ Plain (I.Immediate Imm.Add R.a0 R.a0 (pos 192)) ∷ [])
    ∷ (OffsetOf R.a0 (DataPlace (StaticStorage 1 2 16)) ∷ Plain (I.Immediate Imm.Add R.a0 R.a0 (pos 16)) ∷ [])
    ∷ [])
locator_stands_where_it_is = refl

abbrev subscripted_by : Y.Number → Code
subscripted_by i =
    reference_code among_pointers none_taken (behind q (variable Y.BasedClass 1 0 5) 1 (Y.NumberThen i Y.NoNumber))

-- the name is copied where the subscript is a sum or a call, behind which the pointer may be another
locator_waits_where_it_may_change :
    map (λ i. stores_in (subscripted_by i))
    (number 2 ∷ number_in (automatic 1 0 7) ∷ plus (number 1) (number 1) ∷ Y.NumberFrom (Y.Calling 1 0 Y.NoArgument)
    ∷ [])
    ≡ (0 ∷ 0 ∷ 4 ∷ 4 ∷ [])
locator_waits_where_it_may_change = refl

-- of names that are compared the left one is copied where the right one's call may change it
left_name_waits_for_a_call :
    map (λ p. stores_in (bit_code among_pointers none_taken (Y.PointersCompared true (Y.PointerIn (whole q)) p)))
    (Y.PointerIn (whole (automatic 1 0 0)) ∷ Y.NullPointer ∷ Y.PointerFrom (Y.Calling 1 0 Y.NoArgument) ∷ [])
    ≡ (0 ∷ 0 ∷ 8 ∷ [])
left_name_waits_for_a_call = refl

abbrev made_for : Y.Reference → Code
made_for target =
    allocation_code among_pointers none_taken 3
    (Y.AllocateBased (variable Y.BasedClass 1 0 4) None (Y.SetPointer target))

-- the name comes into Q at once; into an element it is copied once the generation was placed
name_comes_last :
    stores_in (made_for (whole q))
    ∷ stores_in
    (made_for (Y.Referring (automatic 1 0 3) Y.NotLocated (part 0 1) (Y.NumberThen (number 2) Y.NoNumber))) ∷ []
    ≡ (2 ∷ 6 ∷ [])
name_comes_last = refl

copy_comes_last :
    last_three (made_for (Y.Referring (automatic 1 0 3) Y.NotLocated (part 0 1) (Y.NumberThen (number 2) Y.NoNumber)))
    ≡ (Plain (I.Store Store.Word R.u3 R.u1 (pos 232))
    ∷ Plain (I.Load Load.Word R.u1 R.frame_register (negsuc 11))
    ∷ Plain (I.Store Store.Word R.u3 R.u1 (pos 236))
    ∷ [])
copy_comes_last = refl

-- a name is copied into Q where REFER is looked at once it was written
name_is_assigned_once_all_is_tested :
    map (λ r. stores_in (assignment_code among_pointers none_taken (whole q) (Y.StoredPointer (Y.AddressOf r))))
    (behind (automatic 1 0 0) (variable Y.BasedClass 1 0 4) 1 Y.NoNumber
    ∷ behind (automatic 1 0 0) (variable Y.BasedClass 1 0 6) 2 Y.NoNumber ∷ [])
    ≡ (0 ∷ 4 ∷ [])
name_is_assigned_once_all_is_tested = refl

-- ---- static data

abbrev pushed : List ℕ → Code
pushed bytes = text_code (within 1 0) none_taken (Y.TextConstant bytes)

texts_stand_once : static_data (pushed (codes "AB") ++ (pushed (codes "C") ++ pushed (codes "AB"))) ≡ (ConstantBytes (codes "AB") ∷ ConstantBytes (codes "C") ∷ [])
texts_stand_once = refl

-- the INITIAL values of C, the storage of S
small_data : map (λ p. p.place) (placed_from 100 (static_data (code_of parts small))) ≡ (100 ∷ 112 ∷ 144 ∷ [])
small_data = refl

-- a list of one leaf, whose values stand 12 bytes behind it: one value, once, a text of 2 bytes
initial_values_follow :
    bytes_from
    (placed_from 0 (InitialValues (record { leaf = 0; values = codes "ABCD" } ∷ []) ∷ ConstantBytes (codes "ABCD") ∷ []))
    0
    (placed_from 0 (InitialValues (record { leaf = 0; values = codes "ABCD" } ∷ []) ∷ ConstantBytes (codes "ABCD") ∷ []))
    ≡ 1 ∷ 0 ∷ 0 ∷ 0 ∷ 0 ∷ 0 ∷ 0 ∷ 0 ∷ 12 ∷ 0 ∷ 0 ∷ 0 ∷ codes "ABCD"
initial_values_follow = refl

-- ---- whole arrays in GET and PUT

abbrev first_place : Place
first_place = record { line = 1; column = 1 }

abbrev numbers_of_three : T.Formats
numbers_of_three = T.FormatThen first_place 1 (T.FixedFormat 3) T.NoFormat

abbrev array : Y.Reference
array = whole (automatic 1 0 1)

-- B by how far its elements stand behind the first: from place 192 on, 4 bytes each, 24 in all
array_is_put_by_distance :
    item_put (within 1 0) none_taken numbers_of_three (Y.PutAggregate array)
    ≡ move (R.held 0) R.zero_register
    ∷ move R.u4 (R.held 0)
    ∷ add R.u3 R.frame_register R.u4
    ∷ Plain (I.Load Load.Half R.a0 R.u3 (pos 192))
    ∷ move (R.held 1) R.a0
    ∷ (controls_carried_out
    ++ (move R.a0 (R.held 1)
    ∷ (number_written
    ++ (move R.u1 (R.held 0)
    ∷ immediate Imm.Add R.u1 R.u1 (pos 4)
    ∷ move (R.held 0) R.u1
    ∷ immediate Imm.Add R.u2 R.zero_register (pos 24)
    ∷ Plain (I.Branch Test.Equal R.u1 R.u2 (pos 12))
    ∷ JumpBack 24
    ∷ []))))
array_is_put_by_distance = refl

-- from the procedure, with the exit 7 words behind: a field that is too wide may be narrowed by a unit that returns
array_is_got_by_distance :
    item_got (within 2 1) none_taken numbers_of_three (Y.GetAggregate array) 7
    ≡ move (R.held 0) R.zero_register
    ∷ (field_awaited 33
    ++ (tested_service 36
    ++ (fitted_code (with_number none_taken) 15
    ++ (move R.u4 (R.held 0)
    ∷ Plain (I.Load Load.Word R.u3 R.frame_register (pos 144))
    ∷ add R.u3 R.u3 R.u4
    ∷ Plain (I.Store Store.Half R.u3 R.a0 (pos 192))
    ∷ move R.u1 (R.held 0)
    ∷ immediate Imm.Add R.u1 R.u1 (pos 4)
    ∷ move (R.held 0) R.u1
    ∷ immediate Imm.Add R.u2 R.zero_register (pos 24)
    ∷ Plain (I.Branch Test.Equal R.u1 R.u2 (pos 12))
    ∷ JumpBack 37
    ∷ []))))
array_is_got_by_distance = refl

-- a row of B and a parameter aren't, an array whose elements have no length, a structure of two leaves
abbrev others : Y.Program
others =
    program ([] ∷
    (declared Y.AutomaticClass (member 0 1 ∷ []) (leaf (Y.CharacterLeaf (Y.ConstantExtent (pos 0))) (up_to 3 ∷ []) []
    ∷ []) None []
    ∷ declared Y.StaticClass (member 0 1 ∷ member 1 0 ∷ member 1 1 ∷ [])
    (leaf Y.BitLeaf (up_to 3 ∷ []) [] ∷ leaf (Y.VaryingLeaf (Y.ConstantExtent (pos 5))) (up_to 3 ∷ up_to 2 ∷ []) []
    ∷ []) None []
    ∷ []) ∷ []) []

abbrev members : (first count : ℕ) → Y.Reference
members first count = Y.Referring (variable Y.StaticClass 1 0 1) Y.NotLocated (part first count) Y.NoNumber

what_is_counted :
    map (is_counted (within 2 1))
    (array ∷ Y.Referring (automatic 1 0 1) Y.NotLocated (part 0 1) (Y.NumberThen (number 1) Y.NoNumber)
    ∷ whole (parameter 2 1 0) ∷ [])
    ++ map (is_counted (record (environment_of parts others) { block = 1; level = 0 })) (whole (automatic 1 0 0)
    ∷ members 0 2 ∷ members 0 1 ∷ members 1 1 ∷ [])
    ≡ (true ∷ false ∷ false ∷ false ∷ false ∷ true ∷ true ∷ [])
what_is_counted = refl
