-- The code of a program that is proved is no longer than 40 words for each node of its statements and for each variable, and 100.
use Rattle.std.proofs.Common.{◌≡◌, ℕ, suc, ◌+◌, ◌*◌, ◌≤◌, List, [], ◌∷◌, ◌++◌, length, None, refl, sym, ap, ◌∙◌}
use Rattle.std.proofs.Common.{subst, arith, Some}
use Rattle.std.specs.Prelude.{ℤ, min, pos, neg_ℤ}
use Rattle.rv_meaning.specs.declared.instr.Register.{Register}
use Rattle.rv_meaning.specs.declared.instr.Instr.TheVariants as I
use Rattle.pli_typing.specs.TypedTree as Y
use Rattle.pli_meaning.specs.DeclaredShapes.{variables_of_block}
use Rattle.pli_coding.specs.Registers.{zero_register, return_register, frame_register, stack_register, a0, a1, a2, a3, a4, u0, u1, u5}
use Rattle.pli_coding.specs.Assembly.{Plain, BaseIn, Code, size_of}
use Rattle.pli_coding.specs.Instructions.{subtract, move, small, number, load_word, store_word, plus, service}
use Rattle.pli_coding.specs.Frames.{frame_below, own_offset, lower_top, temporary_bytes, fixed_size, name_bytes, frame_bytes, last_place, automatic_place}
use Rattle.pli_coding.specs.Environments.{Environment, none_taken}
use Rattle.pli_coding.specs.Locating.{own_place, table_number}
use Rattle.pli_coding.specs.Entries.{all_saved, frame_begun, frame_ended, block_entered, constant_made}
use Rattle.pli_coding.specs.Entries.{variables_made, variables_code, all_restored}
use Rattle.pli_coding.specs.Extents.{initial_code}
use Rattle.pli_coding.specs.Allocating.{act_code}
use Rattle.pli_coding.specs.Statements.{block_words, stmts_code, block_held}
use Rattle.pli_coding.specs.Procedures.{procedure_begun, procedure_ended, procedure_in}
use Rattle.pli_coding.specs.Images.{raise_code, code_of, linked_code}
use Rattle.pli_coding.specs.Linking.{links_of}
use Rattle.pli_headline.specs.FirstForms.{plain_number, AreNumbers, AllNumbers, AreFirstStatements, IsFirstProgram}
use Rattle.pli_headline.specs.Headline.{parts}
use Rattle.run_steps.proofs.Linking.{linked_length, size_append}
use Rattle.pli_headline.proofs.Marks.{code_is, only_main}
use Rattle.pli_headline.proofs.FirstFrame.{start_of}
use Rattle.pli_headline.proofs.FirstForms.{all_numbers_plain, block_numbers, program_wider}
use Rattle.pli_headline.proofs.MainProcedure.{IsAlone, main_head, main_environment, alone_of}
use Rattle.pli_headline.proofs.Variables.{outermost}
use Rattle.pli_headline.proofs.CodeSizes.{HasPlain, stmts_nodes, constant_most, load_most, plus_most, act_most, statements_most}
use Rattle.pli_headline.proofs.HeldRegisters.{held_few, saved_size, restored_size}

-- ---- variables

place_most : (e : Environment) (r : Register) (z : ℤ) → size_of (own_place (outermost e) r z) ≤ 6
place_most e r z =
    let a = load_most r frame_register own_offset in
    let b = plus_most r r z in
    let s = size_append (load_word r frame_register own_offset) (plus r r z) in
    omega (arith, a, b, s)

made_most : (e : Environment) (place : ℕ) → size_of (constant_made (outermost e) place plain_number) ≤ 40
made_most e place =
    let name = own_place (outermost e) a0 (pos place) in
    let n = number a1 (table_number e plain_number) in
    let data_at = own_place (outermost e) a3 (pos (place + name_bytes)) in
    let behind = plus stack_register frame_register (pos (min last_place (place + frame_bytes e.parts plain_number))) in
    let a = place_most e a0 (pos place) in
    let b = constant_most a1 (pos (table_number e plain_number)) in
    let c = place_most e a3 (pos (place + name_bytes)) in
    let d = plus_most stack_register frame_register (pos (min last_place (place + frame_bytes e.parts plain_number))) in
    let last = small a4 0 ∷ (service 7 ++ behind) in
    let initial = initial_code a2 plain_number in
    let s1 = size_append name (n ++ (initial ++ (data_at ++ last))) in
    let s2 = size_append n (initial ++ (data_at ++ last)) in
    let s3 = size_append data_at last in
    omega (arith, a, b, c, d, s1, s2, s3)

variables_most : (e : Environment) (line index : ℕ) (ds : List Y.DeclaredVariable) → AreNumbers ds → size_of (variables_made (outermost e) line index ds) ≤ 40 * length ds
variables_most e line index [] are = omega arith
variables_most e line index (d ∷ ds) are =
    let place = automatic_place e.parts e.program e.block 0 index in
    let a = made_most e place in
    let b = variables_most e line (suc index) ds are.1 in
    let s = size_append (constant_made (outermost e) place plain_number) (variables_made (outermost e) line (suc index) ds) in
    subst (λ u. size_of (variables_made (outermost e) line index (u ∷ ds)) ≤ 40 * suc (length ds)) (sym are.0) (omega (arith, a, b, s))

-- ---- the procedure

-- what a called frame of level 0 keeps beside registers, once it is below the stack
abbrev pub frame_filled : Code
frame_filled =
    store_word u0 frame_register frame_below
    ++ (load_word u1 frame_register lower_top
    ++ (move frame_register u0
    ∷ (store_word frame_register u1 lower_top
    ++ (BaseIn u1
    ∷ subtract u1 frame_register u1
    ∷ (store_word frame_register u1 own_offset ++ plus stack_register frame_register (pos (fixed_size 0 0)))))))

abbrev returned : Code
returned = Plain (I.JumpRegister zero_register return_register (pos 0)) ∷ []

begun_most : (words count : ℕ) → count ≤ 7 → size_of (frame_begun words 0 0 (Some count)) ≤ 20
begun_most words count few =
    let a = plus_most u0 stack_register (pos (temporary_bytes words)) in
    let b = saved_size count few in
    let s1 = size_append (plus u0 stack_register (pos (temporary_bytes words))) (all_saved u0 count ++ frame_filled) in
    let s2 = size_append (all_saved u0 count) frame_filled in
    omega (arith, few, a, b, s1, s2)

entered_most : (line : ℕ) → size_of (block_entered 0 line) ≤ 6
entered_most line =
    let a = constant_most a2 (pos line) in
    let s = size_append (number a2 line) (service 4) in
    omega (arith, a, s)

returned_most : (words : ℕ) → size_of (frame_ended words ++ returned) ≤ 5
returned_most words =
    let z : ℤ = neg_ℤ (pos (temporary_bytes words)) in
    let below = load_word frame_register frame_register frame_below in
    let a = plus_most stack_register frame_register z in
    let s1 = size_append (frame_ended words) returned in
    let s2 = size_append (plus stack_register frame_register z) below in
    omega (arith, a, s1, s2)

ended_most : (e : Environment) (head : Y.BlockHead) (words count : ℕ) → count ≤ 7
    → size_of (procedure_ended e head words count None) ≤ 16
ended_most e head words count few =
    let a = returned_most words in
    let b = restored_size count few in
    let s = size_append (all_restored count) (frame_ended words ++ returned) in
    omega (arith, few, a, b, s)

-- a procedure at level 0 whose variables are plain
prologue_most : (e : Environment) (block line count words held : ℕ) → held ≤ 7 → e.block ≡ block
    → HasPlain e block count → size_of (procedure_begun (outermost e) (main_head block line) words held []) ≤ 33
    + 40 * count
prologue_most e block line count words held few at has =
    let made = variables_code (outermost e) line in
    let act = act_code line in
    let entered = block_entered 0 line in
    let begun = frame_begun words 0 0 (Some held) in
    let a = begun_most words held few in
    let b = entered_most line in
    let c : size_of made ≤ 40 * count =
    let same : count ≡ length (variables_of_block e.program e.block) = has.1 ∙ ap (λ n. length (variables_of_block e.program n)) (sym at) in
    let m = variables_most e line 0 (variables_of_block e.program e.block) (subst (λ n. AreNumbers (variables_of_block e.program n)) (sym at) has.0) in
    omega (arith, m, same) in
    let d = act_most line in
    let s1 = size_append begun (move u5 a1 ∷ move a3 a2 ∷ (entered ++ (made ++ act))) in
    let s2 = size_append entered (made ++ act) in
    let s3 = size_append made act in
    omega (arith, a, b, c, d, s1, s2, s3)

procedure_most : (e : Environment) (block line count : ℕ) (body : Y.Stmts) → e.block ≡ block → HasPlain e block count → AreFirstStatements block count body → size_of (procedure_in (outermost e) (main_head block line) body [] None) ≤ 49 + (40 * count + 40 * stmts_nodes body)
procedure_most e block line count body at has are =
    let words = block_words (outermost e) block body in
    let held = block_held (outermost e) block body in
    let few = held_few e.program _ body in
    let begun = procedure_begun (outermost e) (main_head block line) words held [] in
    let code = stmts_code (outermost e) none_taken body in
    let ended = procedure_ended (outermost e) (main_head block line) words held None in
    let a = prologue_most e block line count words held few at has in
    let b = statements_most e none_taken block count body has are in
    let c = ended_most (outermost e) (main_head block line) words held few in
    let s1 = size_append begun (code ++ ended) in
    let s2 = size_append code ended in
    omega (arith, a, b, c, s1, s2)

-- ---- the whole

-- with one procedure of plain numbers
pub alone_most : (program : Y.Program) (block line : ℕ) (body : Y.Stmts) → AllNumbers program.variables → (alone : IsAlone program block line body) → alone.others ≡ [] → AreFirstStatements block (length (variables_of_block program block)) body → size_of (code_of parts program) ≤ 100 + (40 * length (variables_of_block program block) + 40 * stmts_nodes body)
alone_most program block line body plain alone none are =
    let e = main_environment program block in
    let start = start_of block in
    let procedure = procedure_in e (main_head block line) body [] None in
    let a = procedure_most e block line (length (variables_of_block program block)) body refl (block_numbers program.variables block plain, refl) are in
    let s1 = size_append start (raise_code ++ procedure) in
    let s2 = size_append raise_code procedure in
    let s3 : size_of (code_of parts program) ≡ size_of (start ++ (raise_code ++ procedure)) = ap size_of (code_is program block line body (all_numbers_plain program.variables plain) alone ∙ only_main program block line body alone.others none) in
    omega (arith, a, s1, s2, s3)

pub program_most : (program : Y.Program) (is : IsFirstProgram program) → length (linked_code (code_of parts program)) ≤ 100 + (40 * length (variables_of_block program is.head.number) + 40 * stmts_nodes is.body)
program_most program is =
    let code = code_of parts program in
    let n = linked_length (links_of code) 0 code in
    let m = alone_most program is.head.number is.head.line is.body is.plain (alone_of program (program_wider program is)) refl is.block.statements in
    omega (arith, n, m)
