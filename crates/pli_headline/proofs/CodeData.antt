-- The code of a program that is proved names the format lists of its PUT statements and no other data.
use Rattle.std.proofs.Common.{◌≡◌, ℕ, suc, ◌+◌, List, [], ◌∷◌, ◌++◌, map, length, None, Bool, true, false, refl, sym}
use Rattle.std.proofs.Common.{ap, ◌∙◌, subst, append_assoc, append-nil, Some, zero}
use Rattle.std.specs.Prelude.{ℤ, min, pos, neg_ℤ, cond, ◌&&◌}
use Rattle.rv_meaning.specs.declared.instr.Register.{Register}
use Rattle.rv_meaning.specs.declared.instr.BranchTest.TheVariants as Test
use Rattle.rv_meaning.specs.declared.instr.Instr.TheVariants as I
use Rattle.pli_language.specs.declared.condition.Condition.TheVariants as C
use Rattle.pli_language.specs.Tree as T
use Rattle.pli_typing.specs.TypedTree as Y
use Rattle.pli_meaning.specs.Codes.{fixed_overflow_code}
use Rattle.pli_meaning.specs.DeclaredShapes.{variables_of_block}
use Rattle.pli_coding.specs.Registers.{zero_register, return_register, frame_register, stack_register, a0, a1, a2, a3}
use Rattle.pli_coding.specs.Registers.{a4, u0, u1, u5, held}
use Rattle.pli_coding.specs.Assembly.{Datum, Plain, BaseIn, OffsetOf, OffsetAhead, JumpTo, CallTo, JumpAhead, JumpBack, Mark, Code, size_of}
use Rattle.pli_coding.specs.Instructions.{is_immediate, move, small, constant, number, plus, load_word, store_word, choice, service}
use Rattle.pli_coding.specs.Frames.{frame_below, own_offset, temporary_bytes, name_bytes, frame_bytes, last_place}
use Rattle.pli_coding.specs.Frames.{automatic_place, words_place, saved_register}
use Rattle.pli_coding.specs.StaticData.{data_of_symbol, data_named}
use Rattle.pli_coding.specs.StaticForms.{formats_datum}
use Rattle.pli_coding.specs.Environments.{Environment, Taken, none_taken, is_register_left, with_number, save, fetch}
use Rattle.pli_coding.specs.Arithmetic.{raised, overflow_raised, calculated_code, signed_code, fitted_code}
use Rattle.pli_coding.specs.Locating.{own_place, table_number}
use Rattle.pli_coding.specs.Expressions.{number_code}
use Rattle.pli_coding.specs.Storing.{word_stored}
use Rattle.pli_coding.specs.Streams.{has_fixed, has_text, number_written, text_written, number_put, as_text, item_put, items_put, edit_ended, put_pair, put_pairs}
use Rattle.pli_coding.specs.Extents.{initial_code}
use Rattle.pli_coding.specs.Allocating.{act_code}
use Rattle.pli_coding.specs.Entries.{frame_begun, block_entered, constant_made, variables_made, variables_code}
use Rattle.pli_coding.specs.Entries.{all_saved, all_restored, registers_saved, registers_restored}
use Rattle.pli_coding.specs.Statements.{stmt_code, stmts_code, block_words, marked, block_held}
use Rattle.pli_coding.specs.Procedures.{procedure_begun, procedure_ended, procedure_in}
use Rattle.pli_coding.specs.Images.{raise_code, code_of}
use Rattle.pli_headline.specs.ProvedSoFar.{main_names}
use Rattle.pli_headline.specs.Headline.{parts}
use Rattle.pli_headline.specs.FirstForms.{plain_number, AreNumbers, AllNumbers, IsFirstReference, IsFirstOperator, IsFirstNumber, IsFirstItem, AreFirstItems, AreFirstPairs, IsFirstStatement, AreFirstStatements}
use Rattle.pli_headline.proofs.FirstFrame.{start_of}
use Rattle.pli_headline.proofs.Marks.{code_is, only_main}
use Rattle.pli_headline.proofs.MainProcedure.{IsAlone, main_head, main_environment}
use Rattle.pli_headline.proofs.FirstForms.{all_numbers_plain, block_numbers}
use Rattle.pli_headline.proofs.Variables.{outermost, data_place, number_loaded, scalar_stored_is}
use Rattle.pli_headline.proofs.CodeSizes.{HasPlain, declared_plain}
use Rattle.pli_headline.proofs.ProgramSizes.{frame_filled}

-- ---- what statements name

abbrev pub pairs_data : List Y.PutPair → List Datum
pairs_data ps = map (λ p. formats_datum p.formats) ps

abbrev pub stmt_data : Y.Stmt → List Datum
stmt_data (Y.Put skip pairs line) = pairs_data pairs
stmt_data _ = []

abbrev pub stmts_data : Y.Stmts → List Datum
stmts_data (Y.EndOfList labels) = []
stmts_data (Y.StmtThen labels first rest) = stmt_data first ++ stmts_data rest

-- ---- sequences

named_append : (xs ys : Code) → data_named (xs ++ ys) ≡ data_named xs ++ data_named ys
named_append [] ys = refl
named_append (Plain i ∷ xs) ys = named_append xs ys
named_append (BaseIn r ∷ xs) ys = named_append xs ys
named_append (OffsetOf r s ∷ xs) ys =
    ap (λ ds. data_of_symbol s ++ ds) (named_append xs ys) ∙ sym (append_assoc (data_of_symbol s) (data_named xs) (data_named ys))
named_append (OffsetAhead r words ∷ xs) ys = named_append xs ys
named_append (JumpTo s ∷ xs) ys = named_append xs ys
named_append (CallTo s ∷ xs) ys = named_append xs ys
named_append (JumpAhead words ∷ xs) ys = named_append xs ys
named_append (JumpBack words ∷ xs) ys = named_append xs ys
named_append (Mark s ∷ xs) ys = named_append xs ys

-- code that names this data
abbrev Names : Code → List Datum → Type 0
Names code ds = data_named code ≡ ds

then_names : (xs ys : Code) (ds es : List Datum) → Names xs ds → Names ys es → Names (xs ++ ys) (ds ++ es)
then_names xs ys ds es h k = named_append xs ys ∙ ap (λ u. u ++ data_named ys) h ∙ ap (λ u. ds ++ u) k

-- code that names nothing, before other code
behind : (xs ys : Code) (ds : List Datum) → Names xs [] → Names ys ds → Names (xs ++ ys) ds
behind xs ys ds h k = then_names xs ys [] ds h k

either : (q : Bool) (x y : Code) → Names x [] → Names y [] → Names (cond q x y) []
either true x y h k = h
either false x y h k = k

constant_none : (r : Register) (z : ℤ) → Names (constant r z) []
constant_none r z = either (is_immediate z) _ _ refl refl

load_none : (rd rs : Register) (z : ℤ) → Names (load_word rd rs z) []
load_none rd rs z = either (is_immediate z) _ _ refl refl

store_none : (rs value : Register) (z : ℤ) → Names (store_word rs value z) []
store_none rs value z = either (is_immediate z) _ _ refl refl

plus_none : (rd rs : Register) (z : ℤ) → Names (plus rd rs z) []
plus_none rd rs z = either (is_immediate z) _ _ refl refl

saved_none : (r : Register) (t : Taken) → Names (save r t) []
saved_none r t = either (is_register_left t) _ _ refl (store_none frame_register r (words_place t.words 1))

fetched_none : (r : Register) (t : Taken) → Names (fetch r t) []
fetched_none r t = either (is_register_left t) _ _ refl (load_none r frame_register (words_place t.words 1))

overflow_none : (t : Taken) → Names (overflow_raised t) []
overflow_none t = behind (save a0 t) (raised C.FixedOverflow fixed_overflow_code ++ fetch a0 t) [] (saved_none a0 t) (fetched_none a0 t)

act_none : (line : ℕ) → Names (act_code line) []
act_none line = behind (number a0 line) (small a1 0 ∷ service 1) [] (constant_none a0 (pos line)) refl

-- ---- expressions

operator_none : (t : Taken) (operator : Y.ArithmeticOperator) → IsFirstOperator operator → Names (calculated_code t operator) []
operator_none t Y.Sum is = overflow_none t
operator_none t Y.Difference is = overflow_none t
operator_none t _ is = absurd is

sign_none : (t : Taken) (sign : Y.Sign) → Names (signed_code t sign) []
sign_none t Y.Positive = refl
sign_none t Y.Negative = overflow_none t

reference_none : (e : Environment) (t : Taken) (block count : ℕ) (r : Y.Reference) → HasPlain e block count → IsFirstReference block count r → Names (number_code (outermost e) t (Y.NumberIn r)) []
reference_none e t block count r has is =
    let d = declared_plain e block count is.index has is.declared in
    let same : number_code (outermost e) t (Y.NumberIn r) ≡ load_word a0 frame_register (pos (data_place e (main_names e.program block) is.index)) =
    ap (λ q. number_code (outermost e) t (Y.NumberIn q)) is.is ∙ number_loaded (outermost e) t (main_names e.program block) is.index 31 ([], d) in
    ap data_named same ∙ load_none a0 frame_register (pos (data_place e (main_names e.program block) is.index))

number_none : (e : Environment) (t : Taken) (block count : ℕ) (x : Y.Number) → HasPlain e block count → IsFirstNumber block count x → Names (number_code (outermost e) t x) []
number_none e t block count (Y.NumberConstant n) has is = constant_none a0 (pos n)
number_none e t block count (Y.NumberIn r) has is = reference_none e t block count r has is
number_none e t block count (Y.Signed sign x) has is =
    behind (number_code (outermost e) t x) (signed_code t sign) [] (number_none e t block count x has is) (sign_none t sign)
number_none e t block count (Y.Calculated operator left right) has is =
    let a = number_code (outermost e) t left in
    let c = number_code (outermost e) (with_number t) right in
    let last = fetch u1 t ++ calculated_code t operator in
    behind a (save a0 t ++ (c ++ last)) [] (number_none e t block count left has is.1.0)
    (behind (save a0 t) (c ++ last) [] (saved_none a0 t)
    (behind c last [] (number_none e (with_number t) block count right has is.1.1)
    (behind (fetch u1 t) (calculated_code t operator) [] (fetched_none u1 t) (operator_none t operator is.0))))
number_none e t block count _ has is = absurd is

-- ---- PUT

chosen_none : (f w : Bool) (fixed text : Code) → Names fixed [] → Names text [] → Names (cond (f && w) (small u1 1 ∷ choice Test.Equal a0 u1 fixed text) (cond f fixed text)) []
chosen_none true true fixed text h k =
    behind (text ++ JumpAhead (size_of fixed) ∷ []) fixed [] (behind text (JumpAhead (size_of fixed) ∷ []) [] k refl) h
chosen_none true false fixed text h k = h
chosen_none false true fixed text h k = k
chosen_none false false fixed text h k = k

put_none : (t : Taken) (formats : T.Formats) (precision : ℕ) → Names (number_put t formats (as_text precision)) []
put_none t formats precision =
    let fixed = fetch a0 t ++ number_written in
    let text = fetch a0 t ++ (as_text precision ++ text_written) in
    chosen_none (has_fixed formats) (has_text formats) fixed text (behind (fetch a0 t) number_written [] (fetched_none a0 t) refl) (behind (fetch a0 t) (as_text precision ++ text_written) [] (fetched_none a0 t) refl)

item_none : (e : Environment) (t : Taken) (block count : ℕ) (formats : T.Formats) (i : Y.PutItem) → HasPlain e block count → IsFirstItem block count i → Names (item_put (outermost e) t formats i) []
item_none e t block count formats (Y.PutValue (Y.NumberValue precision x)) has is =
    let put = number_put t formats (as_text precision) in
    behind (number_code (outermost e) t x) (save a0 t ++ put) [] (number_none e t block count x has is)
    (behind (save a0 t) put [] (saved_none a0 t) (put_none t formats precision))
item_none e t block count formats _ has is = absurd is

items_none : (e : Environment) (t : Taken) (block count : ℕ) (formats : T.Formats) (is : List Y.PutItem) → HasPlain e block count → AreFirstItems block count is → Names (items_put (outermost e) t formats is) []
items_none e t block count formats [] has are = refl
items_none e t block count formats (i ∷ is) has are =
    behind (item_put (outermost e) t formats i) (items_put (outermost e) t formats is) [] (item_none e t block count formats i has are.0) (items_none e t block count formats is has are.1)

pairs_name : (e : Environment) (t : Taken) (block count : ℕ) (ps : List Y.PutPair) → HasPlain e block count → AreFirstPairs block count ps → Names (put_pairs (outermost e) t ps) (pairs_data ps)
pairs_name e t block count [] has are = refl
pairs_name e t block count (p ∷ ps) has are =
    let items = items_put (outermost e) t p.formats p.items in
    let first : Names (put_pair (outermost e) t p) (formats_datum p.formats ∷ []) =
    ap (λ ds. formats_datum p.formats ∷ ds) (behind items edit_ended [] (items_none e t block count p.formats p.items has are.0) refl) in
    then_names (put_pair (outermost e) t p) (put_pairs (outermost e) t ps) (formats_datum p.formats ∷ []) (pairs_data ps) first (pairs_name e t block count ps has are.1.1)

-- ---- statements

fitted_none : (t : Taken) (precision : ℕ) → precision ≡ 31 → Names (fitted_code t precision) []
fitted_none t precision e = subst (λ p. Names (fitted_code t p) []) (sym e) refl

target_none : (e : Environment) (t : Taken) (block count : ℕ) (r : Y.Reference) → HasPlain e block count → IsFirstReference block count r → Names (word_stored (outermost e) t r) []
target_none e t block count r has is =
    let d = declared_plain e block count is.index has is.declared in
    let place : ℤ = pos (data_place e (main_names e.program block) is.index) in
    let into = store_word frame_register a0 place in
    let same : word_stored (outermost e) t r ≡ into =
    ap (λ q. word_stored (outermost e) t q) is.is
    ∙ scalar_stored_is (outermost e) t (main_names e.program block) is.index (Y.FixedLeaf 31) tt ([], d) in
    ap data_named same ∙ store_none frame_register a0 place

statement_names : (e : Environment) (t : Taken) (block count : ℕ) (x : Y.Stmt) → HasPlain e block count → IsFirstStatement block count x → Names (stmt_code (outermost e) t x) (stmt_data x)
statement_names e t block count (Y.Null line) has is = act_none line
statement_names e t block count (Y.Assign target (Y.StoredNumber precision x) line) has is =
    let code = number_code (outermost e) t x in
    let fitted = fitted_code t precision in
    let into = word_stored (outermost e) t target in
    behind (act_code line) ((code ++ fitted) ++ into) [] (act_none line)
    (behind (code ++ fitted) into [] (behind code fitted [] (number_none e t block count x has is.1.1.0) (fitted_none t precision is.0)) (target_none e t block count target has is.1.0))
statement_names e t block count (Y.Put None pairs line) has is =
    behind (act_code line) (put_pairs (outermost e) t pairs) (pairs_data pairs) (act_none line) (pairs_name e t block count pairs has is.0)
statement_names e t block count _ has is = absurd is

marked_none : (block : ℕ) (labels : List (List ℕ)) → Names (marked block labels) []
marked_none block [] = refl
marked_none block (l ∷ ls) = marked_none block ls

statements_name : (e : Environment) (t : Taken) (block count : ℕ) (body : Y.Stmts) → HasPlain e block count → AreFirstStatements block count body → Names (stmts_code (outermost e) t body) (stmts_data body)
statements_name e t block count (Y.EndOfList labels) has are = marked_none e.block labels
statements_name e t block count (Y.StmtThen labels first rest) has are =
    behind (marked e.block labels) (stmt_code (outermost e) t first ++ stmts_code (outermost e) t rest) (stmt_data first ++ stmts_data rest) (marked_none e.block labels)
    (then_names (stmt_code (outermost e) t first) (stmts_code (outermost e) t rest) (stmt_data first) (stmts_data rest) (statement_names e t block count first has are.0) (statements_name e t block count rest has are.1))

-- ---- the procedure

place_none : (e : Environment) (r : Register) (z : ℤ) → Names (own_place (outermost e) r z) []
place_none e r z =
    behind (load_word r frame_register own_offset) (plus r r z) [] (load_none r frame_register own_offset) (plus_none r r z)

made_none : (e : Environment) (place : ℕ) → Names (constant_made (outermost e) place plain_number) []
made_none e place =
    let name = own_place (outermost e) a0 (pos place) in
    let n = number a1 (table_number e plain_number) in
    let data_at = own_place (outermost e) a3 (pos (place + name_bytes)) in
    let z : ℤ = pos (min last_place (place + frame_bytes e.parts plain_number)) in
    let last = small a4 0 ∷ (service 7 ++ plus stack_register frame_register z) in
    let initial = initial_code a2 plain_number in
    behind name (n ++ (initial ++ (data_at ++ last))) [] (place_none e a0 (pos place))
    (behind n (initial ++ (data_at ++ last)) [] (constant_none a1 (pos (table_number e plain_number)))
    (behind data_at last [] (place_none e a3 (pos (place + name_bytes))) (plus_none stack_register frame_register z)))

variables_none : (e : Environment) (line index : ℕ) (ds : List Y.DeclaredVariable) → AreNumbers ds → Names (variables_made (outermost e) line index ds) []
variables_none e line index [] are = refl
variables_none e line index (d ∷ ds) are =
    let place = automatic_place e.parts e.program e.block 0 index in
    subst (λ u. Names (variables_made (outermost e) line index (u ∷ ds)) []) (sym are.0)
    (behind (constant_made (outermost e) place plain_number) (variables_made (outermost e) line (suc index) ds) [] (made_none e place) (variables_none e line (suc index) ds are.1))

entered_none : (line : ℕ) → Names (block_entered 0 line) []
entered_none line = behind (number a2 line) (service 4) [] (constant_none a2 (pos line)) refl

registers_saved_none : (n left : ℕ) → Names (registers_saved u0 n left) []
registers_saved_none n zero = refl
registers_saved_none n (suc left) =
    behind (store_word u0 (held n) (saved_register n)) (registers_saved u0 (suc n) left) []
    (store_none u0 (held n) (saved_register n)) (registers_saved_none (suc n) left)

registers_restored_none : (n left : ℕ) → Names (registers_restored n left) []
registers_restored_none n zero = refl
registers_restored_none n (suc left) =
    behind (load_word (held n) frame_register (saved_register n)) (registers_restored (suc n) left) []
    (load_none (held n) frame_register (saved_register n)) (registers_restored_none (suc n) left)

ended_none : (e : Environment) (head : Y.BlockHead) (words count : ℕ)
    → Names (procedure_ended e head words count None) []
ended_none e head words count =
    let z : ℤ = neg_ℤ (pos (temporary_bytes words)) in
    let up = plus stack_register frame_register z in
    let below = load_word frame_register frame_register frame_below in
    let last = Plain (I.JumpRegister zero_register return_register (pos 0)) ∷ [] in
    behind (all_restored count) ((up ++ below) ++ last) [] (registers_restored_none 0 count)
    (behind (up ++ below) last [] (behind up below [] (plus_none stack_register frame_register z) refl) refl)

begun_none : (words count : ℕ) → Names (frame_begun words 0 0 (Some count)) []
begun_none words count =
    behind (plus u0 stack_register (pos (temporary_bytes words))) (all_saved u0 count ++ frame_filled) []
    (plus_none u0 stack_register (pos (temporary_bytes words)))
    (behind (all_saved u0 count) frame_filled [] (registers_saved_none 0 count) refl)

prologue_none : (e : Environment) (block line words count : ℕ) → AreNumbers (variables_of_block e.program e.block)
    → Names (procedure_begun (outermost e) (main_head block line) words count []) []
prologue_none e block line words count plain =
    let made = variables_code (outermost e) line in
    let act = act_code line in
    let entered = block_entered 0 line in
    behind (frame_begun words 0 0 (Some count)) (move u5 a1 ∷ move a3 a2 ∷ (entered ++ (made ++ act))) []
    (begun_none words count)
    (behind entered (made ++ act) [] (entered_none line)
    (behind made act [] (variables_none e line 0 (variables_of_block e.program e.block) plain) (act_none line)))

-- ---- the whole

pub program_names : (program : Y.Program) (block line : ℕ) (body : Y.Stmts) → AllNumbers program.variables → (alone : IsAlone program block line body) → alone.others ≡ [] → AreFirstStatements block (length (variables_of_block program block)) body → data_named (code_of parts program) ≡ stmts_data body
program_names program block line body plain alone none are =
    let e = main_environment program block in
    let words = block_words e block body in
    let count = block_held e block body in
    let begun = procedure_begun e (main_head block line) words count [] in
    let code = stmts_code e none_taken body in
    let ended = procedure_ended e (main_head block line) words count None in
    let inside : Names (begun ++ (code ++ ended)) (stmts_data body) =
    behind begun (code ++ ended) (stmts_data body)
    (prologue_none e block line words count (block_numbers program.variables block plain))
    (then_names code ended (stmts_data body) []
    (statements_name e none_taken block (length (variables_of_block program block)) body
    (block_numbers program.variables block plain, refl) are) (ended_none e (main_head block line) words count)
    ∙ append-nil (stmts_data body)) in
    ap data_named (code_is program block line body (all_numbers_plain program.variables plain) alone ∙ only_main program block line body alone.others none)
    ∙ behind (start_of block) (raise_code ++ procedure_in e (main_head block line) body [] None) (stmts_data body) refl
    (behind raise_code (procedure_in e (main_head block line) body [] None) (stmts_data body) refl inside)
