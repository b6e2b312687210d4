-- The code of statements that are proved is no longer than 40 words for each of its nodes: expressions, items, pairs, statements.
use Rattle.std.proofs.Common.{◌≡◌, ℕ, ◌+◌, ◌*◌, ◌<◌, ◌≤◌, List, [], ◌∷◌, ◌++◌, length, Some, None, Bool, true, false, refl, sym, ap, ◌∙◌, subst, arith}
use Rattle.std.specs.Prelude.{ℤ, pos, cond, slice_get, ◌&&◌}
use Rattle.rv_meaning.specs.declared.instr.Register.{Register}
use Rattle.rv_meaning.specs.declared.instr.BranchTest.TheVariants as Test
use Rattle.pli_language.specs.declared.condition.Condition.TheVariants as C
use Rattle.pli_language.specs.Tree as T
use Rattle.pli_typing.specs.TypedTree as Y
use Rattle.pli_meaning.specs.Codes.{fixed_overflow_code}
use Rattle.pli_meaning.specs.DeclaredShapes.{variables_of_block}
use Rattle.pli_coding.specs.Registers.{frame_register, a0, a1, u1}
use Rattle.pli_coding.specs.Assembly.{JumpAhead, Code, size_of}
use Rattle.pli_coding.specs.Instructions.{is_immediate, small, constant, number, plus, load_word, store_word, skip_where, choice, service}
use Rattle.pli_coding.specs.Frames.{words_place}
use Rattle.pli_coding.specs.Environments.{Environment, Taken, is_register_left, with_number, save, fetch}
use Rattle.pli_coding.specs.Arithmetic.{raised, overflow_raised, calculated_code, signed_code, fitted_code}
use Rattle.pli_coding.specs.Expressions.{number_code}
use Rattle.pli_coding.specs.Storing.{word_stored}
use Rattle.pli_coding.specs.Streams.{has_fixed, has_text, controls_carried_out, by_item, number_written, text_written, number_put, as_text, item_put, items_put, edit_begun, edit_ended, put_pair, put_pairs}
use Rattle.pli_coding.specs.Allocating.{act_code}
use Rattle.pli_coding.specs.Statements.{stmt_code, stmts_code, marked}
use Rattle.pli_headline.specs.ProvedSoFar.{main_names}
use Rattle.pli_headline.specs.FirstForms.{plain_number, AreNumbers, IsFirstReference, IsFirstOperator, IsFirstNumber, IsFirstItem, AreFirstItems, AreFirstPairs, IsFirstStatement, AreFirstStatements}
use Rattle.run_steps.proofs.Linking.{size_append}
use Rattle.pli_headline.proofs.FirstForms.{number_at}
use Rattle.pli_headline.proofs.Variables.{outermost, data_place, number_loaded, scalar_stored_is}

-- ---- nodes

abbrev pub number_nodes : Y.Number → ℕ
number_nodes (Y.Signed sign x) = 1 + number_nodes x
number_nodes (Y.Calculated operator left right) = 1 + (number_nodes left + number_nodes right)
number_nodes _ = 1

abbrev pub item_nodes : Y.PutItem → ℕ
item_nodes (Y.PutValue (Y.NumberValue precision x)) = 1 + number_nodes x
item_nodes _ = 1

abbrev pub items_nodes : List Y.PutItem → ℕ
items_nodes [] = 0
items_nodes (i ∷ is) = item_nodes i + items_nodes is

abbrev pub pairs_nodes : List Y.PutPair → ℕ
pairs_nodes [] = 0
pairs_nodes (p ∷ ps) = 1 + (items_nodes p.items + pairs_nodes ps)

abbrev pub stmt_nodes : Y.Stmt → ℕ
stmt_nodes (Y.Assign target (Y.StoredNumber precision x) line) = 1 + number_nodes x
stmt_nodes (Y.Put skip pairs line) = 1 + pairs_nodes pairs
stmt_nodes _ = 1

abbrev pub stmts_nodes : Y.Stmts → ℕ
stmts_nodes (Y.EndOfList labels) = 0
stmts_nodes (Y.StmtThen labels first rest) = stmt_nodes first + stmts_nodes rest

-- ---- sequences

most_of : (q : Bool) (x y : Code) (n : ℕ) → size_of x ≤ n → size_of y ≤ n → size_of (cond q x y) ≤ n
most_of true x y n h i = h
most_of false x y n h i = i

pub constant_most : (r : Register) (z : ℤ) → size_of (constant r z) ≤ 2
constant_most r z = most_of (is_immediate z) _ _ 2 (omega arith) (omega arith)

pub load_most : (rd rs : Register) (z : ℤ) → size_of (load_word rd rs z) ≤ 3
load_most rd rs z = most_of (is_immediate z) _ _ 3 (omega arith) (omega arith)

pub store_most : (rs value : Register) (z : ℤ) → size_of (store_word rs value z) ≤ 3
store_most rs value z = most_of (is_immediate z) _ _ 3 (omega arith) (omega arith)

pub plus_most : (rd rs : Register) (z : ℤ) → size_of (plus rd rs z) ≤ 3
plus_most rd rs z = most_of (is_immediate z) _ _ 3 (omega arith) (omega arith)

saved_most : (r : Register) (t : Taken) → size_of (save r t) ≤ 3
saved_most r t = most_of (is_register_left t) _ _ 3 (omega arith) (store_most frame_register r (words_place t.words 1))

fetched_most : (r : Register) (t : Taken) → size_of (fetch r t) ≤ 3
fetched_most r t = most_of (is_register_left t) _ _ 3 (omega arith) (load_most r frame_register (words_place t.words 1))

overflow_most : (t : Taken) → size_of (overflow_raised t) ≤ 10
overflow_most t =
    let raise = raised C.FixedOverflow fixed_overflow_code in
    let a = saved_most a0 t in
    let b = fetched_most a0 t in
    let s1 = size_append (save a0 t) (raise ++ fetch a0 t) in
    let s2 = size_append raise (fetch a0 t) in
    omega (arith, a, b, s1, s2)

pub act_most : (line : ℕ) → size_of (act_code line) ≤ 5
act_most line =
    let n = constant_most a0 (pos line) in
    let s = size_append (number a0 line) (small a1 0 ∷ service 1) in
    omega (arith, n, s)

-- ---- expressions

operator_most : (t : Taken) (operator : Y.ArithmeticOperator) → IsFirstOperator operator → size_of (calculated_code t operator) ≤ 15
operator_most t Y.Sum is = let o = overflow_most t in omega (arith, o)
operator_most t Y.Difference is = let o = overflow_most t in omega (arith, o)
operator_most t _ is = absurd is

sign_most : (t : Taken) (sign : Y.Sign) → size_of (signed_code t sign) ≤ 13
sign_most t Y.Positive = omega arith
sign_most t Y.Negative = let o = overflow_most t in omega (arith, o)

-- a program whose block has plain numbers
abbrev pub HasPlain : Environment → (block count : ℕ) → Type 0
HasPlain e block count = AreNumbers (variables_of_block e.program block) × (count ≡ length (variables_of_block e.program block))

pub declared_plain : (e : Environment) (block count index : ℕ) → HasPlain e block count → index < count → slice_get (variables_of_block e.program block) index ≡ Some plain_number
declared_plain e block count index has h =
    number_at (variables_of_block e.program block) index has.0 (subst (λ n. index < n) has.1 h)

reference_most : (e : Environment) (t : Taken) (block count : ℕ) (r : Y.Reference) → HasPlain e block count → IsFirstReference block count r → size_of (number_code (outermost e) t (Y.NumberIn r)) ≤ 3
reference_most e t block count r has is =
    let d = declared_plain e block count is.index has is.declared in
    let n = load_most a0 frame_register (pos (data_place e (main_names e.program block) is.index)) in
    let same : number_code (outermost e) t (Y.NumberIn r) ≡ load_word a0 frame_register (pos (data_place e (main_names e.program block) is.index)) =
    ap (λ q. number_code (outermost e) t (Y.NumberIn q)) is.is ∙ number_loaded (outermost e) t (main_names e.program block) is.index 31 ([], d) in
    subst (λ c. size_of c ≤ 3) (sym same) n

pub number_most : (e : Environment) (t : Taken) (block count : ℕ) (x : Y.Number) → HasPlain e block count → IsFirstNumber block count x → size_of (number_code (outermost e) t x) ≤ 30 * number_nodes x
number_most e t block count (Y.NumberConstant n) has is = let c = constant_most a0 (pos n) in omega (arith, c)
number_most e t block count (Y.NumberIn r) has is = let c = reference_most e t block count r has is in omega (arith, c)
number_most e t block count (Y.Signed sign x) has is =
    let n = number_most e t block count x has is in
    let g = sign_most t sign in
    let s = size_append (number_code (outermost e) t x) (signed_code t sign) in
    omega (arith, n, g, s)
number_most e t block count (Y.Calculated operator left right) has is =
    let a = number_code (outermost e) t left in
    let c = number_code (outermost e) (with_number t) right in
    let last = fetch u1 t ++ calculated_code t operator in
    let nl = number_most e t block count left has is.1.0 in
    let nr = number_most e (with_number t) block count right has is.1.1 in
    let saved = saved_most a0 t in
    let fetched = fetched_most u1 t in
    let o = operator_most t operator is.0 in
    let s1 = size_append a (save a0 t ++ (c ++ last)) in
    let s2 = size_append (save a0 t) (c ++ last) in
    let s3 = size_append c last in
    let s4 = size_append (fetch u1 t) (calculated_code t operator) in
    omega (arith, nl, nr, saved, fetched, o, s1, s2, s3, s4)
number_most e t block count _ has is = absurd is

-- ---- PUT

-- by what items the formats have
chosen_most : (f w : Bool) (fixed text : Code) → size_of fixed ≤ 12 → size_of text ≤ 8 → size_of (cond (f && w) (small u1 1 ∷ choice Test.Equal a0 u1 fixed text) (cond f fixed text)) ≤ 24
chosen_most true true fixed text h i =
    let s1 = size_append text (JumpAhead (size_of fixed) ∷ []) in
    let s2 = size_append (skip_where Test.Equal a0 u1 (text ++ JumpAhead (size_of fixed) ∷ [])) fixed in
    omega (arith, h, i, s1, s2)
chosen_most true false fixed text h i = omega (arith, h)
chosen_most false true fixed text h i = omega (arith, i)
chosen_most false false fixed text h i = omega (arith, i)

put_most : (t : Taken) (formats : T.Formats) (precision : ℕ) → size_of (number_put t formats (as_text precision)) ≤ 29
put_most t formats precision =
    let fixed = fetch a0 t ++ number_written in
    let text = fetch a0 t ++ (as_text precision ++ text_written) in
    let f = fetched_most a0 t in
    let s1 = size_append (fetch a0 t) number_written in
    let s2 = size_append (fetch a0 t) (as_text precision ++ text_written) in
    let c = chosen_most (has_fixed formats) (has_text formats) fixed text (omega (arith, f, s1)) (omega (arith, f, s2)) in
    let s3 = size_append controls_carried_out (by_item formats fixed text) in
    omega (arith, c, s3)

item_most : (e : Environment) (t : Taken) (block count : ℕ) (formats : T.Formats) (i : Y.PutItem) → HasPlain e block count → IsFirstItem block count i → size_of (item_put (outermost e) t formats i) ≤ 40 * item_nodes i
item_most e t block count formats (Y.PutValue (Y.NumberValue precision x)) has is =
    let code = number_code (outermost e) t x in
    let put = number_put t formats (as_text precision) in
    let n = number_most e t block count x has is in
    let saved = saved_most a0 t in
    let p = put_most t formats precision in
    let s1 = size_append code (save a0 t ++ put) in
    let s2 = size_append (save a0 t) put in
    omega (arith, n, saved, p, s1, s2)
item_most e t block count formats _ has is = absurd is

items_most : (e : Environment) (t : Taken) (block count : ℕ) (formats : T.Formats) (is : List Y.PutItem) → HasPlain e block count → AreFirstItems block count is → size_of (items_put (outermost e) t formats is) ≤ 40 * items_nodes is
items_most e t block count formats [] has are = omega arith
items_most e t block count formats (i ∷ is) has are =
    let a = item_most e t block count formats i has are.0 in
    let b = items_most e t block count formats is has are.1 in
    let s = size_append (item_put (outermost e) t formats i) (items_put (outermost e) t formats is) in
    omega (arith, a, b, s)

pairs_most : (e : Environment) (t : Taken) (block count : ℕ) (ps : List Y.PutPair) → HasPlain e block count → AreFirstPairs block count ps → size_of (put_pairs (outermost e) t ps) ≤ 40 * pairs_nodes ps
pairs_most e t block count [] has are = omega arith
pairs_most e t block count (p ∷ ps) has are =
    let items = items_put (outermost e) t p.formats p.items in
    let a = items_most e t block count p.formats p.items has are.0 in
    let b = pairs_most e t block count ps has are.1.1 in
    let s1 = size_append (put_pair (outermost e) t p) (put_pairs (outermost e) t ps) in
    let s2 = size_append (edit_begun p.formats 1) (items ++ edit_ended) in
    let s3 = size_append items edit_ended in
    omega (arith, a, b, s1, s2, s3)

-- ---- statements

fitted_most : (t : Taken) (precision : ℕ) → precision ≡ 31 → size_of (fitted_code t precision) ≤ 0
fitted_most t precision e = subst (λ p. size_of (fitted_code t p) ≤ 0) (sym e) (omega arith)

target_most : (e : Environment) (t : Taken) (block count : ℕ) (r : Y.Reference) → HasPlain e block count → IsFirstReference block count r → size_of (word_stored (outermost e) t r) ≤ 9
target_most e t block count r has is =
    let d = declared_plain e block count is.index has is.declared in
    let place : ℤ = pos (data_place e (main_names e.program block) is.index) in
    let n = store_most frame_register a0 place in
    let same : word_stored (outermost e) t r ≡ store_word frame_register a0 place =
    ap (λ q. word_stored (outermost e) t q) is.is
    ∙ scalar_stored_is (outermost e) t (main_names e.program block) is.index (Y.FixedLeaf 31) tt ([], d) in
    subst (λ c. size_of c ≤ 9) (sym same) (omega (arith, n))

pub statement_most : (e : Environment) (t : Taken) (block count : ℕ) (x : Y.Stmt) → HasPlain e block count → IsFirstStatement block count x → size_of (stmt_code (outermost e) t x) ≤ 40 * stmt_nodes x
statement_most e t block count (Y.Null line) has is = let a = act_most line in omega (arith, a)
statement_most e t block count (Y.Assign target (Y.StoredNumber precision x) line) has is =
    let code = number_code (outermost e) t x in
    let fitted = fitted_code t precision in
    let into = word_stored (outermost e) t target in
    let a = act_most line in
    let n = number_most e t block count x has is.1.1.0 in
    let f = fitted_most t precision is.0 in
    let i = target_most e t block count target has is.1.0 in
    let s1 = size_append (act_code line) ((code ++ fitted) ++ into) in
    let s2 = size_append (code ++ fitted) into in
    let s3 = size_append code fitted in
    omega (arith, a, n, f, i, s1, s2, s3)
statement_most e t block count (Y.Put None pairs line) has is =
    let a = act_most line in
    let n = pairs_most e t block count pairs has is.0 in
    let s = size_append (act_code line) (put_pairs (outermost e) t pairs) in
    omega (arith, a, n, s)
statement_most e t block count _ has is = absurd is

-- labels take no words
marked_none : (block : ℕ) (labels : List (List ℕ)) → size_of (marked block labels) ≡ 0
marked_none block [] = refl
marked_none block (l ∷ ls) = let e = marked_none block ls in omega (arith, e)

pub statements_most : (e : Environment) (t : Taken) (block count : ℕ) (body : Y.Stmts) → HasPlain e block count → AreFirstStatements block count body → size_of (stmts_code (outermost e) t body) ≤ 40 * stmts_nodes body
statements_most e t block count (Y.EndOfList labels) has are = let m = marked_none e.block labels in omega (arith, m)
statements_most e t block count (Y.StmtThen labels first rest) has are =
    let m = marked_none e.block labels in
    let a = statement_most e t block count first has are.0 in
    let b = statements_most e t block count rest has are.1 in
    let s1 = size_append (marked e.block labels) (stmt_code (outermost e) t first ++ stmts_code (outermost e) t rest) in
    let s2 = size_append (stmt_code (outermost e) t first) (stmts_code (outermost e) t rest) in
    omega (arith, m, a, b, s1, s2)
