-- The code of a statement has no more words than its nodes take.
use Rattle.std.proofs.Common.{ℕ, suc, ◌+◌, ◌*◌, ◌≤◌, ◌==◌, List, [], ◌∷◌, ◌++◌, Bool, true, false, arith, ℤ, pos}
use Rattle.std.proofs.Common.{Option, Some, None, if◌then◌else◌}
use Rattle.std.specs.Prelude.{int_lt}
use Rattle.pli_language.specs.declared.condition.Condition.{Condition}
use Rattle.pli_language.specs.declared.condition.Condition.TheVariants as C
use Rattle.pli_typing.specs.TypedTree as Y
use Rattle.pli_meaning.specs.DeclaredShapes.{variables_of_block}
use Rattle.pli_meaning.specs.Numbers.{operator_precision}
use Rattle.rv_meaning.specs.declared.instr.Instr.TheVariants as I
use Rattle.pli_coding.specs.Registers.{zero_register, stack_register, frame_register, a0, a1, a2, u0, u1, u2, u3}
use Rattle.pli_coding.specs.Assembly.{Code, Plain, BaseIn, JumpAhead, JumpBack, size_of}
use Rattle.pli_coding.specs.Instructions.{small, number, plus, load_word, store_word, service, skip_where, add}
use Rattle.pli_coding.specs.Frames.{display, own_offset, result, frame_end}
use Rattle.pli_coding.specs.Environments.{Environment, Owner, BlockOwner, UnitOwner, Taken, none_taken, block_around}
use Rattle.pli_coding.specs.Arithmetic.{fitted_code, sum_code, constant_added, overflow_raised, order_of_sum}
use Rattle.pli_coding.specs.Locating as L
use Rattle.pli_coding.specs.Expressions as X
use Rattle.pli_coding.specs.Storing as S
use Rattle.pli_coding.specs.Allocating as A
use Rattle.pli_coding.specs.Streams as P
use Rattle.pli_coding.specs.Entries as N
use Rattle.pli_coding.specs.Statements as G
use Rattle.code_sizes.specs.ExpressionSizes.{number_size, bit_size, stored_size}
use Rattle.code_sizes.specs.StoringSizes.{assignment_size}
use Rattle.code_sizes.specs.StreamSizes.{value_size}
use Rattle.code_sizes.specs.StatementSizes.{condition_size, counter_size, limit_size, turns_size, display_size}
use Rattle.code_sizes.specs.StatementSizes.{variables_size, unit_variables_size, stmt_size, stmts_size}
use Rattle.code_sizes.specs.StatementSizes.{AllStatementsSized}
use Rattle.code_sizes.proofs.PieceSizes.{both, one_of, none, number_most, load_most, store_most, plus_most}
use Rattle.code_sizes.proofs.PieceSizes.{copied_most, fitted_most, loaded_most, frame_found_most, overflow_most}
use Rattle.code_sizes.proofs.ExpressionSizes.{pushed_most, length_most, number_sized, text_sized, bit_sized}
use Rattle.code_sizes.proofs.ExpressionSizes.{reference_sized, call_sized, stored_sized}
use Rattle.code_sizes.proofs.StoringSizes.{word_most, top_most, act_most, assignment_most, elements_most}
use Rattle.code_sizes.proofs.StoringSizes.{aggregate_most, areas_most, allocations_most, freeings_most}
use Rattle.code_sizes.proofs.StreamSizes.{puts_sized, gets_sized}
use Rattle.code_sizes.proofs.EntrySizes.{begun_most, ended_most, entered_most, variables_most}
use Rattle.code_sizes.proofs.EntrySizes.{few_held, registers_restored_most}

-- ---- an act first

acts_most : (line : ℕ) (code : Code) (n : ℕ) → size_of code ≤ n → size_of (A.act_code line ++ code) ≤ n + 5
acts_most line code n h = let all = both (A.act_code line) code (act_most line) h in omega (arith, all)

met_most : (code : Code) (n : ℕ) → size_of code ≤ n → size_of (G.if_met code) ≤ 3 + n
met_most code n h = omega (arith, h)

-- ---- DO

start_most : (e : Environment) (t : Taken) (v : Y.Value) → size_of (G.start_code e t v) ≤ value_size v + 3
start_most e t (Y.NumberValue precision x) =
    both (X.number_code e (G.before_turns t) x) _ (number_sized e (G.before_turns t) x)
    (store_most frame_register a0 (G.start_place t))
start_most e t (Y.TextValue x) = let m = text_sized e (G.before_turns t) x in omega (arith, m)
start_most e t (Y.BitValue x) =
    both (X.bit_code e (G.before_turns t) x) _ (bit_sized e (G.before_turns t) x)
    (store_most frame_register a0 (G.start_place t))
start_most e t (Y.PointerValue p) = none
start_most e t (Y.OffsetValue area o) = none
start_most e t Y.NullValue = none

step_kept_most : (e : Environment) (t : Taken) (x : Y.Number) (z : Option ℤ)
    → size_of (G.step_kept e t x z) ≤ number_size x + 3
step_kept_most e t x None =
    both (X.number_code e (G.before_turns t) x) _ (number_sized e (G.before_turns t) x)
    (store_most frame_register a0 (G.step_place t))
step_kept_most e t x (Some z) = none

loaded_start_most : (t : Taken) → size_of (G.start_loaded t) ≤ 3
loaded_start_most t = load_most a0 frame_register (G.start_place t)

plain : (t : Taken) (precision : ℕ) → size_of (G.start_loaded t ++ fitted_code (G.in_turns t) precision) ≤ 20
plain t precision =
    let all = both (G.start_loaded t) (fitted_code (G.in_turns t) precision) (loaded_start_most t)
    (fitted_most (G.in_turns t) precision) in
    omega (arith, all)

started_number_most : (t : Taken) (precision : ℕ) (v : Y.Value) → size_of (G.number_started t precision v) ≤ 20
started_number_most t precision (Y.TextValue x) = let m = fitted_most (G.in_turns t) precision in omega (arith, m)
started_number_most t precision (Y.NumberValue p x) = plain t precision
started_number_most t precision (Y.BitValue x) = plain t precision
started_number_most t precision (Y.PointerValue p) = plain t precision
started_number_most t precision (Y.OffsetValue area o) = plain t precision
started_number_most t precision Y.NullValue = plain t precision

started_text_most : (t : Taken) (v : Y.Value) → size_of (G.text_started t v) ≤ 20
started_text_most t (Y.NumberValue p x) =
    both (G.start_loaded t) _ (loaded_start_most t) {n = 17} (omega arith)
started_text_most t (Y.TextValue x) = none
started_text_most t (Y.BitValue x) =
    both (G.start_loaded t) _ (loaded_start_most t) {n = 17} (omega arith)
started_text_most t (Y.PointerValue p) = none
started_text_most t (Y.OffsetValue area o) = none
started_text_most t Y.NullValue = none

started_most : (t : Taken) (c : Y.Counter) (v : Y.Value) → size_of (G.started_code t c v) ≤ 20
started_most t (Y.NumberCounter precision r) v = started_number_most t precision v
started_most t (Y.TextCounter r) v = started_text_most t v

-- a limit as it is kept, and as each turn tests by it
abbrev limit_word : Option Y.Number → ℕ
limit_word None = 0
limit_word (Some x) = number_size x + 3

abbrev limit_turn : (counter : ℕ) → Option Y.Number → ℕ
limit_turn counter None = 0
limit_turn counter (Some x) = counter + 30

limit_split : (counter : ℕ) (o : Option Y.Number) → limit_word o + limit_turn counter o ≤ limit_size counter o
limit_split counter None = omega arith
limit_split counter (Some x) = omega arith

limit_code_most : (e : Environment) (t : Taken) (o : Option Y.Number) → size_of (G.limit_code e t o) ≤ limit_word o
limit_code_most e t None = none
limit_code_most e t (Some x) =
    both (X.number_code e (G.before_turns t) x) _ (number_sized e (G.before_turns t) x)
    (store_most frame_register a0 (G.limit_place t))

count_begun_most : (e : Environment) (t : Taken) (c : Y.Counter) (start : Y.Value) (limit : Option Y.Number)
    (step : Y.Number)
    → size_of (G.count_begun e t c start limit step) ≤ value_size start + (limit_word limit + (number_size step + 26))
count_begun_most e t c start limit step =
    let all = both (G.start_code e t start) _ (start_most e t start)
    (both (G.limit_code e t limit) _ (limit_code_most e t limit)
    (both (G.step_code e t step) _ (step_kept_most e t step (G.constant_step step)) (started_most t c start))) in
    omega (arith, all)

counter_into_most : (e : Environment) (t : Taken) (c : Y.Counter)
    → size_of (G.counter_stored e t c) ≤ counter_size c + 12
counter_into_most e t (Y.NumberCounter precision r) =
    let m = word_most e (G.in_turns t) r in omega (arith, m)
counter_into_most e t (Y.TextCounter r) = top_most e (G.in_turns t) r

counter_read_most : (e : Environment) (t : Taken) (c : Y.Counter)
    → size_of (G.counter_read e t c) ≤ counter_size c + 18
counter_read_most e t (Y.NumberCounter precision r) =
    let all = both (X.reference_code e (G.in_turns t) r) _ (reference_sized e (G.in_turns t) r)
    (loaded_most (X.type_in e r) a0 (X.address_in e r)) in
    omega (arith, all)
counter_read_most e t (Y.TextCounter r) =
    both (X.reference_code e (G.in_turns t) r) _ (reference_sized e (G.in_turns t) r)
    (both (L.text_pushed (X.type_in e r) (X.address_in e r)) _ (pushed_most (X.type_in e r) (X.address_in e r)) {n = 6}
    (omega arith))

added_most : (t : Taken) (z : Option ℤ) → size_of (G.step_added t z) ≤ 19
added_most t None =
    let o = overflow_most (G.in_turns t) in
    let all = both (load_word a0 frame_register (G.step_place t)) (sum_code (G.in_turns t))
    (load_most a0 frame_register (G.step_place t)) {n = 15} (omega (arith, o)) in
    omega (arith, all)
added_most t (Some z) =
    let o = overflow_most (G.in_turns t) in
    let all = both (plus a0 u1 z) (skip_where (order_of_sum z) a0 u1 (overflow_raised (G.in_turns t)))
    (plus_most a0 u1 z) {n = 11} (omega (arith, o)) in
    omega (arith, all)

converted_most : (t : Taken) (c : Y.Counter) → size_of (G.counter_converted t c) ≤ 14
converted_most t (Y.NumberCounter precision r) = fitted_most (G.in_turns t) precision
converted_most t (Y.TextCounter r) = omega arith

stepped_most : (e : Environment) (t : Taken) (c : Y.Counter) (z : Option ℤ) (line : ℕ)
    → size_of (G.stepped_code e t c z line) ≤ counter_size c + 56
stepped_most e t c z line =
    let read = both (G.counter_read e t c) (G.step_added t z ++ G.counter_converted t c) (counter_read_most e t c)
    (both (G.step_added t z) (G.counter_converted t c) (added_most t z) (converted_most t c)) in
    let all = both (number a0 line) (small a1 1 ∷ (service 1
    ++ (G.counter_read e t c ++ (G.step_added t z ++ G.counter_converted t c)))) (number_most a0 line)
    {n = counter_size c + 54} (omega (arith, read)) in
    omega (arith, all)

passed_most : (falls : Bool) (behind : ℕ) → size_of (G.passed falls behind) ≤ 3
passed_most true behind = omega arith
passed_most false behind = omega arith

passed_by_most : (t : Taken) (z : Option ℤ) (behind : ℕ) → size_of (G.passed_by t z behind) ≤ 9
passed_by_most t None behind =
    both (load_word u2 frame_register (G.step_place t)) _ (load_most u2 frame_register (G.step_place t)) {n = 6}
    (omega arith)
passed_by_most t (Some z) behind = let m = passed_most (int_lt z (pos 0)) behind in omega (arith, m)

limit_kept_most : (e : Environment) (t : Taken) (c : Y.Counter) (o : Option Y.Number) (z : Option ℤ) (behind : ℕ)
    → size_of (G.limit_kept e t c o z behind) ≤ limit_turn (counter_size c) o
limit_kept_most e t c None z behind = none
limit_kept_most e t c (Some x) z behind =
    let all = both (G.counter_read e t c) _ (counter_read_most e t c)
    (both (load_word u1 frame_register (G.limit_place t)) _ (load_most u1 frame_register (G.limit_place t))
    (passed_by_most t z behind)) in
    omega (arith, all)

while_kept_most : (e : Environment) (t : Taken) (o : Option Y.Bit) (behind : ℕ)
    → size_of (G.while_kept e t o behind) ≤ condition_size o
while_kept_most e t None behind = none
while_kept_most e t (Some x) behind =
    both (X.bit_code e (G.in_turns t) x) _ (bit_sized e (G.in_turns t) x) {n = 8} (omega arith)

turn_most : (u : G.Turn) (a b c d f : ℕ) → size_of u.begun ≤ a → ((n : ℕ) → size_of (u.limit n) ≤ b)
    → ((n : ℕ) → size_of (u.condition n) ≤ c) → size_of u.body ≤ d → size_of u.stepped ≤ f
    → size_of (G.turns_code u) ≤ a + (b + (c + (d + (f + 2))))
turn_most u a b c d f hb hl hc hd hs =
    both u.begun _ hb
    (both (u.limit (G.words_behind_limit u)) _ (hl (G.words_behind_limit u))
    (both (u.condition (G.words_behind_condition u)) _ (hc (G.words_behind_condition u))
    (both u.body _ hd (both u.stepped (JumpBack (G.words_back u) ∷ []) hs {n = 2} (omega arith)))))

turns_most : (e : Environment) (t : Taken) (c : Y.Counter) (limit : Option Y.Number) (z : Option ℤ)
    (condition : Option Y.Bit) (line : ℕ) (body : Code) (n : ℕ) → size_of body ≤ n
    → size_of (G.turns_code (G.turn_of e t c limit z condition line body))
    ≤ limit_turn (counter_size c) limit + (2 * counter_size c + (condition_size condition + (n + 75)))
turns_most e t c limit z condition line body n h =
    let begun = both (G.counter_stored e t c) (A.act_code line) (counter_into_most e t c) (act_most line) in
    let all = turn_most (G.turn_of e t c limit z condition line body) (counter_size c + 17)
    (limit_turn (counter_size c) limit) (condition_size condition) n (counter_size c + 56) (omega (arith, begun))
    (λ k. limit_kept_most e t c limit z k) (λ k. while_kept_most e t condition k) h (stepped_most e t c z line) in
    omega (arith, all)

count_most : (e : Environment) (t : Taken) (c : Y.Counter) (start : Y.Value) (limit : Option Y.Number)
    (step : Y.Number) (condition : Option Y.Bit) (line : ℕ) (body : Code) (n : ℕ) → size_of body ≤ n
    → size_of (A.act_code line ++ (G.count_begun e t c start limit step
    ++ G.turns_code (G.turn_of e t c limit (G.constant_step step) condition line body)))
    ≤ turns_size c start limit step condition + n
count_most e t c start limit step condition line body n h =
    let split = limit_split (counter_size c) limit in
    let all = both (A.act_code line) _ (act_most line)
    (both (G.count_begun e t c start limit step) _ (count_begun_most e t c start limit step)
    (turns_most e t c limit (G.constant_step step) condition line body n h)) in
    omega (arith, all, split)

once_most : (e : Environment) (t : Taken) (o : Option Y.Bit) (line : ℕ) (body : Code) (n : ℕ) → size_of body ≤ n
    → size_of (G.once_code e t o line body) ≤ condition_size o + n
once_most e t None line body n h = omega (arith, h)
once_most e t (Some x) line body n h =
    let all = both (A.act_code line) (X.bit_code e t x ++ G.if_met body) (act_most line)
    (both (X.bit_code e t x) (G.if_met body) (bit_sized e t x) (met_most body n h)) in
    omega (arith, all)

-- ---- RETURN and GOTO

unwound_most : (level keep : ℕ) → size_of (G.unwound_to level keep) ≤ 7
unwound_most level keep =
    both (load_word frame_register frame_register (display level)) _
    (load_most frame_register frame_register (display level)) {n = 4} (omega arith)

returned_most : (e : Environment) (keep : ℕ) (o : Owner) → size_of (G.returned_by e keep o) ≤ 9
returned_most e keep UnitOwner = none
returned_most e keep (BlockOwner owner) =
    both (G.unwound_if e owner.level keep) _ {m = 7}
    (one_of (owner.level == e.level) _ _ none (unwound_most owner.level keep)) {n = 2} (omega arith)

owner_most : (e : Environment) (o : Owner) → size_of (G.owner_found e o) ≤ 3
owner_most e UnitOwner = none
owner_most e (BlockOwner owner) = frame_found_most e owner.level u3

word_returned_most : (e : Environment) → size_of (G.word_returned e) ≤ 36
word_returned_most e =
    let into = store_word (G.result_address e e.owner).register a0 (pos result) in
    let all = both (G.owner_found e e.owner) (into ++ G.returned_by e 0 e.owner) (owner_most e e.owner)
    (both into (G.returned_by e 0 e.owner) (store_most (G.result_address e e.owner).register a0 (pos result))
    (returned_most e 0 e.owner)) in
    omega (arith, all)

text_returned_most : (e : Environment) (mode : ℕ) (x : Y.Extent)
    → size_of (G.text_cut mode x ++ G.returned_by e 1 e.owner) ≤ 36
text_returned_most e mode x =
    let all = both (G.text_cut mode x) (G.returned_by e 1 e.owner) {m = 9}
    (both (L.length_loaded a0 x) _ (length_most a0 x) {n = 6} (omega arith)) (returned_most e 1 e.owner) in
    omega (arith, all)

value_returned_most : (e : Environment) (t : Taken) (type : Y.LeafType)
    → size_of (G.value_returned e t type) ≤ 36
value_returned_most e t (Y.CharacterLeaf x) = text_returned_most e 2 x
value_returned_most e t (Y.VaryingLeaf x) = text_returned_most e 3 x
value_returned_most e t Y.PointerLeaf =
    both (G.owner_found e e.owner) _ (owner_most e e.owner)
    (both (L.name_copied (L.in_own_frame (L.waiting_name t)) (G.result_address e e.owner)) _
    (copied_most (L.in_own_frame (L.waiting_name t)) (G.result_address e e.owner)) (returned_most e 0 e.owner))
value_returned_most e t (Y.FixedLeaf p) = word_returned_most e
value_returned_most e t Y.BitLeaf = word_returned_most e
value_returned_most e t (Y.OffsetLeaf area) = word_returned_most e
value_returned_most e t (Y.AreaLeaf n) = word_returned_most e

outer_most : (e : Environment) (level : ℕ) → size_of (G.goto_outer e level) ≤ 10
outer_most e level =
    both (G.unwound_to level 0) _ (unwound_most level 0)
    (plus_most stack_register frame_register (pos (frame_end e.parts e.program (block_around e level) level)))

goto_most : (e : Environment) (level : ℕ) (label : List ℕ) → size_of (G.goto_code e level label) ≤ 12
goto_most e level label =
    both (if level == e.level then [] else G.goto_outer e level) _ {m = 10}
    (one_of (level == e.level) _ _ none (outer_most e level)) {n = 2} (omega arith)

signal_most : (c : Condition) → size_of (G.signal_code c) ≤ 4
signal_most C.Error = omega arith
signal_most C.Area = omega arith
signal_most C.FixedOverflow = omega arith
signal_most C.ZeroDivide = omega arith
signal_most C.Endfile = omega arith

-- ---- blocks

begin_most : (e : Environment) (head : Y.BlockHead) (words : ℕ) (body : Code) (n : ℕ) → size_of body ≤ n
    → size_of (A.act_code head.line ++ G.begin_code e head words body)
    ≤ variables_size (variables_of_block e.program head.number) + (6 * head.level + 18) + (n + 16)
begin_most e head words body n h =
    let inner = G.begin_environment head e in
    let end = ended_most words in
    let behind = both (N.entered_without_texts 1 head.line) _ (entered_most 1 head.line)
    (both (N.variables_code inner head.line) _
    (variables_most inner head.line 0 (variables_of_block e.program head.number))
    (both body (N.block_left 0 ++ N.frame_ended words) h {n = 7} (omega (arith, end)))) in
    let frame = both (N.frame_begun words head.level 0 None) (N.entered_without_texts 1 head.line
    ++ (N.variables_code inner head.line ++ (body ++ (N.block_left 0 ++ N.frame_ended words))))
    (begun_most words head.level 0 None) behind in
    let all = both (A.act_code head.line) (G.begin_code e head words body) (act_most head.line)
    {n = 1 + ((6 * head.level + 14) + (7 + (variables_size (variables_of_block e.program head.number) + (n + 7))))}
    (omega (arith, frame)) in
    omega (arith, all)

unit_variables_most : (e : Environment) (head : Y.BlockHead) (kind : Y.BlockKind)
    → size_of (G.unit_variables (G.unit_environment head e) head kind) ≤ unit_variables_size e.program head kind
unit_variables_most e head Y.SimpleUnit = none
unit_variables_most e head Y.ProcedureBlock =
    variables_most (G.unit_environment head e) head.line 0 (variables_of_block e.program head.number)
unit_variables_most e head Y.BeginBlock =
    variables_most (G.unit_environment head e) head.line 0 (variables_of_block e.program head.number)
unit_variables_most e head Y.UnitBlock =
    variables_most (G.unit_environment head e) head.line 0 (variables_of_block e.program head.number)

unit_mark_most : (head : Y.BlockHead) (kind : Y.BlockKind) → size_of (G.unit_mark head kind) ≤ 0
unit_mark_most head Y.SimpleUnit = none
unit_mark_most head Y.ProcedureBlock = omega arith
unit_mark_most head Y.BeginBlock = omega arith
unit_mark_most head Y.UnitBlock = omega arith

unit_left_most : (words held : ℕ) → held ≤ 7 → size_of (G.unit_left words held) ≤ 31
unit_left_most words held few =
    let more = registers_restored_most 0 held in
    let back = BaseIn u0 ∷ add u0 u0 a0 ∷ Plain (I.JumpRegister zero_register u0 (pos 0)) ∷ [] in
    both (service 31) (N.registers_restored 0 held ++ (N.frame_ended words ++ back)) {m = 2} (omega arith)
    (both (N.registers_restored 0 held) _ {m = 21} (omega (arith, more, few))
    (both (N.frame_ended words) back (ended_most words) {n = 4} (omega arith)))

unit_most : (e : Environment) (head : Y.BlockHead) (words held : ℕ) (body : Code) (n : ℕ) → held ≤ 7
    → size_of body ≤ n
    → size_of (G.unit_code e head words held body)
    ≤ unit_variables_size e.program head head.kind + (6 * head.level + 18) + (n + 61)
unit_most e head words held body n few h =
    let left = both (G.unit_mark head head.kind) (G.unit_left words held) (unit_mark_most head head.kind)
    (unit_left_most words held few) in
    let variables = G.unit_variables (G.unit_environment head e) head head.kind in
    let inside : Code = variables
    ++ (A.act_code head.line ++ (body ++ (G.unit_mark head head.kind ++ G.unit_left words held))) in
    let all = both (N.frame_begun words head.level 0 (Some held)) (N.entered_without_texts 2 head.line ++ inside)
    (begun_most words head.level 0 (Some held))
    (both (N.entered_without_texts 2 head.line) inside (entered_most 2 head.line)
    (both variables _ (unit_variables_most e head head.kind)
    (both (A.act_code head.line) _ (act_most head.line) (both body _ h left)))) in
    omega (arith, all, few)

established_most : (c : Condition) (unit : Code) (n : ℕ) → size_of unit ≤ n
    → size_of (G.unit_established c unit) ≤ n + 7
established_most c unit n h = omega (arith, h)

-- ---- statements

marks_most : (block : ℕ) (ls : List (List ℕ)) → size_of (G.marked block ls) ≤ 0
marks_most block [] = none
marks_most block (l ∷ ls) = let m = marks_most block ls in omega (arith, m)

mutual
  stmt_sized : (e : Environment) (t : Taken) (s : Y.Stmt) → size_of (G.stmt_code e t s) ≤ stmt_size e.program s
  stmt_sized e t (Y.Null line) = act_most line
  stmt_sized e t (Y.Assign r v line) =
      acts_most line (S.assignment_code e t r v) _ (assignment_most e t r v)
  stmt_sized e t (Y.AssignElements r v line) =
      acts_most line (S.elements_code e t r v) _ (elements_most e t r v)
  stmt_sized e t (Y.AssignAggregate r s line) =
      acts_most line (S.aggregate_code e t r s) _ (aggregate_most e t r s)
  stmt_sized e t (Y.AssignArea v w line) = acts_most line (S.area_code' e t v w) 21 (areas_most e t v w).0
  stmt_sized e t (Y.EmptyArea v line) = acts_most line (S.emptied_code e t v) 9 (areas_most e t v v).1
  stmt_sized e t (Y.If condition unit line) =
      let all = acts_most line (X.bit_code e t condition ++ G.if_met (G.stmt_code e t unit)) _
      (both (X.bit_code e t condition) (G.if_met (G.stmt_code e t unit)) (bit_sized e t condition)
      (met_most (G.stmt_code e t unit) (stmt_size e.program unit) (stmt_sized e t unit))) in
      omega (arith, all)
  stmt_sized e t (Y.IfElse condition unit otherwise line) =
      let one = stmt_sized e t unit in
      let other = stmt_sized e t otherwise in
      let met = met_most (G.stmt_code e t unit ++ JumpAhead (size_of (G.stmt_code e t otherwise)) ∷ [])
      (stmt_size e.program unit + 2)
      (both (G.stmt_code e t unit) (JumpAhead (size_of (G.stmt_code e t otherwise)) ∷ []) one {n = 2} (omega arith)) in
      let either = both (G.if_met (G.stmt_code e t unit ++ JumpAhead (size_of (G.stmt_code e t otherwise)) ∷ []))
      (G.stmt_code e t otherwise) met other in
      let all = acts_most line
      (X.bit_code e t condition ++ G.one_of (G.stmt_code e t unit) (G.stmt_code e t otherwise)) _
      (both (X.bit_code e t condition) (G.one_of (G.stmt_code e t unit) (G.stmt_code e t otherwise))
      (bit_sized e t condition) either) in
      omega (arith, all)
  stmt_sized e t (Y.Do body line) = acts_most line (G.stmts_code e t body) _ (stmts_sized e t body)
  stmt_sized e t (Y.DoWhile condition body line) =
      let test = A.act_code line ++ X.bit_code e t condition in
      let inner = G.stmts_code e t body in
      let back = JumpBack (size_of test + (3 + size_of inner)) ∷ [] in
      let met = met_most (inner ++ back) (stmts_size e.program body + 2)
      (both inner back (stmts_sized e t body) {n = 2} (omega arith)) in
      let all = acts_most line (G.while_met test inner) _
      (both test (G.if_met (inner ++ back)) (both (A.act_code line) (X.bit_code e t condition) (act_most line)
      (bit_sized e t condition)) met) in
      omega (arith, all)
  stmt_sized e t (Y.DoOnce r start condition body line) =
      let inner = G.stmts_code e t body in
      let all = acts_most line (S.assignment_code e t r start ++ G.once_code e t condition line inner) _
      (both (S.assignment_code e t r start) (G.once_code e t condition line inner) (assignment_most e t r start)
      (once_most e t condition line inner (stmts_size e.program body) (stmts_sized e t body))) in
      omega (arith, all)
  stmt_sized e t (Y.DoCount c start limit step condition body line) =
      count_most e t c start limit step condition line (G.stmts_code e (G.in_turns t) body) (stmts_size e.program body)
      (stmts_sized e (G.in_turns t) body)
  stmt_sized e t (Y.Begin (Y.BlockOf head body)) =
      begin_most e head (G.block_words e head.number body)
      (G.stmts_code (G.begin_environment head e) none_taken body) (stmts_size e.program body)
      (stmts_sized (G.begin_environment head e) none_taken body)
  stmt_sized e t (Y.OnSystem c line) =
      acts_most line (G.condition_given c ∷ small a1 0 ∷ service 28) 4 (omega arith)
  stmt_sized e t (Y.OnUnit c (Y.BlockOf head body) line) =
      let inner = G.unit_environment head e in
      let words = G.unit_words e head head.kind body in
      let held = G.unit_held e head head.kind body in
      let few : held ≤ 7 = few_held _ in
      let unit = unit_most e head words held (G.stmts_code inner none_taken body) (stmts_size e.program body) few
      (stmts_sized inner none_taken body) in
      let code = G.unit_code e head words held (G.stmts_code inner none_taken body) in
      let all = acts_most line (G.unit_established c code) _ (established_most c code _ unit) in
      omega (arith, all)
  stmt_sized e t (Y.CallProcedure call line) = acts_most line (X.call_code e t call) _ (call_sized e t call)
  stmt_sized e t (Y.Return line) = acts_most line (G.returned_by e 0 e.owner) 9 (returned_most e 0 e.owner)
  stmt_sized e t (Y.ReturnValue type source line) =
      let all = acts_most line (X.stored_code e t source ++ G.value_returned e t type) _
      (both (X.stored_code e t source) (G.value_returned e t type) (stored_sized e t source)
      (value_returned_most e t type)) in
      omega (arith, all)
  stmt_sized e t (Y.Goto level label line) =
      acts_most line (G.goto_code e level label) 12 (goto_most e level label)
  stmt_sized e t (Y.Stop line) = acts_most line (small a0 1 ∷ small a1 0 ∷ service 2) 4 (omega arith)
  stmt_sized e t (Y.Signal c line) = acts_most line (G.signal_code c) 4 (signal_most c)
  stmt_sized e t (Y.Revert c line) = acts_most line (G.condition_given c ∷ service 29) 3 (omega arith)
  stmt_sized e t (Y.Allocate all line) =
      acts_most line (A.allocations_code e t line all) _ (allocations_most e t line all)
  stmt_sized e t (Y.Free all line) = acts_most line (A.freeings_code e t all) _ (freeings_most e t all)
  stmt_sized e t (Y.Get skip pairs line) = acts_most line (P.get_code e t skip pairs) _ (gets_sized e t skip pairs)
  stmt_sized e t (Y.Put skip pairs line) = acts_most line (P.put_code e t skip pairs) _ (puts_sized e t skip pairs)

  pub stmts_sized : (e : Environment) (t : Taken) (ss : Y.Stmts)
      → size_of (G.stmts_code e t ss) ≤ stmts_size e.program ss
  stmts_sized e t (Y.EndOfList labels) = marks_most e.block labels
  stmts_sized e t (Y.StmtThen labels first rest) =
      let all = both (G.marked e.block labels) (G.stmt_code e t first ++ G.stmts_code e t rest)
      (marks_most e.block labels)
      (both (G.stmt_code e t first) (G.stmts_code e t rest) (stmt_sized e t first) (stmts_sized e t rest)) in
      omega (arith, all)

pub statements_sized : AllStatementsSized
statements_sized = (stmt_sized, stmts_sized)
