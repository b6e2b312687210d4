-- What the code of statements marks.
use Rattle.std.proofs.Common.{◌≡◌, ◌==◌, ℕ, zero, suc, ◌+◌, List, [], ◌∷◌, ◌++◌, map, Bool, true, false, refl, ap, ◌∙◌}
use Rattle.std.proofs.Common.{append-nil}
use Rattle.std.specs.Prelude.{ℤ, pos, int_lt, Option, None, Some, min, if◌then◌else◌}
use Rattle.rv_meaning.specs.declared.instr.Register.{Register}
use Rattle.pli_language.specs.declared.condition.Condition.{Condition}
use Rattle.pli_language.specs.declared.condition.Condition.TheVariants as C
use Rattle.pli_typing.specs.TypedTree as Y
use Rattle.pli_meaning.specs.DeclaredShapes.{variables_of_block}
use Rattle.pli_coding.specs.Registers.{a0, a2}
use Rattle.pli_coding.specs.Assembly.{Symbol, ReturnPlace, LabelPlace, Code, size_of}
use Rattle.pli_coding.specs.Frames.{has_constant_size, is_automatic, automatic_place}
use Rattle.pli_coding.specs.Environments.{Environment, Owner, BlockOwner, UnitOwner, Taken, none_taken}
use Rattle.pli_coding.specs.Locating.{Address}
use Rattle.pli_coding.specs.Expressions.{type_in}
use Rattle.pli_coding.specs.Entries as E
use Rattle.pli_coding.specs.Statements as S
use Rattle.code_marks.specs.CodeMarks.{symbols_marked, Unmarked, label_symbols, unit_end, stmt_symbols, stmts_symbols}
use Rattle.code_marks.specs.CodeMarks.{StatementsMark}
use Rattle.code_marks.proofs.Pieces.{marked_append, clear, also, next, one_of, far, none, number_none, load_none}
use Rattle.code_marks.proofs.Pieces.{store_none}
use Rattle.code_marks.proofs.Pieces.{plus_none, fitted_none, sum_none, constant_added_none}
use Rattle.code_marks.proofs.Reached.{frame_found_none, own_none, loaded_none, copied_none, pushed_none, length_none}
use Rattle.code_marks.proofs.Expressions.{numbers, texts, bits, references, calls, values}
use Rattle.code_marks.proofs.Stored.{word_stored_none, top_stored_none, assignment_none, elements_none, aggregate_none}
use Rattle.code_marks.proofs.Stored.{area_none, emptied_none, extents_none, initial_none, act_none, allocations_none}
use Rattle.code_marks.proofs.Stored.{freeings_none}
use Rattle.code_marks.proofs.Streams.{put_none, get_none}
use Rattle.std.specs.Prelude.{neg_ℤ}
use Rattle.pli_coding.specs.Registers.{return_register, stack_register, frame_register, held, a1, a3, u0, u1, u2, u3}
use Rattle.pli_coding.specs.Frames.{return_address, frame_below, saved_register, own_offset, lower_top, display, result}
use Rattle.pli_coding.specs.Frames.{temporary_bytes, fixed_size, last_place, frame_bytes, name_bytes, frame_end}
use Rattle.pli_coding.specs.Environments.{block_around}
use Rattle.pli_coding.specs.Locating.{in_own_frame, waiting_name, table_number}
use Rattle.pli_coding.specs.Expressions.{address_in}
use Rattle.pli_coding.specs.Extents.{number_word, bytes_word}
use Rattle.rv_meaning.specs.declared.instr.BranchTest.TheVariants as Test
use Rattle.pli_coding.specs.Registers.{zero_register}
use Rattle.pli_coding.specs.Assembly.{JumpAhead, OffsetAhead}
use Rattle.pli_coding.specs.Instructions.{skip_where, service, tested_service}
use Rattle.pli_coding.specs.Instructions.{move}

-- ---- code that marks something

pub record Marking (code : Code) (symbols : List Symbol) : Type 0 where
  pub told : symbols_marked code ≡ symbols

pub nothing : {code : Code} → Unmarked code → Marking code []
nothing h = record { told = h.nothing }

pub behind : {xs ys : Code} {ss : List Symbol} → Unmarked xs → Marking ys ss → Marking (xs ++ ys) ss
behind {xs} {ys} {ss} h k =
    record { told = marked_append xs ys ∙ (ap (λ u. u ++ symbols_marked ys) h.nothing ∙ k.told) }

pub before : {xs ys : Code} {ss : List Symbol} → Marking xs ss → Unmarked ys → Marking (xs ++ ys) ss
before {xs} {ys} {ss} h k =
    record {
      told = marked_append xs ys
          ∙ (ap (λ u. u ++ symbols_marked ys) h.told ∙ (ap (λ u. ss ++ u) k.nothing ∙ append-nil ss));
    }

pub both : {xs ys : Code} {ss us : List Symbol} → Marking xs ss → Marking ys us → Marking (xs ++ ys) (ss ++ us)
both {xs} {ys} {ss} {us} h k =
    record { told = marked_append xs ys ∙ (ap (λ u. u ++ symbols_marked ys) h.told ∙ ap (λ u. ss ++ u) k.told) }

-- ---- blocks

copied_display_none : (n left : ℕ) → Unmarked (E.display_copied n left)
copied_display_none n zero = store_none frame_register a0 (display n)
copied_display_none n (suc left) =
    also (load_none u1 a0 (display n)) (also (store_none frame_register u1 (display n)) (copied_display_none
    (suc n) left))

display_none : (level : ℕ) → Unmarked (E.display_made level)
display_none zero = none
display_none (suc outer) = copied_display_none 0 outer

saved_none : (frame : Register) (n left : ℕ) → Unmarked (E.registers_saved frame n left)
saved_none frame n zero = none
saved_none frame n (suc left) = also (store_none frame (held n) (saved_register n)) (saved_none frame (suc n) left)

pub restored_none : (n left : ℕ) → Unmarked (E.registers_restored n left)
restored_none n zero = none
restored_none n (suc left) = also (load_none (held n) frame_register (saved_register n)) (restored_none (suc n) left)

saved_if_none : (saved : Option ℕ) → Unmarked (E.saved_if saved)
saved_if_none None = none
saved_if_none (Some held) = also (store_none u0 return_register return_address) (saved_none u0 0 held)

pub all_restored_none : (held : ℕ) → Unmarked (E.all_restored held)
all_restored_none held = also (load_none return_register frame_register return_address) (restored_none 0 held)

pub frame_begun_none : (words level parameters : ℕ) (saved : Option ℕ)
    → Unmarked (E.frame_begun words level parameters saved)
frame_begun_none words level parameters saved =
    also (plus_none u0 stack_register (pos (temporary_bytes words)))
    (also (saved_if_none saved)
    (also (store_none u0 frame_register frame_below)
    (also (load_none u1 frame_register lower_top)
    (next refl
    (also (store_none frame_register u1 lower_top)
    (also (display_none level)
    (next refl (next refl (also (store_none frame_register u1 own_offset) (plus_none stack_register frame_register
    (pos (fixed_size level parameters))))))))))))

pub frame_ended_none : (words : ℕ) → Unmarked (E.frame_ended words)
frame_ended_none words =
    also (plus_none stack_register frame_register (neg_ℤ (pos (temporary_bytes words))))
    (load_none frame_register frame_register frame_below)

pub entered_none : (kind line : ℕ) → Unmarked (E.block_entered kind line)
entered_none kind line =
    also (load_none a1 frame_register own_offset) (next refl (also (number_none a2 line) (clear refl)))

constant_made_none : (e : Environment) (place : ℕ) (d : Y.DeclaredVariable) → Unmarked (E.constant_made e place d)
constant_made_none e place d =
    also (own_none e a0 (pos place))
    (also (number_none a1 (table_number e d))
    (also (initial_none a2 d) (also (own_none e a3 (pos (place + name_bytes))) (next refl
    (also {xs = service 7} (clear refl)
    (plus_none stack_register frame_register (pos (min last_place (place + frame_bytes e.parts d)))))))))

extents_act_none : (line : ℕ) (xs : List Y.Evaluation) → Unmarked (E.extents_act line xs)
extents_act_none line [] = none
extents_act_none line (x ∷ xs) = act_none line

adjustable_made_none : (e : Environment) (line place : ℕ) (d : Y.DeclaredVariable)
    → Unmarked (E.adjustable_made e line place d)
adjustable_made_none e line place d =
    also (extents_act_none line d.evaluations)
    (also (extents_none e none_taken d)
    (also (plus_none stack_register frame_register (pos (place + name_bytes)))
    (also (load_none u2 frame_register (bytes_word none_taken))
    (also (also (load_none u1 frame_register lower_top) (next refl (store_none frame_register u1 lower_top)))
    (also (own_none e a0 (pos place)) (also (load_none a1 frame_register (number_word none_taken)) (also
    (initial_none a2 d) (clear refl))))))))

made_none : (e : Environment) (line index : ℕ) (ds : List Y.DeclaredVariable)
    → Unmarked (E.variables_made e line index ds)
made_none e line index [] = none
made_none e line index (d ∷ ds) =
    let place = automatic_place e.parts e.program e.block e.level index in
    also
    (one_of (is_automatic d.class)
    (one_of (has_constant_size d) (constant_made_none e place d) (adjustable_made_none e line place d)) none)
    (made_none e line (suc index) ds)

pub variables_none : (e : Environment) (line : ℕ) → Unmarked (E.variables_code e line)
variables_none e line = made_none e line 0 (variables_of_block e.program e.block)

unit_variables_none : (e : Environment) (head : Y.BlockHead) (kind : Y.BlockKind) → Unmarked
    (S.unit_variables e head kind)
unit_variables_none e head Y.ProcedureBlock = variables_none e head.line
unit_variables_none e head Y.BeginBlock = variables_none e head.line
unit_variables_none e head Y.SimpleUnit = none
unit_variables_none e head Y.UnitBlock = variables_none e head.line

unit_left_none : (words held : ℕ) → Unmarked (S.unit_left words held)
unit_left_none words held =
    also {xs = service 31} (clear refl) (also (restored_none 0 held) (also (frame_ended_none words) (clear refl)))

-- ---- DO with a variable that counts

start_none : (e : Environment) (t : Taken) (v : Y.Value) → Unmarked (S.start_code e t v)
start_none e t (Y.NumberValue precision x) =
    also (numbers e (S.before_turns t) x) (store_none frame_register a0 (S.start_place t))
start_none e t (Y.TextValue x) = texts e (S.before_turns t) x
start_none e t (Y.BitValue x) = also (bits e (S.before_turns t) x) (store_none frame_register a0 (S.start_place t))
start_none e t (Y.PointerValue x) = none
start_none e t (Y.OffsetValue x area) = none
start_none e t Y.NullValue = none

limit_none : (e : Environment) (t : Taken) (limit : Option Y.Number) → Unmarked (S.limit_code e t limit)
limit_none e t None = none
limit_none e t (Some x) = also (numbers e (S.before_turns t) x) (store_none frame_register a0 (S.limit_place t))

step_kept_none : (e : Environment) (t : Taken) (x : Y.Number) (constant : Option ℤ) → Unmarked
    (S.step_kept e t x constant)
step_kept_none e t x None = also (numbers e (S.before_turns t) x) (store_none frame_register a0 (S.step_place t))
step_kept_none e t x (Some z) = none

text_started_none : (t : Taken) (v : Y.Value) → Unmarked (S.text_started t v)
text_started_none t (Y.NumberValue precision x) = also (load_none a0 frame_register (S.start_place t)) (clear refl)
text_started_none t (Y.TextValue x) = none
text_started_none t (Y.BitValue x) = also (load_none a0 frame_register (S.start_place t)) (clear refl)
text_started_none t (Y.PointerValue x) = none
text_started_none t (Y.OffsetValue x area) = none
text_started_none t Y.NullValue = none

number_started_none : (t : Taken) (precision : ℕ) (v : Y.Value) → Unmarked (S.number_started t precision v)
number_started_none t precision (Y.NumberValue n x) =
    also (load_none a0 frame_register (S.start_place t)) (fitted_none (S.in_turns t) precision)
number_started_none t precision (Y.TextValue x) =
    next refl (also {xs = tested_service 26} (clear refl) (fitted_none (S.in_turns t) precision))
number_started_none t precision (Y.BitValue x) =
    also (load_none a0 frame_register (S.start_place t)) (fitted_none (S.in_turns t) precision)
number_started_none t precision (Y.PointerValue x) =
    also (load_none a0 frame_register (S.start_place t)) (fitted_none (S.in_turns t) precision)
number_started_none t precision (Y.OffsetValue x area) =
    also (load_none a0 frame_register (S.start_place t)) (fitted_none (S.in_turns t) precision)
number_started_none t precision Y.NullValue =
    also (load_none a0 frame_register (S.start_place t)) (fitted_none (S.in_turns t) precision)

started_none : (t : Taken) (counter : Y.Counter) (v : Y.Value) → Unmarked (S.started_code t counter v)
started_none t (Y.NumberCounter precision r) v = number_started_none t precision v
started_none t (Y.TextCounter r) v = text_started_none t v

counter_stored_none : (e : Environment) (t : Taken) (counter : Y.Counter) → Unmarked (S.counter_stored e t counter)
counter_stored_none e t (Y.NumberCounter precision r) = word_stored_none e (S.in_turns t) r
counter_stored_none e t (Y.TextCounter r) = top_stored_none e (S.in_turns t) r

counter_read_none : (e : Environment) (t : Taken) (counter : Y.Counter) → Unmarked (S.counter_read e t counter)
counter_read_none e t (Y.NumberCounter precision r) =
    also (references e (S.in_turns t) r) (loaded_none (type_in e r) a0 (address_in e r))
counter_read_none e t (Y.TextCounter r) =
    also (references e (S.in_turns t) r) (also (pushed_none (type_in e r) (address_in e r)) (clear refl))

counter_converted_none : (t : Taken) (counter : Y.Counter) → Unmarked (S.counter_converted t counter)
counter_converted_none t (Y.NumberCounter precision r) = fitted_none (S.in_turns t) precision
counter_converted_none t (Y.TextCounter r) = clear refl

step_added_none : (t : Taken) (step : Option ℤ) → Unmarked (S.step_added t step)
step_added_none t None = next refl (also (load_none a0 frame_register (S.step_place t)) (sum_none (S.in_turns t)))
step_added_none t (Some z) = constant_added_none (S.in_turns t) z

stepped_none : (e : Environment) (t : Taken) (counter : Y.Counter) (step : Option ℤ) (line : ℕ)
    → Unmarked (S.stepped_code e t counter step line)
stepped_none e t counter step line =
    also (number_none a0 line)
    (next refl
    (also {xs = service 1} (clear refl)
    (also (counter_read_none e t counter) (also (step_added_none t step) (counter_converted_none t counter)))))

passed_none : (falls : Bool) (behind : ℕ) → Unmarked (S.passed falls behind)
passed_none true behind = clear refl
passed_none false behind = clear refl

passed_by_none : (t : Taken) (step : Option ℤ) (behind : ℕ) → Unmarked (S.passed_by t step behind)
passed_by_none t None behind = also (load_none u2 frame_register (S.step_place t)) (clear refl)
passed_by_none t (Some z) behind = passed_none (int_lt z (pos 0)) behind

limit_kept_none : (e : Environment) (t : Taken) (counter : Y.Counter) (limit : Option Y.Number) (step : Option ℤ)
    (behind : ℕ) → Unmarked (S.limit_kept e t counter limit step behind)
limit_kept_none e t counter None step behind = none
limit_kept_none e t counter (Some x) step behind =
    also (counter_read_none e t counter) (also (load_none u1 frame_register (S.limit_place t))
    (passed_by_none t step behind))

while_kept_none : (e : Environment) (t : Taken) (condition : Option Y.Bit) (behind : ℕ)
    → Unmarked (S.while_kept e t condition behind)
while_kept_none e t None behind = none
while_kept_none e t (Some x) behind = also (bits e (S.in_turns t) x) (clear refl)

count_begun_none : (e : Environment) (t : Taken) (counter : Y.Counter) (start : Y.Value) (limit : Option Y.Number)
    (step : Y.Number) → Unmarked (S.count_begun e t counter start limit step)
count_begun_none e t counter start limit step =
    also (start_none e t start)
    (also (limit_none e t limit)
    (also (step_kept_none e t step (S.constant_step step)) (started_none t counter start)))

-- ---- RETURN, GOTO and conditions

unwound_none : (level keep : ℕ) → Unmarked (S.unwound_to level keep)
unwound_none level keep =
    also (load_none frame_register frame_register (display level)) (also (load_none a0 frame_register own_offset)
    (clear refl))

returned_none : (e : Environment) (keep : ℕ) (owner : Owner) → Unmarked (S.returned_by e keep owner)
returned_none e keep (BlockOwner owner) =
    also (one_of (owner.level == e.level) none (unwound_none owner.level keep)) (clear refl)
returned_none e keep UnitOwner = none

owner_found_none : (e : Environment) (owner : Owner) → Unmarked (S.owner_found e owner)
owner_found_none e (BlockOwner owner) = frame_found_none e owner.level u3
owner_found_none e UnitOwner = none

cut_none : (mode : ℕ) (size : Y.Extent) → Unmarked (S.text_cut mode size)
cut_none mode size = also (length_none a0 size) (clear refl)

word_returned_none : (e : Environment) → Unmarked (S.word_returned e)
word_returned_none e =
    also (owner_found_none e e.owner) (also (store_none (S.result_address e e.owner).register a0 (pos result))
    (returned_none e 0 e.owner))

name_returned_none : (e : Environment) (t : Taken) → Unmarked (S.name_returned e t)
name_returned_none e t = also (owner_found_none e e.owner)
    (also (copied_none (in_own_frame (waiting_name t)) (S.result_address e e.owner)) (returned_none e 0 e.owner))

value_returned_none : (e : Environment) (t : Taken) (type : Y.LeafType) → Unmarked (S.value_returned e t type)
value_returned_none e t (Y.FixedLeaf p) = word_returned_none e
value_returned_none e t Y.BitLeaf = word_returned_none e
value_returned_none e t (Y.CharacterLeaf n) = also (cut_none 2 n) (returned_none e 1 e.owner)
value_returned_none e t (Y.VaryingLeaf n) = also (cut_none 3 n) (returned_none e 1 e.owner)
value_returned_none e t Y.PointerLeaf = name_returned_none e t
value_returned_none e t (Y.OffsetLeaf area) = word_returned_none e
value_returned_none e t (Y.AreaLeaf n) = word_returned_none e

goto_none : (e : Environment) (level : ℕ) (label : List ℕ) → Unmarked (S.goto_code e level label)
goto_none e level label =
    also (one_of (level == e.level) none (also (unwound_none level 0) (plus_none stack_register frame_register (pos
    (frame_end e.parts e.program (block_around e level) level))))) (clear refl)

signal_none : (c : Condition) → Unmarked (S.signal_code c)
signal_none C.Area = clear refl
signal_none C.FixedOverflow = clear refl
signal_none C.ZeroDivide = clear refl
signal_none C.Endfile = clear refl
signal_none C.Error = clear refl

-- ---- statements

labels_marked : (block : ℕ) (labels : List (List ℕ)) → Marking (S.marked block labels) (label_symbols block labels)
labels_marked block [] = nothing none
labels_marked block (l ∷ ls) = record { told = ap (λ ss. LabelPlace block l ∷ ss) (labels_marked block ls).told }

unit_marked : (head : Y.BlockHead) (kind : Y.BlockKind) → Marking (S.unit_mark head kind) (unit_end head kind)
unit_marked head Y.ProcedureBlock = record { told = refl }
unit_marked head Y.BeginBlock = record { told = refl }
unit_marked head Y.SimpleUnit = nothing none
unit_marked head Y.UnitBlock = record { told = refl }

if_met_marks : (code : Code) (ss : List Symbol) → Marking code ss → Marking (S.if_met code) ss
if_met_marks code ss h =
    behind {xs = skip_where Test.NotEqual a0 zero_register (JumpAhead (size_of code) ∷ [])} (clear refl) h

one_of_marks : (met otherwise : Code) (ss us : List Symbol) → Marking met ss → Marking otherwise us
    → Marking (S.one_of met otherwise) (ss ++ us)
one_of_marks met otherwise ss us h k = both (if_met_marks _ ss (before h (clear refl))) k

while_met_marks : (test body : Code) (ss : List Symbol) → Unmarked test → Marking body ss
    → Marking (S.while_met test body) ss
while_met_marks test body ss h k = behind h (if_met_marks _ ss (before k (clear refl)))

once_marks : (e : Environment) (t : Taken) (condition : Option Y.Bit) (line : ℕ) (body : Code) (ss : List Symbol)
    → Marking body ss → Marking (S.once_code e t condition line body) ss
once_marks e t None line body ss h = h
once_marks e t (Some x) line body ss h = behind (act_none line) (behind (bits e t x) (if_met_marks body ss h))

turns_mark : (e : Environment) (t : Taken) (counter : Y.Counter) (limit : Option Y.Number) (step : Option ℤ)
    (condition : Option Y.Bit) (line : ℕ) (body : Code) (ss : List Symbol) → Marking body ss
    → Marking (S.turns_code (S.turn_of e t counter limit step condition line body)) ss
turns_mark e t counter limit step condition line body ss h =
    behind (also (counter_stored_none e t counter) (act_none line))
    (behind (limit_kept_none e t counter limit step _)
    (behind (while_kept_none e t condition _)
    (before h (also (stepped_none e t counter step line) (clear refl)))))

begin_marks : (e : Environment) (head : Y.BlockHead) (words : ℕ) (body : Code) (ss : List Symbol) → Marking body ss
    → Marking (S.begin_code e head words body) ss
begin_marks e head words body ss h =
    behind {xs = move a0 frame_register ∷ []} (clear refl)
    (behind (frame_begun_none words head.level 0 None)
    (behind (next refl (entered_none 1 head.line))
    (behind (variables_none (S.begin_environment head e) head.line)
    (before h (also {xs = E.block_left 0} (clear refl) (frame_ended_none words))))))

unit_marks : (e : Environment) (head : Y.BlockHead) (words held : ℕ) (body : Code) (ss : List Symbol)
    → Marking body ss → Marking (S.unit_code e head words held body) (ss ++ unit_end head head.kind)
unit_marks e head words held body ss h =
    behind (frame_begun_none words head.level 0 (Some held))
    (behind (next refl (entered_none 2 head.line))
    (behind (unit_variables_none (S.unit_environment head e) head head.kind)
    (behind (act_none head.line)
    (both h (before (unit_marked head head.kind) (unit_left_none words held))))))

unit_established_marks : (c : Condition) (unit : Code) (ss : List Symbol) → Marking unit ss
    → Marking (S.unit_established c unit) ss
unit_established_marks c unit ss h =
    behind
    {xs = OffsetAhead a1 (size_of (service 28) + 3) ∷ S.condition_given c ∷ (service 28 ++ JumpAhead
    (size_of unit) ∷ [])}
    (clear refl) h

mutual
  pub statement : (e : Environment) (t : Taken) (s : Y.Stmt) → Marking (S.stmt_code e t s) (stmt_symbols e.block s)
  statement e t (Y.Null line) = nothing (act_none line)
  statement e t (Y.Assign target source line) = nothing (also (act_none line) (assignment_none e t target source))
  statement e t (Y.AssignElements target source line) =
      nothing (also (act_none line) (elements_none e t target source))
  statement e t (Y.AssignAggregate target source line) =
      nothing (also (act_none line) (aggregate_none e t target source))
  statement e t (Y.AssignArea target source line) = nothing (also (act_none line) (area_none e t target source))
  statement e t (Y.EmptyArea target line) = nothing (also (act_none line) (emptied_none e t target))
  statement e t (Y.If condition unit line) =
      behind (act_none line) (behind (bits e t condition) (if_met_marks _ _ (statement e t unit)))
  statement e t (Y.IfElse condition unit otherwise line) =
      behind (act_none line)
      (behind (bits e t condition) (one_of_marks _ _ _ _ (statement e t unit) (statement e t otherwise)))
  statement e t (Y.Do body line) = behind (act_none line) (statements e t body)
  statement e t (Y.DoWhile condition body line) =
      behind (act_none line)
      (while_met_marks _ _ _ (also (act_none line) (bits e t condition)) (statements e t body))
  statement e t (Y.DoOnce variable start condition body line) =
      behind (act_none line)
      (behind (assignment_none e t variable start) (once_marks e t condition line _ _ (statements e t body)))
  statement e t (Y.DoCount counter start limit step condition body line) =
      behind (act_none line)
      (behind (count_begun_none e t counter start limit step)
      (turns_mark e t counter limit (S.constant_step step) condition line _ _ (statements e (S.in_turns t) body)))
  statement e t (Y.Begin (Y.BlockOf head body)) =
      behind (act_none head.line)
      (begin_marks e head _ _ _ (statements (S.begin_environment head e) none_taken body))
  statement e t (Y.OnSystem c line) = nothing (also (act_none line) (clear refl))
  statement e t (Y.OnUnit c (Y.BlockOf head body) line) =
      behind (act_none line)
      (unit_established_marks c _ _
      (unit_marks e head _ _ _ _ (statements (S.unit_environment head e) none_taken body)))
  statement e t (Y.CallProcedure call line) = nothing (also (act_none line) (calls e t call))
  statement e t (Y.Return line) = nothing (also (act_none line) (returned_none e 0 e.owner))
  statement e t (Y.ReturnValue type source line) =
      nothing (also (act_none line) (also (values e t source) (value_returned_none e t type)))
  statement e t (Y.Goto level label line) = nothing (also (act_none line) (goto_none e level label))
  statement e t (Y.Stop line) = nothing (also (act_none line) (clear refl))
  statement e t (Y.Signal c line) = nothing (also (act_none line) (signal_none c))
  statement e t (Y.Revert c line) = nothing (also (act_none line) (clear refl))
  statement e t (Y.Allocate all line) = nothing (also (act_none line) (allocations_none e t line all))
  statement e t (Y.Free all line) = nothing (also (act_none line) (freeings_none e t all))
  statement e t (Y.Get skip pairs line) = nothing (also (act_none line) (get_none e t skip pairs))
  statement e t (Y.Put skip pairs line) = nothing (also (act_none line) (put_none e t skip pairs))

  pub statements : (e : Environment) (t : Taken) (ss : Y.Stmts)
      → Marking (S.stmts_code e t ss) (stmts_symbols e.block ss)
  statements e t (Y.EndOfList labels) = labels_marked e.block labels
  statements e t (Y.StmtThen labels first rest) =
      both (labels_marked e.block labels) (both (statement e t first) (statements e t rest))

-- ---- the law

pub statements_mark : StatementsMark
statements_mark = record { one = λ e t s. (statement e t s).told; all = λ e t ss. (statements e t ss).told }
