-- The code of statements that are proved marks the labels of their lists, each as often as it stands there, and nothing else.
use Rattle.std.proofs.Common.{◌≡◌, ℕ, zero, suc, ◌+◌, List, [], ◌∷◌, ◌++◌, map, Option, None, Some, true, false, refl, sym, ap, ◌∙◌, Bool, true, subst}
use Rattle.std.specs.Prelude.{ℤ, pos, min, neg_ℤ, int_lt, cond, ◌==◌, if◌then◌else◌}
use Rattle.rv_meaning.specs.declared.instr.Instr.TheVariants as I
use Rattle.rv_meaning.specs.declared.instr.BranchTest.TheVariants as Test
use Rattle.pli_language.specs.declared.condition.Condition.{Condition}
use Rattle.pli_language.specs.declared.condition.Condition.TheVariants as C
use Rattle.pli_typing.specs.TypedTree as Y
use Rattle.pli_meaning.specs.Control.{Label}
use Rattle.pli_coding.specs.Registers.{zero_register, stack_register, frame_register, a0, a1, a2, u0, u1, u2, a3, a4}
use Rattle.pli_coding.specs.Registers.{held}
use Rattle.pli_coding.specs.Extents.{initial_given, initial_code}
use Rattle.pli_coding.specs.StaticForms.{initial_datum}
use Rattle.pli_coding.specs.Assembly.{Datum, Symbol, Plain, BaseIn, ProcedureEntry, LabelPlace, ReturnPlace, JumpTo, CallTo, JumpAhead, JumpBack, Code, size_of}
use Rattle.pli_coding.specs.Instructions.{add, move, subtract, small, number, plus, load_word, store_word, skip_where, service, tested_service}
use Rattle.pli_coding.specs.Environments.{Owner, BlockOwner, UnitOwner, Environment, in_frame, owned_by, Taken, none_taken, block_around, with_number, save, fetch}
use Rattle.pli_coding.specs.Frames.{frame_below, own_offset, lower_top, display, fixed_size, frame_end}
use Rattle.pli_coding.specs.Frames.{temporary_bytes, words_place, name_bytes, frame_bytes, automatic_place}
use Rattle.pli_coding.specs.Frames.{last_place, is_automatic, saved_register}
use Rattle.pli_coding.specs.Entries.{registers_restored, all_saved, display_copied, display_made, frame_begun}
use Rattle.pli_coding.specs.Entries.{block_left, entered_without_texts, variables_made, variables_code, constant_made}
use Rattle.pli_coding.specs.Entries.{automatic_made, adjustable_made, all_restored, registers_saved}
use Rattle.pli_meaning.specs.DeclaredShapes.{variables_of_block}
use Rattle.pli_coding.specs.Arithmetic.{sum_code, fitted_code}
use Rattle.pli_coding.specs.Expressions.{frame_given, number_code, bit_code, text_code, call_code}
use Rattle.pli_coding.specs.Storing.{word_stored, assigned_code, record_code, record_given, first_leaf, aggregate_code}
use Rattle.pli_coding.specs.Streams.{put_pairs, get_pairs, edit_ended, skip_option}
use Rattle.pli_coding.specs.Allocating.{act_code}
use Rattle.pli_coding.specs.Statements.{if_met, while_met, once_code, in_turns, before_turns, constant_step}
use Rattle.pli_coding.specs.Statements.{limit_place, step_place, start_place, start_code, limit_code, step_kept}
use Rattle.pli_coding.specs.Statements.{step_code, start_loaded, started_code, count_begun, passed, passed_by}
use Rattle.pli_coding.specs.Statements.{limit_tested, limit_kept, while_kept, step_added, stepped_code, turn_of}
use Rattle.pli_coding.specs.Statements.{turns_code, words_behind_limit, words_behind_condition, words_back}
use Rattle.pli_coding.specs.Statements.{signal_code, unwound_to, returned_by, goto_outer, goto_code, marked}
use Rattle.pli_coding.specs.Statements.{stmt_code, stmts_code, block_words, begin_environment}
use Rattle.pli_coding.specs.Statements.{begin_code, condition_given, unit_established, unit_left, unit_variables}
use Rattle.pli_coding.specs.Statements.{owner_of_unit, unit_words, unit_mark, unit_held}
use Rattle.pli_coding.specs.Locating.{own_place, frame_found, frame_in, table_number}
use Rattle.rv_meaning.specs.declared.instr.Register.{Register}
use Rattle.pli_headline.proofs.DeclaredNames.{named_in, has_in}
use Rattle.pli_headline.proofs.Scalars.{character, varying, by_plain}
use Rattle.pli_headline.specs.ProvedSoFar.{Names, Types, IsAssigned, IsProvedNumber, IsProvedNumberIf, IsProvedBit, IsProvedBitIf, IsProvedStatement, AreProvedStatements, IsProvedStart, names_in, types_in, ArePlain, plain_variable, unit_declares, array_variable}
use Rattle.pli_headline.proofs.Stands.{Stand, stands_of, end_of, inner_stands, all_stands}
use Rattle.pli_headline.proofs.SymbolsMarked.{symbols_marked, Marks, both_mark, behind, before, either, constant_none, load_none, store_none, plus_none, overflow_none, act_none, fitted_none}
use Rattle.pli_headline.proofs.PutMarks.{pairs_none, skip_none}
use Rattle.pli_headline.proofs.GetMarks.{gets_none, get_skip_none}
use Rattle.pli_headline.proofs.Variables.{HasTypes}
use Rattle.pli_headline.proofs.OnUnits.{unit_by}
use Rattle.pli_headline.proofs.Targets.{assigned_read}
use Rattle.pli_headline.proofs.ElementsMarks.{elements_none}
use Rattle.pli_headline.proofs.TextsMarks.{texts_none}
use Rattle.pli_headline.proofs.CopiesMarks.{copies_none}
use Rattle.pli_headline.proofs.ExpressionMarks.{number_none, bit_none, assigned_none, text_stored_none, number_assigned_none, bit_assigned_none, text_none}
use Rattle.pli_headline.proofs.ArrayFrames.{held_constant}
use Rattle.pli_headline.proofs.PlainInside.{DeclaresPlain, DeclarePlain}

-- the place of a label, or of the end of a block
abbrev pub place_symbol : ℕ → Option Label → Symbol
place_symbol n (Some l) = LabelPlace n l
place_symbol n None = ReturnPlace n

abbrev pub places_of : List Stand → List Symbol
places_of ps = map (λ (p : Stand). place_symbol p.0 p.1) ps

places_append : (ps qs : List Stand) → places_of (ps ++ qs) ≡ places_of ps ++ places_of qs
places_append [] qs = refl
places_append (p ∷ ps) qs = ap (λ ss. place_symbol p.0 p.1 ∷ ss) (places_append ps qs)

marked_places : (block : ℕ) (labels : List Label) → Marks (marked block labels) (places_of (stands_of block labels))
marked_places block [] = refl
marked_places block (l ∷ ls) = ap (λ ss. LabelPlace block l ∷ ss) (marked_places block ls)

-- ---- parts of statements

signal_none : (c : Condition) → Marks (signal_code c) []
signal_none C.Area = refl
signal_none C.FixedOverflow = refl
signal_none C.ZeroDivide = refl
signal_none C.Endfile = refl
signal_none C.Error = refl

unwound_none : (level keep : ℕ) → Marks (unwound_to level keep) []
unwound_none level keep =
    behind (load_word frame_register frame_register (display level)) (load_word a0 frame_register own_offset ++ (small a1 keep ∷ service 6)) [] (load_none frame_register frame_register (display level)) refl

goto_none : (e : Environment) (level : ℕ) (label : Label) → Marks (goto_code e level label) []
goto_none e level label =
    let z : ℤ = pos (frame_end e.parts e.program (block_around e level) level) in
    let outer : Marks (goto_outer e level) [] = behind (unwound_to level 0) (plus stack_register frame_register z) [] (unwound_none level 0) (plus_none stack_register frame_register z) in
    behind (cond (level == e.level) [] (goto_outer e level)) (JumpTo (LabelPlace (block_around e level) label) ∷ []) [] (either (level == e.level) [] (goto_outer e level) refl outer) refl

return_none : (e : Environment) (owner : Owner) → Marks (returned_by e 0 owner) []
return_none e UnitOwner = refl
return_none e (BlockOwner o) =
    behind (cond (o.level == e.level) [] (unwound_to o.level 0)) (JumpTo (ReturnPlace o.number) ∷ []) [] (either (o.level == e.level) [] (unwound_to o.level 0) refl (unwound_none o.level 0)) refl

-- a call without arguments marks none
call_none : (e : Environment) (z : ℤ) (procedure level : ℕ) → Marks (plus a1 frame_register z ++ (number a2 0 ++ (frame_given e level ++ CallTo (ProcedureEntry procedure) ∷ []))) []
call_none e z procedure level =
    let call = CallTo (ProcedureEntry procedure) ∷ [] in
    let found = cond (level == e.level) [] (load_word a0 frame_register (display level)) in
    let given = move a0 (cond (level == e.level) frame_register a0) ∷ [] in
    behind (plus a1 frame_register z) (number a2 0 ++ ((found ++ given) ++ call)) [] (plus_none a1 frame_register z)
    (behind (number a2 0) ((found ++ given) ++ call) [] (constant_none a2 (pos 0))
    (behind (found ++ given) call [] (behind found given [] (either (level == e.level) [] (load_word a0 frame_register (display level)) refl (load_none a0 frame_register (display level))) refl) refl))

-- a block marks what its statements mark
copied_none : (n left : ℕ) → Marks (display_copied n left) []
copied_none n zero = store_none frame_register a0 (display n)
copied_none n (suc left) =
    let s = store_word frame_register u1 (display n) in
    behind (load_word u1 a0 (display n)) (s ++ display_copied (suc n) left) [] (load_none u1 a0 (display n))
    (behind s (display_copied (suc n) left) [] (store_none frame_register u1 (display n)) (copied_none (suc n) left))

pub display_none : (level : ℕ) → Marks (display_made level) []
display_none zero = refl
display_none (suc outer) = copied_none 0 outer

inner_begun_none : (words level : ℕ) → Marks (frame_begun words level 0 None) []
inner_begun_none words level =
    let up = plus u0 stack_register (pos (temporary_bytes words)) in
    let first = store_word u0 frame_register frame_below ++ (load_word u1 frame_register lower_top ++ (move frame_register u0 ∷ store_word frame_register u1 lower_top)) in
    let made = display_made level in
    let own = BaseIn u1 ∷ subtract u1 frame_register u1 ∷ store_word frame_register u1 own_offset in
    let raised = plus stack_register frame_register (pos (fixed_size level 0)) in
    behind up (first ++ (made ++ (own ++ raised))) [] (plus_none u0 stack_register (pos (temporary_bytes words)))
    (behind first (made ++ (own ++ raised)) [] refl
    (behind made (own ++ raised) [] (display_none level) (behind own raised [] refl (plus_none stack_register frame_register (pos (fixed_size level 0))))))

saved_none : (n left : ℕ) → Marks (registers_saved u0 n left) []
saved_none n zero = refl
saved_none n (suc left) =
    behind (store_word u0 (held n) (saved_register n)) (registers_saved u0 (suc n) left) []
    (store_none u0 (held n) (saved_register n)) (saved_none (suc n) left)

restored_none : (n left : ℕ) → Marks (registers_restored n left) []
restored_none n zero = refl
restored_none n (suc left) =
    behind (load_word (held n) frame_register (saved_register n)) (registers_restored (suc n) left) []
    (load_none (held n) frame_register (saved_register n)) (restored_none (suc n) left)

pub all_saved_none : (count : ℕ) → Marks (all_saved u0 count) []
all_saved_none count = saved_none 0 count

pub all_restored_none : (count : ℕ) → Marks (all_restored count) []
all_restored_none count = restored_none 0 count

pub called_begun_none : (words level count : ℕ) → Marks (frame_begun words level 0 (Some count)) []
called_begun_none words level count =
    let up = plus u0 stack_register (pos (temporary_bytes words)) in
    let saves = all_saved u0 count in
    let first = store_word u0 frame_register frame_below
    ++ (load_word u1 frame_register lower_top
    ++ (move frame_register u0 ∷ store_word frame_register u1 lower_top)) in
    let made = display_made level in
    let own = BaseIn u1 ∷ subtract u1 frame_register u1 ∷ store_word frame_register u1 own_offset in
    let raised = plus stack_register frame_register (pos (fixed_size level 0)) in
    behind up (saves ++ (first ++ (made ++ (own ++ raised)))) []
    (plus_none u0 stack_register (pos (temporary_bytes words)))
    (behind saves (first ++ (made ++ (own ++ raised))) [] (all_saved_none count)
    (behind first (made ++ (own ++ raised)) [] refl
    (behind made (own ++ raised) [] (display_none level)
    (behind own raised [] refl (plus_none stack_register frame_register (pos (fixed_size level 0)))))))

-- what makes a variable
given_none : (r : Register) (start : Option Datum) → Marks (initial_given r start) []
given_none r None = refl
given_none r (Some d) = refl

one_none : (e : Environment) (place : ℕ) (d : Y.DeclaredVariable) → Marks (constant_made e place d) []
one_none e place d =
    let own = own_place e a0 (pos place) in
    let named = number a1 (table_number e d) in
    let first = initial_code a2 d in
    let second = own_place e a3 (pos (place + name_bytes)) in
    let asked = small a4 0 ∷ service 7 in
    let up = plus stack_register frame_register (pos (min last_place (place + frame_bytes e.parts d))) in
    behind own (named ++ (first ++ (second ++ (asked ++ up)))) [] (own_place_none e a0 place)
    (behind named (first ++ (second ++ (asked ++ up))) [] (constant_none a1 (pos (table_number e d)))
    (behind first (second ++ (asked ++ up)) [] (given_none a2 (initial_datum d))
    (behind second (asked ++ up) [] (own_place_none e a3 (place + name_bytes))
    (behind asked up [] refl (plus_none stack_register frame_register (pos (min last_place (place + frame_bytes e.parts d))))))))
  where
    found_none : (e' : Environment) (r : Register) (q : Bool) → Marks (cond q [] (load_word r frame_register (display e'.level))) []
    found_none e' r true = refl
    found_none e' r false = load_none r frame_register (display e'.level)

    own_place_none : (e' : Environment) (r : Register) (n : ℕ) → Marks (own_place e' r (pos n)) []
    own_place_none e' r n =
        let found = frame_found e' e'.level r in
        let loaded = load_word r (frame_in e' e'.level r) own_offset in
        behind found (loaded ++ plus r r (pos n)) [] (found_none e' r (e'.level == e'.level))
        (behind loaded (plus r r (pos n)) [] (load_none r (frame_in e' e'.level r) own_offset) (plus_none r r (pos n)))

pub declared_none : (e : Environment) (line index : ℕ) (ds : List Y.DeclaredVariable) → ArePlain ds → Marks (variables_made e line index ds) []
declared_none e line index [] are = refl
declared_none e line index (d ∷ ds) are =
    let place = automatic_place e.parts e.program e.block e.level index in
    let rest = variables_made e line (suc index) ds in
    let here : (u : Y.DeclaredVariable) → Marks (constant_made e place u ++ rest) [] = λ u. behind (constant_made e place u) rest [] (one_none e place u) (declared_none e line (suc index) ds are.1) in
    by_plain (λ u. Marks ((if is_automatic u.class then automatic_made e line place u else []) ++ rest) []) (λ p i. here (plain_variable (Y.FixedLeaf p) i)) (λ i. here (plain_variable Y.BitLeaf i)) (λ n i. here (plain_variable (character n) i)) (λ n i. here (plain_variable (varying n) i))
    (λ type b bs i held are'.
    let u = array_variable type (b ∷ bs) i in
    subst (λ q. Marks ((if q then constant_made e place u else adjustable_made e line place u) ++ rest) []) (sym (held_constant type held (b ∷ bs) i)) (here u)) d are.0

begin_marks : (e : Environment) (head : Y.BlockHead) (words : ℕ) (c : Code) (ss : List Symbol) → ArePlain (variables_of_block e.program head.number) → Marks c ss → Marks (begin_code e head words c) ss
begin_marks e head words c ss declaring h =
    let e' = begin_environment head e in
    let enter = entered_without_texts 1 head.line in
    let up = plus stack_register frame_register (neg_ℤ (pos (temporary_bytes words))) in
    let below = load_word frame_register frame_register frame_below in
    let ended = block_left 0 ++ (up ++ below) in
    let made : Marks (variables_code e' head.line) [] = declared_none e' head.line 0 (variables_of_block e.program head.number) declaring in
    let frame = inner_begun_none words head.level in
    behind (frame_begun words head.level 0 None) (enter ++ (variables_code e' head.line ++ (c ++ ended))) ss frame
    (behind enter (variables_code e' head.line ++ (c ++ ended)) ss (behind (number a2 head.line) (service 4) [] (constant_none a2 (pos head.line)) refl)
    (behind (variables_code e' head.line) (c ++ ended) ss made
    (before c ended ss h (behind up below [] (plus_none stack_register frame_register (neg_ℤ (pos (temporary_bytes words)))) refl))))

-- code behind an act and a test
tested_marks : (e : Environment) (t : Taken) (block : Names) (types : Types) (condition : Y.Bit) (line : ℕ) (c : Code) (ss : List Symbol) → HasTypes e block types → IsProvedBit block types condition → Marks c ss → Marks (act_code line ++ (bit_code e t condition ++ c)) ss
tested_marks e t block types condition line c ss has is h =
    behind (act_code line) (bit_code e t condition ++ c) ss (act_none line)
    (behind (bit_code e t condition) c ss (bit_none e t block types condition has is) h)

once_marks : (e : Environment) (t : Taken) (block : Names) (types : Types) (condition : Option Y.Bit) (line : ℕ) (c : Code) (ss : List Symbol) → HasTypes e block types → IsProvedBitIf block types condition → Marks c ss → Marks (once_code e t condition line c) ss
once_marks e t block types None line c ss has is h = h
once_marks e t block types (Some x) line c ss has is h = tested_marks e t block types x line (if_met c) ss has is h

limit_none : (e : Environment) (t : Taken) (block : Names) (types : Types) (limit : Option Y.Number) → HasTypes e block types → IsProvedNumberIf block types limit → Marks (limit_code e t limit) []
limit_none e t block types None has is = refl
limit_none e t block types (Some x) has is =
    behind (number_code e (before_turns t) x) (store_word frame_register a0 (limit_place t)) [] (number_none e (before_turns t) block types x has is) (store_none frame_register a0 (limit_place t))

start_none : (e : Environment) (t : Taken) (block : Names) (types : Types) (precision : ℕ) (r : Y.Reference) (start : Y.Value) → HasTypes e block types → IsProvedStart block types start → Marks (start_code e t start) [] × Marks (started_code t (Y.NumberCounter precision r) start) []
start_none e t block types precision r (Y.NumberValue p x) has is = (
  behind (number_code e (before_turns t) x) (store_word frame_register a0 (start_place t)) [] (number_none e (before_turns t) block types x has is) (store_none frame_register a0 (start_place t)),
  behind (start_loaded t) (fitted_code (in_turns t) precision) [] (load_none a0 frame_register (start_place t)) (fitted_none (in_turns t) precision),
)
start_none e t block types precision r (Y.BitValue x) has is = (
  behind (bit_code e (before_turns t) x) (store_word frame_register a0 (start_place t)) [] (bit_none e (before_turns t) block types x has is) (store_none frame_register a0 (start_place t)),
  behind (start_loaded t) (fitted_code (in_turns t) precision) [] (load_none a0 frame_register (start_place t)) (fitted_none (in_turns t) precision),
)
start_none e t block types precision r (Y.TextValue x) has is = (
  text_none e (before_turns t) block types x has is,
  behind (small a0 0 ∷ tested_service 26) (fitted_code (in_turns t) precision) [] refl (fitted_none (in_turns t) precision),
)
start_none e t block types precision r _ has is = absurd is

step_none : (e : Environment) (t : Taken) (block : Names) (types : Types) (step : Y.Number) (fixed : Option ℤ)
    → HasTypes e block types → IsProvedNumber block types step → Marks (step_kept e t step fixed) []
step_none e t block types step None has is =
    behind (number_code e (before_turns t) step) (store_word frame_register a0 (step_place t)) []
    (number_none e (before_turns t) block types step has is) (store_none frame_register a0 (step_place t))
step_none e t block types step (Some z) has is = refl

begun_none : (e : Environment) (t : Taken) (block : Names) (types : Types) (precision : ℕ) (r : Y.Reference) (start : Y.Value) (limit : Option Y.Number) (step : Y.Number) → HasTypes e block types → IsProvedStart block types start → IsProvedNumberIf block types limit → IsProvedNumber block types step → Marks (count_begun e t (Y.NumberCounter precision r) start limit step) []
begun_none e t block types precision r start limit step has is isl iss =
    let c0 = start_code e t start in
    let c1 = limit_code e t limit in
    let c2 = step_code e t step in
    let c3 = started_code t (Y.NumberCounter precision r) start in
    let starts = start_none e t block types precision r start has is in
    behind c0 (c1 ++ (c2 ++ c3)) [] starts.0
    (behind c1 (c2 ++ c3) [] (limit_none e t block types limit has isl)
    (behind c2 c3 [] (step_none e t block types step (constant_step step) has iss) starts.1))

passed_none : (falls : Bool) (words : ℕ) → Marks (passed falls words) []
passed_none true words = refl
passed_none false words = refl

passed_by_none : (t : Taken) (fixed : Option ℤ) (words : ℕ) → Marks (passed_by t fixed words) []
passed_by_none t None words =
    behind (load_word u2 frame_register (step_place t)) _ [] (load_none u2 frame_register (step_place t)) refl
passed_by_none t (Some z) words = passed_none (int_lt z (pos 0)) words

tested_none : (t : Taken) (fixed : Option ℤ) (words : ℕ) → Marks (limit_tested t fixed words) []
tested_none t fixed words =
    behind (load_word u1 frame_register (limit_place t)) (passed_by t fixed words) []
    (load_none u1 frame_register (limit_place t)) (passed_by_none t fixed words)

kept_none : (e : Environment) (t : Taken) (block : Names) (types : Types) (precision : ℕ) (r : Y.Reference) (limit :
    Option Y.Number) (fixed : Option ℤ) (words : ℕ) → HasTypes e block types
    → IsAssigned block types (Y.FixedLeaf precision) r
    → Marks (limit_kept e t (Y.NumberCounter precision r) limit fixed words) []
kept_none e t block types precision r None fixed words has is = refl
kept_none e t block types precision r (Some x) fixed words has is =
    behind (number_code e (in_turns t) (Y.NumberIn r)) (limit_tested t fixed words) []
    (number_none e (in_turns t) block types (Y.NumberIn r) has (assigned_read block types precision r is))
    (tested_none t fixed words)

condition_none : (e : Environment) (t : Taken) (block : Names) (types : Types) (condition : Option Y.Bit) (words : ℕ) → HasTypes e block types → IsProvedBitIf block types condition → Marks (while_kept e t condition words) []
condition_none e t block types None words has is = refl
condition_none e t block types (Some x) words has is =
    behind (bit_code e (in_turns t) x) (skip_where Test.NotEqual a0 zero_register (JumpAhead words ∷ [])) [] (bit_none e (in_turns t) block types x has is) refl

added_none : (t : Taken) (fixed : Option ℤ) → Marks (step_added t fixed) []
added_none t None =
    behind (load_word a0 frame_register (step_place t)) (sum_code (in_turns t)) []
    (load_none a0 frame_register (step_place t)) (overflow_none (in_turns t))
added_none t (Some z) = behind (plus a0 u1 z) _ [] (plus_none a0 u1 z) (overflow_none (in_turns t))

stepped_none : (e : Environment) (t : Taken) (block : Names) (types : Types) (precision : ℕ) (r :
    Y.Reference) (fixed : Option ℤ) (line : ℕ) → HasTypes e block types
    → IsAssigned block types (Y.FixedLeaf precision) r
    → Marks (stepped_code e t (Y.NumberCounter precision r) fixed line) []
stepped_none e t block types precision r fixed line has is =
    let read = number_code e (in_turns t) (Y.NumberIn r) in
    let added = step_added t fixed in
    let last = fitted_code (in_turns t) precision in
    behind (number a0 line) (small a1 1 ∷ (service 1 ++ (read ++ (added ++ last)))) [] (constant_none a0 (pos line))
    (behind read (added ++ last) [] (number_none e (in_turns t) block types (Y.NumberIn r) has
    (assigned_read block types precision r is))
    (behind added last [] (added_none t fixed) (fitted_none (in_turns t) precision)))

turns_mark : (e : Environment) (t : Taken) (block : Names) (types : Types) (precision : ℕ) (r : Y.Reference) (limit :
    Option Y.Number) (fixed : Option ℤ) (condition : Option Y.Bit) (line : ℕ) (c : Code) (ss : List Symbol)
    → HasTypes e block types → IsAssigned block types (Y.FixedLeaf precision) r → IsProvedBitIf block types condition
    → Marks c ss → Marks (turns_code (turn_of e t (Y.NumberCounter precision r) limit fixed condition line c)) ss
turns_mark e t block types precision r limit fixed condition line c ss has target isc h =
    let u = turn_of e t (Y.NumberCounter precision r) limit fixed condition line c in
    let st = word_stored e (in_turns t) r in
    let lim = limit_kept e t (Y.NumberCounter precision r) limit fixed (words_behind_limit u) in
    let con = while_kept e t condition (words_behind_condition u) in
    let sp = stepped_code e t (Y.NumberCounter precision r) fixed line in
    let jump = JumpBack (words_back u) ∷ [] in
    behind (st ++ act_code line) (lim ++ (con ++ (c ++ (sp ++ jump)))) ss (behind st (act_code line) [] (assigned_none e (in_turns t) block types (Y.FixedLeaf precision) r tt has target) (act_none line))
    (behind lim (con ++ (c ++ (sp ++ jump))) ss
    (kept_none e t block types precision r limit fixed (words_behind_limit u) has target)
    (behind con (c ++ (sp ++ jump)) ss (condition_none e t block types condition (words_behind_condition u) has isc)
    (before c (sp ++ jump) ss h (behind sp jump [] (stepped_none e t block types precision r fixed line has target)
    refl))))

-- ---- on-units

unit_left_none : (words count : ℕ) → Marks (unit_left words count) []
unit_left_none words count =
    let z : ℤ = neg_ℤ (pos (temporary_bytes words)) in
    let up = plus stack_register frame_register z in
    let below = load_word frame_register frame_register frame_below in
    let last = BaseIn u0 ∷ add u0 u0 a0 ∷ Plain (I.JumpRegister zero_register u0 (pos 0)) ∷ [] in
    behind (service 31) (registers_restored 0 count ++ ((up ++ below) ++ last)) [] refl
    (behind (registers_restored 0 count) ((up ++ below) ++ last) [] (restored_none 0 count)
    (behind (up ++ below) last [] (behind up below [] (plus_none stack_register frame_register z) refl) refl))

-- its variables are declared
unit_has : (e : Environment) (block : Names) (types : Types) (head : Y.BlockHead) (kind : Y.BlockKind) → block.program ≡ e.program → ArePlain (unit_declares e.program head kind) → HasTypes e block types → HasTypes e (names_in block types head (unit_declares block.program head kind)) (types_in types (unit_declares block.program head kind))
unit_has e block types head Y.SimpleUnit named are has = has
unit_has e block types head Y.UnitBlock named are has = has_in e block types head named are has
unit_has e block types head Y.ProcedureBlock named are has = has_in e block types head named are has
unit_has e block types head Y.BeginBlock named are has = has_in e block types head named are has

-- a unit marks what its statements mark, and its end where it is a block
made_none : (e : Environment) (head : Y.BlockHead) (kind : Y.BlockKind) → ArePlain (unit_declares e.program head kind) → e.block ≡ head.number → Marks (unit_variables e head kind) []
made_none e head Y.SimpleUnit are same = refl
made_none e head Y.UnitBlock are same = ap (λ n. symbols_marked (variables_made e head.line 0 (variables_of_block e.program n))) same ∙ declared_none e head.line 0 (variables_of_block e.program head.number) are
made_none e head Y.ProcedureBlock are same = ap (λ n. symbols_marked (variables_made e head.line 0 (variables_of_block e.program n))) same ∙ declared_none e head.line 0 (variables_of_block e.program head.number) are
made_none e head Y.BeginBlock are same = ap (λ n. symbols_marked (variables_made e head.line 0 (variables_of_block e.program n))) same ∙ declared_none e head.line 0 (variables_of_block e.program head.number) are

mark_marks : (head : Y.BlockHead) (kind : Y.BlockKind) → Marks (unit_mark head kind) (places_of (end_of head kind))
mark_marks head Y.SimpleUnit = refl
mark_marks head Y.UnitBlock = refl
mark_marks head Y.ProcedureBlock = refl
mark_marks head Y.BeginBlock = refl

unit_marks : (e : Environment) (head : Y.BlockHead) (body : Y.Stmts) → ArePlain (unit_declares e.program head head.kind) → Marks (stmts_code (owned_by (owner_of_unit head head.kind) (in_frame head.number head.level e)) none_taken body) (places_of (all_stands head.number body)) → Marks (unit_by e head body head.kind head.level) (places_of (all_stands head.number body ++ end_of head head.kind))
unit_marks e head body are marks =
    let e' = owned_by (owner_of_unit head head.kind) (in_frame head.number head.level e) in
    let c = stmts_code e' none_taken body in
    let words = unit_words e head head.kind body in
    let count = unit_held e head head.kind body in
    let frame = frame_begun words head.level 0 (Some count) in
    let enter = entered_without_texts 2 head.line in
    let made = unit_variables e' head head.kind in
    let act = act_code head.line in
    let mark = unit_mark head head.kind in
    let left' = unit_left words count in
    let ss = places_of (all_stands head.number body) in
    let ends = places_of (end_of head head.kind) in
    let both : Marks (c ++ (mark ++ left')) (ss ++ ends) =
    both_mark c (mark ++ left') ss ends marks
    (before mark left' ends (mark_marks head head.kind) (unit_left_none words count)) in
    behind frame (enter ++ (made ++ (act ++ (c ++ (mark ++ left'))))) (ss ++ ends)
    (called_begun_none words head.level count)
    (behind enter (made ++ (act ++ (c ++ (mark ++ left')))) (ss ++ ends) (behind (number a2 head.line) (service 4) [] (constant_none a2 (pos head.line)) refl)
    (behind made (act ++ (c ++ (mark ++ left'))) (ss ++ ends) (made_none e' head head.kind are refl)
    (behind act (c ++ (mark ++ left')) (ss ++ ends) (act_none head.line) both)))
    ∙ sym (places_append (all_stands head.number body) (end_of head head.kind))

-- ---- the statements

mutual
  pub statement_marks : (e : Environment) (t : Taken) (block : Names) (types : Types) (x : Y.Stmt) → block.program ≡ e.program → HasTypes e block types → IsProvedStatement block types x → DeclaresPlain e.program x → Marks (stmt_code e t x) (places_of (inner_stands e.block x))
  statement_marks e t block types (Y.Null line) named has is bare = act_none line
  statement_marks e t block types (Y.Assign target (Y.StoredNumber precision x) line) named has is bare =
      behind (act_code line) (assigned_code e t target (Y.StoredNumber precision x)) [] (act_none line) (number_assigned_none e t block types precision target x has is.0 is.1.0)
  statement_marks e t block types (Y.Assign target (Y.StoredBit x) line) named has is bare =
      behind (act_code line) (assigned_code e t target (Y.StoredBit x)) [] (act_none line) (bit_assigned_none e t block types target x has is.0 is.1.0)
  statement_marks e t block types (Y.Assign target (Y.StoredText x) line) named has is bare =
      behind (act_code line) (assigned_code e t target (Y.StoredText x)) [] (act_none line) (text_stored_none e t block types target x has is.0 is.1.0)
  statement_marks e t block types (Y.AssignElements target (Y.StoredNumber precision x) line) named has is bare =
      let value = number_code e t x ++ fitted_code t precision in
      let into = save a0 t ++ (record_code e (with_number t) target ++ (record_given e (with_number t) ++ (number a1 (first_leaf target) ++ (fetch a2 t ++ service 41)))) in
      behind (act_code line) (value ++ into) [] (act_none line)
      (behind value into [] (behind (number_code e t x) (fitted_code t precision) [] (number_none e t block types x has is.1.0) (fitted_none t precision)) (elements_none e t block types (Y.FixedLeaf precision) target tt has is.0))
  statement_marks e t block types (Y.AssignElements target (Y.StoredBit x) line) named has is bare =
      let into = save a0 t ++ (record_code e (with_number t) target ++ (record_given e (with_number t) ++ (number a1 (first_leaf target) ++ (fetch a2 t ++ service 41)))) in
      behind (act_code line) (bit_code e t x ++ into) [] (act_none line)
      (behind (bit_code e t x) into [] (bit_none e t block types x has is.1.0) (elements_none e t block types Y.BitLeaf target tt has is.0))
  statement_marks e t block types (Y.AssignElements target (Y.StoredText x) line) named has is bare =
      let into = record_code e t target ++ (record_given e t ++ (number a1 (first_leaf target) ++ service 41)) in
      behind (act_code line) (text_code e t x ++ into) [] (act_none line)
      (behind (text_code e t x) into [] (text_none e t block types x has is.1.0) (texts_none e t block types target has is.0))
  statement_marks e t block types (Y.AssignAggregate target source line) named has is bare =
      behind (act_code line) (aggregate_code e t target source) [] (act_none line) (copies_none e t block types target source has is.0)
  statement_marks e t block types (Y.If condition unit line) named has is bare =
      tested_marks e t block types condition line (if_met (stmt_code e t unit)) (places_of (inner_stands e.block unit)) has is.0 (statement_marks e t block types unit named has is.1.0 bare)
  statement_marks e t block types (Y.IfElse condition unit otherwise line) named has is bare =
      let c = stmt_code e t unit in
      let d = stmt_code e t otherwise in
      let over = JumpAhead (size_of d) ∷ [] in
      let ls = places_of (inner_stands e.block unit) in
      let ms = places_of (inner_stands e.block otherwise) in
      tested_marks e t block types condition line (if_met (c ++ over) ++ d) (places_of (inner_stands e.block unit ++ inner_stands e.block otherwise)) has is.0
      (both_mark (c ++ over) d ls ms (before c over ls (statement_marks e t block types unit named has is.1.0 bare.0) refl) (statement_marks e t block types otherwise named has is.1.1.0 bare.1)
      ∙ sym (places_append (inner_stands e.block unit) (inner_stands e.block otherwise)))
  statement_marks e t block types (Y.Do body line) named has is bare =
      behind (act_code line) (stmts_code e t body) (places_of (all_stands e.block body)) (act_none line) (statements_mark e t block types body named has is.0 bare)
  statement_marks e t block types (Y.DoWhile condition body line) named has is bare =
      let test = act_code line ++ bit_code e t condition in
      let c = stmts_code e t body in
      let jump = JumpBack (size_of test + (3 + size_of c)) ∷ [] in
      let ls = places_of (all_stands e.block body) in
      behind (act_code line) (while_met test c) ls (act_none line)
      (behind test (if_met (c ++ jump)) ls (behind (act_code line) (bit_code e t condition) [] (act_none line) (bit_none e t block types condition has is.0))
      (before c jump ls (statements_mark e t block types body named has is.1.0 bare) refl))
  statement_marks e t block types (Y.DoOnce target (Y.StoredNumber precision x) condition body line) named has is bare =
      let stored' = assigned_code e t target (Y.StoredNumber precision x) in
      let c = stmts_code e t body in
      let rest = once_code e t condition line c in
      let ls = places_of (all_stands e.block body) in
      behind (act_code line) (stored' ++ rest) ls (act_none line)
      (behind stored' rest ls (number_assigned_none e t block types precision target x has is.0.0 is.0.1)
      (once_marks e t block types condition line c ls has is.1.0 (statements_mark e t block types body named has is.1.1.0 bare)))
  statement_marks e t block types (Y.DoOnce target (Y.StoredBit x) condition body line) named has is bare =
      let stored' = assigned_code e t target (Y.StoredBit x) in
      let c = stmts_code e t body in
      let rest = once_code e t condition line c in
      let ls = places_of (all_stands e.block body) in
      behind (act_code line) (stored' ++ rest) ls (act_none line)
      (behind stored' rest ls (bit_assigned_none e t block types target x has is.0.0 is.0.1)
      (once_marks e t block types condition line c ls has is.1.0 (statements_mark e t block types body named has is.1.1.0 bare)))
  statement_marks e t block types (Y.DoOnce target (Y.StoredText x) condition body line) named has is bare =
      let stored' = assigned_code e t target (Y.StoredText x) in
      let c = stmts_code e t body in
      let rest = once_code e t condition line c in
      let ls = places_of (all_stands e.block body) in
      behind (act_code line) (stored' ++ rest) ls (act_none line)
      (behind stored' rest ls (text_stored_none e t block types target x has is.0.0 is.0.1)
      (once_marks e t block types condition line c ls has is.1.0 (statements_mark e t block types body named has is.1.1.0 bare)))
  statement_marks e t block types (Y.DoCount (Y.NumberCounter precision target) start limit step condition body line) named has is bare =
      let counter = Y.NumberCounter precision target in
      let ahead = count_begun e t counter start limit step in
      let c = stmts_code e (in_turns t) body in
      let turns' = turns_code (turn_of e t counter limit (constant_step step) condition line c) in
      let ls = places_of (all_stands e.block body) in
      behind (act_code line) (ahead ++ turns') ls (act_none line)
      (behind ahead turns' ls (begun_none e t block types precision target start limit step has is.0.1 is.1.0.0 is.1.0.1)
      (turns_mark e t block types precision target limit (constant_step step) condition line c ls has is.0.0 is.1.1.0
      (statements_mark e (in_turns t) block types body named has is.1.1.1.0 bare)))
  statement_marks e t block types (Y.Begin (Y.BlockOf head body)) named has is bare =
      let e' = begin_environment head e in
      let c = stmts_code e' none_taken body in
      let words = block_words e head.number body in
      let ss = places_of (all_stands head.number body) in
      behind (act_code head.line) (begin_code e head words c) ss (act_none head.line) (begin_marks e head words c ss bare.0 (statements_mark e' none_taken (names_in block types head (variables_of_block block.program head.number)) (types_in types (variables_of_block block.program head.number)) body (named_in block types head (variables_of_block block.program head.number) named) (has_in e block types head named bare.0 has) is.1.1 bare.1))
  statement_marks e t block types (Y.CallProcedure (Y.Calling procedure level Y.NoArgument) line) named has is bare =
      behind (act_code line) (call_code e t (Y.Calling procedure level Y.NoArgument)) [] (act_none line) (call_none e (words_place t.words 0) procedure level)
  statement_marks e t block types (Y.Return line) named has is bare =
      behind (act_code line) (returned_by e 0 e.owner) [] (act_none line) (return_none e e.owner)
  statement_marks e t block types (Y.Goto level label line) named has is bare =
      behind (act_code line) (goto_code e level label) [] (act_none line) (goto_none e level label)
  statement_marks e t block types (Y.Stop line) named has is bare =
      before (act_code line) (small a0 1 ∷ small a1 0 ∷ service 2) [] (act_none line) refl
  statement_marks e t block types (Y.Signal condition line) named has is bare =
      behind (act_code line) (signal_code condition) [] (act_none line) (signal_none condition)
  statement_marks e t block types (Y.OnSystem condition line) named has is bare =
      before (act_code line) (condition_given condition ∷ small a1 0 ∷ service 28) [] (act_none line) refl
  statement_marks e t block types (Y.Revert condition line) named has is bare =
      before (act_code line) (condition_given condition ∷ service 29) [] (act_none line) refl
  statement_marks e t block types (Y.OnUnit condition (Y.BlockOf head body) line) named has is bare =
      let e' = owned_by (owner_of_unit head head.kind) (in_frame head.number head.level e) in
      let unit = unit_by e head body head.kind head.level in
      behind (act_code line) (unit_established condition unit) (places_of (all_stands head.number body ++ end_of head head.kind)) (act_none line)
      (unit_marks e head body bare.0
      (statements_mark e' none_taken (names_in block types head (unit_declares block.program head head.kind)) (types_in types (unit_declares block.program head head.kind)) body
      (named_in block types head (unit_declares block.program head head.kind) named) (unit_has e block types head head.kind named bare.0 has) is.1.1.1.1 bare.1))
  statement_marks e t block types (Y.Put None pairs line) named has is bare =
      behind (act_code line) (put_pairs e t pairs) [] (act_none line) (pairs_none e t block types pairs has is.0)
  statement_marks e t block types (Y.Put (Some n) pairs line) named has is bare =
      behind (act_code line) (skip_option 1 (Some n) ++ put_pairs e t pairs) [] (act_none line)
      (behind (skip_option 1 (Some n)) (put_pairs e t pairs) [] (skip_none n) (pairs_none e t block types pairs has is.1.0))
  statement_marks e t block types (Y.Get None pairs line) named has is bare =
      behind (act_code line) (get_pairs e t pairs ++ edit_ended) [] (act_none line) (gets_none e t block types pairs has is.0)
  statement_marks e t block types (Y.Get (Some n) pairs line) named has is bare =
      let got = get_pairs e t pairs ++ edit_ended in
      behind (act_code line) (skip_option 0 (Some n) ++ got) [] (act_none line) (behind (skip_option 0 (Some n)) got [] (get_skip_none n) (gets_none e t block types pairs has is.1.0))
  statement_marks e t block types _ named has is bare = absurd is

  pub statements_mark : (e : Environment) (t : Taken) (block : Names) (types : Types) (body : Y.Stmts) → block.program ≡ e.program → HasTypes e block types → AreProvedStatements block types body → DeclarePlain e.program body → Marks (stmts_code e t body) (places_of (all_stands e.block body))
  statements_mark e t block types (Y.EndOfList labels) named has are bare = marked_places e.block labels
  statements_mark e t block types (Y.StmtThen labels first rest) named has are bare =
      let c = stmt_code e t first in
      let d = stmts_code e t rest in
      let marks = stands_of e.block labels in
      let ls = inner_stands e.block first in
      let ms = all_stands e.block rest in
      both_mark (marked e.block labels) (c ++ d) (places_of marks) (places_of ls ++ places_of ms) (marked_places e.block labels)
      (both_mark c d (places_of ls) (places_of ms) (statement_marks e t block types first named has are.0 bare.0) (statements_mark e t block types rest named has are.1 bare.1))
      ∙ ap (λ ss. places_of marks ++ ss) (sym (places_append ls ms))
      ∙ sym (places_append marks (ls ++ ms))
