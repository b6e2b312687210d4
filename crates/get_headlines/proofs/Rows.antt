-- The worked row: all that is premised of the program is computed.
use Rattle.std.proofs.Common.{◌≡◌, ℕ, suc, ◌+◌, ◌^◌, ◌<◌, ◌≤◌, List, [], ◌∷◌, inl, inr, length, map}
use Rattle.std.proofs.Common.{Some, refl, arith}
use Rattle.std.specs.Prelude.{ℤ}
use Rattle.pli_language.specs.declared.condition.Condition.TheVariants as C
use Rattle.pli_language.specs.Formats as L
use Rattle.pli_language.specs.Tree as T
use Rattle.pli_typing.specs.TypedTree as Y
use Rattle.pli_meaning.specs.declared.outcome.End.TheVariants as E
use Rattle.pli_meaning.specs.Control as F
use Rattle.pli_meaning.specs.Control.{Label}
use Rattle.pli_meaning.specs.Evaluating as V
use Rattle.pli_meaning.specs.Executing as M
use Rattle.pli_meaning.specs.Making as K
use Rattle.pli_meaning.specs.Pictures.{first_bytes}
use Rattle.pli_meaning.specs.Placing as P
use Rattle.pli_meaning.specs.Raising as R
use Rattle.pli_meaning.specs.Streaming as S
use Rattle.pli_serving.specs.ServiceState.{EditPlace}
use Rattle.pli_serving.specs.Templates.{template_of}
use Rattle.pli_coding.specs.Assembly.{CallTo, ProcedureEntry, size_of}
use Rattle.pli_coding.specs.Images.{first_frame, linked_code, picture_of}
use Rattle.pli_coding.specs.Linking.{links_of}
use Rattle.pli_coding.specs.SignatureTable.{table_of}
use Rattle.pli_coding.specs.StaticForms.{formats_datum}
use Rattle.storage_relation.specs.Served.{AllDiffer}
use Rattle.run_steps.specs.DataNamed.{IsPlaced}
use Rattle.run_steps.proofs.Jumps.{back_of, first_of, rest_of}
use Rattle.run_steps.proofs.Linking.{linked_length}
use Rattle.pli_headline.specs.Headline.{FitsMemory, parts}
use Rattle.pli_headline.specs.ProvedSoFar.{AreProvedFormats, HasData}
use Rattle.pli_headline.proofs.WholeSizes.{first_length}
use Rattle.program_places.specs.Constants.{constants_in}
use Rattle.program_places.specs.Programs.{Run, image_for}
use Rattle.program_runs.specs.Calls.{block_at, body_index, left_over}
use Rattle.program_runs.specs.Programs.{IsWhole, Whole, main_of}
use Rattle.program_runs.specs.Starts.{Image, image_parts, main_called, no_numbers, start_of, start_point}
use Rattle.program_runs.specs.Starts.{surroundings_of}
use Rattle.program_runs.specs.Statements.{Block, EachDoes, IsBegun, StandAt}
use Rattle.program_runs.specs.Variables.{Declared}
use Rattle.program_runs.proofs.Gotos.{goto_does}
use Rattle.program_runs.proofs.VariableRows.{differs_alone, number_valued}
use Rattle.expression_runs.specs.Assignments.{IsAssignment, assignment, setting_of}
use Rattle.expression_runs.specs.Laws as D
use Rattle.expression_runs.specs.Raises.{IsUnraised, Routines}
use Rattle.expression_runs.specs.Values.{Setting}
use Rattle.expression_runs.specs.Variables.{IsNumber}
use Rattle.expression_runs.proofs.Assignments.{assign_does}
use Rattle.expression_runs.proofs.Operands.{constant_does}
use Rattle.expression_runs.proofs.Raises.{overflow_ends}
use Rattle.expression_runs.proofs.Rows.{one_label_stands}
use Rattle.expression_runs.proofs.Sums.{sum_does}
use Rattle.expression_runs.proofs.VariablePoints.{variable_does}
use Rattle.variable_runs.specs.Lists.{AreAll, newest_all}
use Rattle.variable_runs.proofs.Known.{known_number, known_own}
use Rattle.variable_runs.proofs.Lists.{all_procedure}
use Rattle.test_runs.specs.Tests.{Tests}
use Rattle.test_runs.proofs.Bits.{numbers_tests}
use Rattle.test_runs.proofs.Ifs.{met_does}
use Rattle.text_runs.specs.Texts.{IsErrorless}
use Rattle.text_runs.proofs.Errors.{error_ends}
use Rattle.edit_runs.specs.Edits.{IsFixed, IsPut, KnowsFormats, placing, within}
use Rattle.edit_runs.proofs.DataPuts.{put_does}
use Rattle.edit_runs.proofs.Places.{begun_placed, errorless_placed, number_placed}
use Rattle.edit_headlines.proofs.Formats.{list_placed}
use Rattle.get_runs.specs.Gets.{IsGet, IsUnread}
use Rattle.get_runs.proofs.Ends.{endfile_ends}
use Rattle.get_runs.proofs.Gets.{get_does}
use Rattle.get_runs.proofs.Storing.{number_target}
use Rattle.block_headlines.specs.Headlines.{Layout, Runs}
use Rattle.block_headlines.proofs.Constants.{constants_stand, main_of_program}
use Rattle.block_headlines.proofs.JumpRuns.{fits}
use Rattle.get_headlines.specs.Rows.{is_small, of_width, read_declared, read_number, read_spot, sum_back, sum_body}
use Rattle.get_headlines.specs.Rows.{sum_both, sum_declared, sum_entry, sum_environment, sum_get, sum_label, sum_main}
use Rattle.get_headlines.specs.Rows.{sum_number, sum_program, sum_put, sum_spot}
use Rattle.get_headlines.proofs.Placed.{StandsAt, added_index, added_linked, again_index, again_linked, back_index}
use Rattle.get_headlines.proofs.Placed.{back_linked, coded, first_linked, main_linked, raise_linked, read_index}
use Rattle.get_headlines.proofs.Placed.{read_linked, start_linked, sum_code, sum_finish, sum_start, written_index}
use Rattle.get_headlines.proofs.Placed.{written_linked}

-- ---- its image

sum_fits : FitsMemory (picture_of parts sum_program)
sum_fits = fits sum_program (omega arith) (omega arith)

abbrev run_of : (input : List ℕ) → (acts : ℕ) → Run
run_of input acts = record { units = []; input = input; acts = acts; serials = 2 }

abbrev sum_image : (input : List ℕ) → (acts : ℕ) → Image
sum_image input acts = image_for sum_program (run_of input acts)

abbrev sum_variables : List Declared
sum_variables = read_declared ∷ sum_declared ∷ []

abbrev sum_whole : (input : List ℕ) → (acts : ℕ) → Whole
sum_whole input acts =
    record {
      image = sum_image input acts;
      program = sum_program;
      main = sum_main;
      others = [];
      environment = sum_environment;
      entry = sum_entry;
      end = sum_finish;
      made = newest_all image_parts sum_variables;
    }

-- ---- its variables

one_differs : AllDiffer (map template_of (table_of sum_program))
one_differs = differs_alone (map template_of (table_of sum_program)) _ refl refl

sum_all :
    (input : List ℕ) (acts : ℕ) →
    AreAll (surroundings_of (sum_image input acts)) (main_of (sum_whole input acts))
    (start_point (sum_image input acts)) no_numbers sum_variables
sum_all input acts =
    let n = linked_length (links_of sum_code) 0 sum_code in
    record {
      kind = refl;
      those = inl (refl, refl, inl (refl, refl, tt));
      listed = (
        record { class = refl; evaluations = refl; late = omega arith; table = refl },
        (record { class = refl; evaluations = refl; late = omega arith; table = refl }, tt),
      );
      code = refl;
      made = refl;
      parts = refl;
      few = omega arith;
      declared = (
        inl (record {
          newest = refl;
          here = refl;
          holds = omega arith;
          size = omega arith;
          fits = omega arith;
          even = refl;
          low = omega (arith, n);
          shape = refl;
          number = omega arith;
          initial = refl;
          none = refl;
          plain = refl;
          fixed = refl;
          values = (tt, tt);
          valued = number_valued;
          limit = refl;
        }),
        (
          inl (record {
            newest = refl;
            here = refl;
            holds = omega arith;
            size = omega arith;
            fits = omega arith;
            even = refl;
            low = omega (arith, n);
            shape = refl;
            number = omega arith;
            initial = refl;
            none = refl;
            plain = refl;
            fixed = refl;
            values = (tt, tt);
            valued = number_valued;
            limit = refl;
          }),
          tt,
        ),
      );
    }

abbrev pub sum_block : (input : List ℕ) → (acts : ℕ) → Block
sum_block input acts =
    block_at (surroundings_of (sum_image input acts)) (linked_code sum_code) (main_of (sum_whole input acts))
    (start_point (sum_image input acts)) no_numbers

read_known : (input : List ℕ) (acts : ℕ) → IsBegun (sum_block input acts) → IsNumber (sum_block input acts) read_spot
read_known input acts b =
    known_number (sum_block input acts) read_spot []
    (known_own (surroundings_of (sum_image input acts)) (linked_code sum_code) (main_of (sum_whole input acts))
    (start_point (sum_image input acts)) no_numbers sum_variables read_declared read_spot
    (record { high = omega arith; inside = omega arith }) (sum_all input acts) (inl refl)
    (record { declared = refl; index = refl; level = refl; own = refl; place = refl }) b)

sum_known : (input : List ℕ) (acts : ℕ) → IsBegun (sum_block input acts) → IsNumber (sum_block input acts) sum_spot
sum_known input acts b =
    known_number (sum_block input acts) sum_spot []
    (known_own (surroundings_of (sum_image input acts)) (linked_code sum_code) (main_of (sum_whole input acts))
    (start_point (sum_image input acts)) no_numbers sum_variables sum_declared sum_spot
    (record { high = omega arith; inside = omega arith }) (sum_all input acts) (inr (inl refl))
    (record { declared = refl; index = refl; level = refl; own = refl; place = refl }) b)

-- ---- its raises

abbrev labels : List Label
labels = sum_label ∷ []

abbrev setting : (input : List ℕ) → (acts line : ℕ) → Setting
setting input acts line = setting_of (sum_block input acts) labels line 100

routines : Routines (links_of sum_code) (linked_code sum_code)
routines = record { at = size_of (start_of 0); linked = raise_linked; condition = refl; end = omega arith }

unraised : (input : List ℕ) (acts line : ℕ) → acts + 1 < 2 ^ 64 → IsUnraised (setting input acts line)
unraised input acts line few =
    record {
      routines = record { at = size_of (start_of 0); linked = raise_linked; condition = refl; end = omega arith };
      overflow = tt;
      error = tt;
      acts = few;
      most = omega arith;
    }

errorless : (input : List ℕ) (acts line : ℕ) → acts + 1 < 2 ^ 64 → IsErrorless (setting input acts line)
errorless input acts line few =
    record {
      routines = record { at = size_of (start_of 0); linked = raise_linked; condition = refl; end = omega arith };
      raises = refl;
      error = tt;
      acts = few;
      most = omega arith;
    }

unread :
    (input : List ℕ) (acts line : ℕ) (place : EditPlace) → acts + 1 < 2 ^ 64 →
    IsUnread (within place (setting input acts line))
unread input acts line place few =
    record {
      routines = record { at = size_of (start_of 0); linked = raise_linked; condition = refl; end = omega arith };
      endfile = tt;
      error = tt;
      acts = few;
      most = omega arith;
    }

-- ---- its format lists are found at each point

formats_known :
    (input : List ℕ) (acts : ℕ) (fs : T.Formats) → IsBegun (sum_block input acts) → AreProvedFormats fs → HasData fs →
    IsPlaced (formats_datum fs) (links_of sum_code).data' → KnowsFormats (sum_block input acts) fs
formats_known input acts fs b are has placed =
    list_placed sum_program (sum_block input acts) fs sum_fits
    (main_of_program sum_program (run_of input acts) (sum_block input acts) refl refl refl b) are has placed

read_formats : (input : List ℕ) (acts : ℕ) → IsBegun (sum_block input acts) → KnowsFormats (sum_block input acts)
    (of_width 4 3)
unfolding L.formats_move_data
read_formats input acts b =
    formats_known input acts (of_width 4 3) b ((omega arith, omega arith), ((omega arith, omega arith), tt)) refl refl

written_formats :
    (input : List ℕ) (acts : ℕ) → IsBegun (sum_block input acts) → KnowsFormats (sum_block input acts) (of_width 6 5)
unfolding L.formats_move_data
written_formats input acts b =
    formats_known input acts (of_width 6 5) b ((omega arith, omega arith), ((omega arith, omega arith), tt)) refl refl

-- ---- its statements

get_is :
    (input : List ℕ) (acts : ℕ) → acts + 1 < 2 ^ 64 → IsBegun (sum_block input acts) →
    IsGet 0 (sum_block input acts) labels sum_get read_index 0 100
get_is input acts few b =
    let n = linked_length (links_of sum_code) 0 sum_code in
    record {
      act = record { line_fits = omega arith; acts = few };
      skip = tt;
      lists = ((record { fixed = refl; text = refl; some = refl }, read_formats input acts b), tt);
      registers = omega arith;
      held = omega arith;
      endfile = λ place. endfile_ends (within place (setting input acts 4)) (unread input acts 4 place few);
      error = λ place.
          error_ends ℤ (within place (setting input acts 4))
          (errorless_placed (setting input acts 4) place (errorless input acts 4 few));
      statement = read_linked;
      paid = omega (arith, n);
    }

put_is :
    (input : List ℕ) (acts : ℕ) → acts + 1 < 2 ^ 64 → IsBegun (sum_block input acts) →
    IsPut 0 (sum_block input acts) labels sum_put written_index 0 100
put_is input acts few b =
    let n = linked_length (links_of sum_code) 0 sum_code in
    record {
      act = record { line_fits = omega arith; acts = few };
      skip = tt;
      lists = ((record { fixed = refl; text = refl; are = tt; some = refl }, written_formats input acts b), tt);
      registers = omega arith;
      one = omega arith;
      held = omega arith;
      error = λ place.
          error_ends (List ℕ) (within place (setting input acts 6))
          (errorless_placed (setting input acts 6) place (errorless input acts 6 few));
      statement = written_linked;
      paid = omega (arith, n);
    }

assigns :
    (input : List ℕ) (acts line index need : ℕ) (source : Y.Number) → acts + 1 < 2 ^ 64 →
    IsBegun (sum_block input acts) → line < 2 ^ 31 → need ≤ 1 → StandsAt index (coded (assignment sum_spot source
    line)) →
    size_of (coded (assignment sum_spot source line)) + 100 ≤ length (linked_code sum_code) →
    IsAssignment (sum_block input acts) sum_spot source line index need 100
assigns input acts line index need source few b low room l paid =
    record {
      act = record { line_fits = low; acts = few };
      begun = b;
      number = sum_known input acts b;
      registers = omega (arith, room);
      held = omega arith;
      statement = l;
      paid = omega (arith, paid);
    }

small_tests : (input : List ℕ) (acts : ℕ) → IsBegun (sum_block input acts) → Tests (setting input acts 7) 1 is_small
small_tests input acts b =
    let k = setting input acts 7 in
    numbers_tests k Y.IsLess sum_number (Y.NumberConstant 100) 0 0
    (variable_does k sum_spot b (sum_known input acts b)) (constant_does k 100 (omega arith))

sum_each :
    (input : List ℕ) (acts : ℕ) → acts + 1 < 2 ^ 64 → IsBegun (sum_block input acts) →
    EachDoes (sum_block input acts) labels sum_body (body_index (main_of (sum_whole input acts))) left_over
sum_each input acts few b =
    let k = sum_block input acts in
    let n = linked_length (links_of sum_code) 0 sum_code in
    let five = setting input acts 5 in
    let back' = goto_does k labels sum_label 7 back_index left_over (record { line_fits = omega arith; acts = few })
    (record {
      begun = b;
      carried = refl;
      level = refl;
      block = refl;
      at = read_index;
      place = refl;
      near = omega arith;
    })
    back_linked in (
      assign_does k labels sum_spot (Y.NumberConstant 0) 3 sum_start left_over 0 100
          (assigns input acts 3 sum_start 0 (Y.NumberConstant 0) few b (omega arith) (omega arith) first_linked
          (omega (arith, n)))
          (constant_does (setting input acts 3) 0 (omega arith)),
      (
        get_does 0 k labels sum_get read_index left_over 0 100 (get_is input acts few b) (
          (
            (λ place.
                number_target (within place (setting input acts 4)) read_spot 0 (begun_placed k place b)
                (number_placed k place read_spot (read_known input acts b)) refl),
            tt,
          ),
          tt,
        ),
        (
          assign_does k labels sum_spot sum_both 5 added_index left_over 1 100
              (assigns input acts 5 added_index 1 sum_both few b (omega arith) (omega arith) added_linked
              (omega (arith, n)))
              (sum_does five sum_number read_number 0 0 (overflow_ends five (unraised input acts 5 few))
              (variable_does five sum_spot b (sum_known input acts b))
              (variable_does five read_spot b (read_known input acts b))),
          (
            put_does 0 k labels sum_put written_index left_over 0 100 (put_is input acts few b) (
              (
                (λ place.
                    variable_does (within place (setting input acts 6)) sum_spot (begun_placed k place b)
                    (number_placed k place sum_spot (sum_known input acts b))),
                tt,
              ),
              tt,
            ),
            (
              met_does k labels is_small sum_back 7 again_index left_over 1 100
                  (record {
                    act = record { line_fits = omega arith; acts = few };
                    registers = omega arith;
                    held = omega arith;
                    statement = again_linked;
                    paid = omega (arith, n);
                  })
                  (small_tests input acts b) back',
              tt,
            ),
          ),
        ),
      ),
    )

-- ---- its label

labels_stand : StandAt (links_of sum_code) 0 labels read_index
labels_stand = one_label_stands (links_of sum_code) read_index refl

-- ---- the whole

sum_is :
    (input : List ℕ) (acts : ℕ) → acts + 1 < 2 ^ 64 →
    IsWhole (sum_whole input acts) (first_bytes (picture_of parts sum_program))
sum_is input acts few =
    let l = back_of (first_frame image_parts) (main_called 0) start_linked in
    record {
      start = record {
        linked = start_linked;
        differ = one_differs;
        bytes = first_length (picture_of parts sum_program) sum_fits;
        told = constants_stand sum_code sum_fits;
      };
      made = all_procedure (surroundings_of (sum_image input acts)) (linked_code sum_code)
          (main_of (sum_whole input acts)) (start_point (sum_image input acts)) no_numbers sum_variables
          (sum_all input acts);
      callee = record {
        coded = record { level = omega arith; line = omega arith; saved = omega arith; back = omega arith };
        calls = first_of (CallTo (ProcedureEntry 0)) _ (rest_of _ _ (rest_of _ _ (rest_of _ _ l)));
        place = refl;
        stands = main_linked;
        end = refl;
        kind = refl;
        labels = (
          λ label e. absurd (cc e),
          (
            labels_stand,
            (
              λ label e. absurd (cc e),
              (λ label e. absurd (cc e), (λ label e. absurd (cc e), λ label e. absurd (cc e))),
            ),
          ),
        );
        acts = few;
      };
      room = record { room = omega arith; shallow = refl; parent = tt; idle = refl };
      level = refl;
      procedures = refl;
      statics = refl;
    }

abbrev pub sum_layout : Layout
sum_layout =
    record {
      main = sum_main;
      others = [];
      environment = sum_environment;
      entry = sum_entry;
      end = sum_finish;
      units = [];
      constants = constants_in sum_code;
      fills = [];
      serials = 2;
      made = newest_all parts sum_variables;
    }

pub sum_program_runs : Runs sum_program sum_layout
sum_program_runs =
    record {
      whole = λ input acts few. sum_is input acts few;
      each = λ input acts few b. sum_each input acts few b;
    }

-- ---- what the program comes to

unfoldable flows : Unit {0}
unfolding F.give F.◌>>=◌ F.◌>>◌ F.looked F.stored F.act F.finish F.returns F.jumps F.choose F.given F.list_from
    F.leaving F.stuck
flows = tt

unfoldable values : Unit {0}
unfolding V.number V.bit V.designated V.located V.numbers V.variable_designated V.part_designated V.stored_value
    R.or_error R.demanded R.value_of R.raised R.unit_run R.error R.error_unit_run P.element_stored M.assigned
values = tt

unfoldable makings : Unit {0}
unfolding K.variables_made K.automatic_made K.extents K.variable_made K.parameters_bound
makings = tt

unfoldable writings : Unit {0}
unfolding S.put S.control_put S.pairs_put S.items_put S.item_put S.next_item S.controls S.shown_by V.computational
writings = tt

unfoldable readings : Unit {0}
unfolding S.get S.control_got S.pairs_got S.items_got S.item_got S.field_got S.field_taken S.number_got S.scalar_if_got
    S.scalar_got S.field_converted S.number_kept
readings = tt

unfoldable statements : Unit {0}
unfolding M.statement M.statements M.list M.list_with M.block_variables_made M.entry_act M.block_list M.block_body
statements = tt

pub sum_ends :
    M.meaning sum_program (32 ∷ 32 ∷ 55 ∷ 32 ∷ 56 ∷ 10 ∷ 56 ∷ 32 ∷ 49 ∷ 50 ∷ 57 ∷ 57 ∷ []) 23
    ≡ Some (record {
      acts = 23;
      output =
          32 ∷ 32 ∷ 32 ∷ 32 ∷ 55
          ∷ 32 ∷ 32 ∷ 32 ∷ 57 ∷ 53
          ∷ 32 ∷ 32 ∷ 49 ∷ 48 ∷ 55
          ∷ 10 ∷ [];
      raised = [];
      end = E.Finished;
    })
unfolding M.meaning M.run M.entered M.block_run flows values makings writings readings statements
sum_ends = refl

pub sum_stops :
    M.meaning sum_program (32 ∷ 32 ∷ 55 ∷ []) 13
    ≡ Some (record {
      acts = 13;
      output = 32 ∷ 32 ∷ 32 ∷ 32 ∷ 55 ∷ 10 ∷ [];
      raised = (C.Endfile, 40) ∷ (C.Error, 40) ∷ [];
      end = E.Error 40 4;
    })
unfolding M.meaning M.run M.entered M.block_run flows values makings writings readings statements
sum_stops = refl

pub sum_fails :
    M.meaning sum_program (32 ∷ 55 ∷ 65 ∷ []) 6
    ≡ Some (record { acts = 6; output = []; raised = (C.Error, 104) ∷ []; end = E.Error 104 4 })
unfolding M.meaning M.run M.entered M.block_run flows values makings writings readings statements
sum_fails = refl
