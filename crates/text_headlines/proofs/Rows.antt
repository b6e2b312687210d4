-- The worked row: all that is premised of the program is computed.
use Rattle.std.proofs.Common.{◌≡◌, ℕ, zero, suc, ◌+◌, ◌^◌, ◌<◌, ◌≤◌, List, [], ◌∷◌, inl, length, map, true}
use Rattle.std.proofs.Common.{Some, refl, arith}
use Rattle.std.specs.Prelude.{ℤ}
use Rattle.pli_language.specs.Formats as L
use Rattle.pli_typing.specs.TypedTree as Y
use Rattle.pli_meaning.specs.declared.outcome.End.TheVariants as E
use Rattle.pli_meaning.specs.Control as F
use Rattle.pli_meaning.specs.Evaluating as V
use Rattle.pli_meaning.specs.Executing as M
use Rattle.pli_meaning.specs.Making as K
use Rattle.pli_meaning.specs.Pictures as Q
use Rattle.pli_meaning.specs.Placing as P
use Rattle.pli_meaning.specs.Raising as R
use Rattle.pli_meaning.specs.Streaming as T
use Rattle.pli_serving.specs.Templates.{template_of}
use Rattle.pli_serving.specs.ServiceState.{EditPlace, TextEntry}
use Rattle.pli_coding.specs.Assembly.{CallTo, ConstantBytes, ProcedureEntry, size_of}
use Rattle.pli_coding.specs.Images.{first_frame, linked_code, picture_of}
use Rattle.pli_coding.specs.Linking.{links_of}
use Rattle.pli_coding.specs.SignatureTable.{table_of}
use Rattle.storage_relation.specs.Served.{AllDiffer}
use Rattle.storage_relation.specs.Standing.{IsValued, leaf_in}
use Rattle.storage_relation.specs.Telling.{IsOf}
use Rattle.run_steps.specs.DataNamed.{IsPlaced}
use Rattle.run_steps.proofs.Jumps.{back_of, first_of, rest_of}
use Rattle.run_steps.proofs.Linking.{linked_length}
use Rattle.pli_headline.specs.Headline.{FitsMemory, parts}
use Rattle.pli_headline.proofs.WholeSizes.{first_length}
use Rattle.program_places.specs.Constants.{constants_in}
use Rattle.program_places.specs.Programs.{Run, image_for}
use Rattle.program_runs.specs.Calls.{block_at, body_index, left_over}
use Rattle.program_runs.specs.Programs.{IsWhole, Whole, main_of}
use Rattle.program_runs.specs.Starts.{Image, image_parts, main_called, no_numbers, start_of, start_point}
use Rattle.program_runs.specs.Starts.{surroundings_of}
use Rattle.program_runs.specs.Statements.{Block, EachDoes, IsBegun}
use Rattle.program_runs.specs.Variables as D
use Rattle.program_runs.specs.Variables.{IsOnly, newest_made}
use Rattle.program_runs.proofs.VariableProcedures.{one_made}
use Rattle.program_runs.proofs.VariableRows.{differs_alone}
use Rattle.expression_runs.specs.Assignments.{setting_of}
use Rattle.expression_runs.specs.Values.{Setting}
use Rattle.expression_runs.proofs.Operands.{constant_does}
use Rattle.test_runs.specs.Tests.{Tests}
use Rattle.test_runs.proofs.Bits.{numbers_tests}
use Rattle.test_runs.proofs.Ifs.{met_does}
use Rattle.test_runs.proofs.Loops.{loop_does}
use Rattle.text_runs.specs.Laws.{TextDoes}
use Rattle.text_runs.specs.Texts.{ErrorComes, IsErrorless}
use Rattle.text_runs.proofs.Errors.{error_ends}
use Rattle.text_runs.proofs.Points.{alone_does}
use Rattle.text_runs.proofs.Pushing.{joined_pushes}
use Rattle.text_runs.proofs.Taking.{length_measures}
use Rattle.edit_runs.specs.Edits.{KnowsFormats, within}
use Rattle.edit_runs.specs.TextEdits.{IsDataPut}
use Rattle.edit_runs.proofs.DataPuts.{data_put_does}
use Rattle.edit_runs.proofs.Places.{begun_placed, errorless_placed}
use Rattle.edit_headlines.proofs.Formats.{list_placed}
use Rattle.text_values.specs.Assignments.{IsTextAssignment, text_assigned}
use Rattle.text_values.specs.Variables.{IsText, KnowsText}
use Rattle.text_values.proofs.Assignments.{text_assign_does}
use Rattle.text_values.proofs.Comparisons.{alone_bit, texts_compare}
use Rattle.text_values.proofs.Constants.{constant_pushes}
use Rattle.text_values.proofs.Known.{text_placed}
use Rattle.text_values.proofs.Variables.{variable_pushes}
use Rattle.block_headlines.specs.Headlines.{Layout, Runs}
use Rattle.block_headlines.proofs.Constants.{bytes_known, constants_stand, main_of_program}
use Rattle.block_headlines.proofs.JumpRuns.{fits}
use Rattle.text_headlines.specs.Rows.{first_bytes, grow_body, grow_entry, grow_environment, grow_formats, grow_made}
use Rattle.text_headlines.specs.Rows.{grow_main, grow_program, grow_put, grow_spot, grow_text, grow_turns, grow_unit}
use Rattle.text_headlines.specs.Rows.{grown, is_grown, is_short, last_bytes, more_bytes}
use Rattle.text_headlines.proofs.Placed.{StandsAt, choice_index, choice_linked, coded, first_linked, grow_code}
use Rattle.text_headlines.proofs.Placed.{grow_finish, grow_start, loop_index, loop_linked, main_linked, raise_linked}
use Rattle.text_headlines.proofs.Placed.{start_linked, turn_index, turn_linked, unit_index, unit_linked}

-- ---- its image

grow_fits : FitsMemory (picture_of parts grow_program)
grow_fits = fits grow_program (omega arith) (omega arith)

abbrev run_of : (input : List ℕ) → (acts : ℕ) → Run
run_of input acts = record { units = []; input = input; acts = acts; serials = 1 }

abbrev grow_image : (input : List ℕ) → (acts : ℕ) → Image
grow_image input acts = image_for grow_program (run_of input acts)

abbrev grow_whole : (input : List ℕ) → (acts : ℕ) → Whole
grow_whole input acts =
    record {
      image = grow_image input acts;
      program = grow_program;
      main = grow_main;
      others = [];
      environment = grow_environment;
      entry = grow_entry;
      end = grow_finish;
      made = newest_made image_parts grow_made;
    }

-- ---- its variable

one_differs : AllDiffer (map template_of (table_of grow_program))
one_differs = differs_alone (map template_of (table_of grow_program)) _ refl refl

grow_valued : IsValued (D.generation_for grow_made)
grow_valued leaf is less within = by_leaf leaf is less
  where
    by_leaf :
        (leaf : ℕ) (is : List ℤ) → leaf < 1 →
        IsOf (leaf_in (D.generation_for grow_made) leaf).kind ((D.generation_for grow_made).values leaf is)
    by_leaf zero is less = (omega arith, omega arith)
    by_leaf (suc leaf) is less = absurd (omega (arith, less))

grow_only :
    (input : List ℕ) (acts : ℕ) →
    IsOnly (surroundings_of (grow_image input acts)) (main_of (grow_whole input acts))
    (start_point (grow_image input acts)) no_numbers grow_made
grow_only input acts =
    let n = linked_length (links_of grow_code) 0 grow_code in
    record {
      kind = refl;
      variables = refl;
      class = refl;
      evaluations = refl;
      first = refl;
      code = refl;
      made = refl;
      table = refl;
      parts = refl;
      few = omega arith;
      declared = record {
        newest = refl;
        here = refl;
        holds = omega arith;
        size = omega arith;
        fits = omega arith;
        even = refl;
        low = omega (arith, n);
        shape = refl;
        number = omega arith;
        initial = refl;
        none = refl;
        plain = refl;
        fixed = refl;
        values = (tt, tt);
        valued = grow_valued;
        limit = refl;
      };
    }

abbrev grow_block : (input : List ℕ) → (acts : ℕ) → Block
grow_block input acts =
    block_at (surroundings_of (grow_image input acts)) (linked_code grow_code) (main_of (grow_whole input acts))
    (start_point (grow_image input acts)) no_numbers

grow_known : (input : List ℕ) (acts : ℕ) → IsText (grow_block input acts) grow_spot true 8
grow_known input acts =
    record {
      initial = [];
      known = record {
        declared = refl;
        serial = 1;
        binding = refl;
        living = K.living_at 1 1 (D.generation_for grow_made);
        lives = refl;
        shape = refl;
        base = _;
        frame = inl (refl, refl);
        at = refl;
        low = omega arith;
        inside = omega arith;
      };
      short = omega arith;
    }

-- ---- its constants

bytes_told :
    (input : List ℕ) (acts : ℕ) (bytes : List ℕ) → IsBegun (grow_block input acts) →
    IsPlaced (ConstantBytes bytes) (links_of grow_code).data' → KnowsText (grow_block input acts) bytes
bytes_told input acts bytes b placed =
    bytes_known grow_program (grow_block input acts) bytes grow_fits
    (main_of_program grow_program (run_of input acts) (grow_block input acts) refl refl refl b) placed

-- ---- its expressions

abbrev setting : (input : List ℕ) → (acts line : ℕ) → Setting
setting input acts line = setting_of (grow_block input acts) [] line 100

errorless : (input : List ℕ) (acts line : ℕ) → acts + 1 < 2 ^ 64 → IsErrorless (setting input acts line)
errorless input acts line few =
    record {
      routines = record {
        at = size_of (start_of 0);
        linked = raise_linked;
        condition = refl;
        end = omega arith;
      };
      raises = refl;
      error = tt;
      acts = few;
      most = omega arith;
    }

errors_end :
    (input : List ℕ) (acts line : ℕ) → acts + 1 < 2 ^ 64 → ErrorComes (List ℕ) (setting input acts line)
errors_end input acts line few = error_ends (List ℕ) (setting input acts line) (errorless input acts line few)

first_does :
    (input : List ℕ) (acts line : ℕ) → IsBegun (grow_block input acts) →
    TextDoes [] (setting input acts line) 0 (Y.TextConstant first_bytes)
first_does input acts line b =
    constant_pushes [] (setting input acts line) first_bytes (omega arith)
    (bytes_told input acts first_bytes b refl)

text_does :
    (input : List ℕ) (acts line : ℕ) → IsBegun (grow_block input acts) →
    TextDoes [] (setting input acts line) 0 grow_text
text_does input acts line b =
    variable_pushes [] (setting input acts line) grow_spot true 8 b (grow_known input acts)

grown_does :
    (input : List ℕ) (acts line : ℕ) → acts + 1 < 2 ^ 64 → IsBegun (grow_block input acts) →
    TextDoes [] (setting input acts line) 0 grown
grown_does input acts line few b =
    joined_pushes [] (setting input acts line) grow_text (Y.TextConstant more_bytes) 0 0
    (errors_end input acts line few) (text_does input acts line b)
    (λ s. constant_pushes (TextEntry s ∷ []) (setting input acts line) more_bytes (omega arith)
    (bytes_told input acts more_bytes b refl))

short_tests :
    (input : List ℕ) (acts line : ℕ) → IsBegun (grow_block input acts) →
    Tests (setting input acts line) 1 is_short
short_tests input acts line b =
    let k = setting input acts line in
    numbers_tests k Y.IsLess (Y.LengthOf grow_text) (Y.NumberConstant 4) 0 0
    (alone_does k (Y.LengthOf grow_text) 0 (length_measures [] k grow_text 0 (text_does input acts line b)))
    (constant_does k 4 (omega arith))

grown_tests :
    (input : List ℕ) (acts line : ℕ) → IsBegun (grow_block input acts) →
    Tests (setting input acts line) 0 is_grown
grown_tests input acts line b =
    let k = setting input acts line in
    alone_bit k is_grown 0
    (texts_compare [] k Y.IsEqual grow_text (Y.TextConstant last_bytes) 0 0 (text_does input acts line b)
    (λ s. constant_pushes (TextEntry s ∷ []) k last_bytes (omega arith)
    (bytes_told input acts last_bytes b refl)))

-- while its place in the format list is in use
written_does :
    (input : List ℕ) (acts : ℕ) (place : EditPlace) → IsBegun (grow_block input acts) →
    TextDoes [] (within place (setting input acts 7)) 0 grow_text
written_does input acts place b =
    variable_pushes [] (within place (setting input acts 7)) grow_spot true 8
    (begun_placed (grow_block input acts) place b)
    (text_placed (grow_block input acts) place grow_spot true 8 (grow_known input acts))

-- ---- its statements

assigns :
    (input : List ℕ) (acts line index : ℕ) (source : Y.Text) → acts + 1 < 2 ^ 64 →
    IsBegun (grow_block input acts) → line < 2 ^ 31 → StandsAt index (coded (text_assigned grow_spot source line)) →
    size_of (coded (text_assigned grow_spot source line)) + 100 ≤ length (linked_code grow_code) →
    IsTextAssignment 0 (grow_block input acts) grow_spot true 8 source line index 0 100
assigns input acts line index source few b low l paid =
    record {
      act = record { line_fits = low; acts = few };
      begun = b;
      text = grow_known input acts;
      registers = omega arith;
      held = omega arith;
      statement = l;
      paid = omega (arith, paid);
    }

-- its format list is found at each point
formats_known :
    (input : List ℕ) (acts : ℕ) → IsBegun (grow_block input acts) → KnowsFormats (grow_block input acts) grow_formats
unfolding L.formats_move_data
formats_known input acts b =
    list_placed grow_program (grow_block input acts) grow_formats grow_fits
    (main_of_program grow_program (run_of input acts) (grow_block input acts) refl refl refl b)
    ((omega arith, omega arith), (tt, tt)) refl refl

put_is :
    (input : List ℕ) (acts : ℕ) → acts + 1 < 2 ^ 64 → IsBegun (grow_block input acts) →
    IsDataPut 0 (grow_block input acts) [] grow_put unit_index 0 100
put_is input acts few b =
    let n = linked_length (links_of grow_code) 0 grow_code in
    record {
      act = record { line_fits = omega arith; acts = few };
      skip = tt;
      lists = (
        (
          record { fixed = refl; text = refl; are = (refl, tt); some = refl },
          formats_known input acts b,
        ),
        tt,
      );
      registers = omega arith;
      one = omega arith;
      held = omega arith;
      error = λ place.
          error_ends (List ℕ) (within place (setting input acts 7))
          (errorless_placed (setting input acts 7) place (errorless input acts 7 few));
      statement = unit_linked;
      paid = omega (arith, n);
    }

grow_each :
    (input : List ℕ) (acts : ℕ) → acts + 1 < 2 ^ 64 → IsBegun (grow_block input acts) →
    EachDoes (grow_block input acts) [] grow_body (body_index (main_of (grow_whole input acts))) left_over
grow_each input acts few b =
    let k = grow_block input acts in
    let n = linked_length (links_of grow_code) 0 grow_code in
    let turn' = text_assign_does 0 k [] grow_spot true 8 grown 5 turn_index left_over 0 100
    (assigns input acts 5 turn_index grown few b (omega arith) turn_linked (omega (arith, n)))
    (grown_does input acts 5 few b) in
    let unit' = data_put_does 0 k [] grow_put unit_index left_over 0 100 (put_is input acts few b)
    (((λ place. written_does input acts place b), tt), tt) in (
      text_assign_does 0 k [] grow_spot true 8 (Y.TextConstant first_bytes) 3 grow_start left_over 0 100
          (assigns input acts 3 grow_start (Y.TextConstant first_bytes) few b (omega arith) first_linked
          (omega (arith, n)))
          (first_does input acts 3 b),
      (
        loop_does k [] is_short grow_turns 4 loop_index left_over 1 100
            (record {
              act = record { line_fits = omega arith; acts = few };
              registers = omega arith;
              held = omega arith;
              statement = loop_linked;
              paid = omega (arith, n);
            })
            (short_tests input acts 4 b)
            (record { begun = b; turns = omega arith; marked = (λ label e. absurd (cc e), λ label e. absurd (cc e)) })
            (turn', tt),
        (
          met_does k [] is_grown grow_unit 7 choice_index left_over 0 100
              (record {
                act = record { line_fits = omega arith; acts = few };
                registers = omega arith;
                held = omega arith;
                statement = choice_linked;
                paid = omega (arith, n);
              })
              (grown_tests input acts 7 b) unit',
          tt,
        ),
      ),
    )

-- ---- the whole

grow_is :
    (input : List ℕ) (acts : ℕ) → acts + 1 < 2 ^ 64 →
    IsWhole (grow_whole input acts) (Q.first_bytes (picture_of parts grow_program))
grow_is input acts few =
    let l = back_of (first_frame image_parts) (main_called 0) start_linked in
    record {
      start = record {
        linked = start_linked;
        differ = one_differs;
        bytes = first_length (picture_of parts grow_program) grow_fits;
        told = constants_stand grow_code grow_fits;
      };
      made = one_made (surroundings_of (grow_image input acts)) (linked_code grow_code)
          (main_of (grow_whole input acts)) (start_point (grow_image input acts)) no_numbers grow_made
          (grow_only input acts);
      callee = record {
        coded = record { level = omega arith; line = omega arith; saved = omega arith; back = omega arith };
        calls = first_of (CallTo (ProcedureEntry 0)) _ (rest_of _ _ (rest_of _ _ (rest_of _ _ l)));
        place = refl;
        stands = main_linked;
        end = refl;
        kind = refl;
        labels = (
          λ label e. absurd (cc e),
          (λ label e. absurd (cc e), (λ label e. absurd (cc e), λ label e. absurd (cc e))),
        );
        acts = few;
      };
      room = record { room = omega arith; shallow = refl; parent = tt; idle = refl };
      level = refl;
      procedures = refl;
      statics = refl;
    }

abbrev pub grow_layout : Layout
grow_layout =
    record {
      main = grow_main;
      others = [];
      environment = grow_environment;
      entry = grow_entry;
      end = grow_finish;
      units = [];
      constants = constants_in grow_code;
      fills = [];
      serials = 1;
      made = newest_made parts grow_made;
    }

pub grow_program_runs : Runs grow_program grow_layout
grow_program_runs =
    record {
      whole = λ input acts few. grow_is input acts few;
      each = λ input acts few b. grow_each input acts few b;
    }

-- ---- what the program comes to

unfoldable flows : Unit {0}
unfolding F.give F.◌>>=◌ F.◌>>◌ F.looked F.stored F.act F.finish F.returns F.jumps F.choose F.given F.list_from
    F.leaving F.repeated_while M.met_after_act
flows = tt

unfoldable values : Unit {0}
unfolding V.number V.text V.bit V.designated V.located V.numbers V.variable_designated V.part_designated
    V.stored_value R.or_error R.demanded R.value_of R.raised R.unit_run R.error R.error_unit_run P.element_stored
    M.assigned
values = tt

unfoldable makings : Unit {0}
unfolding K.variables_made K.automatic_made K.extents K.variable_made K.parameters_bound
makings = tt

unfoldable writings : Unit {0}
unfolding T.put T.control_put T.pairs_put T.items_put T.item_put T.next_item T.controls T.shown_by V.computational
writings = tt

unfoldable statements : Unit {0}
unfolding M.statement M.statements M.list M.list_with M.block_variables_made M.entry_act M.block_list M.block_body
statements = tt

pub grow_ends :
    (input : List ℕ) →
    M.meaning grow_program input 14
    ≡ Some (record { acts = 14; output = 65 ∷ 66 ∷ 66 ∷ 66 ∷ 10 ∷ []; raised = []; end = E.Finished })
unfolding M.meaning M.run M.entered M.block_run flows values makings writings statements
grow_ends input = refl
