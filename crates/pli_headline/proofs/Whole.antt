-- The headline of every program that is proved so far: its code does what it means at each number of acts.
use Rattle.std.proofs.Common.{◌≡◌, ℕ, suc, ◌+◌, ◌^◌, ◌<◌, ◌≤◌, List, [], ◌++◌, length, None, true, refl, sym, subst, arith, ◌*◌}
use Rattle.std.proofs.Math.Nat.{le-max_right}
use Rattle.rv_meaning.specs.declared.instr.Instr.{Instr}
use Rattle.pli_language.specs.declared.condition.Condition.{Condition}
use Rattle.pli_typing.specs.TypedTree as Y
use Rattle.pli_meaning.specs.DeclaredShapes.{variables_of_block}
use Rattle.pli_meaning.specs.StorageState.{first_state}
use Rattle.pli_meaning.specs.Executing.{meaning, run}
use Rattle.pli_meaning.specs.Pictures.{first_bytes}
use Rattle.pli_serving.specs.ServiceState.{first_services}
use Rattle.pli_coding.specs.SignatureTable.{table_of}
use Rattle.pli_coding.specs.Assembly.{size_of}
use Rattle.pli_coding.specs.Procedures.{procedure_in}
use Rattle.pli_coding.specs.Linking.{links_of}
use Rattle.pli_coding.specs.Images.{code_of, linked_code, picture_of}
use Rattle.pli_coding.specs.Entries.{variables_take}
use Rattle.pli_headline.specs.ProvedSoFar.{all_labels, procedure_labels, IsProvedSoFar, main_names}
use Rattle.pli_headline.specs.Headline.{parts, FitsMemory, HeadlineSoFar}
use Rattle.run_steps.specs.Engine.{most_code}
use Rattle.run_steps.specs.Items.{Linked}
use Rattle.pli_headline.proofs.Promises.{Laws, Comes_at, from_flow, Works, promised}
use Rattle.pli_headline.proofs.InitialPlaced.{data_stand}
use Rattle.pli_headline.proofs.Marks.{others_code, others_of, Placed, placed}
use Rattle.pli_headline.proofs.WholeSizes.{procedure_size, first_length}
use Rattle.pli_headline.specs.InnerWords.{body_words, all_inner_words}
use Rattle.pli_headline.proofs.InnerSizes.{procedure_inner}
use Rattle.pli_headline.proofs.MainProcedure.{main_head, alone_of, main_environment, main_words, main_sizes, main_plain, declared_at}
use Rattle.pli_headline.proofs.PlainNumbers.{length_types}
use Rattle.pli_headline.proofs.FirstFrame.{first_step_of}
use Rattle.pli_headline.proofs.MainFrame.{frame_place, main_frame}
use Rattle.pli_headline.proofs.LabelMarks.{none_known, blocks_known, others_known, labels_stand, entry_stands, end_stands}
use Rattle.pli_headline.proofs.Gotos.{LabelsStand}
use Rattle.pli_headline.proofs.UnitStanding.{program_around, UnitStands}
use Rattle.pli_headline.proofs.InnerUnits.{Done}
use Rattle.pli_headline.proofs.InnerCalls.{inner_calls}
use Rattle.pli_headline.proofs.MainBody.{main_body_does}
use Rattle.pli_headline.proofs.InitialNamed.{all_ready}
use Rattle.pli_headline.proofs.MainRuns.{no_limits, main_around, main_count, main_room, main_types}
use Rattle.pli_headline.proofs.MainRuns.{main_data, main_sized, BodyDoes, main_runs, main_fit}
use Rattle.pli_headline.proofs.Statements.{IsKnown}
use Rattle.pli_headline.proofs.PlainNumbers.{main_numbered}
use Rattle.pli_headline.proofs.PlainInside.{declare_plain}

-- ---- the procedure of a program

abbrev block_in : {program : Y.Program} → IsProvedSoFar program → ℕ
block_in is = is.head.number

abbrev line_in : {program : Y.Program} → IsProvedSoFar program → ℕ
line_in is = is.head.line

abbrev code_for : Y.Program → List Instr
code_for program = linked_code (code_of parts program)

abbrev memory_for : Y.Program → List ℕ
memory_for program = first_bytes (picture_of parts program)

placed_for : (program : Y.Program) (is : IsProvedSoFar program) → FitsMemory (picture_of parts program) → Placed program (block_in is) (line_in is) is.body (links_of (code_of parts program)) (code_for program)
placed_for program is fits =
    placed program (block_in is) (line_in is) is.body is.plain (alone_of program is) fits.code_fits

few_words : (program : Y.Program) (is : IsProvedSoFar program) → FitsMemory (picture_of parts program) → main_words program (block_in is) is.body ≤ most_code
few_words program is fits =
    let p = (placed_for program is fits).procedure in
    let inside = p.inside in
    let small' = p.small' in
    let n = procedure_size (main_environment program (block_in is)) (main_head (block_in is) (line_in is)) (main_names program (block_in is)) (main_types program (block_in is)) is.body (λ j kind at. declared_at (variables_of_block program (block_in is)) j (main_plain program (block_in is) is.plain) at) (main_plain program (block_in is) is.plain) is.block.statements in
    omega (arith, inside, small', n)

-- there is some code
some_code : (program : Y.Program) (is : IsProvedSoFar program) → FitsMemory (picture_of parts program) → 0 < length (code_for program)
some_code program is fits =
    let p = placed_for program is fits in
    let inside = p.procedure.inside in
    let behind = p.behind in
    omega (arith, inside, behind)

-- ---- its statements

labels_of : (program : Y.Program) (is : IsProvedSoFar program) → LabelsStand (main_environment program (block_in is)) (links_of (code_of parts program)) (all_labels (block_in is) is.body ++ procedure_labels is.others) (block_in is) true
labels_of program is =
    labels_stand program (block_in is) (line_in is) is.body is.called is.plain (alone_of program is) is.block.statements (declare_plain program is.body is.plain) is.block.jumps is.inner

-- the program of its environment
known_of : (program : Y.Program) (is : IsProvedSoFar program) → IsKnown (main_environment program (block_in is))
known_of program is =
    record {
      table = refl;
      parts_are = refl;
      numbered = λ number j at. main_numbered program number j is.plain is.few at;
      plain = is.plain;
      none = λ number. none_known program (block_in is) (line_in is) is.body _ is.called (alone_of program is) is.inner number;
    }

-- the units of the main procedure
abbrev units_of : (program : Y.Program) (is : IsProvedSoFar program) → Condition → ℕ → Y.Block → ℕ → Type 0
units_of program is c frame u at =
    (frame ≡ frame_place (main_words program (block_in is) is.body)) × UnitStands (program_around (main_environment program (block_in is))) (main_names program (block_in is)) (main_types program (block_in is)) (all_labels (block_in is) is.body ++ procedure_labels is.others) (block_in is) is.called (links_of (code_of parts program)) (code_for program) c u at

-- where the other procedures stand
abbrev others_at : (program : Y.Program) (is : IsProvedSoFar program) → FitsMemory (picture_of parts program) → ℕ
others_at program is fits =
    (placed_for program is fits).entry + size_of (procedure_in (main_environment program (block_in is)) (main_head (block_in is) (line_in is)) is.body [] None)

others_stand : (program : Y.Program) (is : IsProvedSoFar program) (fits : FitsMemory (picture_of parts program)) → Linked (links_of (code_of parts program)) (code_for program) (others_at program is fits) (others_code program is.others)
others_stand program is fits =
    subst (λ ps. Linked (links_of (code_of parts program)) (code_for program) (others_at program is fits) (others_code program (others_of ps))) (alone_of program is).are (placed_for program is fits).others

-- calls in the main procedure
calls_done : (program : Y.Program) (is : IsProvedSoFar program) (fits : FitsMemory (picture_of parts program)) (k : ℕ) → Done (main_environment program (block_in is)) (main_names program (block_in is)) (main_types program (block_in is)) (all_labels (block_in is) is.body ++ procedure_labels is.others) (block_in is) k (links_of (code_of parts program)) (code_for program) is.called
calls_done program is fits k =
    let block = block_in is in
    let line = line_in is in
    let alone = alone_of program is in
    let behind = (placed_for program is fits).behind in
    inner_calls program block line is.body is.called alone is.inner is.once (others_at program is fits) (others_stand program is fits) (omega (arith, behind))
    (λ number apart once. entry_stands program block line is.body is.called is.plain alone is.block.statements (declare_plain program is.body is.plain) is.inner number apart once)
    (λ number among apart once. end_stands program block line is.body is.called is.plain alone is.block.statements is.block.jumps (declare_plain program is.body is.plain) is.inner number apart once among is.block.calls)
    (labels_of program is)
    (λ b h. others_known program block line is.body alone b h) k

room_for : (program : Y.Program) (is : IsProvedSoFar program) (fits : FitsMemory (picture_of parts program)) (few : main_room program (block_in is) ≤ 2 ^ 20) → (main_frame (main_words program (block_in is) is.body) (main_sizes program (block_in is)) (main_count program (block_in is)) (few_words program is fits) few).at + 144 + main_room program (block_in is) + 4 * all_inner_words is.body + 700 * 101 + 2020000 ≤ 14 * 2 ^ 20
room_for program is fits few =
    let p = (placed_for program is fits).procedure in
    let inside = p.inside in
    let small' = p.small' in
    let n = procedure_inner (main_environment program (block_in is)) (main_head (block_in is) (line_in is)) (main_names program (block_in is)) (main_types program (block_in is)) is.body refl (λ j kind at. declared_at (variables_of_block program (block_in is)) j (main_plain program (block_in is) is.plain) at) (main_plain program (block_in is) is.plain) is.block.statements (declare_plain program is.body is.plain) in
    omega (arith, inside, small', n, few)

body_done : (program : Y.Program) (is : IsProvedSoFar program) (fits : FitsMemory (picture_of parts program)) (k : ℕ) → BodyDoes (units_of program is) program (block_in is) (line_in is) is.body (memory_for program) is.plain (alone_of program is) (few_words program is fits) (links_of (code_of parts program)) (code_for program) k
body_done program is fits k few =
    let block = block_in is in
    let line = line_in is in
    let alone = alone_of program is in
    let small' = few_words program is fits in
    main_body_does program block line is.body alone
    (main_frame (main_words program block is.body) (main_sizes program block) (main_count program block) small' few)
    (memory_for program)
    (main_types program block) (units_of program is) (sym (length_types (variables_of_block program block)))
    (λ j kind at. declared_at (variables_of_block program block) j (main_plain program block is.plain) at)
    (λ j below. main_data program block line is.body j is.plain alone below few)
    (main_sized program block line is.body is.plain alone few) (main_fit program block is.body is.plain small' few)
    (links_of (code_of parts program)) (code_for program)
    (placed_for program is fits).routines (known_of program is) (main_around program k line) refl is.called k
    (labels_of program is) is.block.statements is.block.jumps
    (le-max_right (variables_take (variables_of_block program block)).words (body_words is.body))
    (room_for program is fits few) is.block.few (declare_plain program is.body is.plain) (record { enter = refl; turns = refl }) (omega arith) (blocks_known program block line is.body alone) is.block.calls (calls_done program is fits k) (λ c frame u at k'. k') (λ c u at k'. (refl, k'))
    (data_stand (code_of parts program) fits (some_code program is fits))

-- ---- its runs

comes : (laws : Laws) (program : Y.Program) (is : IsProvedSoFar program) → FitsMemory (picture_of parts program) → (input : List ℕ) (k : ℕ) → k + 1 < 2 ^ 64 → Comes_at (picture_of parts program) (table_of program) program input k
unfolding meaning
comes laws program is fits input k room =
    from_flow no_limits laws (picture_of parts program) (table_of program) program input k (run program (suc k) k
    (first_state input)) refl
    (main_runs (units_of program is) program (block_in is) (line_in is) is.body (memory_for program) input is.plain (alone_of program is) (few_words program is fits) k (all_ready program (block_in is) (line_in is) is.body is.plain is.few (alone_of program is) fits (some_code program is fits)) is.block.line room (first_length (picture_of parts program) fits) (placed_for program is fits) (body_done program is fits k))
    (λ b n x e less. absurd (omega (arith, less)))

works : (laws : Laws) (program : Y.Program) (is : IsProvedSoFar program) → FitsMemory (picture_of parts program) → Works (picture_of parts program) (table_of program) program
works laws program is fits =
    record {
      small = fits.code_fits;
      early = 2 ^ 64;
      enough = omega arith;
      comes = λ input k few early. comes laws program is fits input k few;
      first = λ input b. first_step_of (memory_for program) (first_services (table_of program) input) (block_in is) (placed_for program is fits).start b;
    }

pub headline : Laws → HeadlineSoFar
headline laws program is fits =
    promised laws (picture_of parts program) (table_of program) program (works laws program is fits)
