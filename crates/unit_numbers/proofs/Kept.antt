-- Each program of the class keeps the headline.
use Rattle.std.proofs.Common.{[], refl}
use Rattle.std.proofs.lemmas.Bool.{and_parts}
use Rattle.pli_typing.specs.TypedTree as Y
use Rattle.pli_meaning.specs.Pictures.{first_bytes}
use Rattle.pli_coding.specs.Images.{linked_code, picture_of}
use Rattle.pli_coding.specs.SignatureTable.{table_of}
use Rattle.code_marks.specs.CodeMarks.{MarkedOnce}
use Rattle.storage_relation.specs.ServiceLaws.{TableDiffers}
use Rattle.program_places.specs.Constants.{constants_in}
use Rattle.program_places.specs.Programs.{IsLoadable, behind_body, code_for, entry_for, environment_for}
use Rattle.program_places.specs.Programs.{procedure_for}
use Rattle.program_places.proofs.Memory.{first_length}
use Rattle.program_places.proofs.Starts.{whole_stands}
use Rattle.program_runs.specs.Starts.{no_numbers}
use Rattle.variable_runs.proofs.Lists.{all_begun}
use Rattle.pli_headline.specs.Headline.{FitsMemory, Headline, parts}
use Rattle.block_headlines.proofs.Constants.{constants_stand}
use Rattle.block_headlines.specs.Headlines.{Layout, UnitHeadlinesKept, UnitsRun}
use Rattle.number_runs.specs.Variables.{words_in}
use Rattle.number_headlines.specs.Programs.{are_all_plain, most_words}
use Rattle.number_headlines.proofs.Mains.{made_for}
use Rattle.number_headlines.proofs.Tables.{all_known, has_start}
use Rattle.unit_numbers.specs.Headlines.{IsUnitProgram}
use Rattle.unit_numbers.specs.Programs.{has_unit_main}
use Rattle.unit_numbers.proofs.MainBodies.{main_ends}
use Rattle.unit_numbers.proofs.Mains.{Main, main_all, main_for, main_is, main_room, placed, run_for, start_for}
use Rattle.unit_numbers.proofs.Mains.{surroundings_for, units_for}

abbrev layout_for : {program : Y.Program} → Main program → Layout
layout_for {program} m =
    record {
      main = procedure_for program m.head m.body;
      others = m.others;
      environment = environment_for program m.head;
      entry = entry_for program m.head.number;
      end = behind_body program m.head m.body;
      units = units_for m;
      constants = constants_in (code_for program);
      fills = [];
      serials = most_words;
      made = made_for program m.head;
    }

units_run :
    MarkedOnce → TableDiffers → {program : Y.Program} (m : Main program) → FitsMemory (picture_of parts program) →
    UnitsRun program (layout_for m)
units_run once tables {program} m fits =
    record {
      whole = λ input acts few.
          whole_stands once tables program (placed m) (run_for m input acts) (made_for program m.head)
          (first_bytes (picture_of parts program)) m.loadable (has_start program (all_known program.variables m.plain))
          m.main
          (first_length (picture_of parts program) m.loadable.fits fits.statics_fit)
          (constants_stand (code_for program) fits) few
          (all_begun (surroundings_for m input acts) (linked_code (code_for program)) (main_for m input acts)
          (start_for m input acts) no_numbers (words_in (environment_for program m.head)) (main_all m input acts))
          (main_room m input acts);
      body = λ input acts few b. main_ends once m input acts few b;
    }

pub unit_headline_kept :
    MarkedOnce → TableDiffers → UnitHeadlinesKept → (program : Y.Program) → IsUnitProgram program →
    FitsMemory (picture_of parts program) → Headline program (picture_of parts program) (table_of program)
unit_headline_kept once tables kept program h fits =
    let a = and_parts (are_all_plain program.variables) (has_unit_main program program.procedures) h.units in
    let load : IsLoadable program = record { well_formed = h.well_formed; fits = fits.code_fits } in
    let m = main_is program program.procedures refl a.0 load fits a.1 in
    kept program (layout_for m) (units_run once tables m fits)
