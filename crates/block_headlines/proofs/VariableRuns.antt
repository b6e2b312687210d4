-- The worked rows of several variables and of areas run at each number of acts.
use Rattle.std.proofs.Common.{◌*◌, ◌^◌, ◌≤◌, [], length, arith}
use Rattle.pli_typing.specs.TypedTree as Y
use Rattle.pli_meaning.specs.Pictures.{first_bytes}
use Rattle.pli_coding.specs.Assembly.{size_of}
use Rattle.pli_coding.specs.Images.{code_of, picture_of}
use Rattle.pli_coding.specs.Linking.{links_of}
use Rattle.storage_relation.specs.Versions.{no_constants}
use Rattle.run_steps.proofs.Linking.{linked_length}
use Rattle.pli_headline.specs.Headline.{FitsMemory, parts}
use Rattle.pli_headline.proofs.WholeSizes.{first_length}
use Rattle.variable_runs.specs.Lists.{newest_all}
use Rattle.variable_runs.specs.Rows.{pair_entry, pair_environment, pair_main, pair_program}
use Rattle.variable_runs.proofs.Rows.{pair_each, pair_finish, pair_is, pair_variables}
use Rattle.area_runs.specs.Rows.{locate_entry, locate_environment, locate_main, locate_program}
use Rattle.area_runs.proofs.Rows.{locate_each, locate_finish, locate_is, locate_variables}
use Rattle.block_headlines.specs.Headlines.{Layout, Runs}

pub fits :
    (program : Y.Program) → size_of (code_of parts program) ≤ 2 ^ 20 →
    length (picture_of parts program).statics ≤ 3 * 2 ^ 20 → FitsMemory (picture_of parts program)
fits program small' few =
    let n = linked_length (links_of (code_of parts program)) 0 (code_of parts program) in
    record { code_fits = omega (arith, n, small'); statics_fit = few }

pair_fits : FitsMemory (picture_of parts pair_program)
pair_fits = fits pair_program (omega arith) (omega arith)

abbrev pub pair_layout : Layout
pair_layout =
    record {
      main = pair_main;
      others = [];
      environment = pair_environment;
      entry = pair_entry;
      end = pair_finish;
      units = [];
      constants = no_constants;
      fills = [];
      serials = 2;
      made = newest_all parts pair_variables;
    }

pub pair_program_runs : Runs pair_program pair_layout
pair_program_runs =
    record {
      whole = λ input acts few.
          pair_is input (first_bytes (picture_of parts pair_program)) acts few
          (first_length (picture_of parts pair_program) pair_fits);
      each = λ input acts few b. pair_each input acts few b;
    }

locate_fits : FitsMemory (picture_of parts locate_program)
locate_fits = fits locate_program (omega arith) (omega arith)

abbrev pub locate_layout : Layout
locate_layout =
    record {
      main = locate_main;
      others = [];
      environment = locate_environment;
      entry = locate_entry;
      end = locate_finish;
      units = [];
      constants = no_constants;
      fills = [];
      serials = 2;
      made = newest_all parts locate_variables;
    }

pub locate_program_runs : Runs locate_program locate_layout
locate_program_runs =
    record {
      whole = λ input acts few.
          locate_is input (first_bytes (picture_of parts locate_program)) acts few
          (first_length (picture_of parts locate_program) locate_fits);
      each = λ input acts few b. locate_each input acts few b;
    }
