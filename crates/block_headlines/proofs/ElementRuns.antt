-- The worked rows of elements of arrays run at each number of acts.
use Rattle.std.proofs.Common.{◌*◌, ◌^◌, ◌≤◌, [], ◌∷◌, length, arith}
use Rattle.pli_meaning.specs.Pictures.{first_bytes}
use Rattle.pli_coding.specs.Assembly.{size_of}
use Rattle.pli_coding.specs.Images.{code_of, picture_of}
use Rattle.pli_coding.specs.Linking.{links_of}
use Rattle.storage_relation.specs.Versions.{no_constants}
use Rattle.run_steps.proofs.Linking.{linked_length}
use Rattle.pli_headline.specs.Headline.{FitsMemory, parts}
use Rattle.pli_headline.proofs.WholeSizes.{first_length}
use Rattle.variable_runs.specs.Lists.{newest_all}
use Rattle.element_runs.specs.Rows.{inner_procedure, pick_entry, pick_environment, pick_main, pick_program}
use Rattle.element_runs.proofs.Rows.{pick_each, pick_finish, pick_is, pick_variables}
use Rattle.block_headlines.specs.Headlines.{Layout, Runs}

pick_fits : FitsMemory (picture_of parts pick_program)
pick_fits =
    let n = linked_length (links_of (code_of parts pick_program)) 0 (code_of parts pick_program) in
    let small' : size_of (code_of parts pick_program) ≤ 2 ^ 20 = omega arith in
    record { code_fits = omega (arith, n, small'); statics_fit = omega arith }

abbrev pub pick_layout : Layout
pick_layout =
    record {
      main = pick_main;
      others = inner_procedure ∷ [];
      environment = pick_environment;
      entry = pick_entry;
      end = pick_finish;
      units = [];
      constants = no_constants;
      fills = [];
      serials = 2;
      made = newest_all parts pick_variables;
    }

pub pick_program_runs : Runs pick_program pick_layout
pick_program_runs =
    record {
      whole = λ input acts few.
          pick_is input (first_bytes (picture_of parts pick_program)) acts few
          (first_length (picture_of parts pick_program) pick_fits);
      each = λ input acts few b. pick_each input acts few b;
    }
