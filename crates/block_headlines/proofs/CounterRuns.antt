-- The worked rows of DO with a variable that counts run at each number of acts.
use Rattle.std.proofs.Common.{◌^◌, ◌≤◌, [], ◌∷◌, arith}
use Rattle.pli_meaning.specs.Pictures.{first_bytes}
use Rattle.pli_coding.specs.Assembly.{size_of}
use Rattle.pli_coding.specs.Images.{code_of, picture_of}
use Rattle.pli_coding.specs.Linking.{links_of}
use Rattle.storage_relation.specs.Versions.{no_constants}
use Rattle.run_steps.proofs.Linking.{linked_length}
use Rattle.pli_headline.specs.Headline.{FitsMemory, parts}
use Rattle.pli_headline.proofs.WholeSizes.{first_length}
use Rattle.variable_runs.specs.Lists.{newest_all}
use Rattle.counter_runs.specs.CountRows.{count_entry, count_environment, count_main, count_program}
use Rattle.counter_runs.proofs.CountRows.{count_each, count_finish, count_is, count_variables}
use Rattle.counter_runs.specs.TallyRows.{inner_procedure, tally_entry, tally_environment, tally_main, tally_program}
use Rattle.counter_runs.specs.TallyRows.{tally_units}
use Rattle.counter_runs.proofs.TallyCode.{tally_finish, tally_variables}
use Rattle.counter_runs.proofs.TallyRows.{tally_does, tally_is}
use Rattle.block_headlines.specs.Headlines.{Layout, Runs, UnitsRun}

count_fits : FitsMemory (picture_of parts count_program)
count_fits =
    let n = linked_length (links_of (code_of parts count_program)) 0 (code_of parts count_program) in
    let small' : size_of (code_of parts count_program) ≤ 2 ^ 20 = omega arith in
    record { code_fits = omega (arith, n, small'); statics_fit = omega arith }

abbrev pub count_layout : Layout
count_layout =
    record {
      main = count_main;
      others = [];
      environment = count_environment;
      entry = count_entry;
      end = count_finish;
      units = [];
      constants = no_constants;
      fills = [];
      serials = 2;
      made = newest_all parts count_variables;
    }

pub count_program_runs : Runs count_program count_layout
count_program_runs =
    record {
      whole = λ input acts few.
          count_is input (first_bytes (picture_of parts count_program)) acts few
          (first_length (picture_of parts count_program) count_fits);
      each = λ input acts few b. count_each input acts few b;
    }

tally_fits : FitsMemory (picture_of parts tally_program)
tally_fits =
    let n = linked_length (links_of (code_of parts tally_program)) 0 (code_of parts tally_program) in
    let small' : size_of (code_of parts tally_program) ≤ 2 ^ 20 = omega arith in
    record { code_fits = omega (arith, n, small'); statics_fit = omega arith }

abbrev pub tally_layout : Layout
tally_layout =
    record {
      main = tally_main;
      others = inner_procedure ∷ [];
      environment = tally_environment;
      entry = tally_entry;
      end = tally_finish;
      units = tally_units;
      constants = no_constants;
      fills = [];
      serials = 2;
      made = newest_all parts tally_variables;
    }

pub tally_units_run : UnitsRun tally_program tally_layout
tally_units_run =
    record {
      whole = λ input acts few.
          tally_is input (first_bytes (picture_of parts tally_program)) acts few
          (first_length (picture_of parts tally_program) tally_fits);
      body = λ input acts few b. tally_does input acts few b;
    }
