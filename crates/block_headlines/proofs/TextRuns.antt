-- The worked rows in which texts wait run at each number of acts.
use Rattle.std.proofs.Common.{[], ◌∷◌, arith}
use Rattle.pli_meaning.specs.Pictures.{first_bytes}
use Rattle.pli_coding.specs.Images.{picture_of}
use Rattle.storage_relation.specs.Versions.{no_constants}
use Rattle.pli_headline.specs.Headline.{FitsMemory, parts}
use Rattle.pli_headline.proofs.WholeSizes.{first_length}
use Rattle.program_runs.specs.VariableRows.{number_declared}
use Rattle.program_runs.specs.Variables.{newest_made}
use Rattle.text_runs.specs.Rows.{wait_entry, wait_environment, wait_function, wait_main, wait_program}
use Rattle.text_runs.proofs.Rows.{wait_each, wait_finish, wait_is}
use Rattle.jump_runs.specs.DropRows.{drop_entry, drop_environment, drop_function, drop_main, drop_program}
use Rattle.jump_runs.proofs.DropRows.{drop_each, drop_finish, drop_is}
use Rattle.text_units.specs.Rows.{rise_entry, rise_environment, rise_main, rise_program, rise_units}
use Rattle.text_units.proofs.Rows.{rise_does, rise_finish, rise_is}
use Rattle.block_headlines.specs.Headlines.{Layout, Runs, UnitsRun}
use Rattle.block_headlines.proofs.JumpRuns.{fits}

wait_fits : FitsMemory (picture_of parts wait_program)
wait_fits = fits wait_program (omega arith) (omega arith)

abbrev pub wait_layout : Layout
wait_layout =
    record {
      main = wait_main;
      others = wait_function ∷ [];
      environment = wait_environment;
      entry = wait_entry;
      end = wait_finish;
      units = [];
      constants = no_constants;
      fills = [];
      serials = 1;
      made = newest_made parts number_declared;
    }

pub wait_program_runs : Runs wait_program wait_layout
wait_program_runs =
    record {
      whole = λ input acts few.
          wait_is input (first_bytes (picture_of parts wait_program)) acts few
          (first_length (picture_of parts wait_program) wait_fits);
      each = λ input acts few b. wait_each input acts few b;
    }

drop_fits : FitsMemory (picture_of parts drop_program)
drop_fits = fits drop_program (omega arith) (omega arith)

abbrev pub drop_layout : Layout
drop_layout =
    record {
      main = drop_main;
      others = drop_function ∷ [];
      environment = drop_environment;
      entry = drop_entry;
      end = drop_finish;
      units = [];
      constants = no_constants;
      fills = [];
      serials = 1;
      made = newest_made parts number_declared;
    }

pub drop_program_runs : Runs drop_program drop_layout
drop_program_runs =
    record {
      whole = λ input acts few.
          drop_is input (first_bytes (picture_of parts drop_program)) acts few
          (first_length (picture_of parts drop_program) drop_fits);
      each = λ input acts few b. drop_each input acts few b;
    }

rise_fits : FitsMemory (picture_of parts rise_program)
rise_fits = fits rise_program (omega arith) (omega arith)

abbrev pub rise_layout : Layout
rise_layout =
    record {
      main = rise_main;
      others = [];
      environment = rise_environment;
      entry = rise_entry;
      end = rise_finish;
      units = rise_units;
      constants = no_constants;
      fills = [];
      serials = 1;
      made = newest_made parts number_declared;
    }

pub rise_units_run : UnitsRun rise_program rise_layout
rise_units_run =
    record {
      whole = λ input acts few.
          rise_is input (first_bytes (picture_of parts rise_program)) acts few
          (first_length (picture_of parts rise_program) rise_fits);
      body = λ input acts few b. rise_does input acts few b;
    }
