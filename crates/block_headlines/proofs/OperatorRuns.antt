-- The worked rows of operators and of tests run at each number of acts.
use Rattle.std.proofs.Common.{[], arith}
use Rattle.pli_meaning.specs.Pictures.{first_bytes}
use Rattle.pli_coding.specs.Images.{picture_of}
use Rattle.storage_relation.specs.Versions.{no_constants}
use Rattle.pli_headline.specs.Headline.{FitsMemory, parts}
use Rattle.pli_headline.proofs.WholeSizes.{first_length}
use Rattle.program_runs.specs.VariableRows.{number_declared}
use Rattle.program_runs.specs.Variables.{newest_made}
use Rattle.operator_runs.specs.Rows.{square_entry, square_environment, square_main, square_program}
use Rattle.operator_runs.proofs.Rows.{square_each, square_finish, square_is}
use Rattle.test_runs.specs.Rows.{turn_entry, turn_environment, turn_main, turn_program}
use Rattle.test_runs.proofs.Rows.{turn_each, turn_finish, turn_is}
use Rattle.block_headlines.specs.Headlines.{Layout, Runs}
use Rattle.block_headlines.proofs.VariableRuns.{fits}

square_fits : FitsMemory (picture_of parts square_program)
square_fits = fits square_program (omega arith) (omega arith)

abbrev pub square_layout : Layout
square_layout =
    record {
      main = square_main;
      others = [];
      environment = square_environment;
      entry = square_entry;
      end = square_finish;
      units = [];
      constants = no_constants;
      fills = [];
      serials = 1;
      made = newest_made parts number_declared;
    }

pub square_program_runs : Runs square_program square_layout
square_program_runs =
    record {
      whole = λ input acts few.
          square_is input (first_bytes (picture_of parts square_program)) acts few
          (first_length (picture_of parts square_program) square_fits);
      each = λ input acts few b. square_each input acts few b;
    }

turn_fits : FitsMemory (picture_of parts turn_program)
turn_fits = fits turn_program (omega arith) (omega arith)

abbrev pub turn_layout : Layout
turn_layout =
    record {
      main = turn_main;
      others = [];
      environment = turn_environment;
      entry = turn_entry;
      end = turn_finish;
      units = [];
      constants = no_constants;
      fills = [];
      serials = 1;
      made = newest_made parts number_declared;
    }

pub turn_program_runs : Runs turn_program turn_layout
turn_program_runs =
    record {
      whole = λ input acts few.
          turn_is input (first_bytes (picture_of parts turn_program)) acts few
          (first_length (picture_of parts turn_program) turn_fits);
      each = λ input acts few b. turn_each input acts few b;
    }
