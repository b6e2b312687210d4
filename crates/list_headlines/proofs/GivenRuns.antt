-- The worked row with two arguments runs at each number of acts.
use Rattle.std.proofs.Common.{[], ◌∷◌, arith}
use Rattle.pli_meaning.specs.Pictures.{first_bytes}
use Rattle.pli_coding.specs.Images.{picture_of}
use Rattle.storage_relation.specs.Versions.{no_constants}
use Rattle.pli_headline.specs.Headline.{FitsMemory, parts}
use Rattle.pli_headline.proofs.WholeSizes.{first_length}
use Rattle.program_runs.specs.Names.{newest_named}
use Rattle.program_runs.specs.VariableRows.{number_declared}
use Rattle.list_calls.specs.ListRows.{given_entry, given_environment, given_main, given_procedure, given_program}
use Rattle.list_calls.proofs.ListRows.{given_each, given_finish, given_is}
use Rattle.block_headlines.specs.Headlines.{Layout, Runs}
use Rattle.block_headlines.proofs.VariableRuns.{fits}

given_fits : FitsMemory (picture_of parts given_program)
given_fits = fits given_program (omega arith) (omega arith)

abbrev pub given_layout : Layout
given_layout =
    record {
      main = given_main;
      others = given_procedure ∷ [];
      environment = given_environment;
      entry = given_entry;
      end = given_finish;
      units = [];
      constants = no_constants;
      fills = [];
      serials = 1;
      made = newest_named parts number_declared;
    }

pub given_program_runs : Runs given_program given_layout
given_program_runs =
    record {
      whole = λ input acts few.
          given_is input (first_bytes (picture_of parts given_program)) acts few
          (first_length (picture_of parts given_program) given_fits);
      each = λ input acts few b. given_each input acts few b;
    }
