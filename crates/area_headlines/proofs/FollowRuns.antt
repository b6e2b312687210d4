-- The worked row with two pointers runs at each number of acts.
use Rattle.std.proofs.Common.{[], arith}
use Rattle.pli_meaning.specs.Pictures.{first_bytes}
use Rattle.pli_coding.specs.Images.{picture_of}
use Rattle.storage_relation.specs.Versions.{no_constants}
use Rattle.pli_headline.specs.Headline.{FitsMemory, parts}
use Rattle.pli_headline.proofs.WholeSizes.{first_length}
use Rattle.variable_runs.specs.Lists.{newest_all}
use Rattle.locator_runs.specs.Rows.{follow_entry, follow_environment, follow_main, follow_program}
use Rattle.locator_runs.proofs.Rows.{follow_each, follow_finish, follow_is, follow_variables}
use Rattle.block_headlines.specs.Headlines.{Layout, Runs}
use Rattle.block_headlines.proofs.VariableRuns.{fits}

follow_fits : FitsMemory (picture_of parts follow_program)
follow_fits = fits follow_program (omega arith) (omega arith)

abbrev pub follow_layout : Layout
follow_layout =
    record {
      main = follow_main;
      others = [];
      environment = follow_environment;
      entry = follow_entry;
      end = follow_finish;
      units = [];
      constants = no_constants;
      fills = [];
      serials = 4;
      made = newest_all parts follow_variables;
    }

pub follow_program_runs : Runs follow_program follow_layout
follow_program_runs =
    record {
      whole = λ input acts few.
          follow_is input (first_bytes (picture_of parts follow_program)) acts few
          (first_length (picture_of parts follow_program) follow_fits);
      each = λ input acts few b. follow_each input acts few b;
    }
