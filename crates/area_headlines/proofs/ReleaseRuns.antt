-- The worked row of FREE runs at each number of acts.
use Rattle.std.proofs.Common.{[], arith}
use Rattle.pli_meaning.specs.Pictures.{first_bytes}
use Rattle.pli_coding.specs.Images.{picture_of}
use Rattle.storage_relation.specs.Versions.{no_constants}
use Rattle.pli_headline.specs.Headline.{FitsMemory, parts}
use Rattle.pli_headline.proofs.WholeSizes.{first_length}
use Rattle.variable_runs.specs.Lists.{newest_all}
use Rattle.area_freeings.specs.Rows.{release_entry, release_environment, release_main, release_program}
use Rattle.area_freeings.proofs.Rows.{release_each, release_finish, release_is, release_variables}
use Rattle.block_headlines.specs.Headlines.{Layout, Runs}
use Rattle.block_headlines.proofs.VariableRuns.{fits}

release_fits : FitsMemory (picture_of parts release_program)
release_fits = fits release_program (omega arith) (omega arith)

abbrev pub release_layout : Layout
release_layout =
    record {
      main = release_main;
      others = [];
      environment = release_environment;
      entry = release_entry;
      end = release_finish;
      units = [];
      constants = no_constants;
      fills = [];
      serials = 2;
      made = newest_all parts release_variables;
    }

pub release_program_runs : Runs release_program release_layout
release_program_runs =
    record {
      whole = λ input acts few.
          release_is input (first_bytes (picture_of parts release_program)) acts few
          (first_length (picture_of parts release_program) release_fits);
      each = λ input acts few b. release_each input acts few b;
    }
