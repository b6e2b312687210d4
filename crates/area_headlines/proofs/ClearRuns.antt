-- The worked row with two areas runs at each number of acts.
use Rattle.std.proofs.Common.{[], arith}
use Rattle.pli_meaning.specs.Pictures.{first_bytes}
use Rattle.pli_coding.specs.Images.{picture_of}
use Rattle.storage_relation.specs.Versions.{no_constants}
use Rattle.pli_headline.specs.Headline.{FitsMemory, parts}
use Rattle.pli_headline.proofs.WholeSizes.{first_length}
use Rattle.variable_runs.specs.Lists.{newest_all}
use Rattle.area_assignments.specs.Rows.{clear_entry, clear_environment, clear_main, clear_program}
use Rattle.area_assignments.proofs.Rows.{clear_each, clear_finish, clear_is, clear_variables}
use Rattle.block_headlines.specs.Headlines.{Layout, Runs}
use Rattle.block_headlines.proofs.VariableRuns.{fits}

clear_fits : FitsMemory (picture_of parts clear_program)
clear_fits = fits clear_program (omega arith) (omega arith)

abbrev pub clear_layout : Layout
clear_layout =
    record {
      main = clear_main;
      others = [];
      environment = clear_environment;
      entry = clear_entry;
      end = clear_finish;
      units = [];
      constants = no_constants;
      fills = [];
      serials = 3;
      made = newest_all parts clear_variables;
    }

pub clear_program_runs : Runs clear_program clear_layout
clear_program_runs =
    record {
      whole = λ input acts few.
          clear_is input (first_bytes (picture_of parts clear_program)) acts few
          (first_length (picture_of parts clear_program) clear_fits);
      each = λ input acts few b. clear_each input acts few b;
    }
