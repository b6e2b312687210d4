-- The worked row runs at each number of acts.
use Rattle.std.proofs.Common.{[], arith, refl}
use Rattle.pli_meaning.specs.Pictures.{first_bytes}
use Rattle.pli_coding.specs.Images.{picture_of}
use Rattle.storage_relation.specs.Versions.{no_constants}
use Rattle.pli_headline.specs.Headline.{FitsMemory, parts}
use Rattle.pli_headline.proofs.WholeSizes.{first_length}
use Rattle.variable_runs.specs.Lists.{newest_all}
use Rattle.block_headlines.specs.Headlines.{Layout}
use Rattle.block_headlines.proofs.VariableRuns.{fits}
use Rattle.controlled_runs.specs.Rows.{stack_entry, stack_environment, stack_listed, stack_main, stack_program}
use Rattle.controlled_runs.proofs.Rows.{stack_each, stack_finish, stack_is, stack_lists, stack_variables}
use Rattle.controlled_headlines.specs.Headlines.{ListsRun}

stack_fits : FitsMemory (picture_of parts stack_program)
stack_fits = fits stack_program (omega arith) (omega arith)

abbrev pub stack_layout : Layout
stack_layout =
    record {
      main = stack_main;
      others = [];
      environment = stack_environment;
      entry = stack_entry;
      end = stack_finish;
      units = [];
      constants = no_constants;
      fills = [];
      serials = 1;
      made = newest_all parts stack_variables;
    }

pub stack_program_runs : ListsRun stack_program stack_layout stack_listed
stack_program_runs =
    record {
      whole = λ input acts few.
          stack_is input (first_bytes (picture_of parts stack_program)) acts few
          (first_length (picture_of parts stack_program) stack_fits);
      labels = refl;
      lists = λ input acts. stack_lists input acts;
      each = λ input acts few b. stack_each input acts few;
    }
