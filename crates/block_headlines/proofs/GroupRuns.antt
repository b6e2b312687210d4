-- The worked row of a DO group runs at each number of acts.
use Rattle.std.proofs.Common.{◌*◌, ◌^◌, ◌≤◌, [], length, arith}
use Rattle.pli_meaning.specs.Pictures.{first_bytes}
use Rattle.pli_coding.specs.Assembly.{size_of}
use Rattle.pli_coding.specs.Images.{code_of, picture_of}
use Rattle.pli_coding.specs.Linking.{links_of}
use Rattle.storage_relation.specs.Versions.{no_constants}
use Rattle.run_steps.proofs.Linking.{linked_length}
use Rattle.pli_headline.specs.Headline.{FitsMemory, parts}
use Rattle.pli_headline.proofs.WholeSizes.{first_length}
use Rattle.program_runs.specs.VariableRows as W
use Rattle.program_runs.specs.Variables.{newest_made}
use Rattle.group_runs.specs.Rows.{group_entry, group_environment, group_main, group_program}
use Rattle.group_runs.proofs.Rows.{group_each, group_finish, group_is}
use Rattle.block_headlines.specs.Headlines.{Layout, Runs}

group_fits : FitsMemory (picture_of parts group_program)
group_fits =
    let n = linked_length (links_of (code_of parts group_program)) 0 (code_of parts group_program) in
    let small' : size_of (code_of parts group_program) ≤ 2 ^ 20 = omega arith in
    record { code_fits = omega (arith, n, small'); statics_fit = omega arith }

abbrev pub group_layout : Layout
group_layout =
    record {
      main = group_main;
      others = [];
      environment = group_environment;
      entry = group_entry;
      end = group_finish;
      units = [];
      constants = no_constants;
      fills = [];
      serials = 1;
      made = newest_made parts W.number_declared;
    }

pub group_program_runs : Runs group_program group_layout
group_program_runs =
    record {
      whole = λ input acts few.
          group_is input (first_bytes (picture_of parts group_program)) acts few
          (first_length (picture_of parts group_program) group_fits);
      each = λ input acts few b. group_each input acts few b;
    }
