-- The worked row of PUT SKIP runs at each number of acts.
use Rattle.std.proofs.Common.{◌^◌, ◌≤◌, [], arith}
use Rattle.pli_meaning.specs.Pictures.{first_bytes}
use Rattle.pli_coding.specs.Assembly.{size_of}
use Rattle.pli_coding.specs.Images.{code_of, picture_of}
use Rattle.pli_coding.specs.Linking.{links_of}
use Rattle.storage_relation.specs.Versions.{no_constants}
use Rattle.run_steps.proofs.Linking.{linked_length}
use Rattle.pli_headline.specs.Headline.{FitsMemory, parts}
use Rattle.pli_headline.proofs.WholeSizes.{first_length}
use Rattle.program_runs.specs.VariableRows as W
use Rattle.program_runs.specs.Variables.{newest_made}
use Rattle.edit_runs.specs.SkipRows.{ruled_entry, ruled_environment, ruled_main, ruled_program}
use Rattle.edit_runs.proofs.SkipRows.{ruled_each, ruled_finish, ruled_is}
use Rattle.block_headlines.specs.Headlines.{Layout, Runs}

ruled_fits : FitsMemory (picture_of parts ruled_program)
ruled_fits =
    let n = linked_length (links_of (code_of parts ruled_program)) 0 (code_of parts ruled_program) in
    let small' : size_of (code_of parts ruled_program) ≤ 2 ^ 20 = omega arith in
    record { code_fits = omega (arith, n, small'); statics_fit = omega arith }

abbrev pub ruled_layout : Layout
ruled_layout =
    record {
      main = ruled_main;
      others = [];
      environment = ruled_environment;
      entry = ruled_entry;
      end = ruled_finish;
      units = [];
      constants = no_constants;
      fills = [];
      serials = 1;
      made = newest_made parts W.number_declared;
    }

pub ruled_program_runs : Runs ruled_program ruled_layout
ruled_program_runs =
    record {
      whole = λ input acts few.
          ruled_is input (first_bytes (picture_of parts ruled_program)) acts few
          (first_length (picture_of parts ruled_program) ruled_fits);
      each = λ input acts few b. ruled_each input acts few b;
    }
