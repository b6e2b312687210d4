-- The worked row of where code stands runs at each number of acts.
use Rattle.std.proofs.Common.{◌^◌, ◌≤◌, [], ◌∷◌, arith}
use Rattle.pli_meaning.specs.Pictures.{first_bytes}
use Rattle.pli_coding.specs.Assembly.{size_of}
use Rattle.pli_coding.specs.Images.{code_of, picture_of}
use Rattle.pli_coding.specs.Linking.{links_of}
use Rattle.code_marks.specs.CodeMarks.{MarkedOnce}
use Rattle.storage_relation.specs.ServiceLaws.{TableDiffers}
use Rattle.run_steps.proofs.Linking.{linked_length}
use Rattle.pli_headline.specs.Headline.{FitsMemory, parts}
use Rattle.pli_headline.proofs.WholeSizes.{first_length}
use Rattle.program_places.specs.Constants.{constants_in}
use Rattle.program_places.specs.Programs.{behind_body, code_for, entry_for, environment_for, procedure_for}
use Rattle.program_places.specs.Rows.{bare_procedure, called_body, called_head, turning_body, turning_head}
use Rattle.program_places.specs.Rows.{turning_program}
use Rattle.program_places.proofs.Rows.{turning_each, turning_is}
use Rattle.block_headlines.specs.Headlines.{Layout, Runs}

turning_fits : FitsMemory (picture_of parts turning_program)
turning_fits =
    let n = linked_length (links_of (code_of parts turning_program)) 0 (code_of parts turning_program) in
    let small' : size_of (code_of parts turning_program) ≤ 2 ^ 20 = omega arith in
    record { code_fits = omega (arith, n, small'); statics_fit = omega arith }

abbrev pub turning_layout : Layout
turning_layout =
    record {
      main = procedure_for turning_program turning_head turning_body;
      others = bare_procedure called_head called_body ∷ [];
      environment = environment_for turning_program turning_head;
      entry = entry_for turning_program 1;
      end = behind_body turning_program turning_head turning_body;
      units = [];
      constants = constants_in (code_for turning_program);
      fills = [];
      serials = 1;
      made = λ q. q;
    }

pub turning_program_runs : MarkedOnce → TableDiffers → Runs turning_program turning_layout
turning_program_runs once tables =
    record {
      whole = λ input acts few.
          turning_is once tables input (first_bytes (picture_of parts turning_program)) acts few
          (first_length (picture_of parts turning_program) turning_fits);
      each = λ input acts few b. turning_each once input acts few b;
    }
