-- The worked rows of jumps run at each number of acts.
use Rattle.std.proofs.Common.{◌*◌, ◌^◌, ◌≤◌, [], ◌∷◌, length, arith}
use Rattle.pli_typing.specs.TypedTree as Y
use Rattle.pli_meaning.specs.Pictures.{first_bytes}
use Rattle.pli_coding.specs.Assembly.{size_of}
use Rattle.pli_coding.specs.Images.{code_of, picture_of}
use Rattle.pli_coding.specs.Linking.{links_of}
use Rattle.storage_relation.specs.Versions.{no_constants}
use Rattle.run_steps.proofs.Linking.{linked_length}
use Rattle.pli_headline.specs.Headline.{FitsMemory, parts}
use Rattle.pli_headline.proofs.WholeSizes.{first_length}
use Rattle.program_runs.specs.VariableRows.{number_declared}
use Rattle.program_runs.specs.Variables.{newest_made}
use Rattle.jump_runs.specs.FunctionRows.{shed_entry, shed_environment, shed_function, shed_main, shed_program}
use Rattle.jump_runs.specs.Rows.{bolt_entry, bolt_environment, bolt_main, bolt_procedure, bolt_program}
use Rattle.jump_runs.specs.UnitRows.{flee_entry, flee_environment, flee_function, flee_main, flee_program, flee_units}
use Rattle.jump_runs.proofs.FunctionRows.{shed_each, shed_finish, shed_is}
use Rattle.jump_runs.proofs.Rows.{bolt_each, bolt_finish, bolt_is}
use Rattle.jump_runs.proofs.UnitRowCode.{flee_finish}
use Rattle.jump_runs.proofs.UnitRows.{flee_each, flee_is}
use Rattle.copy_units.specs.Rows.{mute_entry, mute_environment, mute_function, mute_main, mute_program, mute_units}
use Rattle.copy_units.proofs.Rows.{mute_each, mute_finish, mute_is}
use Rattle.block_headlines.specs.Headlines.{Layout, Runs}

pub fits :
    (program : Y.Program) → size_of (code_of parts program) ≤ 2 ^ 20 →
    length (picture_of parts program).statics ≤ 3 * 2 ^ 20 → FitsMemory (picture_of parts program)
fits program small' few =
    let n = linked_length (links_of (code_of parts program)) 0 (code_of parts program) in
    record { code_fits = omega (arith, n, small'); statics_fit = few }

bolt_fits : FitsMemory (picture_of parts bolt_program)
bolt_fits = fits bolt_program (omega arith) (omega arith)

abbrev pub bolt_layout : Layout
bolt_layout =
    record {
      main = bolt_main;
      others = bolt_procedure ∷ [];
      environment = bolt_environment;
      entry = bolt_entry;
      end = bolt_finish;
      units = [];
      constants = no_constants;
      fills = [];
      serials = 1;
      made = newest_made parts number_declared;
    }

pub bolt_program_runs : Runs bolt_program bolt_layout
bolt_program_runs =
    record {
      whole = λ input acts few.
          bolt_is input (first_bytes (picture_of parts bolt_program)) acts few
          (first_length (picture_of parts bolt_program) bolt_fits);
      each = λ input acts few b. bolt_each input acts few b;
    }

shed_fits : FitsMemory (picture_of parts shed_program)
shed_fits = fits shed_program (omega arith) (omega arith)

abbrev pub shed_layout : Layout
shed_layout =
    record {
      main = shed_main;
      others = shed_function ∷ [];
      environment = shed_environment;
      entry = shed_entry;
      end = shed_finish;
      units = [];
      constants = no_constants;
      fills = [];
      serials = 1;
      made = newest_made parts number_declared;
    }

pub shed_program_runs : Runs shed_program shed_layout
shed_program_runs =
    record {
      whole = λ input acts few.
          shed_is input (first_bytes (picture_of parts shed_program)) acts few
          (first_length (picture_of parts shed_program) shed_fits);
      each = λ input acts few b. shed_each input acts few b;
    }

flee_fits : FitsMemory (picture_of parts flee_program)
flee_fits = fits flee_program (omega arith) (omega arith)

abbrev pub flee_layout : Layout
flee_layout =
    record {
      main = flee_main;
      others = flee_function ∷ [];
      environment = flee_environment;
      entry = flee_entry;
      end = flee_finish;
      units = flee_units;
      constants = no_constants;
      fills = [];
      serials = 1;
      made = newest_made parts number_declared;
    }

pub flee_program_runs : Runs flee_program flee_layout
flee_program_runs =
    record {
      whole = λ input acts few.
          flee_is input (first_bytes (picture_of parts flee_program)) acts few
          (first_length (picture_of parts flee_program) flee_fits);
      each = λ input acts few b. flee_each input acts few b;
    }

mute_fits : FitsMemory (picture_of parts mute_program)
mute_fits = fits mute_program (omega arith) (omega arith)

abbrev pub mute_layout : Layout
mute_layout =
    record {
      main = mute_main;
      others = mute_function ∷ [];
      environment = mute_environment;
      entry = mute_entry;
      end = mute_finish;
      units = mute_units;
      constants = no_constants;
      fills = [];
      serials = 1;
      made = newest_made parts number_declared;
    }

pub mute_program_runs : Runs mute_program mute_layout
mute_program_runs =
    record {
      whole = λ input acts few.
          mute_is input (first_bytes (picture_of parts mute_program)) acts few
          (first_length (picture_of parts mute_program) mute_fits);
      each = λ input acts few b. mute_each input acts few b;
    }
