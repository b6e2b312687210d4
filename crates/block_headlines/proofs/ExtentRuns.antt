-- The worked rows of arrays whose bounds are evaluated run at each number of acts: the lists of their extents' places
-- are told.
use Rattle.std.proofs.Common.{◌≡◌, ℕ, ◌^◌, ◌≤◌, [], ◌∷◌, Some, refl, arith}
use Rattle.pli_meaning.specs.Pictures.{first_bytes}
use Rattle.pli_coding.specs.Assembly.{Datum, size_of}
use Rattle.pli_coding.specs.Images.{code_of, picture_of}
use Rattle.pli_coding.specs.Linking.{links_of}
use Rattle.pli_coding.specs.StaticForms.{bounds_datum}
use Rattle.run_steps.proofs.Linking.{linked_length}
use Rattle.pli_headline.specs.Headline.{FitsMemory, parts}
use Rattle.pli_headline.proofs.WholeSizes.{first_length}
use Rattle.program_runs.specs.Variables.{newest_made}
use Rattle.program_runs.specs.VariableRows as W
use Rattle.program_places.specs.Constants.{constants_in}
use Rattle.extent_runs.specs.Extents.{bounds_of}
use Rattle.extent_rows.specs.GrowRows.{IsListTold, grow_code, grow_declared, grow_entry, grow_environment, grow_extent}
use Rattle.extent_rows.specs.GrowRows.{grow_fills, grow_main, grow_procedure, grow_program}
use Rattle.extent_rows.specs.BendRows.{bend_code, bend_declared, bend_entry, bend_environment, bend_extent, bend_main}
use Rattle.extent_rows.specs.BendRows.{bend_procedure, bend_program, bend_units}
use Rattle.extent_rows.specs.BendRows as B
use Rattle.extent_rows.proofs.BendCode.{bend_finish}
use Rattle.extent_rows.proofs.BendRows.{bend_does, bend_is}
use Rattle.extent_rows.proofs.GrowCode.{grow_finish}
use Rattle.extent_rows.proofs.GrowRows.{grow_each, grow_is}
use Rattle.block_headlines.specs.Headlines.{Layout, Runs, UnitsRun}
use Rattle.block_headlines.proofs.Constants.{constants_stand, datum_told}

grow_fits : FitsMemory (picture_of parts grow_program)
grow_fits =
    let n = linked_length (links_of (code_of parts grow_program)) 0 (code_of parts grow_program) in
    let small' : size_of (code_of parts grow_program) ≤ 2 ^ 20 = omega arith in
    record { code_fits = omega (arith, n, small'); statics_fit = omega arith }

abbrev pub grow_layout : Layout
grow_layout =
    record {
      main = grow_main;
      others = grow_procedure ∷ [];
      environment = grow_environment;
      entry = grow_entry;
      end = grow_finish;
      units = [];
      constants = constants_in grow_code;
      fills = grow_fills;
      serials = 1;
      made = newest_made parts W.number_declared;
    }

abbrev grow_places : Datum
grow_places = bounds_datum (bounds_of grow_extent) grow_declared.leaves

grow_told : IsListTold (constants_in grow_code)
grow_told n few = datum_told grow_code grow_places n grow_fits refl refl few

pub grow_program_runs : Runs grow_program grow_layout
grow_program_runs =
    record {
      whole = λ input acts few.
          grow_is (constants_in grow_code) input (first_bytes (picture_of parts grow_program)) acts few
          (first_length (picture_of parts grow_program) grow_fits) (constants_stand grow_code grow_fits);
      each = λ input acts few b. grow_each (constants_in grow_code) input acts few grow_told b;
    }

bend_fits : FitsMemory (picture_of parts bend_program)
bend_fits =
    let n = linked_length (links_of (code_of parts bend_program)) 0 (code_of parts bend_program) in
    let small' : size_of (code_of parts bend_program) ≤ 2 ^ 20 = omega arith in
    record { code_fits = omega (arith, n, small'); statics_fit = omega arith }

abbrev pub bend_layout : Layout
bend_layout =
    record {
      main = bend_main;
      others = bend_procedure ∷ [];
      environment = bend_environment;
      entry = bend_entry;
      end = bend_finish;
      units = bend_units;
      constants = constants_in bend_code;
      fills = grow_fills;
      serials = 1;
      made = newest_made parts W.number_declared;
    }

abbrev bend_places : Datum
bend_places = bounds_datum (bounds_of bend_extent) bend_declared.leaves

bend_told : B.IsListTold (constants_in bend_code)
bend_told n few = datum_told bend_code bend_places n bend_fits refl refl few

pub bend_units_run : UnitsRun bend_program bend_layout
bend_units_run =
    record {
      whole = λ input acts few.
          bend_is (constants_in bend_code) input (first_bytes (picture_of parts bend_program)) acts few
          (first_length (picture_of parts bend_program) bend_fits) (constants_stand bend_code bend_fits);
      body = λ input acts few b. bend_does (constants_in bend_code) input acts few bend_told b;
    }
