-- A program whose run is known at each number of acts keeps the headline.
use Rattle.std.proofs.Common.{ℕ, suc, ◌+◌, ◌*◌, ◌^◌, ◌<◌, ◌≤◌, List, [], ◌∷◌, length, refl, arith}
use Rattle.pli_typing.specs.TypedTree as Y
use Rattle.pli_meaning.specs.Executing.{meaning, run}
use Rattle.pli_meaning.specs.Pictures.{first_bytes}
use Rattle.pli_meaning.specs.StorageState.{first_state}
use Rattle.area_keeper.specs.KeeperLaws.{Keeps}
use Rattle.run_keeper.specs.RunKeeper.{run_keeper}
use Rattle.pli_serving.specs.ServiceState.{first_services}
use Rattle.pli_coding.specs.Assembly.{size_of}
use Rattle.pli_coding.specs.Images.{code_of, picture_of}
use Rattle.pli_coding.specs.Linking.{links_of}
use Rattle.pli_coding.specs.SignatureTable.{table_of}
use Rattle.storage_relation.specs.Versions.{no_constants}
use Rattle.activation_relation.specs.Layers.{services_of}
use Rattle.run_steps.specs.Reach.{Comes, GiveFew}
use Rattle.run_steps.proofs.Linking.{linked_length}
use Rattle.code_marks.specs.CodeMarks.{MarkedOnce}
use Rattle.storage_relation.specs.ServiceLaws.{TableDiffers}
use Rattle.program_places.specs.Rows.{turning_program}
use Rattle.pli_headline.specs.Headline.{FitsMemory, Headline, parts}
use Rattle.pli_headline.proofs.Promises as P
use Rattle.pli_headline.proofs.Promises.{Comes_at, Laws, Works, from_flow, promised}
use Rattle.pli_headline.proofs.WholeSizes.{first_length}
use Rattle.program_runs.specs.Rows.{main_entry, row_end, row_environment, row_inner, row_main, row_procedure}
use Rattle.program_runs.specs.Rows.{row_program}
use Rattle.program_runs.specs.VariableRows.{number_declared, number_entry, number_environment, number_main}
use Rattle.program_runs.specs.VariableRows.{number_program}
use Rattle.program_runs.specs.Programs.{IsWhole}
use Rattle.program_runs.specs.Starts.{first_family, start_point, never_in, surroundings_of}
use Rattle.program_runs.specs.Names.{newest_named}
use Rattle.program_runs.specs.Variables.{newest_made}
use Rattle.program_runs.proofs.Programs.{program_runs}
use Rattle.program_runs.proofs.Rows.{main_each, row_is}
use Rattle.program_runs.proofs.Starts.{first_step_of}
use Rattle.program_runs.proofs.VariableRows.{number_each, number_end, number_is}
use Rattle.expression_runs.specs.Rows.{double_entry, double_environment, double_main, double_program}
use Rattle.expression_runs.proofs.Rows.{double_each, double_finish, double_is}
use Rattle.function_runs.specs.LocalRows.{local_entry, local_environment, local_main, local_procedure, local_program}
use Rattle.function_runs.proofs.LocalRows.{local_each, local_finish, local_is}
use Rattle.function_runs.specs.Rows.{fetch_entry, fetch_environment, fetch_main, fetch_program, inner_procedure}
use Rattle.function_runs.proofs.Rows.{fetch_each, fetch_finish, fetch_is}
use Rattle.argument_runs.specs.CopyRows.{given_entry, given_environment, given_main, given_procedure, given_program}
use Rattle.argument_runs.proofs.CopyRows.{given_each, given_finish, given_is}
use Rattle.argument_runs.specs.FunctionRows.{applied_entry, applied_environment, applied_main, applied_procedure}
use Rattle.argument_runs.specs.FunctionRows.{applied_program}
use Rattle.argument_runs.proofs.FunctionRows.{applied_each, applied_finish, applied_is}
use Rattle.reference_runs.specs.LocalRows.{kept_entry, kept_environment, kept_main, kept_procedure, kept_program}
use Rattle.reference_runs.proofs.LocalRows.{kept_each, kept_finish, kept_is}
use Rattle.reference_runs.specs.ReferenceRows.{passed_entry, passed_environment, passed_main, passed_procedure}
use Rattle.reference_runs.specs.ReferenceRows.{passed_program}
use Rattle.reference_runs.proofs.ReferenceRows.{passed_each, passed_finish, passed_is}
use Rattle.begin_runs.specs.LeaveRows.{leave_entry, leave_environment, leave_main, leave_program}
use Rattle.begin_runs.specs.Rows.{nest_entry, nest_environment, nest_main, nest_program}
use Rattle.begin_runs.proofs.LeaveRows.{leave_each, leave_finish, leave_is}
use Rattle.begin_runs.proofs.Rows.{nest_each, nest_finish, nest_is}
use Rattle.jump_runs.specs.DropRows.{drop_program}
use Rattle.jump_runs.specs.FunctionRows.{shed_program}
use Rattle.jump_runs.specs.Rows.{bolt_program}
use Rattle.jump_runs.specs.UnitRows.{flee_program}
use Rattle.copy_units.specs.Rows.{mute_program}
use Rattle.variable_runs.specs.Rows.{pair_program}
use Rattle.area_runs.specs.Rows.{locate_program}
use Rattle.operator_runs.specs.Rows.{square_program}
use Rattle.test_runs.specs.Rows.{turn_program}
use Rattle.text_runs.specs.Rows.{wait_program}
use Rattle.text_units.specs.Rows.{rise_program}
use Rattle.element_runs.specs.Rows.{pick_program}
use Rattle.counter_runs.specs.CountRows.{count_program}
use Rattle.extent_rows.specs.BendRows.{bend_program}
use Rattle.extent_rows.specs.GrowRows.{grow_program}
use Rattle.counter_runs.specs.TallyRows.{tally_program}
use Rattle.group_runs.specs.Rows.{group_program}
use Rattle.unit_runs.specs.BeginRows.{host_entry, host_environment, host_main, host_program, host_units}
use Rattle.unit_runs.specs.CallRows.{lend_entry, lend_environment, lend_main, lend_procedure, lend_program, lend_units}
use Rattle.unit_runs.specs.DeepRows.{deep_entry, deep_environment, deep_main, deep_program, deep_units}
use Rattle.unit_runs.specs.JumpRows.{skip_entry, skip_environment, skip_main, skip_program, skip_units}
use Rattle.unit_runs.specs.LoopRows.{loop_entry, loop_environment, loop_main, loop_program, loop_units}
use Rattle.unit_runs.specs.Rows.{mend_entry, mend_environment, mend_main, mend_program, mend_units}
use Rattle.unit_runs.proofs.BeginRows.{host_each, host_finish, host_is}
use Rattle.unit_runs.proofs.Bodies.{unit_program_runs}
use Rattle.unit_runs.proofs.CallRows.{lend_does, lend_finish, lend_is}
use Rattle.unit_runs.proofs.DeepRows.{deep_does, deep_finish, deep_is}
use Rattle.unit_runs.proofs.JumpRows.{skip_does, skip_finish, skip_is}
use Rattle.unit_runs.proofs.LoopRows.{loop_does, loop_finish, loop_is}
use Rattle.unit_runs.proofs.Rows.{mend_does, mend_finish, mend_is}
use Rattle.block_headlines.specs.Headlines.{HeadlinesOfRows, Layout, Runs, UnitsRun, whole_of}
use Rattle.block_headlines.proofs.JumpRuns.{bolt_layout, bolt_program_runs, flee_layout, flee_program_runs}
use Rattle.block_headlines.proofs.JumpRuns.{mute_layout, mute_program_runs, shed_layout, shed_program_runs}
use Rattle.block_headlines.proofs.OperatorRuns.{square_layout, square_program_runs, turn_layout, turn_program_runs}
use Rattle.block_headlines.proofs.VariableRuns.{locate_layout, locate_program_runs, pair_layout, pair_program_runs}
use Rattle.block_headlines.proofs.TextRuns.{drop_layout, drop_program_runs, rise_layout, rise_units_run}
use Rattle.block_headlines.proofs.TextRuns.{wait_layout, wait_program_runs}
use Rattle.block_headlines.proofs.CounterRuns.{count_layout, count_program_runs, tally_layout, tally_units_run}
use Rattle.block_headlines.proofs.ExtentRuns.{bend_layout, bend_units_run, grow_layout, grow_program_runs}
use Rattle.block_headlines.proofs.ElementRuns.{pick_layout, pick_program_runs}
use Rattle.block_headlines.proofs.GroupRuns.{group_layout, group_program_runs}
use Rattle.block_headlines.proofs.PlacedRuns.{turning_layout, turning_program_runs}
use Rattle.block_runs.specs.Machines.{limits_of}
use Rattle.activation_relation.specs.Points.{early_serials}

-- a program whose run is known at each number of acts, from its first instruction
record IsKnown (program : Y.Program) (x : Layout) : Type 0 where
  whole :
      (input : List ℕ) (acts : ℕ) → acts + 1 < 2 ^ 64 →
      IsWhole (whole_of program x input acts) (first_bytes (picture_of parts program))
  runs :
      (input : List ℕ) (acts : ℕ) → acts + 1 < 2 ^ 64 →
      Comes (whole_of program x input acts).image.code 0
      (first_family (first_bytes (picture_of parts program))
      (services_of (start_point (whole_of program x input acts).image)))
      (services_of (start_point (whole_of program x input acts).image)) (never_in (whole_of program x input acts).image)
      (run program (suc acts) acts (first_state input))

comes :
    Laws → (program : Y.Program) (x : Layout) → IsKnown program x → (input : List ℕ) (k : ℕ) → k + 1 < 2 ^ 64 →
    GiveFew (picture_of parts program).code (limits_of (surroundings_of (whole_of program x input k).image))
    (P.first_family (picture_of parts program) (table_of program) input) →
    Comes_at (picture_of parts program) (table_of program) program input k
unfolding meaning
comes laws program x is input k few early =
    from_flow (limits_of (surroundings_of (whole_of program x input k).image)) laws (picture_of parts program)
    (table_of program) program input k (run program (suc k) k (first_state input)) refl (is.runs input k few) early

works :
    Laws → (program : Y.Program) (x : Layout) → IsKnown program x →
    Works (picture_of parts program) (table_of program) program
works laws program x is =
    let start = (is.whole [] 0 (omega arith)).start.linked in
    let low = start.small' in
    record {
      small = omega (arith, low);
      early = early_serials;
      enough = omega arith;
      comes = comes laws program x is;
      first = λ input b. first_step_of (first_bytes (picture_of parts program))
          (first_services (table_of program) input) x.main.head.number start b;
    }

promised_by :
    Laws → (program : Y.Program) (x : Layout) → IsKnown program x →
    Headline program (picture_of parts program) (table_of program)
promised_by laws program x is =
    promised laws (picture_of parts program) (table_of program) program (works laws program x is)

pub kept :
    Laws → Keeps run_keeper → (program : Y.Program) (x : Layout) → Runs program x →
    Headline program (picture_of parts program) (table_of program)
kept laws keeps program x is =
    promised_by laws program x
    (record {
      whole = is.whole;
      runs = λ input k few.
          program_runs keeps (whole_of program x input k) (first_bytes (picture_of parts program))
          (is.whole input k few) (is.each input k few);
    })

pub unit_kept :
    Laws → Keeps run_keeper → (program : Y.Program) (x : Layout) → UnitsRun program x →
    Headline program (picture_of parts program) (table_of program)
unit_kept laws keeps program x is =
    promised_by laws program x
    (record {
      whole = is.whole;
      runs = λ input k few.
          unit_program_runs keeps (whole_of program x input k) (first_bytes (picture_of parts program))
          (is.whole input k few) (is.body input k few);
    })

-- ---- the worked rows

small_fits : (program : Y.Program) → size_of (code_of parts program) ≤ 2 ^ 20 →
    length (picture_of parts program).statics ≤ 3 * 2 ^ 20 → FitsMemory (picture_of parts program)
small_fits program small' few =
    let n = linked_length (links_of (code_of parts program)) 0 (code_of parts program) in
    record { code_fits = omega (arith, n, small'); statics_fit = few }

row_fits : FitsMemory (picture_of parts row_program)
row_fits = small_fits row_program (omega arith) (omega arith)

number_fits : FitsMemory (picture_of parts number_program)
number_fits = small_fits number_program (omega arith) (omega arith)

abbrev row_layout : Layout
row_layout =
    record {
      main = row_main;
      others = row_procedure row_inner ∷ [];
      environment = row_environment row_main;
      entry = main_entry;
      end = row_end main_entry row_main;
      units = [];
      constants = no_constants;
      fills = [];
      serials = 1;
      made = λ q. q;
    }

abbrev number_layout : Layout
number_layout =
    record {
      main = number_main;
      others = [];
      environment = number_environment;
      entry = number_entry;
      end = number_end;
      units = [];
      constants = no_constants;
      fills = [];
      serials = 1;
      made = newest_made parts number_declared;
    }

double_fits : FitsMemory (picture_of parts double_program)
double_fits = small_fits double_program (omega arith) (omega arith)

abbrev double_layout : Layout
double_layout =
    record {
      main = double_main;
      others = [];
      environment = double_environment;
      entry = double_entry;
      end = double_finish;
      units = [];
      constants = no_constants;
      fills = [];
      serials = 1;
      made = newest_made parts number_declared;
    }

double_program_runs : Runs double_program double_layout
double_program_runs =
    record {
      whole = λ input acts few.
          double_is input (first_bytes (picture_of parts double_program)) acts few
          (first_length (picture_of parts double_program) double_fits);
      each = λ input acts few b. double_each input acts few b;
    }

fetch_fits : FitsMemory (picture_of parts fetch_program)
fetch_fits = small_fits fetch_program (omega arith) (omega arith)

abbrev fetch_layout : Layout
fetch_layout =
    record {
      main = fetch_main;
      others = inner_procedure ∷ [];
      environment = fetch_environment;
      entry = fetch_entry;
      end = fetch_finish;
      units = [];
      constants = no_constants;
      fills = [];
      serials = 1;
      made = newest_made parts number_declared;
    }

fetch_program_runs : Runs fetch_program fetch_layout
fetch_program_runs =
    record {
      whole = λ input acts few.
          fetch_is input (first_bytes (picture_of parts fetch_program)) acts few
          (first_length (picture_of parts fetch_program) fetch_fits);
      each = λ input acts few b. fetch_each input acts few b;
    }

local_fits : FitsMemory (picture_of parts local_program)
local_fits = small_fits local_program (omega arith) (omega arith)

abbrev local_layout : Layout
local_layout =
    record {
      main = local_main;
      others = local_procedure ∷ [];
      environment = local_environment;
      entry = local_entry;
      end = local_finish;
      units = [];
      constants = no_constants;
      fills = [];
      serials = 1;
      made = newest_made parts number_declared;
    }

local_program_runs : Runs local_program local_layout
local_program_runs =
    record {
      whole = λ input acts few.
          local_is input (first_bytes (picture_of parts local_program)) acts few
          (first_length (picture_of parts local_program) local_fits);
      each = λ input acts few b. local_each input acts few b;
    }

given_fits : FitsMemory (picture_of parts given_program)
given_fits = small_fits given_program (omega arith) (omega arith)

abbrev given_layout : Layout
given_layout =
    record {
      main = given_main;
      others = given_procedure ∷ [];
      environment = given_environment;
      entry = given_entry;
      end = given_finish;
      units = [];
      constants = no_constants;
      fills = [];
      serials = 1;
      made = newest_made parts number_declared;
    }

given_program_runs : Runs given_program given_layout
given_program_runs =
    record {
      whole = λ input acts few.
          given_is input (first_bytes (picture_of parts given_program)) acts few
          (first_length (picture_of parts given_program) given_fits);
      each = λ input acts few b. given_each input acts few b;
    }

passed_fits : FitsMemory (picture_of parts passed_program)
passed_fits = small_fits passed_program (omega arith) (omega arith)

abbrev passed_layout : Layout
passed_layout =
    record {
      main = passed_main;
      others = passed_procedure ∷ [];
      environment = passed_environment;
      entry = passed_entry;
      end = passed_finish;
      units = [];
      constants = no_constants;
      fills = [];
      serials = 1;
      made = newest_named parts number_declared;
    }

passed_program_runs : Runs passed_program passed_layout
passed_program_runs =
    record {
      whole = λ input acts few.
          passed_is input (first_bytes (picture_of parts passed_program)) acts few
          (first_length (picture_of parts passed_program) passed_fits);
      each = λ input acts few b. passed_each input acts few b;
    }

kept_fits : FitsMemory (picture_of parts kept_program)
kept_fits = small_fits kept_program (omega arith) (omega arith)

abbrev kept_layout : Layout
kept_layout =
    record {
      main = kept_main;
      others = kept_procedure ∷ [];
      environment = kept_environment;
      entry = kept_entry;
      end = kept_finish;
      units = [];
      constants = no_constants;
      fills = [];
      serials = 1;
      made = newest_named parts number_declared;
    }

kept_program_runs : Runs kept_program kept_layout
kept_program_runs =
    record {
      whole = λ input acts few.
          kept_is input (first_bytes (picture_of parts kept_program)) acts few
          (first_length (picture_of parts kept_program) kept_fits);
      each = λ input acts few b. kept_each input acts few b;
    }

applied_fits : FitsMemory (picture_of parts applied_program)
applied_fits = small_fits applied_program (omega arith) (omega arith)

abbrev applied_layout : Layout
applied_layout =
    record {
      main = applied_main;
      others = applied_procedure ∷ [];
      environment = applied_environment;
      entry = applied_entry;
      end = applied_finish;
      units = [];
      constants = no_constants;
      fills = [];
      serials = 1;
      made = newest_made parts number_declared;
    }

applied_program_runs : Runs applied_program applied_layout
applied_program_runs =
    record {
      whole = λ input acts few.
          applied_is input (first_bytes (picture_of parts applied_program)) acts few
          (first_length (picture_of parts applied_program) applied_fits);
      each = λ input acts few b. applied_each input acts few b;
    }

nest_fits : FitsMemory (picture_of parts nest_program)
nest_fits = small_fits nest_program (omega arith) (omega arith)

abbrev nest_layout : Layout
nest_layout =
    record {
      main = nest_main;
      others = [];
      environment = nest_environment;
      entry = nest_entry;
      end = nest_finish;
      units = [];
      constants = no_constants;
      fills = [];
      serials = 1;
      made = newest_made parts number_declared;
    }

nest_program_runs : Runs nest_program nest_layout
nest_program_runs =
    record {
      whole = λ input acts few.
          nest_is input (first_bytes (picture_of parts nest_program)) acts few
          (first_length (picture_of parts nest_program) nest_fits);
      each = λ input acts few b. nest_each input acts few b;
    }

leave_fits : FitsMemory (picture_of parts leave_program)
leave_fits = small_fits leave_program (omega arith) (omega arith)

abbrev leave_layout : Layout
leave_layout =
    record {
      main = leave_main;
      others = [];
      environment = leave_environment;
      entry = leave_entry;
      end = leave_finish;
      units = [];
      constants = no_constants;
      fills = [];
      serials = 1;
      made = λ q. q;
    }

leave_program_runs : Runs leave_program leave_layout
leave_program_runs =
    record {
      whole = λ input acts few.
          leave_is input (first_bytes (picture_of parts leave_program)) acts few
          (first_length (picture_of parts leave_program) leave_fits);
      each = λ input acts few b. leave_each input acts few b;
    }

host_fits : FitsMemory (picture_of parts host_program)
host_fits = small_fits host_program (omega arith) (omega arith)

abbrev host_layout : Layout
host_layout =
    record {
      main = host_main;
      others = [];
      environment = host_environment;
      entry = host_entry;
      end = host_finish;
      units = host_units;
      constants = no_constants;
      fills = [];
      serials = 1;
      made = newest_made parts number_declared;
    }

host_program_runs : Runs host_program host_layout
host_program_runs =
    record {
      whole = λ input acts few.
          host_is input (first_bytes (picture_of parts host_program)) acts few
          (first_length (picture_of parts host_program) host_fits);
      each = λ input acts few b. host_each input acts few b;
    }

mend_fits : FitsMemory (picture_of parts mend_program)
mend_fits = small_fits mend_program (omega arith) (omega arith)

abbrev mend_layout : Layout
mend_layout =
    record {
      main = mend_main;
      others = [];
      environment = mend_environment;
      entry = mend_entry;
      end = mend_finish;
      units = mend_units;
      constants = no_constants;
      fills = [];
      serials = 1;
      made = newest_made parts number_declared;
    }

mend_units_run : UnitsRun mend_program mend_layout
mend_units_run =
    record {
      whole = λ input acts few.
          mend_is input (first_bytes (picture_of parts mend_program)) acts few
          (first_length (picture_of parts mend_program) mend_fits);
      body = λ input acts few b. mend_does input acts few b;
    }

deep_fits : FitsMemory (picture_of parts deep_program)
deep_fits = small_fits deep_program (omega arith) (omega arith)

abbrev deep_layout : Layout
deep_layout =
    record {
      main = deep_main;
      others = [];
      environment = deep_environment;
      entry = deep_entry;
      end = deep_finish;
      units = deep_units;
      constants = no_constants;
      fills = [];
      serials = 1;
      made = newest_made parts number_declared;
    }

deep_units_run : UnitsRun deep_program deep_layout
deep_units_run =
    record {
      whole = λ input acts few.
          deep_is input (first_bytes (picture_of parts deep_program)) acts few
          (first_length (picture_of parts deep_program) deep_fits);
      body = λ input acts few b. deep_does input acts few b;
    }

skip_fits : FitsMemory (picture_of parts skip_program)
skip_fits = small_fits skip_program (omega arith) (omega arith)

abbrev skip_layout : Layout
skip_layout =
    record {
      main = skip_main;
      others = [];
      environment = skip_environment;
      entry = skip_entry;
      end = skip_finish;
      units = skip_units;
      constants = no_constants;
      fills = [];
      serials = 1;
      made = newest_made parts number_declared;
    }

skip_units_run : UnitsRun skip_program skip_layout
skip_units_run =
    record {
      whole = λ input acts few.
          skip_is input (first_bytes (picture_of parts skip_program)) acts few
          (first_length (picture_of parts skip_program) skip_fits);
      body = λ input acts few b. skip_does input acts few b;
    }

loop_fits : FitsMemory (picture_of parts loop_program)
loop_fits = small_fits loop_program (omega arith) (omega arith)

abbrev loop_layout : Layout
loop_layout =
    record {
      main = loop_main;
      others = [];
      environment = loop_environment;
      entry = loop_entry;
      end = loop_finish;
      units = loop_units;
      constants = no_constants;
      fills = [];
      serials = 1;
      made = newest_made parts number_declared;
    }

loop_units_run : UnitsRun loop_program loop_layout
loop_units_run =
    record {
      whole = λ input acts few.
          loop_is input (first_bytes (picture_of parts loop_program)) acts few
          (first_length (picture_of parts loop_program) loop_fits);
      body = λ input acts few b. loop_does input acts few b;
    }

lend_fits : FitsMemory (picture_of parts lend_program)
lend_fits = small_fits lend_program (omega arith) (omega arith)

abbrev lend_layout : Layout
lend_layout =
    record {
      main = lend_main;
      others = lend_procedure ∷ [];
      environment = lend_environment;
      entry = lend_entry;
      end = lend_finish;
      units = lend_units;
      constants = no_constants;
      fills = [];
      serials = 1;
      made = newest_made parts number_declared;
    }

lend_units_run : UnitsRun lend_program lend_layout
lend_units_run =
    record {
      whole = λ input acts few.
          lend_is input (first_bytes (picture_of parts lend_program)) acts few
          (first_length (picture_of parts lend_program) lend_fits);
      body = λ input acts few b. lend_does input acts few b;
    }

row_runs : Runs row_program row_layout
row_runs =
    record {
      whole = λ input acts few.
          row_is input (first_bytes (picture_of parts row_program)) acts few
          (first_length (picture_of parts row_program) row_fits);
      each = λ input acts few b. main_each input acts few b;
    }

number_runs : Runs number_program number_layout
number_runs =
    record {
      whole = λ input acts few.
          number_is input (first_bytes (picture_of parts number_program)) acts few
          (first_length (picture_of parts number_program) number_fits);
      each = λ input acts few b. number_each input acts few;
    }

pub rows_kept : Laws → Keeps run_keeper → MarkedOnce → TableDiffers → HeadlinesOfRows
rows_kept laws keeps once tables =
    record {
      calling = kept laws keeps row_program row_layout row_runs;
      number = kept laws keeps number_program number_layout number_runs;
      doubling = kept laws keeps double_program double_layout double_program_runs;
      calling_local = kept laws keeps local_program local_layout local_program_runs;
      giving = kept laws keeps given_program given_layout given_program_runs;
      applying = kept laws keeps applied_program applied_layout applied_program_runs;
      passing = kept laws keeps passed_program passed_layout passed_program_runs;
      keeping = kept laws keeps kept_program kept_layout kept_program_runs;
      fetching = kept laws keeps fetch_program fetch_layout fetch_program_runs;
      nesting = kept laws keeps nest_program nest_layout nest_program_runs;
      leaving = kept laws keeps leave_program leave_layout leave_program_runs;
      mending = unit_kept laws keeps mend_program mend_layout mend_units_run;
      skipping = unit_kept laws keeps skip_program skip_layout skip_units_run;
      looping = unit_kept laws keeps loop_program loop_layout loop_units_run;
      lending = unit_kept laws keeps lend_program lend_layout lend_units_run;
      hosting = kept laws keeps host_program host_layout host_program_runs;
      deepening = unit_kept laws keeps deep_program deep_layout deep_units_run;
      rising = unit_kept laws keeps rise_program rise_layout rise_units_run;
      bolting = kept laws keeps bolt_program bolt_layout bolt_program_runs;
      shedding = kept laws keeps shed_program shed_layout shed_program_runs;
      waiting = kept laws keeps wait_program wait_layout wait_program_runs;
      dropping = kept laws keeps drop_program drop_layout drop_program_runs;
      fleeing = kept laws keeps flee_program flee_layout flee_program_runs;
      muting = kept laws keeps mute_program mute_layout mute_program_runs;
      pairing = kept laws keeps pair_program pair_layout pair_program_runs;
      locating = kept laws keeps locate_program locate_layout locate_program_runs;
      picking = kept laws keeps pick_program pick_layout pick_program_runs;
      grouping = kept laws keeps group_program group_layout group_program_runs;
      squaring = kept laws keeps square_program square_layout square_program_runs;
      turning = kept laws keeps turn_program turn_layout turn_program_runs;
      calling_again = kept laws keeps turning_program turning_layout (turning_program_runs once tables);
      counting = kept laws keeps count_program count_layout count_program_runs;
      tallying = unit_kept laws keeps tally_program tally_layout tally_units_run;
      growing = kept laws keeps grow_program grow_layout grow_program_runs;
      bending = unit_kept laws keeps bend_program bend_layout bend_units_run;
    }
