-- The headline of programs whose run is known by the relation of activations.
use Rattle.std.specs.Prelude.{ℕ, ◌+◌, ◌^◌, ◌<◌, ◌≤◌, List, map, Option}
use Rattle.pli_typing.specs.TypedTree as Y
use Rattle.pli_meaning.specs.Pictures.{first_bytes}
use Rattle.pli_serving.specs.Templates.{template_of}
use Rattle.pli_coding.specs.Environments.{Environment}
use Rattle.pli_coding.specs.Images.{code_of, linked_code, picture_of}
use Rattle.pli_coding.specs.Linking.{links_of}
use Rattle.pli_coding.specs.SignatureTable.{table_of}
use Rattle.storage_relation.specs.Fills.{Fills}
use Rattle.activation_relation.specs.Chains.{UnitPlaces}
use Rattle.activation_relation.specs.Layers.{Point}
use Rattle.pli_headline.specs.Headline.{Headline, parts}
use Rattle.program_runs.specs.Calls.{block_at, body_index, labels_of, left_over}
use Rattle.program_runs.specs.Procedures.{Procedure}
use Rattle.program_runs.specs.Programs.{IsWhole, Whole, main_of}
use Rattle.program_runs.specs.Rows.{row_program}
use Rattle.program_runs.specs.VariableRows.{number_program}
use Rattle.expression_runs.specs.Rows.{double_program}
use Rattle.function_runs.specs.LocalRows.{local_program}
use Rattle.function_runs.specs.Rows.{fetch_program}
use Rattle.argument_runs.specs.CopyRows.{given_program}
use Rattle.argument_runs.specs.FunctionRows.{applied_program}
use Rattle.reference_runs.specs.LocalRows.{kept_program}
use Rattle.reference_runs.specs.ReferenceRows.{passed_program}
use Rattle.begin_runs.specs.LeaveRows.{leave_program}
use Rattle.begin_runs.specs.Rows.{nest_program}
use Rattle.jump_runs.specs.DropRows.{drop_program}
use Rattle.jump_runs.specs.FunctionRows.{shed_program}
use Rattle.jump_runs.specs.Rows.{bolt_program}
use Rattle.jump_runs.specs.UnitRows.{flee_program}
use Rattle.copy_units.specs.Rows.{mute_program}
use Rattle.variable_runs.specs.Rows.{pair_program}
use Rattle.area_runs.specs.Rows.{locate_program}
use Rattle.operator_runs.specs.Rows.{square_program}
use Rattle.test_runs.specs.Rows.{turn_program}
use Rattle.text_runs.specs.Rows.{wait_program}
use Rattle.text_units.specs.Rows.{rise_program}
use Rattle.element_runs.specs.Rows.{pick_program}
use Rattle.counter_runs.specs.CountRows.{count_program}
use Rattle.counter_runs.specs.TallyRows.{tally_program}
use Rattle.extent_rows.specs.BendRows.{bend_program}
use Rattle.extent_rows.specs.GrowRows.{grow_program}
use Rattle.group_runs.specs.Rows.{group_program}
use Rattle.program_places.specs.Rows.{turning_program}
use Rattle.program_runs.specs.Starts.{no_numbers, start_point, surroundings_of}
use Rattle.program_runs.specs.Statements.{EachDoes, IsBegun}
use Rattle.unit_runs.specs.BeginRows.{host_program}
use Rattle.unit_runs.specs.Bodies.{BodyDoes}
use Rattle.unit_runs.specs.CallRows.{lend_program}
use Rattle.unit_runs.specs.DeepRows.{deep_program}
use Rattle.unit_runs.specs.JumpRows.{skip_program}
use Rattle.unit_runs.specs.LoopRows.{loop_program}
use Rattle.unit_runs.specs.Rows.{mend_program}

-- what is said of a program's image beside the program: its main procedure and the others, where its code and its end
-- stand, where the code of its on-units stands, what is told of its static data, which signatures a run may fill in, how
-- many serials may come between two acts, and what becomes of the point where its variables are made
pub record Layout : Type 0 where
  pub main : Procedure
  pub others : List Y.Procedure
  pub environment : Environment
  pub entry : ℕ
  pub end : ℕ
  pub units : UnitPlaces
  pub constants : (place : ℕ) → Option ℕ
  pub fills : List Fills
  pub serials : ℕ
  pub made : Point → Point

-- the program with the image that pli_coding defines, on an input, with as many acts allowed
abbrev pub whole_of : Y.Program → Layout → (input : List ℕ) → (acts : ℕ) → Whole
whole_of program x input acts =
    record {
      image = record {
        code = linked_code (code_of parts program);
        links = links_of (code_of parts program);
        units = x.units;
        signatures = map template_of (table_of program);
        constants = x.constants;
        fills = x.fills;
        input = input;
        acts = acts;
        serials = x.serials;
      };
      program = program;
      main = x.main;
      others = x.others;
      environment = x.environment;
      entry = x.entry;
      end = x.end;
      made = x.made;
    }

-- whatever the input and the number of acts, it is a whole program, of which each statement does what it means
pub record Runs (program : Y.Program) (x : Layout) : Type 0 where
  pub whole :
      (input : List ℕ) (acts : ℕ) → acts + 1 < 2 ^ 64 →
      IsWhole (whole_of program x input acts) (first_bytes (picture_of parts program))
  pub each :
      (input : List ℕ) (acts : ℕ) → acts + 1 < 2 ^ 64 →
      IsBegun
      (block_at (surroundings_of (whole_of program x input acts).image) (linked_code (code_of parts program))
      (main_of (whole_of program x input acts)) (start_point (whole_of program x input acts).image) no_numbers) →
      EachDoes
      (block_at (surroundings_of (whole_of program x input acts).image) (linked_code (code_of parts program))
      (main_of (whole_of program x input acts)) (start_point (whole_of program x input acts).image) no_numbers)
      (labels_of (main_of (whole_of program x input acts))) x.main.body
      (body_index (main_of (whole_of program x input acts))) left_over

-- the same with ON among its statements: its list comes to the end of its block
pub record UnitsRun (program : Y.Program) (x : Layout) : Type 0 where
  pub whole :
      (input : List ℕ) (acts : ℕ) → acts + 1 < 2 ^ 64 →
      IsWhole (whole_of program x input acts) (first_bytes (picture_of parts program))
  pub body :
      (input : List ℕ) (acts : ℕ) → acts + 1 < 2 ^ 64 →
      IsBegun
      (block_at (surroundings_of (whole_of program x input acts).image) (linked_code (code_of parts program))
      (main_of (whole_of program x input acts)) (start_point (whole_of program x input acts).image) no_numbers) →
      BodyDoes
      (block_at (surroundings_of (whole_of program x input acts).image) (linked_code (code_of parts program))
      (main_of (whole_of program x input acts)) (start_point (whole_of program x input acts).image) no_numbers)
      x.main.body (body_index (main_of (whole_of program x input acts))) left_over

-- such a program keeps the headline
abbrev pub HeadlinesKept : Type 0
HeadlinesKept =
    (program : Y.Program) (x : Layout) → Runs program x → Headline program (picture_of parts program) (table_of program)

abbrev pub UnitHeadlinesKept : Type 0
UnitHeadlinesKept =
    (program : Y.Program) (x : Layout) → UnitsRun program x →
    Headline program (picture_of parts program) (table_of program)

-- and so do those of the worked rows
pub record HeadlinesOfRows : Type 0 where
  pub calling : Headline row_program (picture_of parts row_program) (table_of row_program)
  pub number : Headline number_program (picture_of parts number_program) (table_of number_program)
  pub doubling : Headline double_program (picture_of parts double_program) (table_of double_program)
  pub calling_local : Headline local_program (picture_of parts local_program) (table_of local_program)
  pub giving : Headline given_program (picture_of parts given_program) (table_of given_program)
  pub applying : Headline applied_program (picture_of parts applied_program) (table_of applied_program)
  pub passing : Headline passed_program (picture_of parts passed_program) (table_of passed_program)
  pub keeping : Headline kept_program (picture_of parts kept_program) (table_of kept_program)
  pub fetching : Headline fetch_program (picture_of parts fetch_program) (table_of fetch_program)
  pub waiting : Headline wait_program (picture_of parts wait_program) (table_of wait_program)
  pub nesting : Headline nest_program (picture_of parts nest_program) (table_of nest_program)
  pub leaving : Headline leave_program (picture_of parts leave_program) (table_of leave_program)
  pub mending : Headline mend_program (picture_of parts mend_program) (table_of mend_program)
  pub skipping : Headline skip_program (picture_of parts skip_program) (table_of skip_program)
  pub looping : Headline loop_program (picture_of parts loop_program) (table_of loop_program)
  pub lending : Headline lend_program (picture_of parts lend_program) (table_of lend_program)
  pub hosting : Headline host_program (picture_of parts host_program) (table_of host_program)
  pub deepening : Headline deep_program (picture_of parts deep_program) (table_of deep_program)
  pub rising : Headline rise_program (picture_of parts rise_program) (table_of rise_program)
  pub bolting : Headline bolt_program (picture_of parts bolt_program) (table_of bolt_program)
  pub shedding : Headline shed_program (picture_of parts shed_program) (table_of shed_program)
  pub dropping : Headline drop_program (picture_of parts drop_program) (table_of drop_program)
  pub fleeing : Headline flee_program (picture_of parts flee_program) (table_of flee_program)
  pub muting : Headline mute_program (picture_of parts mute_program) (table_of mute_program)
  pub pairing : Headline pair_program (picture_of parts pair_program) (table_of pair_program)
  pub locating : Headline locate_program (picture_of parts locate_program) (table_of locate_program)
  pub picking : Headline pick_program (picture_of parts pick_program) (table_of pick_program)
  pub grouping : Headline group_program (picture_of parts group_program) (table_of group_program)
  pub squaring : Headline square_program (picture_of parts square_program) (table_of square_program)
  pub turning : Headline turn_program (picture_of parts turn_program) (table_of turn_program)
  pub calling_again : Headline turning_program (picture_of parts turning_program) (table_of turning_program)
  pub counting : Headline count_program (picture_of parts count_program) (table_of count_program)
  pub tallying : Headline tally_program (picture_of parts tally_program) (table_of tally_program)
  pub growing : Headline grow_program (picture_of parts grow_program) (table_of grow_program)
  pub bending : Headline bend_program (picture_of parts bend_program) (table_of bend_program)
