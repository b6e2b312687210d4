-- A typed program with the image that pli_coding defines for it: where its procedures and functions stand, and what
-- each of them is where it is called.
use Rattle.std.specs.Prelude.{ℕ, ◌+◌, ◌*◌, ◌≡◌, ◌≤◌, ◌==◌, List, [], ◌∷◌, length, map, Option, Some, None, ⊤, false}
use Rattle.std.specs.Prelude.{if◌then◌else◌}
use Rattle.pli_typing.specs.TypedTree as Y
use Rattle.pli_meaning.specs.DeclaredShapes.{head_of, procedure_numbered}
use Rattle.pli_meaning.specs.Raising.{Around}
use Rattle.pli_serving.specs.Templates.{template_of}
use Rattle.pli_coding.specs.Assembly.{Code, size_of}
use Rattle.pli_coding.specs.Entries.{variables_code}
use Rattle.pli_coding.specs.Environments.{Environment, none_taken}
use Rattle.pli_coding.specs.Images.{code_of, environment_of, linked_code, raise_code, start_code}
use Rattle.pli_coding.specs.Linking.{Links, links_of}
use Rattle.pli_coding.specs.Locating.{needs_number_word}
use Rattle.pli_coding.specs.Procedures.{no_value, procedure_environment, procedure_of_block, routines_code}
use Rattle.pli_coding.specs.SignatureTable.{table_of}
use Rattle.pli_coding.specs.Statements.{block_held, block_words, stmts_code}
use Rattle.well_formed_trees.specs.Every.{Every}
use Rattle.well_formed_trees.specs.WellFormed.{IsWellFormed}
use Rattle.storage_relation.specs.Stored.{AreTold}
use Rattle.storage_relation.specs.Tables.{AreRuled}
use Rattle.activation_relation.specs.Chains.{UnitPlaces}
use Rattle.activation_relation.specs.Layers.{Point}
use Rattle.run_steps.specs.Engine.{most_code}
use Rattle.program_runs.specs.Calls.{Callee}
use Rattle.program_runs.specs.Procedures.{Procedure, begin_of}
use Rattle.program_runs.specs.Programs.{Whole}
use Rattle.program_runs.specs.Starts.{Image, image_parts}
use Rattle.program_places.specs.Constants.{constants_in}
use Rattle.pli_coding.specs.Allocating.{act_code}

-- ---- its image

abbrev pub code_for : Y.Program → Code
code_for program = code_of image_parts program

abbrev pub links_for : Y.Program → Links
links_for program = links_of (code_for program)

-- what is said of a run beside the program
pub record Run : Type 0 where
  pub units : UnitPlaces
  pub input : List ℕ
  pub acts : ℕ
  pub serials : ℕ

abbrev pub image_for : Y.Program → Run → Image
image_for program r =
    record {
      code = linked_code (code_for program);
      links = links_for program;
      units = r.units;
      signatures = map template_of (table_of program);
      constants = constants_in (code_for program);
      fills = [];
      input = r.input;
      acts = r.acts;
      serials = r.serials;
    }

-- memory at first has what the program tells of its static data, behind the code and before the stacks
abbrev pub HasStaticData : Y.Program → (first : List ℕ) → Type 0
HasStaticData program first =
    AreTold (constants_in (code_for program)) (4 * length (linked_code (code_for program))) image_parts.stack_start
    first

-- as the tree of each accepted source is, with code that a machine loads
pub record IsLoadable (program : Y.Program) : Type 0 where
  pub well_formed : IsWellFormed program
  pub fits : length (linked_code (code_for program)) ≤ most_code

-- ---- its start

abbrev pub IsUnstaticClass : Y.StorageClass → Type 0
IsUnstaticClass Y.StaticClass = ⊥
IsUnstaticClass _ = ⊤

-- a variable that is not STATIC, and keeps no signature's number in static data
abbrev pub IsUnstatic : Y.DeclaredVariable → Type 0
IsUnstatic d = IsUnstaticClass d.class × (needs_number_word d ≡ false)

-- and the table of signatures keeps the rules of tables
pub record HasStart (program : Y.Program) : Type 0 where
  pub variables : Every (Every IsUnstatic) program.variables
  pub table : AreRuled (table_of program)

-- ---- its procedures

-- what a call finds by the number: it has these parameters, and returns what is said
abbrev pub IsReceiving : Y.Program → Y.BlockHead → Y.Stmts → (parameters : List ℕ) → Option Y.LeafType → Type 0
IsReceiving program head body parameters result =
    procedure_numbered head.number program.procedures
    ≡ Some (record { block = Y.BlockOf head body; parameters = parameters; result = result })

-- or none
abbrev pub IsProcedure : Y.Program → Y.BlockHead → Y.Stmts → Option Y.LeafType → Type 0
IsProcedure program head body result = IsReceiving program head body [] result

-- the first is the main one, which returns nothing
pub record Main : Type 0 where
  pub head : Y.BlockHead
  pub body : Y.Stmts
  pub others : List Y.Procedure

abbrev pub IsMain : Y.Program → Main → Type 0
IsMain program m =
    program.procedures ≡ record { block = Y.BlockOf m.head m.body; parameters = []; result = None } ∷ m.others

abbrev pub program_environment : Y.Program → Environment
program_environment program = environment_of image_parts program

abbrev pub environment_for : Y.Program → Y.BlockHead → Environment
environment_for program head = procedure_environment head (program_environment program)

abbrev pub procedure_for : Y.Program → Y.BlockHead → Y.Stmts → Procedure
procedure_for program head body =
    record {
      head = head;
      body = body;
      words = block_words (environment_for program head) head.number body;
      saved = block_held (environment_for program head) head.number body;
      variables = variables_code (environment_for program head) head.line;
    }

-- ---- indices: the routines of raises, the procedures behind the routines of extents, and the code of one of them,
-- its first statement and its end

abbrev pub raises_index : Y.Program → ℕ
raises_index program = size_of (start_code (program_environment program))

abbrev pub procedures_index : Y.Program → ℕ
procedures_index program =
    raises_index program + size_of raise_code
    + size_of (routines_code (program_environment program) (program_environment program).blocks)

abbrev pub entry_among : Environment → (number : ℕ) → List Y.Procedure → (index : ℕ) → ℕ
entry_among e number [] index = index
entry_among e number (p ∷ ps) index =
    if (head_of p.block).number == number then index
    else entry_among e number ps (index + size_of (procedure_of_block e p.block p.parameters p.result))

abbrev pub entry_for : Y.Program → (number : ℕ) → ℕ
entry_for program number =
    entry_among (program_environment program) number program.procedures (procedures_index program)

abbrev pub body_for : Y.Program → Y.BlockHead → Y.Stmts → ℕ
body_for program head body =
    entry_for program head.number + size_of (begin_of (procedure_for program head body))
    + size_of (procedure_for program head body).variables + size_of (act_code head.line)

-- where the statements end
abbrev pub behind_body : Y.Program → Y.BlockHead → Y.Stmts → ℕ
behind_body program head body =
    body_for program head body + size_of (stmts_code (environment_for program head) none_taken body)

-- ---- its procedures where they are called

-- the height of the static parent, the index of the call, what is around the meaning, and what becomes of the point
-- where variables are made
pub record Site : Type 0 where
  pub parent : ℕ
  pub call : ℕ
  pub around : Around
  pub made : Point → Point

abbrev pub callee_at : Y.Program → Y.BlockHead → Y.Stmts → Site → (end : ℕ) → Callee
callee_at program head body s end =
    record {
      procedure = procedure_for program head body;
      calling = record {
        parent = s.parent;
        call = s.call;
        entry = entry_for program head.number;
        end = end;
      };
      environment = environment_for program head;
      around = s.around;
      made = s.made;
    }

abbrev pub callee_for : Y.Program → Y.BlockHead → Y.Stmts → Site → Callee
callee_for program head body s = callee_at program head body s (behind_body program head body)

-- behind the statements of a function stands what raises ERROR
abbrev pub function_for : Y.Program → Y.BlockHead → Y.Stmts → Site → Callee
function_for program head body s =
    callee_at program head body s (behind_body program head body + size_of (no_value head.line))

-- ---- the whole

abbrev pub whole_for : Y.Program → Main → Run → (made : Point → Point) → Whole
whole_for program m r made =
    record {
      image = image_for program r;
      program = program;
      main = procedure_for program m.head m.body;
      others = m.others;
      environment = environment_for program m.head;
      entry = entry_for program m.head.number;
      end = behind_body program m.head m.body;
      made = made;
    }
