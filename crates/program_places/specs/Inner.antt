-- Blocks inside a procedure: where the lists of BEGIN blocks and of on-units stand, and the units themselves.
use Rattle.std.specs.Prelude.{ℕ, ◌+◌, ◌∷◌, ◌++◌, List, None}
use Rattle.rv_meaning.specs.declared.instr.Instr.{Instr}
use Rattle.pli_typing.specs.TypedTree as Y
use Rattle.pli_meaning.specs.Raising.{Around}
use Rattle.pli_coding.specs.Allocating.{act_code}
use Rattle.pli_coding.specs.Assembly.{Code, size_of}
use Rattle.pli_coding.specs.Entries.{entered_without_texts, frame_begun, variables_code}
use Rattle.pli_coding.specs.Environments.{Environment, Taken, none_taken}
use Rattle.pli_coding.specs.Instructions.{move}
use Rattle.pli_coding.specs.Linking.{Links}
use Rattle.pli_coding.specs.Registers.{a0, frame_register}
use Rattle.pli_coding.specs.Statements.{begin_environment, block_words, stmt_code, stmts_code, unit_environment}
use Rattle.pli_coding.specs.Statements.{unit_held, unit_variables, unit_words}
use Rattle.activation_relation.specs.Layers.{Point}
use Rattle.unit_runs.specs.Establishing.{OnUnit, on_of, unit_index}
use Rattle.unit_runs.specs.Raised.{Standing, list_index, standing_code}
use Rattle.program_places.specs.Placed.{Placed}

-- ---- BEGIN

-- behind the act of the statement
abbrev pub begin_head : Environment → Y.BlockHead → Y.Stmts → Code
begin_head e head body =
    move a0 frame_register
    ∷ (frame_begun (block_words e head.number body) head.level 0 None ++ entered_without_texts 1 head.line)

-- behind that and the variables stands the list
abbrev pub begin_list : Environment → Y.BlockHead → Y.Stmts → (index : ℕ) → ℕ
begin_list e head body index =
    index + size_of (act_code head.line) + size_of (begin_head e head body)
    + size_of (variables_code (begin_environment head e) head.line)

-- ---- on-units

-- of an ON at an index, in the environment of its block
abbrev pub standing_for : Environment → OnUnit → (index : ℕ) → Around → (made : Point → Point) → Standing
standing_for e x index around made =
    record {
      unit = x;
      words = unit_words e x.head x.head.kind x.body;
      saved = unit_held e x.head x.head.kind x.body;
      variables = unit_variables (unit_environment x.head e) x.head x.head.kind;
      entry = unit_index x index;
      environment = unit_environment x.head e;
      around = around;
      made = made;
    }

-- ---- the laws

pub record InnerPlaced : Type 0 where
  -- where a statement is placed, so is the list of its block
  pub begins :
      (links : Links) (code : List Instr) (i : ℕ) (e : Environment) (t : Taken) (head : Y.BlockHead) (body : Y.Stmts) →
      Placed links code i (stmt_code e t (Y.Begin (Y.BlockOf head body))) →
      Placed links code (begin_list e head body i) (stmts_code (begin_environment head e) none_taken body)
  pub units :
      (links : Links) (code : List Instr) (i : ℕ) (e : Environment) (x : OnUnit) (around : Around)
      (made : Point → Point) → Placed links code i (stmt_code e none_taken (on_of x)) →
      Placed links code (unit_index x i) (standing_code (standing_for e x i around made))
  pub lists :
      (links : Links) (code : List Instr) (i : ℕ) (e : Environment) (x : OnUnit) (around : Around)
      (made : Point → Point) → Placed links code i (stmt_code e none_taken (on_of x)) →
      Placed links code (list_index (standing_for e x i around made))
      (stmts_code (unit_environment x.head e) none_taken x.body)
