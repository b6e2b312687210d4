-- The one variable of a procedure, FIXED BINARY(31), in the procedure's own block.
use Rattle.std.specs.Prelude.{ℕ, ◌+◌, ◌≡◌, List, [], Some}
use Rattle.rv_meaning.specs.declared.instr.Instr.{Instr}
use Rattle.pli_language.specs.Tree as T
use Rattle.pli_meaning.specs.DeclaredShapes.{declared_variable, shape_of}
use Rattle.pli_coding.specs.Frames.{name_bytes}
use Rattle.activation_relation.specs.Layers.{Point}
use Rattle.activation_relation.specs.Points.{Surroundings}
use Rattle.block_runs.specs.Machines.{HasParts}
use Rattle.program_runs.specs.Calls.{Callee, block_at}
use Rattle.program_runs.specs.Statements.{IsBegun}
use Rattle.program_runs.specs.Variables.{Declared, IsOnly}
use Rattle.expression_runs.specs.Variables.{IsNumber, Spot, number_declared, number_place, number_shape, variable_of}

-- the program declares it so, and its code looks for it where it is made
pub record IsOwn (c : Callee) (d : Declared) (x : Spot) : Type 0 where
  pub initial : List T.InitialItem
  pub declared : declared_variable c.environment.program (variable_of x) ≡ Some (number_declared initial)
  pub shape : shape_of [] d.declared ≡ number_shape
  pub index : x.index ≡ d.index
  pub level : x.level ≡ c.procedure.head.level
  pub own : c.environment.level ≡ c.procedure.head.level
  pub place : number_place c.environment x ≡ d.place + name_bytes

-- wherever that is called
abbrev pub OwnNumbers : Type 0
OwnNumbers =
    (w : Surroundings) (code : List Instr) (c : Callee) (p : Point) (numbers : ℕ → ℕ) (d : Declared) (x : Spot) →
    HasParts w.parts → IsOnly w c p numbers d → IsOwn c d x → IsBegun (block_at w code c p numbers) →
    IsNumber (block_at w code c p numbers) x
