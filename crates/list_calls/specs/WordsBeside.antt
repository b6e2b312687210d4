-- Variables of constant size that a procedure has beside its parameters: they are made behind these.
use Rattle.std.specs.Prelude.{ℕ, ◌+◌, ◌<◌, ◌≤◌, ◌≡◌, List, ◌∷◌, length, Option, Some, slice_get}
use Rattle.pli_typing.specs.TypedTree as Y
use Rattle.pli_meaning.specs.DeclaredShapes.{declared_variable, variables_of_block}
use Rattle.activation_relation.specs.FrameLaws.{with_waits}
use Rattle.block_runs.specs.Bodies.{Function}
use Rattle.block_runs.specs.Machines.{HasParts}
use Rattle.program_runs.specs.Statements.{IsBegun}
use Rattle.program_runs.specs.Variables.{Declared}
use Rattle.expression_runs.specs.Variables.{Spot, variable_of}
use Rattle.variable_runs.specs.Known.{IsKnown, place_of}
use Rattle.variable_runs.specs.Lists.{AllMayBegin, Among, AreListed, AreThose, made_code, newest_all}
use Rattle.list_calls.specs.Lists.{Parameter, bound_layer, copies_in}
use Rattle.list_calls.specs.Taking.{AreBeside, ListCall, Taking, bound_point, bound_waits, list_block, listed_layer}

-- the program declares them so, each behind the parameters; the procedure's code is that, and as many serials may come
-- between two acts as there are of them and of copies
pub record AreAllBeside (g : Option Function) (y : ListCall) (first : ℕ) (xs : List Declared) : Type 0 where
  pub kind : y.callee.procedure.head.kind ≡ Y.ProcedureBlock
  pub those : AreThose 0 xs (variables_of_block y.callee.around.program y.callee.procedure.head.number)
  pub before : (n : ℕ) (x : Parameter) → slice_get y.callee.parameters n ≡ Some x → x.index < first
  pub listed : AreListed y.callee.environment first xs
  pub code : y.callee.procedure.variables ≡ made_code y.callee.environment xs
  pub parts : y.callee.environment.parts ≡ y.surroundings.parts
  pub many : length y.callee.parameters ≡ length y.passed
  pub few : copies_in y.passed + length xs ≤ y.surroundings.serials
  pub declared :
      AllMayBegin y.surroundings y.code (bound_point g y) (bound_layer y.callee.parameters y.passed (listed_layer y))
      (with_waits (bound_waits y) y.layer ∷ y.others) xs

-- they are made as they are meant, and the parameters stand for what they stood for
abbrev pub WordsBeside : Type 0
WordsBeside =
    (g : Option Function) (y : ListCall) (first : ℕ) (xs : List Declared) → AreAllBeside g y first xs →
    AreBeside g y (newest_all y.surroundings.parts xs)

-- ---- each of them is a variable of its block

-- the program declares it so, and its code looks for it where it is made
pub record IsOwnBeside (c : Taking) (d : Declared) (x : Spot) : Type 0 where
  pub declared : declared_variable c.environment.program (variable_of x) ≡ Some d.declared
  pub index : x.index ≡ d.index
  pub level : x.level ≡ c.procedure.head.level
  pub own : c.environment.level ≡ c.procedure.head.level
  pub place : place_of c.environment x ≡ d.place

abbrev pub BesideKnown : Type 0
BesideKnown =
    (g : Option Function) (y : ListCall) (first : ℕ) (xs : List Declared) (d : Declared) (x : Spot) →
    HasParts y.surroundings.parts → AreAllBeside g y first xs → Among d xs → IsOwnBeside y.callee d x →
    IsBegun (list_block g y (newest_all y.surroundings.parts xs)) →
    IsKnown (list_block g y (newest_all y.surroundings.parts xs)) x d.declared
