-- What stands around a part, and conditions that are raised. (X3.53-1976, chapter 6, conditions and on-units.)
use Rattle.std.specs.Prelude.{ℕ, ℤ, List, [], Bool, false, Option, Some, None}
use Rattle.pli_language.specs.declared.condition.Condition.{Condition}
use Rattle.pli_language.specs.declared.condition.Condition.TheVariants as C
use Rattle.pli_meaning.specs.declared.outcome.End.TheVariants as E
use Rattle.pli_meaning.specs.World.{raising}
use Rattle.pli_typing.specs.Signatures.{LeafKind}
use Rattle.pli_meaning.specs.Numbers.{Checked, Gives, Raises}
use Rattle.pli_typing.specs.TypedTree as Y
use Rattle.pli_meaning.specs.BasicValues.{Name, BasicValue}
use Rattle.pli_meaning.specs.Contents.{Shape}
use Rattle.pli_meaning.specs.StorageState.{OnUnit, SystemUnit, BlockUnit, Activation, force}
use Rattle.pli_meaning.specs.Control.{Meaning, give, ◌>>=◌, ◌>>◌, looked, act, finish, choose}

-- ---- what stands around a part

-- an argument on its way into a block: what it stands for, or a value to be copied
pub data Passed : Type 0 where
  PassedName : Name → Shape → Passed
  PassedValue : LeafKind → BasicValue → Passed

-- a block that is entered: the height of its static parent, the code of the condition for which it runs (0 where it is no
-- on-unit), the places of its parameters among its variables with their arguments, and whether its end is one without a value
-- that is due
pub record Entry : Type 0 where
  pub block : Y.Block
  pub parent : ℕ
  pub oncode : ℕ
  pub parameters : List ℕ
  pub arguments : List Passed
  pub is_function : Bool

-- how a block is entered: the only recursion that doesn't follow the tree
abbrev pub Enter : Type 0
Enter = Entry → Meaning (Option BasicValue)

-- the program, how blocks are entered, how many turns a loop may make, and the line of the statement, which an error has
pub record Around : Type 0 where
  pub program : Y.Program
  pub enter : Enter
  pub turns : ℕ
  pub line : ℕ

abbrev pub at_line : Around → ℕ → Around
at_line around line = record around { line = line }

abbrev pub unit_entered : Y.Block → Activation → ℕ → Entry
unit_entered block a code =
    record { block = block; parent = a.height; oncode = code; parameters = []; arguments = []; is_function = false }

-- ---- conditions

-- after the unit of ERROR, or where there is none, the run ends
unfoldable pub error_unit_run : {R : Type 0} → Around → ℕ → Option (Activation × OnUnit) → Meaning R
error_unit_run around code None = finish (E.Error code around.line)
error_unit_run around code (Some (a, SystemUnit)) = finish (E.Error code around.line)
error_unit_run around code (Some (a, BlockUnit block)) = do
  around.enter (unit_entered block a code)
  finish (E.Error code around.line)

-- ERROR is raised
unfoldable pub error : {R : Type 0} → Around → ℕ → Meaning R
error around code = do
  act (raising C.Error code)
  s ← looked
  error_unit_run around code (force s.activations C.Error)

-- the unit of another condition runs as a block whose static parent is the activation that established it; without one
-- ERROR is raised with the same code
unfoldable pub unit_run : Around → ℕ → Option (Activation × OnUnit) → Meaning (Unit {0})
unit_run around code None = error around code
unit_run around code (Some (a, SystemUnit)) = error around code
unit_run around code (Some (a, BlockUnit block)) = do
  around.enter (unit_entered block a code)
  give tt

-- a condition other than ERROR is raised; what follows is what follows the normal end of its unit
unfoldable pub raised : Around → Condition → ℕ → Meaning (Unit {0})
raised around c code = do
  act (raising c code)
  s ← looked
  unit_run around code (force s.activations c)

-- the value of an operator or a conversion, or the one with which a normal return goes on
unfoldable pub value_of : Around → Checked → Meaning ℤ
value_of around (Gives z) = give z
value_of around (Raises c code after) = do
  raised around c code
  give after

-- what must be there, or else ERROR
unfoldable pub or_error : {X : Type 0} → Around → (code : ℕ) → Option X → Meaning X
or_error around code None = error around code
or_error around code (Some x) = give x

-- what must hold, or else ERROR
unfoldable pub demanded : Around → (code : ℕ) → Bool → Meaning (Unit {0})
demanded around code met = choose met (give tt) (error around code)
