-- What spelling alone says of a tree: it is procedures, the labels of an END stand last in their list, on-units are
-- BEGIN blocks or hold no statement, and groups hold no procedure.
use Rattle.std.specs.Prelude.{◌≡◌, ℕ, List, ⊤}
use Rattle.pli_language.specs.declared.token.Token.{Token}
use Rattle.pli_language.specs.Parsing.{Spells}
use Rattle.pli_language.specs.Tree as T

-- an on-unit is a BEGIN block or a statement that holds none
abbrev pub IsUnit : T.Stmt → Type 0
IsUnit (T.If e unit place) = ⊥
IsUnit (T.IfElse e unit otherwise place) = ⊥
IsUnit (T.Do body place) = ⊥
IsUnit (T.DoWhile e body place) = ⊥
IsUnit (T.DoCount counting body place) = ⊥
IsUnit (T.OnSystem on place) = ⊥
IsUnit (T.OnUnit on unit place) = ⊥
IsUnit _ = ⊤

abbrev mutual
  pub EndsLast : T.Stmt → Type 0
  EndsLast (T.If e unit place) = EndsLast unit
  EndsLast (T.IfElse e unit otherwise place) = EndsLast unit × EndsLast otherwise
  EndsLast (T.Do body place) = AllEndLast body
  EndsLast (T.DoWhile e body place) = AllEndLast body
  EndsLast (T.DoCount counting body place) = AllEndLast body
  EndsLast (T.Begin body place) = AllEndLast body
  EndsLast (T.OnUnit on unit place) = IsUnit unit × EndsLast unit
  EndsLast _ = ⊤

  pub AllEndLast : T.Items → Type 0
  AllEndLast T.NoItem = ⊤
  AllEndLast (T.ItemThen (T.Procedure head body) is) = AllEndLast body × AllEndLast is
  AllEndLast (T.ItemThen (T.Declare items place) is) = AllEndLast is
  AllEndLast (T.ItemThen (T.Statement labels s) is) = EndsLast s × AllEndLast is
  AllEndLast (T.ItemThen (T.EndLabels labels place) is) = is ≡ T.NoItem

abbrev pub AreProcedures : T.Items → Type 0
AreProcedures T.NoItem = ⊤
AreProcedures (T.ItemThen (T.Procedure head body) is) = AreProcedures is
AreProcedures _ = ⊥

pub record IsShaped (tree : T.Tree) : Type 0 where
  pub outer : AreProcedures tree.procedures
  pub ends : AllEndLast tree.procedures

-- ---- groups

-- none of these is a procedure
abbrev pub HoldNoProcedure : T.Items → Type 0
HoldNoProcedure T.NoItem = ⊤
HoldNoProcedure (T.ItemThen (T.Procedure head body) is) = ⊥
HoldNoProcedure (T.ItemThen (T.Declare items place) is) = HoldNoProcedure is
HoldNoProcedure (T.ItemThen (T.Statement labels s) is) = HoldNoProcedure is
HoldNoProcedure (T.ItemThen (T.EndLabels labels place) is) = HoldNoProcedure is

-- procedures stand in the outermost lists of blocks
abbrev mutual
  pub GroupsBare : T.Stmt → Type 0
  GroupsBare (T.If e unit place) = GroupsBare unit
  GroupsBare (T.IfElse e unit otherwise place) = GroupsBare unit × GroupsBare otherwise
  GroupsBare (T.Do body place) = HoldNoProcedure body × AllGroupsBare body
  GroupsBare (T.DoWhile e body place) = HoldNoProcedure body × AllGroupsBare body
  GroupsBare (T.DoCount counting body place) = HoldNoProcedure body × AllGroupsBare body
  GroupsBare (T.Begin body place) = AllGroupsBare body
  GroupsBare (T.OnUnit on unit place) = GroupsBare unit
  GroupsBare _ = ⊤

  pub AllGroupsBare : T.Items → Type 0
  AllGroupsBare T.NoItem = ⊤
  AllGroupsBare (T.ItemThen (T.Procedure head body) is) = AllGroupsBare body × AllGroupsBare is
  AllGroupsBare (T.ItemThen (T.Declare items place) is) = AllGroupsBare is
  AllGroupsBare (T.ItemThen (T.Statement labels s) is) = GroupsBare s × AllGroupsBare is
  AllGroupsBare (T.ItemThen (T.EndLabels labels place) is) = AllGroupsBare is

-- the law: so is what is spelled
abbrev pub GroupsKept : Type 0
GroupsKept = (s : List ℕ) (tokens : List Token) (tree : T.Tree) → Spells s tokens tree → AllGroupsBare tree.procedures
