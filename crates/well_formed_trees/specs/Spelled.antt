-- What tokens and spelling say of each head of a tree: its line, its constants and texts, how its operators bind, its
-- format lists, and how deep it stands.
use Rattle.std.specs.Prelude.{◌≡◌, ℕ, suc, Bool, true, false, ◌<◌, max, pos, List, [], ◌∷◌, length, Option, Some}
use Rattle.std.specs.Prelude.{None, ⊤}
use Rattle.pli_language.specs.declared.expr.InfixOp.{InfixOp}
use Rattle.pli_language.specs.declared.expr.InfixOp.TheVariants as I
use Rattle.pli_language.specs.declared.token.Token.{Token}
use Rattle.pli_language.specs.Tokens.{Tokens}
use Rattle.pli_language.specs.Formats.{Direction, Getting, Putting}
use Rattle.pli_language.specs.Heads as H
use Rattle.pli_language.specs.Parsing.{Spells}
use Rattle.pli_language.specs.Tree as T
use Rattle.well_formed_trees.specs.Every.{Every}
use Rattle.well_formed_trees.specs.Ranges.{IsLine, IsConstant, IsInteger, IsLength, IsTimes, IsFormatList}

-- ---- expressions

-- operators of a smaller reach bind closer
abbrev pub reach_of : InfixOp → ℕ
reach_of I.Multiply = 1
reach_of I.Divide = 1
reach_of I.Add = 2
reach_of I.Subtract = 2
reach_of I.Join = 3
reach_of I.Equal = 4
reach_of I.NotEqual = 4
reach_of I.Less = 4
reach_of I.Greater = 4
reach_of I.LessOrEqual = 4
reach_of I.GreaterOrEqual = 4
reach_of I.And = 5
reach_of I.Or = 6

-- of the operator that binds least outside of parentheses
abbrev pub reach : T.Expr → ℕ
reach (T.Prefix op e place) = reach e
reach (T.Infix op left right) = max (reach_of op) (reach left)
reach _ = 0

-- what stands right of an operator binds closer, all of it
abbrev mutual
  pub RangedExpr : T.Expr → Type 0
  RangedExpr (T.Number n place) = IsConstant n
  RangedExpr (T.Text bytes place) = IsLength (length bytes)
  RangedExpr (T.Bit b place) = ⊤
  RangedExpr (T.Parenthesized e place) = RangedExpr e
  RangedExpr (T.Prefix op e place) = RangedExpr e
  RangedExpr (T.Infix op left right) = RangedExpr left × (RangedExpr right × (reach right < reach_of op))
  RangedExpr (T.Refers r) = RangedReference r

  pub RangedReference : T.Reference → Type 0
  RangedReference (T.Plain q) = RangedQualified q
  RangedReference (T.Located locator q) = RangedReference locator × RangedQualified q

  pub RangedQualified : T.Qualified → Type 0
  RangedQualified (T.Last name a) = RangedArguments a
  RangedQualified (T.Of name a rest) = RangedArguments a × RangedQualified rest

  pub RangedArguments : T.Arguments → Type 0
  RangedArguments T.Absent = ⊤
  RangedArguments (T.Listed es) = RangedExprs es

  pub RangedExprs : T.Exprs → Type 0
  RangedExprs T.NoExpr = ⊤
  RangedExprs (T.ExprThen e es) = RangedExpr e × RangedExprs es

abbrev pub RangedIf : {X : Type 0} → (X → Type 0) → Option X → Type 0
RangedIf P None = ⊤
RangedIf P (Some x) = P x

-- ---- declarations

abbrev pub RangedExtent : T.Extent → Type 0
RangedExtent e = RangedExpr e.value

abbrev pub RangedBound : T.Bound → Type 0
RangedBound (T.StarBound place) = ⊤
RangedBound (T.Upper upper) = RangedExtent upper
RangedBound (T.Both lower upper) = RangedExtent lower × RangedExtent upper

abbrev pub RangedSize : T.Size → Type 0
RangedSize (T.StarSize place) = ⊤
RangedSize (T.Given e) = RangedExtent e

abbrev pub RangedValue : T.InitialValue → Type 0
RangedValue (T.InitialNumber z) = IsInteger z
RangedValue (T.InitialText bytes) = IsLength (length bytes)
RangedValue _ = ⊤

abbrev pub RangedInitial : T.InitialItem → Type 0
RangedInitial i = IsInteger (pos i.repetition) × RangedValue i.value

abbrev pub RangedAttribute : T.Attribute → Type 0
RangedAttribute (T.Character size) = RangedIf RangedSize size
RangedAttribute (T.Area size) = RangedIf RangedSize size
RangedAttribute (T.Initial items) = Every RangedInitial items
RangedAttribute _ = ⊤

abbrev pub RangedName : T.DeclaredName → Type 0
RangedName d = Every RangedBound d.dimensions

abbrev pub RangedItem : T.DeclareItem → Type 0
RangedItem d = (Every RangedName d.names × Every RangedBound d.dimensions) × Every RangedAttribute d.attributes

abbrev pub RangedOption : T.ProcedureOption → Type 0
RangedOption (T.Returns attributes) = Every RangedAttribute attributes
RangedOption _ = ⊤

-- ---- statements

abbrev pub RangedCounting : T.Counting → Type 0
RangedCounting c =
    (RangedReference c.variable × RangedExpr c.start)
    × (RangedIf RangedExpr c.limit × (RangedIf RangedExpr c.step × RangedIf RangedExpr c.condition))

abbrev pub RangedAllocation : T.Allocation → Type 0
RangedAllocation a = RangedIf RangedReference a.area × RangedIf RangedReference a.locator

abbrev pub RangedFreeing : T.Freeing → Type 0
RangedFreeing f = RangedReference f.generation × RangedIf RangedReference f.area

abbrev pub RangedSkip : T.Skip → Type 0
RangedSkip k = IsTimes k.number

abbrev pub RangedPair : Direction → T.EditPair → Type 0
RangedPair d p = RangedExprs p.items × IsFormatList d p.formats

-- a statement that holds none
abbrev pub RangedSimple : T.Stmt → Type 0
RangedSimple (T.Null place) = IsLine place.line
RangedSimple (T.Assign target source place) = (RangedReference target × RangedExpr source) × IsLine place.line
RangedSimple (T.Call name a place) = RangedArguments a × IsLine place.line
RangedSimple (T.Return value place) = RangedIf RangedExpr value × IsLine place.line
RangedSimple (T.Goto label place) = IsLine place.line
RangedSimple (T.Stop place) = IsLine place.line
RangedSimple (T.Signal on place) = IsLine place.line
RangedSimple (T.Revert on place) = IsLine place.line
RangedSimple (T.Allocate allocations place) = Every RangedAllocation allocations × IsLine place.line
RangedSimple (T.Free freeings place) = Every RangedFreeing freeings × IsLine place.line
RangedSimple (T.Get skip pairs place) =
    RangedIf RangedSkip skip × (Every (RangedPair Getting) pairs × IsLine place.line)
RangedSimple (T.Put skip pairs place) =
    RangedIf RangedSkip skip × (Every (RangedPair Putting) pairs × IsLine place.line)
RangedSimple _ = ⊥

-- ---- heads

-- RETURN stands where one may
abbrev pub MayStand : Bool → T.Stmt → Type 0
MayStand r (T.Return value place) = r ≡ true
MayStand r _ = ⊤

-- a head inside so many blocks, and so many groups, IFs and on-units; and whether RETURN may stand there
abbrev pub IsRanged : (blocks units : ℕ) → (returns : Bool) → H.Head → Type 0
IsRanged b u r (H.ProcedureFront place parameters options) =
    Every RangedOption options × (IsLine place.line × (b < 16))
IsRanged b u r (H.Declaring items place) = Every RangedItem items
IsRanged b u r (H.Simple s) = RangedSimple s × MayStand r s
IsRanged b u r (H.IfThen e place) = RangedExpr e × (IsLine place.line × (u < 64))
IsRanged b u r (H.DoGroup place) = IsLine place.line × (u < 64)
IsRanged b u r (H.DoWhileGroup e place) = RangedExpr e × (IsLine place.line × (u < 64))
IsRanged b u r (H.DoCountGroup c place) = RangedCounting c × (IsLine place.line × (u < 64))
IsRanged b u r (H.BeginBlock place) = IsLine place.line × (b < 16)
IsRanged b u r (H.On on place) = IsLine place.line × (u < 64)
IsRanged b u r _ = ⊤

-- ---- trees

-- a procedure has a name
abbrev pub IsNamed : List T.Name → Type 0
IsNamed [] = ⊥
IsNamed (name ∷ names) = ⊤

-- what is so of each head of a list inside so many blocks, and so many groups, IFs and on-units; RETURN may stand in
-- procedures, and in on-units it may not
abbrev mutual
  pub StmtHas : (ℕ → ℕ → Bool → H.Head → Type 0) → (blocks units : ℕ) → (returns : Bool) → T.Stmt → Type 0
  StmtHas P b u r (T.If e unit place) = P b u r (H.IfThen e place) × StmtHas P b (suc u) r unit
  StmtHas P b u r (T.IfElse e unit otherwise place) =
      P b u r (H.IfThen e place) × (StmtHas P b (suc u) r unit × StmtHas P b (suc u) r otherwise)
  StmtHas P b u r (T.Do body place) = P b u r (H.DoGroup place) × ItemsHave P b (suc u) r body
  StmtHas P b u r (T.DoWhile e body place) = P b u r (H.DoWhileGroup e place) × ItemsHave P b (suc u) r body
  StmtHas P b u r (T.DoCount c body place) = P b u r (H.DoCountGroup c place) × ItemsHave P b (suc u) r body
  StmtHas P b u r (T.Begin body place) = P b u r (H.BeginBlock place) × ItemsHave P (suc b) u r body
  StmtHas P b u r (T.OnSystem on place) = P b u r (H.On on place)
  StmtHas P b u r (T.OnUnit on unit place) = P b u r (H.On on place) × StmtHas P b (suc u) false unit
  StmtHas P b u r s = P b u r (H.Simple s)

  pub ItemHas : (ℕ → ℕ → Bool → H.Head → Type 0) → (blocks units : ℕ) → (returns : Bool) → T.Item → Type 0
  ItemHas P b u r (T.Procedure head body) =
      (P b u r (H.ProcedureFront head.place head.parameters head.options) × IsNamed head.labels)
      × ItemsHave P (suc b) u true body
  ItemHas P b u r (T.Declare items place) = P b u r (H.Declaring items place)
  ItemHas P b u r (T.Statement labels s) = StmtHas P b u r s
  ItemHas P b u r (T.EndLabels labels place) = ⊤

  pub ItemsHave : (ℕ → ℕ → Bool → H.Head → Type 0) → (blocks units : ℕ) → (returns : Bool) → T.Items → Type 0
  ItemsHave P b u r T.NoItem = ⊤
  ItemsHave P b u r (T.ItemThen i is) = ItemHas P b u r i × ItemsHave P b u r is

-- the law: so is each head of what is spelled
abbrev pub RangesKept : Type 0
RangesKept =
    (s : List ℕ) (tokens : List Token) (tree : T.Tree) → Tokens s tokens → Spells s tokens tree
    → ItemsHave IsRanged 0 0 false tree.procedures
