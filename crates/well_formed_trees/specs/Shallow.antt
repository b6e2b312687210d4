-- How many parentheses are open at once in an expression of a head: no more than the limit of sources.
use Rattle.std.specs.Prelude.{ℕ, suc, ◌<◌, Bool, List, Option, false, ⊤}
use Rattle.pli_language.specs.declared.token.Token.{Token}
use Rattle.pli_language.specs.Heads as H
use Rattle.pli_language.specs.Marks.{most_parentheses}
use Rattle.pli_language.specs.Parsing.{Spells}
use Rattle.pli_language.specs.Tree as T
use Rattle.well_formed_trees.specs.Every.{Every}
use Rattle.well_formed_trees.specs.Spelled.{RangedIf, ItemsHave}

-- ---- expressions, where so many are open around them

abbrev mutual
  pub Opens : ℕ → T.Expr → Type 0
  Opens n (T.Parenthesized e place) = (n < most_parentheses) × Opens (suc n) e
  Opens n (T.Prefix op e place) = Opens n e
  Opens n (T.Infix op left right) = Opens n left × Opens n right
  Opens n (T.Refers r) = OpensReference n r
  Opens n _ = ⊤

  pub OpensReference : ℕ → T.Reference → Type 0
  OpensReference n (T.Plain q) = OpensQualified n q
  OpensReference n (T.Located locator q) = OpensReference n locator × OpensQualified n q

  pub OpensQualified : ℕ → T.Qualified → Type 0
  OpensQualified n (T.Last name a) = OpensArguments n a
  OpensQualified n (T.Of name a rest) = OpensArguments n a × OpensQualified n rest

  pub OpensArguments : ℕ → T.Arguments → Type 0
  OpensArguments n T.Absent = ⊤
  OpensArguments n (T.Listed es) = (n < most_parentheses) × OpensExprs (suc n) es

  pub OpensExprs : ℕ → T.Exprs → Type 0
  OpensExprs n T.NoExpr = ⊤
  OpensExprs n (T.ExprThen e es) = Opens n e × OpensExprs n es

-- ---- heads

abbrev pub ShallowBound : T.Bound → Type 0
ShallowBound (T.StarBound place) = ⊤
ShallowBound (T.Upper upper) = Opens 0 upper.value
ShallowBound (T.Both lower upper) = Opens 0 lower.value × Opens 0 upper.value

abbrev pub ShallowSize : T.Size → Type 0
ShallowSize (T.StarSize place) = ⊤
ShallowSize (T.Given e) = Opens 0 e.value

abbrev pub ShallowAttribute : T.Attribute → Type 0
ShallowAttribute (T.Character size) = RangedIf ShallowSize size
ShallowAttribute (T.Area size) = RangedIf ShallowSize size
ShallowAttribute _ = ⊤

abbrev pub ShallowName : T.DeclaredName → Type 0
ShallowName d = Every ShallowBound d.dimensions

abbrev pub ShallowItem : T.DeclareItem → Type 0
ShallowItem d = (Every ShallowName d.names × Every ShallowBound d.dimensions) × Every ShallowAttribute d.attributes

abbrev pub ShallowOption : T.ProcedureOption → Type 0
ShallowOption (T.Returns attributes) = Every ShallowAttribute attributes
ShallowOption _ = ⊤

abbrev pub ShallowIf : Option T.Expr → Type 0
ShallowIf e = RangedIf (Opens 0) e

abbrev pub ShallowCounting : T.Counting → Type 0
ShallowCounting c =
    (OpensReference 0 c.variable × Opens 0 c.start) × ((ShallowIf c.limit × ShallowIf c.step) × ShallowIf c.condition)

abbrev pub ShallowReferenceIf : Option T.Reference → Type 0
ShallowReferenceIf r = RangedIf (OpensReference 0) r

abbrev pub ShallowAllocation : T.Allocation → Type 0
ShallowAllocation a = ShallowReferenceIf a.area × ShallowReferenceIf a.locator

abbrev pub ShallowFreeing : T.Freeing → Type 0
ShallowFreeing f = OpensReference 0 f.generation × ShallowReferenceIf f.area

abbrev pub ShallowPair : T.EditPair → Type 0
ShallowPair p = OpensExprs 0 p.items

-- a statement that holds none
abbrev pub ShallowSimple : T.Stmt → Type 0
ShallowSimple (T.Assign target source place) = OpensReference 0 target × Opens 0 source
ShallowSimple (T.Call name a place) = OpensArguments 0 a
ShallowSimple (T.Return value place) = ShallowIf value
ShallowSimple (T.Allocate allocations place) = Every ShallowAllocation allocations
ShallowSimple (T.Free freeings place) = Every ShallowFreeing freeings
ShallowSimple (T.Get skip pairs place) = Every ShallowPair pairs
ShallowSimple (T.Put skip pairs place) = Every ShallowPair pairs
ShallowSimple _ = ⊤

abbrev pub ShallowHead : H.Head → Type 0
ShallowHead (H.ProcedureFront place parameters options) = Every ShallowOption options
ShallowHead (H.Declaring items place) = Every ShallowItem items
ShallowHead (H.Simple s) = ShallowSimple s
ShallowHead (H.IfThen e place) = Opens 0 e
ShallowHead (H.DoWhileGroup e place) = Opens 0 e
ShallowHead (H.DoCountGroup c place) = ShallowCounting c
ShallowHead _ = ⊤

abbrev pub IsShallow : (blocks units : ℕ) → (returns : Bool) → H.Head → Type 0
IsShallow b u r h = ShallowHead h

-- the law: so is each head of what is spelled
abbrev pub ParenthesesKept : Type 0
ParenthesesKept =
    (s : List ℕ) (tokens : List Token) (tree : T.Tree) → Spells s tokens tree
    → ItemsHave IsShallow 0 0 false tree.procedures
