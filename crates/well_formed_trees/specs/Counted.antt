-- How many arguments and subscripts stand in a head, and how many parameters: no more than the limits of sources.
use Rattle.std.specs.Prelude.{ℕ, ◌+◌, ◌≤◌, Bool, List, [], ◌∷◌, length, Option, Some, None, false}
use Rattle.pli_language.specs.declared.token.Token.{Token}
use Rattle.pli_language.specs.Heads as H
use Rattle.pli_language.specs.Heads.{most_parameters}
use Rattle.pli_language.specs.Marks.{most_arguments}
use Rattle.pli_language.specs.Parsing.{Spells}
use Rattle.pli_language.specs.Tree as T
use Rattle.well_formed_trees.specs.Spelled.{ItemsHave}

-- ---- expressions

abbrev mutual
  pub arguments_of : T.Expr → ℕ
  arguments_of (T.Parenthesized e place) = arguments_of e
  arguments_of (T.Prefix op e place) = arguments_of e
  arguments_of (T.Infix op left right) = arguments_of left + arguments_of right
  arguments_of (T.Refers r) = arguments_of_reference r
  arguments_of _ = 0

  pub arguments_of_reference : T.Reference → ℕ
  arguments_of_reference (T.Plain q) = arguments_of_qualified q
  arguments_of_reference (T.Located locator q) = arguments_of_reference locator + arguments_of_qualified q

  pub arguments_of_qualified : T.Qualified → ℕ
  arguments_of_qualified (T.Last name a) = arguments_in a
  arguments_of_qualified (T.Of name a rest) = arguments_in a + arguments_of_qualified rest

  pub arguments_in : T.Arguments → ℕ
  arguments_in T.Absent = 0
  arguments_in (T.Listed es) = arguments_listed es

  -- those of a list, each with those in it
  pub arguments_listed : T.Exprs → ℕ
  arguments_listed T.NoExpr = 0
  arguments_listed (T.ExprThen e es) = (1 + arguments_of e) + arguments_listed es

-- those in expressions that are no arguments themselves
abbrev pub arguments_of_all : T.Exprs → ℕ
arguments_of_all T.NoExpr = 0
arguments_of_all (T.ExprThen e es) = arguments_of e + arguments_of_all es

abbrev pub count_if : {X : Type 0} → (X → ℕ) → Option X → ℕ
count_if f None = 0
count_if f (Some x) = f x

abbrev pub total_of : {X : Type 0} → (X → ℕ) → List X → ℕ
total_of f [] = 0
total_of f (x ∷ xs) = f x + total_of f xs

-- ---- declarations

abbrev pub arguments_of_bound : T.Bound → ℕ
arguments_of_bound (T.StarBound place) = 0
arguments_of_bound (T.Upper upper) = arguments_of upper.value
arguments_of_bound (T.Both lower upper) = arguments_of lower.value + arguments_of upper.value

abbrev pub arguments_of_size : T.Size → ℕ
arguments_of_size (T.StarSize place) = 0
arguments_of_size (T.Given e) = arguments_of e.value

abbrev pub arguments_of_attribute : T.Attribute → ℕ
arguments_of_attribute (T.Character size) = count_if arguments_of_size size
arguments_of_attribute (T.Area size) = count_if arguments_of_size size
arguments_of_attribute _ = 0

abbrev pub arguments_of_item : T.DeclareItem → ℕ
arguments_of_item d =
    (total_of (λ n. total_of arguments_of_bound n.dimensions) d.names + total_of arguments_of_bound d.dimensions)
    + total_of arguments_of_attribute d.attributes

abbrev pub arguments_of_option : T.ProcedureOption → ℕ
arguments_of_option (T.Returns attributes) = total_of arguments_of_attribute attributes
arguments_of_option _ = 0

-- ---- heads

abbrev pub arguments_of_counting : T.Counting → ℕ
arguments_of_counting c =
    ((arguments_of_reference c.variable + arguments_of c.start)
    + (count_if arguments_of c.limit + count_if arguments_of c.step)) + count_if arguments_of c.condition

abbrev pub arguments_of_allocation : T.Allocation → ℕ
arguments_of_allocation a = count_if arguments_of_reference a.area + count_if arguments_of_reference a.locator

abbrev pub arguments_of_freeing : T.Freeing → ℕ
arguments_of_freeing f = arguments_of_reference f.generation + count_if arguments_of_reference f.area

abbrev pub arguments_of_pair : T.EditPair → ℕ
arguments_of_pair p = arguments_of_all p.items

-- of a statement that holds none
abbrev pub arguments_of_simple : T.Stmt → ℕ
arguments_of_simple (T.Assign target source place) = arguments_of_reference target + arguments_of source
arguments_of_simple (T.Call name a place) = arguments_in a
arguments_of_simple (T.Return value place) = count_if arguments_of value
arguments_of_simple (T.Allocate allocations place) = total_of arguments_of_allocation allocations
arguments_of_simple (T.Free freeings place) = total_of arguments_of_freeing freeings
arguments_of_simple (T.Get skip pairs place) = total_of arguments_of_pair pairs
arguments_of_simple (T.Put skip pairs place) = total_of arguments_of_pair pairs
arguments_of_simple _ = 0

abbrev pub arguments_of_head : H.Head → ℕ
arguments_of_head (H.ProcedureFront place parameters options) = total_of arguments_of_option options
arguments_of_head (H.Declaring items place) = total_of arguments_of_item items
arguments_of_head (H.Simple s) = arguments_of_simple s
arguments_of_head (H.IfThen e place) = arguments_of e
arguments_of_head (H.DoWhileGroup e place) = arguments_of e
arguments_of_head (H.DoCountGroup c place) = arguments_of_counting c
arguments_of_head _ = 0

abbrev pub parameters_of_head : H.Head → List T.Name
parameters_of_head (H.ProcedureFront place parameters options) = parameters
parameters_of_head _ = []

abbrev pub HasFew : (blocks units : ℕ) → (returns : Bool) → H.Head → Type 0
HasFew b u r h = (arguments_of_head h ≤ most_arguments) × (length (parameters_of_head h) ≤ most_parameters)

-- the law: so has each head of what is spelled
abbrev pub ArgumentsKept : Type 0
ArgumentsKept =
    (s : List ℕ) (tokens : List Token) (tree : T.Tree) → Spells s tokens tree
    → ItemsHave HasFew 0 0 false tree.procedures
