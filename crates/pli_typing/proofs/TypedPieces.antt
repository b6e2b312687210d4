-- Pieces of typed trees for worked rows.
use Rattle.std.specs.Prelude.{ℕ, pos, List, [], ◌∷◌, None}
use Rattle.pli_language.specs.Tree.{Tree}
use Rattle.pli_typing.specs.TypedTree as Y
use Rattle.pli_typing.specs.Resolving.{typed_tree}

-- the variables that the main procedure declares, and references to scalars and parts of them
abbrev pub automatic : ℕ → Y.Variable
automatic index = record { class = Y.AutomaticClass; block = 1; level = 0; index = index }

abbrev pub based_variable : ℕ → Y.Variable
based_variable index = record { class = Y.BasedClass; block = 1; level = 0; index = index }

abbrev pub controlled : Y.Variable
controlled = record { class = Y.ControlledClass; block = 1; level = 0; index = 10 }

abbrev pub part_of : (index first count : ℕ) → Y.Numbers → Y.Reference
part_of index first count subscripts = Y.Referring (automatic index) Y.NotLocated (record { first = first; count = count }) subscripts

abbrev pub scalar : ℕ → Y.Reference
scalar index = part_of index 0 1 Y.NoNumber

abbrev pub based : (index leaf : ℕ) → Y.Pointer → Y.Reference
based index leaf p = Y.Referring (based_variable index) (Y.LocatedBy p) (record { first = leaf; count = 1 }) Y.NoNumber

abbrev pub constant_then : ℕ → Y.Numbers → Y.Numbers
constant_then n rest = Y.NumberThen (Y.NumberConstant n) rest

-- the statements of the main procedure
abbrev pub listed_statements : Y.Stmts → List Y.Stmt
listed_statements (Y.EndOfList labels) = []
listed_statements (Y.StmtThen labels s ss) = s ∷ listed_statements ss

abbrev pub body_of : Y.Block → Y.Stmts
body_of (Y.BlockOf head body) = body

abbrev pub first_body : List Y.Procedure → List Y.Stmt
first_body [] = []
first_body (p ∷ ps) = listed_statements (body_of p.block)

unfoldable pub typed_rest : Tree → List Y.Stmt
typed_rest tree = first_body (typed_tree tree).procedures

unfoldable pub variables : Tree → List (List Y.DeclaredVariable)
variables tree = (typed_tree tree).variables

abbrev pub leaf : Y.LeafType → List Y.Bounds → Y.Leaf
leaf type bounds = record { type = type; bounds = bounds; initial = [] }

abbrev pub up_to : Y.Extent → Y.Bounds
up_to upper = record { lower = Y.ConstantExtent (pos 1); upper = upper }

abbrev pub member : ℕ → ℕ → Y.Member
member depth dimensions = record { depth = depth; dimensions = dimensions }

-- a scalar
abbrev pub variable : Y.StorageClass → List Y.Leaf → Y.DeclaredVariable
variable class leaves = record { class = class; members = member 0 0 ∷ []; leaves = leaves; refer = None; evaluations = [] }
