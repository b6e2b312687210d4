-- How many words of a frame an expression of a source takes at most, whatever is declared around it: what may wait at
-- once while it is evaluated.
use Rattle.std.specs.Prelude.{ℕ, zero, suc, ◌+◌, ◌*◌, ◌≤◌, ◌==◌, max, if◌then◌else◌}
use Rattle.pli_language.specs.declared.expr.InfixOp.{InfixOp}
use Rattle.pli_language.specs.Marks.{most_parentheses}
use Rattle.pli_language.specs.Tree as T
use Rattle.well_formed_trees.specs.Counted.{arguments_of, arguments_of_reference, arguments_in}
use Rattle.well_formed_trees.specs.Shallow.{Opens, OpensReference, OpensArguments}
use Rattle.well_formed_trees.specs.Spelled.{reach_of, RangedExpr, RangedReference, RangedArguments}

-- a located variable's name with its signature, the four words of a POINTER, or an operand of a built-in function
abbrev pub least_words : ℕ
least_words = 5

-- what waits while the operand right of an operator of a reach is evaluated: no text does, and where two values are
-- compared a POINTER has four words
abbrev pub reach_words : (reach : ℕ) → ℕ
reach_words reach = if reach == 3 then 0 else (if reach == 4 then 4 else 1)

abbrev pub right_words : InfixOp → ℕ
right_words op = reach_words (reach_of op)

-- ---- arguments and subscripts

abbrev pub listed_count : T.Exprs → ℕ
listed_count T.NoExpr = 0
listed_count (T.ExprThen e es) = suc (listed_count es)

abbrev pub argument_count : T.Arguments → ℕ
argument_count T.Absent = 0
argument_count (T.Listed es) = listed_count es

-- of all names of a reference
abbrev pub qualified_count : T.Qualified → ℕ
qualified_count (T.Last name a) = argument_count a
qualified_count (T.Of name a rest) = argument_count a + qualified_count rest

-- ---- expressions, where each argument and each subscript takes so many words while those behind it are evaluated

abbrev mutual
  pub weight : (each : ℕ) → T.Expr → ℕ
  weight each (T.Parenthesized e place) = weight each e
  weight each (T.Prefix op e place) = weight each e
  weight each (T.Infix op left right) = max (weight each left) (right_words op + weight each right)
  weight each (T.Refers r) = reference_weight each r
  weight each _ = least_words

  pub reference_weight : (each : ℕ) → T.Reference → ℕ
  reference_weight each (T.Plain q) = least_words + (each * qualified_count q + heaviest each q)
  reference_weight each (T.Located locator q) =
      max (reference_weight each locator) (least_words + (each * qualified_count q + heaviest each q))

  pub heaviest : (each : ℕ) → T.Qualified → ℕ
  heaviest each (T.Last name a) = heaviest_in each a
  heaviest each (T.Of name a rest) = max (heaviest_in each a) (heaviest each rest)

  pub heaviest_in : (each : ℕ) → T.Arguments → ℕ
  heaviest_in each T.Absent = 0
  heaviest_in each (T.Listed es) = heaviest_of each es

  pub heaviest_of : (each : ℕ) → T.Exprs → ℕ
  heaviest_of each T.NoExpr = 0
  heaviest_of each (T.ExprThen e es) = max (weight each e) (heaviest_of each es)

-- ---- the most that it comes to

-- what waits at once of operators of a reach, and of those that bind closer
abbrev pub waiting : (reach : ℕ) → ℕ
waiting zero = 0
waiting (suc reach) = reach_words (suc reach) + waiting reach

-- in each parenthesis, and outside of all of them
abbrev pub parenthesis_words : ℕ
parenthesis_words = least_words + waiting 6

abbrev pub most_weight : (each arguments : ℕ) → ℕ
most_weight each arguments = parenthesis_words * suc most_parentheses + each * arguments

-- the law: what opens no more parentheses than an expression may, and whose operators bind as they do in sources,
-- weighs no more than that
abbrev pub WeightsLimited : Type 0
WeightsLimited = (each : ℕ) (e : T.Expr) → Opens 0 e → RangedExpr e → weight each e ≤ most_weight each (arguments_of e)

-- the same of references, and of the arguments of CALL
abbrev pub ReferencesLimited : Type 0
ReferencesLimited =
    (each : ℕ) (r : T.Reference) → OpensReference 0 r → RangedReference r
    → reference_weight each r ≤ most_weight each (arguments_of_reference r)

abbrev pub ArgumentsLimited : Type 0
ArgumentsLimited =
    (each : ℕ) (a : T.Arguments) → OpensArguments 0 a → RangedArguments a
    → each * argument_count a + heaviest_in each a ≤ most_weight each (arguments_in a)
