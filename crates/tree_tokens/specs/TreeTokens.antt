-- How many tokens a source tree is spelled with at least: a word, a name, a constant or a mark is one. What may be left
-- out, as a repetition of 1, isn't counted, nor is the name behind END.
use Rattle.std.specs.Prelude.{◌≤◌, ◌==◌, ℕ, suc, ◌+◌, ◌*◌, ℤ, pos, negsuc, List, [], ◌∷◌, length, Option, None, Some}
use Rattle.std.specs.Prelude.{if◌then◌else◌}
use Rattle.pli_language.specs.declared.condition.Condition.{Condition}
use Rattle.pli_language.specs.declared.condition.Condition.TheVariants as C
use Rattle.pli_language.specs.declared.token.Token.{Token}
use Rattle.pli_language.specs.Parsing.{Spells}
use Rattle.pli_language.specs.Tree as T

-- ---- expressions

abbrev mutual
  pub expr_tokens : T.Expr → ℕ
  expr_tokens (T.Number value place) = 1
  expr_tokens (T.Text value place) = 1
  expr_tokens (T.Bit value place) = 1
  expr_tokens (T.Parenthesized inner place) = 2 + expr_tokens inner
  expr_tokens (T.Prefix op operand place) = 1 + expr_tokens operand
  expr_tokens (T.Infix op left right) = expr_tokens left + (1 + expr_tokens right)
  expr_tokens (T.Refers r) = reference_tokens r

  pub reference_tokens : T.Reference → ℕ
  reference_tokens (T.Plain q) = qualified_tokens q
  reference_tokens (T.Located locator target) = reference_tokens locator + (1 + qualified_tokens target)

  pub qualified_tokens : T.Qualified → ℕ
  qualified_tokens (T.Last name arguments) = 1 + arguments_tokens arguments
  qualified_tokens (T.Of name arguments rest) = 1 + (arguments_tokens arguments + (1 + qualified_tokens rest))

  pub arguments_tokens : T.Arguments → ℕ
  arguments_tokens T.Absent = 0
  arguments_tokens (T.Listed es) = 2 + exprs_tokens es

  -- with the commas between them
  pub exprs_tokens : T.Exprs → ℕ
  exprs_tokens T.NoExpr = 0
  exprs_tokens (T.ExprThen first rest) = expr_tokens first + further_tokens rest

  pub further_tokens : T.Exprs → ℕ
  further_tokens T.NoExpr = 0
  further_tokens (T.ExprThen first rest) = 1 + (expr_tokens first + further_tokens rest)

-- where one stands
abbrev pub tokens_if : {X : Type 0} → (X → ℕ) → Option X → ℕ
tokens_if tokens None = 0
tokens_if tokens (Some x) = tokens x

-- a list with commas between its items
abbrev pub commas_before : {X : Type 0} → (X → ℕ) → List X → ℕ
commas_before tokens [] = 0
commas_before tokens (x ∷ xs) = 1 + (tokens x + commas_before tokens xs)

abbrev pub list_tokens : {X : Type 0} → (X → ℕ) → List X → ℕ
list_tokens tokens [] = 0
list_tokens tokens (x ∷ xs) = tokens x + commas_before tokens xs

-- one behind the other
abbrev pub row_tokens : {X : Type 0} → (X → ℕ) → List X → ℕ
row_tokens tokens [] = 0
row_tokens tokens (x ∷ xs) = tokens x + row_tokens tokens xs

-- ---- declarations

-- REFER with its member in parentheses
abbrev pub extent_tokens : T.Extent → ℕ
extent_tokens e = expr_tokens e.value + tokens_if (λ r. 4) e.refer

abbrev pub bound_tokens : T.Bound → ℕ
bound_tokens (T.StarBound place) = 1
bound_tokens (T.Upper upper) = extent_tokens upper
bound_tokens (T.Both lower upper) = extent_tokens lower + (1 + extent_tokens upper)

abbrev pub dimensions_tokens : List T.Bound → ℕ
dimensions_tokens [] = 0
dimensions_tokens (b ∷ bs) = 2 + list_tokens bound_tokens (b ∷ bs)

abbrev pub size_tokens : T.Size → ℕ
size_tokens (T.StarSize place) = 3
size_tokens (T.Given e) = 2 + extent_tokens e

abbrev pub number_tokens : ℤ → ℕ
number_tokens (pos n) = 1
number_tokens (negsuc n) = 2

abbrev pub value_tokens : T.InitialValue → ℕ
value_tokens (T.InitialNumber z) = number_tokens z
value_tokens _ = 1

abbrev pub item_tokens : T.InitialItem → ℕ
item_tokens i = (if i.repetition == 1 then 0 else 3) + value_tokens i.value

-- with a number, a size, a name or values in parentheses
abbrev pub attribute_tokens : T.Attribute → ℕ
attribute_tokens (T.Fixed digits) = 1 + tokens_if (λ n. 3) digits
attribute_tokens (T.Binary digits) = 1 + tokens_if (λ n. 3) digits
attribute_tokens (T.Character size) = 1 + tokens_if size_tokens size
attribute_tokens (T.Offset area) = 1 + tokens_if (λ n. 3) area
attribute_tokens (T.Area size) = 1 + tokens_if size_tokens size
attribute_tokens (T.Based locator) = 1 + tokens_if (λ n. 3) locator
attribute_tokens (T.Initial items) = 3 + list_tokens item_tokens items
attribute_tokens _ = 1

abbrev pub name_tokens : T.DeclaredName → ℕ
name_tokens d = 1 + dimensions_tokens d.dimensions

-- several names stand in parentheses
abbrev pub names_tokens : List T.DeclaredName → ℕ
names_tokens [] = 0
names_tokens (d ∷ []) = name_tokens d
names_tokens (d ∷ e ∷ ds) = 2 + list_tokens name_tokens (d ∷ e ∷ ds)

abbrev pub declare_tokens : T.DeclareItem → ℕ
declare_tokens d =
    tokens_if (λ n. 1) d.level
    + (names_tokens d.names + (dimensions_tokens d.dimensions + row_tokens attribute_tokens d.attributes))

-- ---- parts of statements

abbrev pub condition_tokens : Condition → ℕ
condition_tokens C.Endfile = 4
condition_tokens _ = 1

-- a reference in parentheses behind IN or SET
abbrev pub placed_tokens : T.Reference → ℕ
placed_tokens r = 3 + reference_tokens r

abbrev pub allocation_tokens : T.Allocation → ℕ
allocation_tokens a = 1 + (tokens_if placed_tokens a.area + tokens_if placed_tokens a.locator)

abbrev pub freeing_tokens : T.Freeing → ℕ
freeing_tokens f = reference_tokens f.generation + tokens_if placed_tokens f.area

abbrev mutual
  pub format_tokens : T.Format → ℕ
  format_tokens (T.FormatList formats) = 1 + formats_tokens formats
  format_tokens (T.FixedFormat width) = 4
  format_tokens (T.TextFormat width) = 1 + tokens_if (λ n. 3) width
  format_tokens (T.SpaceFormat number) = 4
  format_tokens (T.SkipFormat number) = if number == 1 then 1 else 4
  format_tokens (T.ColumnFormat number) = 4

  -- each with its comma, or the parenthesis that closes them
  pub formats_tokens : T.Formats → ℕ
  formats_tokens T.NoFormat = 0
  formats_tokens (T.FormatThen place repetition first rest) =
      (if repetition == 1 then 0 else 1) + (format_tokens first + (1 + formats_tokens rest))

abbrev pub pair_tokens : T.EditPair → ℕ
pair_tokens p = 2 + (exprs_tokens p.items + (1 + formats_tokens p.formats))

abbrev pub edit_tokens : List T.EditPair → ℕ
edit_tokens [] = 0
edit_tokens (p ∷ ps) = 1 + row_tokens pair_tokens (p ∷ ps)

abbrev pub skip_tokens : T.Skip → ℕ
skip_tokens k = if k.number == 1 then 1 else 4

abbrev pub moved_tokens : Option T.Skip → List T.EditPair → ℕ
moved_tokens skip pairs = 2 + (tokens_if skip_tokens skip + edit_tokens pairs)

-- TO, BY, and WHILE with parentheses
abbrev pub counting_tokens : T.Counting → ℕ
counting_tokens c =
    (reference_tokens c.variable + (1 + expr_tokens c.start))
    + (tokens_if (λ e. 1 + expr_tokens e) c.limit
    + (tokens_if (λ e. 1 + expr_tokens e) c.step + tokens_if (λ e. 3 + expr_tokens e) c.condition))

abbrev pub parameters_tokens : List T.Name → ℕ
parameters_tokens [] = 0
parameters_tokens (n ∷ ns) = 2 + list_tokens (λ m. 1) (n ∷ ns)

abbrev pub option_tokens : T.ProcedureOption → ℕ
option_tokens T.Main = 4
option_tokens T.Recursive = 1
option_tokens (T.Returns attributes) = 3 + row_tokens attribute_tokens attributes

-- each with its colon
abbrev pub labels_tokens : List T.Name → ℕ
labels_tokens labels = 2 * length labels

abbrev pub procedure_tokens : T.ProcedureHead → ℕ
procedure_tokens h =
    labels_tokens h.labels + (2 + (parameters_tokens h.parameters + row_tokens option_tokens h.options))

-- ---- statements

abbrev mutual
  pub stmt_tokens : T.Stmt → ℕ
  stmt_tokens (T.Null place) = 1
  stmt_tokens (T.Assign target source place) = reference_tokens target + (2 + expr_tokens source)
  stmt_tokens (T.If condition unit place) = 2 + (expr_tokens condition + stmt_tokens unit)
  stmt_tokens (T.IfElse condition unit otherwise place) =
      2 + (expr_tokens condition + (stmt_tokens unit + (1 + stmt_tokens otherwise)))
  stmt_tokens (T.Do body place) = 4 + items_tokens body
  stmt_tokens (T.DoWhile condition body place) = 7 + (expr_tokens condition + items_tokens body)
  stmt_tokens (T.DoCount counting body place) = 4 + (counting_tokens counting + items_tokens body)
  stmt_tokens (T.Begin body place) = 4 + items_tokens body
  stmt_tokens (T.OnSystem condition place) = 3 + condition_tokens condition
  stmt_tokens (T.OnUnit condition unit place) = 1 + (condition_tokens condition + stmt_tokens unit)
  stmt_tokens (T.Call procedure arguments place) = 3 + arguments_tokens arguments
  stmt_tokens (T.Return value place) = 2 + tokens_if (λ e. 2 + expr_tokens e) value
  stmt_tokens (T.Goto label place) = 3
  stmt_tokens (T.Stop place) = 2
  stmt_tokens (T.Signal condition place) = 2 + condition_tokens condition
  stmt_tokens (T.Revert condition place) = 2 + condition_tokens condition
  stmt_tokens (T.Allocate allocations place) = 2 + list_tokens allocation_tokens allocations
  stmt_tokens (T.Free freeings place) = 2 + list_tokens freeing_tokens freeings
  stmt_tokens (T.Get skip pairs place) = moved_tokens skip pairs
  stmt_tokens (T.Put skip pairs place) = moved_tokens skip pairs

  pub item_of_list_tokens : T.Item → ℕ
  item_of_list_tokens (T.Procedure head body) = procedure_tokens head + (2 + items_tokens body)
  item_of_list_tokens (T.Declare items place) = 2 + list_tokens declare_tokens items
  item_of_list_tokens (T.Statement labels statement) = labels_tokens labels + stmt_tokens statement
  item_of_list_tokens (T.EndLabels labels place) = labels_tokens labels

  pub items_tokens : T.Items → ℕ
  items_tokens T.NoItem = 0
  items_tokens (T.ItemThen first rest) = item_of_list_tokens first + items_tokens rest

abbrev pub tree_tokens : T.Tree → ℕ
tree_tokens tree = items_tokens tree.procedures

-- ---- the law

abbrev pub TreesSpelled : Type 0
TreesSpelled =
    (s : List ℕ) (tokens : List Token) (tree : T.Tree) → Spells s tokens tree → tree_tokens tree ≤ length tokens
