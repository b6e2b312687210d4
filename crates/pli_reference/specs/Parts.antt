-- The part of a variable that a declaration is, by its shape.
use Rattle.std.specs.Prelude.{ℕ, Bool, not, ◌&&◌, ◌||◌, ◌==◌, false, List, length, map, if◌then◌else◌}
use Rattle.std.specs.List.{list_any}
use Rattle.pli_language.specs.declared.expr.Place.{Place}
use Rattle.pli_language.specs.declared.expr.InfixOp.{InfixOp}
use Rattle.pli_language.specs.declared.fault.SourceKind.TheVariants.{BadArguments, Undeclared}
use Rattle.pli_typing.specs.Judging.{Judged, Scope, broken, demand, fine, ◌>>=◌, ◌>>◌}
use Rattle.pli_typing.specs.Operators.{infixed}
use Rattle.pli_language.specs.Tree.{Expr, Name}
use Rattle.pli_typing.specs.References.{Named, all_operands, builtin_referent, is_builtin_name, is_empty, is_listed, listed_place, operand}
use Rattle.pli_typing.specs.Builtins.{number_list}
use Rattle.pli_typing.specs.TypedTree as Y
use Rattle.pli_typing.specs.Converting.{Designated, Designates, NotKnown, Operand, Referent}
use Rattle.pli_operand.specs.Shown.{leaf_behind}
use Rattle.pli_variables.specs.Shapes.{Shape}

abbrev pub designated_by : Shape → Y.Reference → Bool → Designated
designated_by s reference is_element = record {
  reference = reference;
  leaves = map (leaf_behind (if is_element then s.dimensions else 0)) s.leaves;
  dimensions = if is_element then 0 else s.dimensions;
  has_members = s.has_members;
  is_whole = s.is_alone && not is_element;
}

abbrev pub part_by : Shape → Y.Locator → Bool → Y.Numbers → Designated
part_by s locator is_element subscripts = designated_by s (Y.Referring s.variable locator s.part subscripts) is_element

-- a whole variable that isn't BASED
abbrev pub whole_by : Shape → Designated
whole_by s = part_by s Y.NotLocated false Y.NoNumber

-- no parentheses, or as many subscripts as there are dimensions
abbrev pub fit_by : ℕ → List Named → Bool
fit_by dimensions names =
    not (list_any is_listed names)
    || (not (list_any (λ n. is_empty n.arguments) names) && (length (all_operands names) == dimensions))

-- the part, with its subscripts
abbrev pub with_subscripts : Shape → Y.Locator → Bool → List Operand → Judged Referent
with_subscripts s locator is_element operands = do
  subscripts ← number_list operands
  fine (Designates (part_by s locator is_element subscripts))

abbrev pub subscripted_by : Shape → Y.Locator → Place → List Named → Judged Referent
subscripted_by s locator place names = do
  demand (fit_by s.dimensions names) (listed_place place names) BadArguments
  with_subscripts s locator (list_any is_listed names) (all_operands names)

-- names that nothing is declared as: a built-in's name alone, or a name that isn't declared
abbrev pub undeclared_referent : Name → Y.Locator → List Named → Judged Referent
undeclared_referent first located names =
    if is_builtin_name names then builtin_referent first.place first.word located names else broken first.place Undeclared NotKnown

-- an operator between an operand and an expression
abbrev pub infix_of : Scope → InfixOp → Operand → Expr → Judged Referent
infix_of scope op a r = do
  b ← operand scope r
  infixed op a b
