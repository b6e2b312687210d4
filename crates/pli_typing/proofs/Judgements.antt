-- What is judged of each form of expression and reference, as a program holds it: one equation for each variant.
use Rattle.std.proofs.Common.{◌≡◌, [], ◌∷◌, Option, Some, None, refl}
use Rattle.pli_language.specs.declared.expr.Expr as E
use Rattle.pli_language.specs.declared.expr.Reference as R
use Rattle.pli_language.specs.declared.expr.Qualified as Q
use Rattle.pli_language.specs.declared.expr.Arguments as A
use Rattle.pli_language.specs.declared.expr.Exprs as L
use Rattle.pli_language.specs.declared.fault.SourceFault.{SourceFault}
use Rattle.pli_language.specs.Refusals.{sooner, soonest}
use Rattle.pli_language.specs.View.{name_of, expr_of, reference_of, qualified_of, arguments_of, exprs_of}
use Rattle.pli_typing.specs.Judging.{fine, ◌>>=◌}
use Rattle.pli_typing.specs.TypedTree as Y
use Rattle.pli_typing.specs.Converting.{Gives, operator_digits, operand_value}
use Rattle.pli_typing.specs.Operators.{prefixed, infixed}
use Rattle.pli_language.proofs.Least.{soonest-append}
use Rattle.pli_typing.specs.References.{expression, reference, qualified, arguments, expressions, given, names_referent, written_locator, operand, referred}

pub expression-Number : (scope : _) (n : _) (p : _) → expression scope (expr_of (E.Number n p)) ≡ fine (Gives (Y.NumberValue operator_digits (Y.NumberConstant n)))
unfolding expression expr_of
expression-Number scope n p = refl

pub expression-Text : (scope : _) (t : _) (p : _) → expression scope (expr_of (E.Text t p)) ≡ fine (Gives (Y.TextValue (Y.TextConstant t.items)))
unfolding expression expr_of
expression-Text scope t p = refl

pub expression-Bit : (scope : _) (b : _) (p : _) → expression scope (expr_of (E.Bit b p)) ≡ fine (Gives (Y.BitValue (Y.BitConstant b)))
unfolding expression expr_of
expression-Bit scope b p = refl

pub expression-Parenthesized : (scope : _) (a : _) (e : _) (p : _) → expression scope (expr_of (E.Parenthesized' a e p)) ≡ (operand scope (expr_of e) >>= λ o. operand_value o >>= λ v. fine (given v))
unfolding expression expr_of
expression-Parenthesized scope a e p = refl

pub expression-Prefix : (scope : _) (op : _) (a : _) (e : _) (p : _) → expression scope (expr_of (E.Prefix' op a e p)) ≡ (operand scope (expr_of e) >>= λ o. prefixed op o)
unfolding expression expr_of
expression-Prefix scope op a e p = refl

pub expression-Infix : (scope : _) (op : _) (a : _) (l : _) (b : _) (r : _) → expression scope (expr_of (E.Infix' op a l b r)) ≡ (operand scope (expr_of l) >>= λ x. operand scope (expr_of r) >>= λ y. infixed op x y)
unfolding expression expr_of
expression-Infix scope op a l b r = refl

pub expression-Refers : (scope : _) (r : _) → expression scope (expr_of (E.Refers r)) ≡ reference scope (reference_of r)
unfolding expression expr_of
expression-Refers scope r = refl

pub reference-Plain : (scope : _) (q : _) → reference scope (reference_of (R.Plain q)) ≡ (qualified scope (qualified_of q) >>= λ names. names_referent scope Y.NotLocated names)
unfolding reference reference_of
reference-Plain scope q = refl

pub reference-Located : (scope : _) (a : _) (l : _) (q : _) → reference scope (reference_of (R.Located' a l q)) ≡ (referred scope (reference_of l) >>= λ o. written_locator o >>= λ locator. qualified scope (qualified_of q) >>= λ names. names_referent scope locator names)
unfolding reference reference_of
reference-Located scope a l q = refl

pub qualified-Last : (scope : _) (n : _) (a : _) → qualified scope (qualified_of (Q.Last n a)) ≡ (arguments scope (arguments_of a) >>= λ xs. fine (record { name = name_of n; arguments = xs } ∷ []))
unfolding qualified qualified_of
qualified-Last scope n a = refl

pub qualified-Of : (scope : _) (n : _) (a : _) (b : _) (q : _) → qualified scope (qualified_of (Q.Of' n a b q)) ≡ (arguments scope (arguments_of a) >>= λ xs. qualified scope (qualified_of q) >>= λ more. fine (record { name = name_of n; arguments = xs } ∷ more))
unfolding qualified qualified_of
qualified-Of scope n a b q = refl

pub arguments-Absent : (scope : _) → arguments scope (arguments_of A.Absent) ≡ fine None
unfolding arguments arguments_of
arguments-Absent scope = refl

pub arguments-Listed : (scope : _) (es : _) → arguments scope (arguments_of (A.Listed es)) ≡ (expressions scope (exprs_of es) >>= λ xs. fine (Some xs))
unfolding arguments arguments_of
arguments-Listed scope es = refl

pub expressions-End : (scope : _) → expressions scope (exprs_of L.End) ≡ fine []
unfolding expressions exprs_of
expressions-End scope = refl

pub expressions-More : (scope : _) (a : _) (e : _) (b : _) (es : _) → expressions scope (exprs_of (L.More' a e b es)) ≡ (operand scope (expr_of e) >>= λ x. expressions scope (exprs_of es) >>= λ xs. fine (x ∷ xs))
unfolding expressions exprs_of
expressions-More scope a e b es = refl

-- the least of what was found and of nothing, or of one
pub soonest_none : (found : Option SourceFault) → soonest found [] ≡ found
unfolding soonest
soonest_none found = refl

pub soonest_one : (found : Option SourceFault) (f : SourceFault) → soonest found (f ∷ []) ≡ sooner found f
unfolding soonest
soonest_one found f = refl

-- the equations of expressions and references, and what puts what was found in two parts together
pub ruleset judgements = (soonest-append, soonest_none, soonest_one, expression-Number, expression-Text, expression-Bit, expression-Parenthesized, expression-Prefix, expression-Infix, expression-Refers, reference-Plain, reference-Located, qualified-Last, qualified-Of, arguments-Absent, arguments-Listed, expressions-End, expressions-More)
