-- References and expressions: the declaration or built-in at each reference, the kind of each expression, and what they break.
-- (X3.53-1976, chapter 4, the resolution of references, and chapter 9, expressions.)
use Rattle.std.specs.Prelude.{ℕ, Bool, true, false, not, ◌&&◌, ◌||◌, ◌==◌, List, [], ◌∷◌, map, length, Option, Some, None, is_some, if◌then◌else◌}
use Rattle.std.specs.List.{flat_map, list_any}
use Rattle.pli_language.specs.declared.expr.Place.{Place}
use Rattle.pli_language.specs.declared.token.Word.{Word}
use Rattle.pli_language.specs.declared.scope.Found.{Found}
use Rattle.pli_language.specs.declared.scope.Found.TheVariants as F
use Rattle.pli_language.specs.declared.fault.SourceKind.TheVariants.{Undeclared, Ambiguous, BadAttributes, TypeMismatch, BadArguments}
use Rattle.pli_language.specs.Tree as T
use Rattle.pli_language.specs.Declarations.{Held, What, Variable', Label, ProcedureName, Block}
use Rattle.pli_language.specs.Means.{names_mean}
use Rattle.pli_language.specs.Declaring.{has, own_attributes, class_attributes, is_builtin, constant, place_of_expr, place_of_reference}
use Rattle.pli_typing.specs.Judging.{Scope, Judged, fine, broken, demand, mention, MentionsFunction, MentionsVariable, ◌>>=◌, ◌>>◌}
use Rattle.pli_typing.specs.TypedTree as Y
use Rattle.pli_typing.specs.Variables.{all_dimensions, locator_name, name_means, what_at, variable_meant}
use Rattle.pli_typing.specs.Converting.{Designated, Referent, Designates, Gives, GivesUnknown, GivesNothing, NotKnown, Operand, operator_digits, scalar_type, value_with_type, value_from, variable_of, pointer_of, operand_value, pointer_wanted, pointer_operand}
use Rattle.pli_typing.specs.Calls.{part_designated, procedure_called, result_type}
use Rattle.pli_typing.specs.Builtins.{number_list, builtin_called}
use Rattle.pli_typing.specs.Operators.{prefixed, infixed}

-- a name of a reference, with its judged arguments where it has parentheses
pub record Named : Type 0 where
  pub name : T.Name
  pub arguments : Option (List Operand)

-- ---- locators (chapter 4, pointer qualification)

-- what BASED(name) may name: a scalar locator that is no part of a BASED variable
abbrev pub locates : Option Y.Value → Bool
locates None = false
locates (Some v) = is_some (pointer_of v)

abbrev pub locator_value : Designated → Option Y.Value
locator_value d = value_with_type d.reference (scalar_type d)

abbrev pub locator_if : Designated → Bool → Option Designated
locator_if d true = Some d
locator_if d false = None

abbrev pub locator_in : List Block → ℕ → Option What → Option Designated
locator_in blocks b (Some (Variable' h)) =
    locator_if (part_designated blocks b h Y.NotLocated false Y.NoNumber)
    (not (has 11 (class_attributes h)) && locates (locator_value (part_designated blocks b h Y.NotLocated false Y.NoNumber)))
locator_in blocks b _ = None

abbrev pub locator_found : List Block → Found → Option Designated
locator_found blocks (F.One at) = locator_in blocks at.block (what_at blocks at)
locator_found blocks F.None = None
locator_found blocks F.Ambiguous = None

-- a bad name in BASED(name) is told where it stands
abbrev pub declared_locator : Place → Option Designated → Judged Y.Locator
declared_locator place None = fine Y.NotLocated
declared_locator place (Some d) = do
  mention (MentionsVariable (variable_of d.reference))
  p ← pointer_wanted place (locator_value d)
  fine (Y.LocatedBy p)

abbrev pub based_locator : List Block → ℕ → Place → Option T.Name → Judged Y.Locator
based_locator blocks b place None = broken place BadAttributes Y.NotLocated
based_locator blocks b place (Some name) = declared_locator place (locator_found blocks (name_means blocks b name))

-- what stands before `->` is a locator, whatever stands behind
abbrev pub written_locator : Operand → Judged Y.Locator
written_locator o = do
  p ← pointer_operand o
  fine (Y.LocatedBy p)

-- a BASED variable is located by what stands before it, else by what its declaration names; no other variable is
abbrev pub locator_of : List Block → ℕ → Held → Bool → Place → Y.Locator → Judged Y.Locator
locator_of blocks b h true place Y.NotLocated = based_locator blocks b place (locator_name (class_attributes h))
locator_of blocks b h true place (Y.LocatedBy p) = fine (Y.LocatedBy p)
locator_of blocks b h false place Y.NotLocated = fine Y.NotLocated
locator_of blocks b h false place (Y.LocatedBy p) = broken place TypeMismatch Y.NotLocated

-- ---- variables (chapter 4, subscripts)

abbrev pub listed : Option (List Operand) → List Operand
listed None = []
listed (Some xs) = xs

abbrev pub all_operands : List Named → List Operand
all_operands names = flat_map (λ n. listed n.arguments) names

abbrev pub is_listed : Named → Bool
is_listed n = is_some n.arguments

abbrev pub is_empty : Option (List Operand) → Bool
is_empty (Some []) = true
is_empty _ = false

-- the first name with parentheses
abbrev pub listed_place : Place → List Named → Place
listed_place place [] = place
listed_place place (n ∷ ns) = if is_listed n then n.name.place else listed_place place ns

-- no parentheses, or as many subscripts as there are dimensions
abbrev pub subscripts_fit : Held → List Named → Bool
subscripts_fit h names =
    not (list_any is_listed names)
    || (not (list_any (λ n. is_empty n.arguments) names) && (length (all_operands names) == length (all_dimensions h)))

abbrev pub variable_referent : List Block → ℕ → Held → Place → Y.Locator → List Named → Judged Referent
variable_referent blocks b h place located names = do
  mention (MentionsVariable (variable_meant blocks b h))
  locator ← locator_of blocks b h (has 11 (class_attributes h)) place located
  demand (subscripts_fit h names) (listed_place place names) BadArguments
  subscripts ← number_list (all_operands names)
  fine (Designates (part_designated blocks b h locator (list_any is_listed names) subscripts))

-- ---- what names mean (chapter 4)

-- only a variable is located
abbrev pub not_located : Place → Y.Locator → Judged (Unit {0})
not_located place Y.NotLocated = fine tt
not_located place (Y.LocatedBy p) = broken place TypeMismatch tt

abbrev pub function_answer : Option Y.LeafType → Y.Call → Referent
function_answer None call = GivesNothing
function_answer (Some t) call = value_from t call

abbrev pub function_referent : List Block → ℕ → T.ProcedureHead → Place → List Operand → Judged Referent
function_referent blocks holder head place operands = do
  mention MentionsFunction
  call ← procedure_called blocks holder head place operands
  fine (function_answer (result_type blocks holder head) call)

abbrev pub procedure_referent : List Block → ℕ → T.ProcedureHead → Bool → Place → List Operand → Judged Referent
procedure_referent blocks holder head true place operands = function_referent blocks holder head place operands
procedure_referent blocks holder head false place operands = fine GivesNothing

abbrev pub builtin_referent : Place → Word → Y.Locator → List Named → Judged Referent
builtin_referent place word located names = do
  not_located place located
  builtin_called place word (all_operands names)

abbrev pub what_referent : List Block → ℕ → Option What → Place → Y.Locator → List Named → Judged Referent
what_referent blocks b None place located names = fine NotKnown
what_referent blocks b (Some (Variable' h)) place located names =
    if has 13 (own_attributes h)
    then builtin_referent place h.variable.declared.name.word located names
    else variable_referent blocks b h place located names
what_referent blocks b (Some Label) place located names = do
  not_located place located
  fine GivesNothing
what_referent blocks b (Some (ProcedureName head)) place located names = do
  not_located place located
  procedure_referent blocks b head (is_some (result_type blocks b head)) place (all_operands names)

-- a name alone without a declaration may be a built-in's
abbrev pub is_builtin_name : List Named → Bool
is_builtin_name (n ∷ []) = is_builtin n.name.word
is_builtin_name _ = false

abbrev pub found_referent : Scope → T.Name → Found → Y.Locator → List Named → Judged Referent
found_referent scope first (F.One at) located names = what_referent scope.blocks at.block (what_at scope.blocks at) first.place located names
found_referent scope first F.None located names =
    if is_builtin_name names then builtin_referent first.place first.word located names else broken first.place Undeclared NotKnown
found_referent scope first F.Ambiguous located names = broken first.place Ambiguous NotKnown

-- names with points between them, behind a locator or not
abbrev pub names_referent : Scope → Y.Locator → List Named → Judged Referent
names_referent scope located [] = fine NotKnown
names_referent scope located (n ∷ ns) =
    found_referent scope n.name (names_mean scope.blocks scope.block (map (λ m. m.name.letters) (n ∷ ns))) located (n ∷ ns)

-- ---- expressions (chapter 9)

abbrev pub operand_from : T.Expr → Judged Referent → Judged Operand
operand_from e j = do
  r ← j
  fine (record { place = place_of_expr e; constant = constant e; referent = r })

abbrev pub reference_from : T.Reference → Judged Referent → Judged Operand
reference_from l j = do
  r ← j
  fine (record { place = place_of_reference l; constant = None; referent = r })

abbrev pub given : Option Y.Value → Referent
given None = GivesUnknown
given (Some v) = Gives v

unfoldable mutual
  pub expression : Scope → T.Expr → Judged Referent
  expression scope (T.Number n place) = fine (Gives (Y.NumberValue operator_digits (Y.NumberConstant n)))
  expression scope (T.Text t place) = fine (Gives (Y.TextValue (Y.TextConstant t)))
  expression scope (T.Bit b place) = fine (Gives (Y.BitValue (Y.BitConstant b)))
  expression scope (T.Parenthesized e place) = do
    o ← operand_from e (expression scope e)
    v ← operand_value o
    fine (given v)
  expression scope (T.Prefix op e place) = do
    o ← operand_from e (expression scope e)
    prefixed op o
  expression scope (T.Infix op l r) = do
    a ← operand_from l (expression scope l)
    b ← operand_from r (expression scope r)
    infixed op a b
  expression scope (T.Refers r) = reference scope r

  pub reference : Scope → T.Reference → Judged Referent
  reference scope (T.Plain q) = do
    names ← qualified scope q
    names_referent scope Y.NotLocated names
  reference scope (T.Located l q) = do
    o ← reference_from l (reference scope l)
    locator ← written_locator o
    names ← qualified scope q
    names_referent scope locator names

  pub qualified : Scope → T.Qualified → Judged (List Named)
  qualified scope (T.Last n a) = do
    xs ← arguments scope a
    fine (record { name = n; arguments = xs } ∷ [])
  qualified scope (T.Of n a q) = do
    xs ← arguments scope a
    more ← qualified scope q
    fine (record { name = n; arguments = xs } ∷ more)

  pub arguments : Scope → T.Arguments → Judged (Option (List Operand))
  arguments scope T.Absent = fine None
  arguments scope (T.Listed es) = do
    xs ← expressions scope es
    fine (Some xs)

  pub expressions : Scope → T.Exprs → Judged (List Operand)
  expressions scope T.NoExpr = fine []
  expressions scope (T.ExprThen e es) = do
    x ← operand_from e (expression scope e)
    xs ← expressions scope es
    fine (x ∷ xs)

-- ---- as statements use them

abbrev pub operand : Scope → T.Expr → Judged Operand
operand scope e = operand_from e (expression scope e)

abbrev pub referred : Scope → T.Reference → Judged Operand
referred scope r = reference_from r (reference scope r)
