-- An expression comes to what is early, where no function is mentioned in it and each variable that is was made.
use Rattle.std.proofs.Common.{ℕ, ◌≤◌, Bool, true, false, not, ◌&&◌, List, [], ◌∷◌, ◌++◌, map, Option, Some, None}
use Rattle.std.proofs.Common.{if◌then◌else◌}
use Rattle.std.specs.Prelude.{is_some}
use Rattle.pli_language.specs.declared.expr.Place.{Place}
use Rattle.pli_language.specs.declared.scope.Found.{Found}
use Rattle.pli_language.specs.declared.scope.Found.TheVariants as F
use Rattle.pli_language.specs.declared.fault.SourceKind.TheVariants.{Undeclared, BadArguments}
use Rattle.pli_language.specs.Tree as T
use Rattle.pli_language.specs.Declarations.{Held, Block, What, Variable', Label, ProcedureName}
use Rattle.pli_language.specs.Declaring.{has, own_attributes, class_attributes}
use Rattle.pli_language.specs.Means.{names_mean}
use Rattle.pli_typing.specs.TypedTree as Y
use Rattle.pli_typing.specs.Judging.{Scope, broken, demand}
use Rattle.pli_typing.specs.Variables.{locator_name, name_means, what_at}
use Rattle.pli_typing.specs.Calls.{part_designated, result_type}
use Rattle.pli_typing.specs.Converting.{Designated, NotKnown, Operand, scalar_type, variable_of}
use Rattle.pli_typing.specs.Converting.{operand_value, pointer_wanted, pointer_operand}
use Rattle.pli_typing.specs.Operators.{prefixed, infixed}
use Rattle.pli_typing.specs.Builtins.{number_list, builtin_called}
use Rattle.pli_typing.specs.References.{Named, locates, locator_value, locator_if, locator_in, locator_found}
use Rattle.pli_typing.specs.References.{declared_locator, based_locator, written_locator, locator_of, listed}
use Rattle.pli_typing.specs.References.{all_operands, listed_place, subscripts_fit, variable_referent}
use Rattle.pli_typing.specs.References.{not_located, procedure_referent, builtin_referent, what_referent}
use Rattle.pli_typing.specs.References.{is_builtin_name, found_referent, names_referent, operand_from, reference_from}
use Rattle.pli_typing.specs.References.{given, expression, reference, qualified, arguments, expressions}
use Rattle.well_formed_trees.specs.Every.{Every}
use Rattle.well_formed_trees.specs.EarlyNumbers.{IsMade, EarlyLocator, EarlyReference}
use Rattle.well_formed_trees.proofs.Lists.{every_first, every_second, HoldsIf}
use Rattle.well_formed_trees.proofs.EarlyValues.{IsAllowed, AreAllowed, EarlyValue, EarlyReferent}
use Rattle.well_formed_trees.proofs.EarlyValues.{typed_early, operand_early, pointer_early, pointer_operand_early}
use Rattle.well_formed_trees.proofs.EarlyValues.{prefixed_early, infixed_early}
use Rattle.well_formed_trees.proofs.EarlyBuiltins.{AllEarly, numbers_early, builtin_early}

-- ---- names with their arguments

abbrev AllNamedEarly : (block index : ℕ) → List Named → Type 0
AllNamedEarly b i ns = Every (λ n. AllEarly b i (listed n.arguments)) ns

both_early : (b i : ℕ) (xs ys : List Operand) → AllEarly b i xs → AllEarly b i ys → AllEarly b i (xs ++ ys)
both_early b i [] ys h k = k
both_early b i (x ∷ xs) ys h k = (h.0, both_early b i xs ys h.1 k)

operands_early : (b i : ℕ) (ns : List Named) → AllNamedEarly b i ns → AllEarly b i (all_operands ns)
operands_early b i [] h = tt
operands_early b i (n ∷ ns) h =
    both_early b i (listed n.arguments) (all_operands ns) h.0 (operands_early b i ns h.1)

-- ---- locators

-- what a declaration names is early where its variable was made
abbrev IsPlain : (block index : ℕ) → Designated → Type 0
IsPlain b i d = IsMade b i (variable_of d.reference) → EarlyReference b i d.reference

plain_if : (b i : ℕ) (d : Designated) (x : Bool) → IsPlain b i d → HoldsIf (IsPlain b i) (locator_if d x)
plain_if b i d true h = h
plain_if b i d false h = tt

plain_in : (b i : ℕ) (blocks : List Block) (n : ℕ) (w : Option What)
    → HoldsIf (IsPlain b i) (locator_in blocks n w)
plain_in b i blocks n None = tt
plain_in b i blocks n (Some Label) = tt
plain_in b i blocks n (Some (ProcedureName head)) = tt
plain_in b i blocks n (Some (Variable' h)) =
    let d = part_designated blocks n h Y.NotLocated false Y.NoNumber in
    plain_if b i d (not (has 11 (class_attributes h)) && locates (locator_value d)) (λ m. (m, (tt, tt)))

plain_found : (b i : ℕ) (blocks : List Block) (f : Found) → HoldsIf (IsPlain b i) (locator_found blocks f)
plain_found b i blocks (F.One at) = plain_in b i blocks at.block (what_at blocks at)
plain_found b i blocks F.None = tt
plain_found b i blocks F.Ambiguous = tt

declared_early : (b i : ℕ) (place : Place) (o : Option Designated) → HoldsIf (IsPlain b i) o
    → AreAllowed b i (declared_locator place o).mentions → EarlyLocator b i (declared_locator place o).value
declared_early b i place None h m = tt
declared_early b i place (Some d) h m =
    pointer_early b i place (locator_value d) (typed_early b i d.reference (scalar_type d) (h m.0))
    (every_first (IsAllowed b i) (pointer_wanted place (locator_value d)).mentions [] m.1)

based_early : (b i : ℕ) (blocks : List Block) (n : ℕ) (place : Place) (name : Option T.Name)
    → AreAllowed b i (based_locator blocks n place name).mentions
    → EarlyLocator b i (based_locator blocks n place name).value
based_early b i blocks n place None m = tt
based_early b i blocks n place (Some name) m =
    let f = name_means blocks n name in
    declared_early b i place (locator_found blocks f) (plain_found b i blocks f) m

locator_early : (b i : ℕ) (blocks : List Block) (n : ℕ) (h : Held) (based : Bool) (place : Place) (l : Y.Locator)
    → EarlyLocator b i l → AreAllowed b i (locator_of blocks n h based place l).mentions
    → EarlyLocator b i (locator_of blocks n h based place l).value
locator_early b i blocks n h true place Y.NotLocated k m =
    based_early b i blocks n place (locator_name (class_attributes h)) m
locator_early b i blocks n h true place (Y.LocatedBy p) k m = k
locator_early b i blocks n h false place Y.NotLocated k m = tt
locator_early b i blocks n h false place (Y.LocatedBy p) k m = tt

-- ---- what names mean

variable_early : (b i : ℕ) (blocks : List Block) (n : ℕ) (h : Held) (place : Place) (l : Y.Locator) (ns : List Named)
    → EarlyLocator b i l → AllNamedEarly b i ns → AreAllowed b i (variable_referent blocks n h place l ns).mentions
    → EarlyReferent b i (variable_referent blocks n h place l ns).value
variable_early b i blocks n h place l ns k a m =
    let based = has 11 (class_attributes h) in
    let x = (locator_of blocks n h based place l).mentions in
    let y = (demand (subscripts_fit h ns) (listed_place place ns) BadArguments).mentions in
    let z = (number_list (all_operands ns)).mentions in (
      m.0,
      (
        locator_early b i blocks n h based place l k (every_first (IsAllowed b i) x (y ++ (z ++ [])) m.1),
        numbers_early b i (all_operands ns) (operands_early b i ns a),
      ),
    )

procedure_early : (b i : ℕ) (blocks : List Block) (n : ℕ) (head : T.ProcedureHead) (returns : Bool) (place : Place)
    (os : List Operand) → AreAllowed b i (procedure_referent blocks n head returns place os).mentions
    → EarlyReferent b i (procedure_referent blocks n head returns place os).value
procedure_early b i blocks n head true place os m = absurd m.0
procedure_early b i blocks n head false place os m = tt

builtin_named_early : (b i : ℕ) → 1 ≤ b → (place : Place) (word : _) (l : Y.Locator) (ns : List Named)
    → AllNamedEarly b i ns → AreAllowed b i (builtin_referent place word l ns).mentions
    → EarlyReferent b i (builtin_referent place word l ns).value
builtin_named_early b i s place word l ns a m =
    builtin_early b i s place word (all_operands ns) (operands_early b i ns a)
    (every_second (IsAllowed b i) (not_located place l).mentions (builtin_called place word (all_operands ns)).mentions
    m)

what_early : (b i : ℕ) → 1 ≤ b → (blocks : List Block) (n : ℕ) (w : Option What) (place : Place) (l : Y.Locator)
    (ns : List Named) → EarlyLocator b i l → AllNamedEarly b i ns
    → AreAllowed b i (what_referent blocks n w place l ns).mentions
    → EarlyReferent b i (what_referent blocks n w place l ns).value
what_early b i s blocks n None place l ns k a m = tt
what_early b i s blocks n (Some Label) place l ns k a m = tt
what_early b i s blocks n (Some (ProcedureName head)) place l ns k a m =
    let returns = is_some (result_type blocks n head) in
    procedure_early b i blocks n head returns place (all_operands ns)
    (every_second (IsAllowed b i) (not_located place l).mentions
    (procedure_referent blocks n head returns place (all_operands ns)).mentions m)
what_early b i s blocks n (Some (Variable' h)) place l ns k a m = by (has 13 (own_attributes h)) m where
  by : (x : Bool) → AreAllowed b i (if x then builtin_referent place h.variable.declared.name.word l ns
      else variable_referent blocks n h place l ns).mentions
      → EarlyReferent b i (if x then builtin_referent place h.variable.declared.name.word l ns
      else variable_referent blocks n h place l ns).value
  by true m = builtin_named_early b i s place h.variable.declared.name.word l ns a m
  by false m = variable_early b i blocks n h place l ns k a m

found_early : (b i : ℕ) → 1 ≤ b → (scope : Scope) (first : T.Name) (f : Found) (l : Y.Locator) (ns : List Named)
    → EarlyLocator b i l → AllNamedEarly b i ns → AreAllowed b i (found_referent scope first f l ns).mentions
    → EarlyReferent b i (found_referent scope first f l ns).value
found_early b i s scope first (F.One at) l ns k a m =
    what_early b i s scope.blocks at.block (what_at scope.blocks at) first.place l ns k a m
found_early b i s scope first F.None l ns k a m = by (is_builtin_name ns) m where
  by : (x : Bool) → AreAllowed b i (if x then builtin_referent first.place first.word l ns
      else broken first.place Undeclared NotKnown).mentions
      → EarlyReferent b i (if x then builtin_referent first.place first.word l ns
      else broken first.place Undeclared NotKnown).value
  by true m = builtin_named_early b i s first.place first.word l ns a m
  by false m = tt
found_early b i s scope first F.Ambiguous l ns k a m = tt

names_early : (b i : ℕ) → 1 ≤ b → (scope : Scope) (l : Y.Locator) (ns : List Named) → EarlyLocator b i l
    → AllNamedEarly b i ns → AreAllowed b i (names_referent scope l ns).mentions
    → EarlyReferent b i (names_referent scope l ns).value
names_early b i s scope l [] k a m = tt
names_early b i s scope l (n ∷ ns) k a m =
    found_early b i s scope n.name
    (names_mean scope.blocks scope.block (map (λ (m : Named). m.name.letters) (n ∷ ns))) l (n ∷ ns) k a m

-- ---- expressions

given_early : (b i : ℕ) (v : Option Y.Value) → HoldsIf (EarlyValue b i) v → EarlyReferent b i (given v)
given_early b i None h = tt
given_early b i (Some v) h = h

mutual
  unfolding expression reference qualified arguments expressions

  pub expression_early : (b i : ℕ) → 1 ≤ b → (scope : Scope) (e : T.Expr)
      → AreAllowed b i (expression scope e).mentions → EarlyReferent b i (expression scope e).value
  expression_early b i s scope (T.Number n place) m = tt
  expression_early b i s scope (T.Text t place) m = tt
  expression_early b i s scope (T.Bit x place) m = tt
  expression_early b i s scope (T.Parenthesized e place) m =
      let j = (expression scope e).mentions in
      let o = (operand_from e (expression scope e)).value in
      let v = (operand_value o).mentions in
      given_early b i (operand_value o).value (operand_early b i o (expression_early b i s scope e
      (every_first (IsAllowed b i) j [] (every_first (IsAllowed b i) (j ++ []) (v ++ []) m))))
  expression_early b i s scope (T.Prefix op e place) m =
      let j = (expression scope e).mentions in
      let o = (operand_from e (expression scope e)).value in
      let v = (prefixed op o).mentions in
      prefixed_early b i op o (expression_early b i s scope e
      (every_first (IsAllowed b i) j [] (every_first (IsAllowed b i) (j ++ []) v m)))
  expression_early b i s scope (T.Infix op l r) m =
      let j = (expression scope l).mentions in
      let k = (expression scope r).mentions in
      let x = (operand_from l (expression scope l)).value in
      let y = (operand_from r (expression scope r)).value in
      let v = (infixed op x y).mentions in
      let more = every_second (IsAllowed b i) (j ++ []) ((k ++ []) ++ v) m in
      infixed_early b i op x y
      (expression_early b i s scope l
      (every_first (IsAllowed b i) j [] (every_first (IsAllowed b i) (j ++ []) ((k ++ []) ++ v) m)))
      (expression_early b i s scope r
      (every_first (IsAllowed b i) k [] (every_first (IsAllowed b i) (k ++ []) v more)))
      (every_second (IsAllowed b i) (k ++ []) v more)
  expression_early b i s scope (T.Refers q) m = reference_early b i s scope q m

  reference_early : (b i : ℕ) → 1 ≤ b → (scope : Scope) (r : T.Reference)
      → AreAllowed b i (reference scope r).mentions → EarlyReferent b i (reference scope r).value
  reference_early b i s scope (T.Plain q) m =
      let a = (qualified scope q).mentions in
      let v = (names_referent scope Y.NotLocated (qualified scope q).value).mentions in
      names_early b i s scope Y.NotLocated (qualified scope q).value tt
      (qualified_early b i s scope q (every_first (IsAllowed b i) a v m)) (every_second (IsAllowed b i) a v m)
  reference_early b i s scope (T.Located l q) m =
      let j = (reference scope l).mentions in
      let o = (reference_from l (reference scope l)).value in
      let p = (pointer_operand o).mentions in
      let a = (qualified scope q).mentions in
      let located = (written_locator o).value in
      let v = (names_referent scope located (qualified scope q).value).mentions in
      let one = every_second (IsAllowed b i) (j ++ []) ((p ++ []) ++ (a ++ v)) m in
      let two = every_second (IsAllowed b i) (p ++ []) (a ++ v) one in
      names_early b i s scope located (qualified scope q).value
      (pointer_operand_early b i o
      (reference_early b i s scope l (every_first (IsAllowed b i) j []
      (every_first (IsAllowed b i) (j ++ []) ((p ++ []) ++ (a ++ v)) m)))
      (every_first (IsAllowed b i) p [] (every_first (IsAllowed b i) (p ++ []) (a ++ v) one)))
      (qualified_early b i s scope q (every_first (IsAllowed b i) a v two)) (every_second (IsAllowed b i) a v two)

  qualified_early : (b i : ℕ) → 1 ≤ b → (scope : Scope) (q : T.Qualified)
      → AreAllowed b i (qualified scope q).mentions → AllNamedEarly b i (qualified scope q).value
  qualified_early b i s scope (T.Last n a) m =
      (arguments_early b i s scope a (every_first (IsAllowed b i) (arguments scope a).mentions [] m), tt)
  qualified_early b i s scope (T.Of n a q) m =
      let x = (arguments scope a).mentions in
      let y = (qualified scope q).mentions in (
        arguments_early b i s scope a (every_first (IsAllowed b i) x (y ++ []) m),
        qualified_early b i s scope q
            (every_first (IsAllowed b i) y [] (every_second (IsAllowed b i) x (y ++ []) m)),
      )

  arguments_early : (b i : ℕ) → 1 ≤ b → (scope : Scope) (a : T.Arguments)
      → AreAllowed b i (arguments scope a).mentions → AllEarly b i (listed (arguments scope a).value)
  arguments_early b i s scope T.Absent m = tt
  arguments_early b i s scope (T.Listed es) m =
      expressions_early b i s scope es (every_first (IsAllowed b i) (expressions scope es).mentions [] m)

  expressions_early : (b i : ℕ) → 1 ≤ b → (scope : Scope) (es : T.Exprs)
      → AreAllowed b i (expressions scope es).mentions → AllEarly b i (expressions scope es).value
  expressions_early b i s scope T.NoExpr m = tt
  expressions_early b i s scope (T.ExprThen e es) m =
      let j = (expression scope e).mentions in
      let k = (expressions scope es).mentions in (
        expression_early b i s scope e
            (every_first (IsAllowed b i) j [] (every_first (IsAllowed b i) (j ++ []) (k ++ []) m)),
        expressions_early b i s scope es
            (every_first (IsAllowed b i) k [] (every_second (IsAllowed b i) (j ++ []) (k ++ []) m)),
      )
