-- What an expression comes to has no more words than its tokens allow.
use Rattle.std.proofs.Common.{◌≡◌, ℕ, suc, ◌+◌, ◌*◌, ◌≤◌, Bool, true, false, not, ◌&&◌, List, [], ◌∷◌, ◌++◌}
use Rattle.std.proofs.Common.{map, length, Option, Some, None, if◌then◌else◌, arith}
use Rattle.std.specs.Prelude.{◌==◌, is_some}
use Rattle.std.specs.List.{list_any}
use Rattle.pli_language.specs.declared.expr.Place.{Place}
use Rattle.pli_language.specs.declared.scope.Found.{Found}
use Rattle.pli_language.specs.declared.scope.Found.TheVariants as F
use Rattle.pli_language.specs.declared.fault.SourceKind.TheVariants.{Undeclared}
use Rattle.pli_language.specs.Tree as T
use Rattle.pli_language.specs.Declarations.{Held, Block, What, Variable', Label, ProcedureName}
use Rattle.pli_language.specs.Declaring.{has, own_attributes, class_attributes}
use Rattle.pli_language.specs.Means.{names_mean}
use Rattle.pli_typing.specs.TypedTree as Y
use Rattle.pli_typing.specs.Judging.{Scope, fine, broken}
use Rattle.pli_typing.specs.Variables.{locator_name, name_means, what_at, variable_meant}
use Rattle.pli_typing.specs.Calls.{Callee, part_designated, result_type, copied, offset_argument, scalar_argument}
use Rattle.pli_typing.specs.Calls.{argument_by_copy, referent_argument, arguments_judged, procedure_called, callee_of}
use Rattle.pli_typing.specs.Calls.{leaves_pass}
use Rattle.pli_typing.specs.Converting.{Designated, Referent, Designates, Gives, GivesUnknown, GivesEmptyArea}
use Rattle.pli_typing.specs.Converting.{GivesNothing, NotKnown, Operand, scalar_type, value_with_type}
use Rattle.pli_typing.specs.Converting.{operand_value, pointer_operand}
use Rattle.pli_typing.specs.Operators.{prefixed, infixed}
use Rattle.pli_typing.specs.Builtins.{number_list, builtin_called}
use Rattle.pli_typing.specs.References.{Named, locates, locator_value, locator_if, locator_in, locator_found}
use Rattle.pli_typing.specs.References.{declared_locator, based_locator, written_locator, locator_of, listed, is_listed}
use Rattle.pli_typing.specs.References.{all_operands, variable_referent}
use Rattle.pli_typing.specs.References.{not_located, function_answer, procedure_referent}
use Rattle.pli_typing.specs.References.{builtin_referent, what_referent}
use Rattle.pli_typing.specs.References.{is_builtin_name, found_referent, names_referent, operand_from, reference_from}
use Rattle.pli_typing.specs.References.{given, expression, reference, qualified, arguments, expressions}
use Rattle.code_sizes.specs.ExpressionSizes.{pointer_size, reference_size, call_size, locator_size, arguments_size}
use Rattle.code_sizes.specs.ExpressionSizes.{argument_size, named_size}
use Rattle.well_formed_trees.proofs.Lists.{HoldsIf}
use Rattle.tree_tokens.specs.TreeTokens.{expr_tokens, reference_tokens, qualified_tokens, arguments_tokens}
use Rattle.tree_tokens.specs.TreeTokens.{exprs_tokens}
use Rattle.tree_tokens.specs.TreeTokens.{further_tokens}
use Rattle.source_sizes.specs.Short.{ValueShort, Short, most_words, ExpressionsShort, ReferencesShort}
use Rattle.source_sizes.proofs.Values.{value_more, short_more, typed_short, OperandShort, operand_short, pointer_short}
use Rattle.source_sizes.proofs.Values.{pointer_operand_short, stored_short, prefixed_short, infixed_short}
use Rattle.source_sizes.proofs.Builtins.{AllShort, all_more, both_short, subscripts_most}
use Rattle.source_sizes.proofs.Builtins.{builtin_short, named_most}

-- ---- calls, with 51 words beside each argument

copied_short : (w : ℕ) → 53 ≤ w → (t : Y.LeafType) (place : Place) (v : Y.Value) → ValueShort w v
    → argument_size (copied t place v).value ≤ w + 51
copied_short w s t place v h = let x = stored_short w s t place (Some v) h in omega (arith, x)

offset_short : (w : ℕ) → 53 ≤ w → (callee : Callee) (area : Y.Variable) (class : Y.StorageClass) (place : Place)
    (p : Y.Pointer) → pointer_size p ≤ w → argument_size (offset_argument callee area class place p).value ≤ w + 51
offset_short w s callee area Y.ParameterClass place p h = omega (arith, h)
offset_short w s callee area Y.AutomaticClass place p h = omega (arith, h)
offset_short w s callee area Y.StaticClass place p h =
    copied_short w s (Y.OffsetLeaf (Some area)) place (Y.PointerValue p) h
offset_short w s callee area Y.BasedClass place p h =
    copied_short w s (Y.OffsetLeaf (Some area)) place (Y.PointerValue p) h
offset_short w s callee area Y.ControlledClass place p h =
    copied_short w s (Y.OffsetLeaf (Some area)) place (Y.PointerValue p) h

located_short : (w : ℕ) → 53 ≤ w → (callee : Callee) (area : Y.Variable) (place : Place) (v : Y.Value)
    → ValueShort w v → argument_size (scalar_argument callee (Some (Y.OffsetLeaf (Some area))) place v).value ≤ w + 51
located_short w s callee area place (Y.PointerValue p) h = by (area.block == callee.block) where
  by : (b : Bool) → argument_size (if b then offset_argument callee area area.class place p
      else copied (Y.OffsetLeaf (Some area)) place (Y.PointerValue p)).value ≤ w + 51
  by true = offset_short w s callee area area.class place p h
  by false = copied_short w s (Y.OffsetLeaf (Some area)) place (Y.PointerValue p) h
located_short w s callee area place (Y.NumberValue p n) h =
    copied_short w s (Y.OffsetLeaf (Some area)) place (Y.NumberValue p n) h
located_short w s callee area place (Y.TextValue t) h =
    copied_short w s (Y.OffsetLeaf (Some area)) place (Y.TextValue t) h
located_short w s callee area place (Y.BitValue b) h =
    copied_short w s (Y.OffsetLeaf (Some area)) place (Y.BitValue b) h
located_short w s callee area place (Y.OffsetValue other o) h =
    copied_short w s (Y.OffsetLeaf (Some area)) place (Y.OffsetValue other o) h
located_short w s callee area place Y.NullValue h =
    copied_short w s (Y.OffsetLeaf (Some area)) place Y.NullValue h

scalar_short : (w : ℕ) → 53 ≤ w → (callee : Callee) (t : Option Y.LeafType) (place : Place) (v : Y.Value)
    → ValueShort w v → argument_size (scalar_argument callee t place v).value ≤ w + 51
scalar_short w s callee None place v h = omega (arith, s)
scalar_short w s callee (Some (Y.OffsetLeaf (Some area))) place v h = located_short w s callee area place v h
scalar_short w s callee (Some (Y.OffsetLeaf None)) place v h = copied_short w s (Y.OffsetLeaf None) place v h
scalar_short w s callee (Some (Y.FixedLeaf p)) place v h = copied_short w s (Y.FixedLeaf p) place v h
scalar_short w s callee (Some (Y.CharacterLeaf n)) place v h = copied_short w s (Y.CharacterLeaf n) place v h
scalar_short w s callee (Some (Y.VaryingLeaf n)) place v h = copied_short w s (Y.VaryingLeaf n) place v h
scalar_short w s callee (Some Y.BitLeaf) place v h = copied_short w s Y.BitLeaf place v h
scalar_short w s callee (Some Y.PointerLeaf) place v h = copied_short w s Y.PointerLeaf place v h
scalar_short w s callee (Some (Y.AreaLeaf n)) place v h = copied_short w s (Y.AreaLeaf n) place v h

copy_short : (w : ℕ) → 53 ≤ w → (callee : Callee) (d : Designated) (place : Place) (v : Option Y.Value)
    → HoldsIf (ValueShort w) v → argument_size (argument_by_copy callee d place v).value ≤ w + 51
copy_short w s callee d place None h = omega (arith, s)
copy_short w s callee d place (Some v) h = scalar_short w s callee (scalar_type d) place v h

argument_short : (w : ℕ) → 53 ≤ w → (callee : Callee) (p : Designated) (place : Place) (r : Referent) → Short w r
    → argument_size (referent_argument callee p place r).value ≤ w + 51
argument_short w s callee p place (Designates d) h = by (d.is_whole && leaves_pass p.leaves d.leaves) where
  by : (b : Bool) → argument_size (if b then fine (Y.ByReference d.reference)
      else argument_by_copy callee p place (value_with_type d.reference (scalar_type d))).value ≤ w + 51
  by true = let n = named_most d.reference in omega (arith, n, h)
  by false =
      copy_short w s callee p place (value_with_type d.reference (scalar_type d))
      (typed_short w d.reference (scalar_type d) h)
argument_short w s callee p place (Gives v) h = scalar_short w s callee (scalar_type p) place v h
argument_short w s callee p place GivesUnknown h = omega (arith, s)
argument_short w s callee p place GivesEmptyArea h = omega (arith, s)
argument_short w s callee p place GivesNothing h = omega (arith, s)
argument_short w s callee p place NotKnown h = omega (arith, s)

arguments_most : (w : ℕ) (callee : Callee) (ps : List Designated) (os : List Operand) → AllShort w os
    → arguments_size (arguments_judged callee ps os).value ≤ w
arguments_most w callee [] [] h = omega arith
arguments_most w callee [] (o ∷ os) h = omega arith
arguments_most w callee (p ∷ ps) [] h = omega arith
arguments_most w callee (p ∷ ps) (o ∷ os) q =
    let b = q.0 in
    let rest = q.1.0 in
    let h = q.1.1.0 in
    let most = q.1.1.1.1 in
    let more = q.1.1.1.0 in
    let one = argument_short b h.0 callee p o.place o.referent h.1 in
    let all = arguments_most rest callee ps os more in
    omega (arith, one, all, most)

pub call_short : (w : ℕ) (blocks : List Block) (holder : ℕ) (head : T.ProcedureHead) (place : Place) (os : List Operand)
    → AllShort w os → call_size (procedure_called blocks holder head place os).value ≤ w + 11
call_short w blocks holder head place os h =
    let callee = callee_of blocks head place in
    let words = arguments_most w callee callee.parameters os h in
    omega (arith, words)

-- ---- locators that declarations name

abbrev pub IsPlain : Designated → Type 0
IsPlain d = reference_size d.reference ≤ 62

plain_part : (blocks : List Block) (n : ℕ) (h : Held)
    → IsPlain (part_designated blocks n h Y.NotLocated false Y.NoNumber)
plain_part blocks n h = omega arith

plain_if : (d : Designated) (x : Bool) → IsPlain d → HoldsIf IsPlain (locator_if d x)
plain_if d true h = h
plain_if d false h = tt

plain_in : (blocks : List Block) (n : ℕ) (w : Option What) → HoldsIf IsPlain (locator_in blocks n w)
plain_in blocks n None = tt
plain_in blocks n (Some Label) = tt
plain_in blocks n (Some (ProcedureName head)) = tt
plain_in blocks n (Some (Variable' h)) =
    let d = part_designated blocks n h Y.NotLocated false Y.NoNumber in
    plain_if d (not (has 11 (class_attributes h)) && locates (locator_value d)) (plain_part blocks n h)

pub plain_found : (blocks : List Block) (f : Found) → HoldsIf IsPlain (locator_found blocks f)
plain_found blocks (F.One at) = plain_in blocks at.block (what_at blocks at)
plain_found blocks F.None = tt
plain_found blocks F.Ambiguous = tt

declared_short : (place : Place) (o : Option Designated) → HoldsIf IsPlain o
    → locator_size (declared_locator place o).value ≤ 79
declared_short place None h = omega arith
declared_short place (Some d) h =
    pointer_short 78 (omega arith) place (locator_value d)
    (typed_short 78 d.reference (scalar_type d) (omega (arith, h)))

based_short : (blocks : List Block) (n : ℕ) (place : Place) (name : Option T.Name)
    → locator_size (based_locator blocks n place name).value ≤ 79
based_short blocks n place None = omega arith
based_short blocks n place (Some name) =
    let f = name_means blocks n name in
    declared_short place (locator_found blocks f) (plain_found blocks f)

locator_short : (x : ℕ) → 79 ≤ x → (blocks : List Block) (n : ℕ) (h : Held) (based : Bool) (place : Place)
    (l : Y.Locator) → locator_size l ≤ x → locator_size (locator_of blocks n h based place l).value ≤ x
locator_short x s blocks n h true place Y.NotLocated k =
    let own = based_short blocks n place (locator_name (class_attributes h)) in
    omega (arith, s, own)
locator_short x s blocks n h true place (Y.LocatedBy p) k = k
locator_short x s blocks n h false place Y.NotLocated k = k
locator_short x s blocks n h false place (Y.LocatedBy p) k = omega arith

-- ---- what names mean, behind a locator of so many words, with arguments of w words

part_short : (w x : ℕ) (blocks : List Block) (n : ℕ) (h : Held) (l : Y.Locator) (is_element : Bool)
    (os : List Operand) → AllShort w os → locator_size l ≤ x
    → reference_size (part_designated blocks n h l is_element (number_list os).value).reference ≤ x + (w + 62)
part_short w x blocks n h l is_element os a k =
    let most = subscripts_most w os a in
    omega (arith, most, k)

-- words for either: a variable behind its locator, or what arguments alone take
pub record HasRoom (locator w x : ℕ) : Type 0 where
  pub least : 79 ≤ locator
  pub enough : locator + (w + 78) ≤ x

variable_short : (k w x : ℕ) → HasRoom k w x → (blocks : List Block) (n : ℕ) (h : Held) (place : Place)
    (l : Y.Locator) (ns : List Named) → locator_size l ≤ k → AllShort w (all_operands ns)
    → Short x (variable_referent blocks n h place l ns).value
variable_short k w x r blocks n h place l ns locator a =
    let os = all_operands ns in
    let based = has 11 (class_attributes h) in
    let own = part_short w k blocks n h (locator_of blocks n h based place l).value (list_any is_listed ns) os a
    (locator_short k r.least blocks n h based place l locator) in
    let enough = r.enough in
    omega (arith, own, enough)

answer_short : (w x : ℕ) → w + 27 ≤ x → (t : Option Y.LeafType) (c : Y.Call) → call_size c ≤ w + 11
    → Short x (function_answer t c)
answer_short w x s None c h = tt
answer_short w x s (Some (Y.FixedLeaf p)) c h = omega (arith, s, h)
answer_short w x s (Some (Y.CharacterLeaf n)) c h = omega (arith, s, h)
answer_short w x s (Some (Y.VaryingLeaf n)) c h = omega (arith, s, h)
answer_short w x s (Some Y.BitLeaf) c h = omega (arith, s, h)
answer_short w x s (Some Y.PointerLeaf) c h = omega (arith, s, h)
answer_short w x s (Some (Y.OffsetLeaf area)) c h = omega (arith, s, h)
answer_short w x s (Some (Y.AreaLeaf n)) c h = tt

procedure_short : (k w x : ℕ) → HasRoom k w x → (blocks : List Block) (n : ℕ) (head : T.ProcedureHead)
    (returns : Bool) (place : Place) (os : List Operand) → AllShort w os
    → Short x (procedure_referent blocks n head returns place os).value
procedure_short k w x r blocks n head true place os a =
    let most = call_short w blocks n head place os a in
    let least = r.least in
    let enough = r.enough in
    answer_short w x (omega (arith, least, enough)) (result_type blocks n head)
    (procedure_called blocks n head place os).value most
procedure_short k w x r blocks n head false place os a = tt

builtin_named_short : (k w x : ℕ) → HasRoom k w x → (place : Place) (word : _) (l : Y.Locator) (ns : List Named)
    → AllShort w (all_operands ns) → Short x (builtin_referent place word l ns).value
builtin_named_short k w x r place word l ns a =
    let least = r.least in
    let enough = r.enough in
    short_more (w + 100) x (omega (arith, least, enough)) (builtin_called place word (all_operands ns)).value
    (builtin_short w place word (all_operands ns) a)

what_short : (k w x : ℕ) → HasRoom k w x → (blocks : List Block) (n : ℕ) (o : Option What) (place : Place)
    (l : Y.Locator) (ns : List Named) → locator_size l ≤ k → AllShort w (all_operands ns)
    → Short x (what_referent blocks n o place l ns).value
what_short k w x r blocks n None place l ns locator a = tt
what_short k w x r blocks n (Some Label) place l ns locator a = tt
what_short k w x r blocks n (Some (ProcedureName head)) place l ns locator a =
    procedure_short k w x r blocks n head (is_some (result_type blocks n head)) place (all_operands ns) a
what_short k w x r blocks n (Some (Variable' h)) place l ns locator a = by (has 13 (own_attributes h)) where
  by : (b : Bool) → Short x (if b then builtin_referent place h.variable.declared.name.word l ns
      else variable_referent blocks n h place l ns).value
  by true = builtin_named_short k w x r place h.variable.declared.name.word l ns a
  by false = variable_short k w x r blocks n h place l ns locator a

found_short : (k w x : ℕ) → HasRoom k w x → (scope : Scope) (name : T.Name) (f : Found) (l : Y.Locator)
    (ns : List Named) → locator_size l ≤ k → AllShort w (all_operands ns)
    → Short x (found_referent scope name f l ns).value
found_short k w x r scope name (F.One at) l ns locator a =
    what_short k w x r scope.blocks at.block (what_at scope.blocks at) name.place l ns locator a
found_short k w x r scope name F.None l ns locator a = by (is_builtin_name ns) where
  by : (b : Bool) → Short x (if b then builtin_referent name.place name.word l ns
      else broken name.place Undeclared NotKnown).value
  by true = builtin_named_short k w x r name.place name.word l ns a
  by false = tt
found_short k w x r scope name F.Ambiguous l ns locator a = tt

names_short : (k w x : ℕ) → HasRoom k w x → (scope : Scope) (l : Y.Locator) (ns : List Named) → locator_size l ≤ k
    → AllShort w (all_operands ns) → Short x (names_referent scope l ns).value
names_short k w x r scope l [] locator a = tt
names_short k w x r scope l (n ∷ ns) locator a =
    found_short k w x r scope n.name
    (names_mean scope.blocks scope.block (map (λ (m : Named). m.name.letters) (n ∷ ns))) l (n ∷ ns) locator a

-- ---- tokens

-- those of all arguments of a reference
abbrev given_tokens : T.Qualified → ℕ
given_tokens (T.Last name a) = arguments_tokens a
given_tokens (T.Of name a q) = arguments_tokens a + given_tokens q

given_most : (q : T.Qualified) → 1 + given_tokens q ≤ qualified_tokens q
given_most (T.Last name a) = omega arith
given_most (T.Of name a q) = let h = given_most q in omega (arith, h)

pub further_most : (es : T.Exprs) → further_tokens es ≤ 1 + exprs_tokens es
further_most T.NoExpr = omega arith
further_most (T.ExprThen e es) = omega arith

given_short : (w : ℕ) (v : Option Y.Value) → HoldsIf (ValueShort w) v → Short w (given v)
given_short w None h = tt
given_short w (Some v) h = h

plain_room : (q : T.Qualified) → HasRoom 79 (104 * given_tokens q) (most_words (reference_tokens (T.Plain q)))
plain_room q = let h = given_most q in record { least = omega arith; enough = omega (arith, h) }

located_room : (l : T.Reference) (q : T.Qualified)
    → HasRoom (104 * reference_tokens l + 80) (104 * given_tokens q) (most_words (reference_tokens (T.Located l q)))
located_room l q = let h = given_most q in record { least = omega arith; enough = omega (arith, h) }

-- ---- expressions

mutual
  unfolding expression reference qualified arguments expressions

  expression_is_short : (scope : Scope) (e : T.Expr) → Short (most_words (expr_tokens e)) (expression scope e).value
  expression_is_short scope (T.Number n place) = omega arith
  expression_is_short scope (T.Text t place) = omega arith
  expression_is_short scope (T.Bit x place) = omega arith
  expression_is_short scope (T.Parenthesized e place) =
      let w = most_words (expr_tokens e) in
      let o = (operand_from e (expression scope e)).value in
      short_more w (most_words (2 + expr_tokens e)) (omega arith) (given (operand_value o).value)
      (given_short w (operand_value o).value (operand_short w o (omega arith, expression_is_short scope e)))
  expression_is_short scope (T.Prefix op e place) =
      let w = most_words (expr_tokens e) in
      let o = (operand_from e (expression scope e)).value in
      short_more (w + 104) (most_words (1 + expr_tokens e)) (omega arith) (prefixed op o).value
      (prefixed_short w op o (omega arith, expression_is_short scope e))
  expression_is_short scope (T.Infix op l r) =
      let w = most_words (expr_tokens l) in
      let x = most_words (expr_tokens r) in
      let a = (operand_from l (expression scope l)).value in
      let b = (operand_from r (expression scope r)).value in
      short_more (w + (x + 51)) (most_words (expr_tokens l + (1 + expr_tokens r))) (omega arith) (infixed op a b).value
      (infixed_short w x op a b (omega arith, expression_is_short scope l) (omega arith, expression_is_short scope r))
  expression_is_short scope (T.Refers q) = reference_is_short scope q

  reference_is_short : (scope : Scope) (r : T.Reference)
      → Short (most_words (reference_tokens r)) (reference scope r).value
  reference_is_short scope (T.Plain q) =
      names_short 79 (104 * given_tokens q) (most_words (reference_tokens (T.Plain q))) (plain_room q) scope
      Y.NotLocated (qualified scope q).value (omega arith) (qualified_short scope q)
  reference_is_short scope (T.Located l q) =
      let o = (reference_from l (reference scope l)).value in
      let own = pointer_operand_short (most_words (reference_tokens l)) o (omega arith, reference_is_short scope l) in
      names_short (104 * reference_tokens l + 80) (104 * given_tokens q) (most_words (reference_tokens (T.Located l q)))
      (located_room l q) scope (written_locator o).value (qualified scope q).value (omega (arith, own))
      (qualified_short scope q)

  qualified_short : (scope : Scope) (q : T.Qualified)
      → AllShort (104 * given_tokens q) (all_operands (qualified scope q).value)
  qualified_short scope (T.Last n a) =
      all_more (104 * arguments_tokens a + 0) (104 * arguments_tokens a) (omega arith) _
      (both_short (104 * arguments_tokens a) 0 (listed (arguments scope a).value) [] (arguments_short scope a)
      tt)
  qualified_short scope (T.Of n a q) =
      all_more (104 * arguments_tokens a + 104 * given_tokens q) (104 * (arguments_tokens a + given_tokens q))
      (omega arith) _
      (both_short (104 * arguments_tokens a) (104 * given_tokens q) (listed (arguments scope a).value)
      (all_operands (qualified scope q).value) (arguments_short scope a) (qualified_short scope q))

  pub arguments_short : (scope : Scope) (a : T.Arguments)
      → AllShort (104 * arguments_tokens a) (listed (arguments scope a).value)
  arguments_short scope T.Absent = tt
  arguments_short scope (T.Listed es) =
      let h = further_most es in
      all_more (104 * further_tokens es) (104 * (2 + exprs_tokens es)) (omega (arith, h)) (expressions scope es).value
      (expressions_are_short scope es)

  pub expressions_are_short : (scope : Scope) (es : T.Exprs)
      → AllShort (104 * further_tokens es) (expressions scope es).value
  expressions_are_short scope T.NoExpr = tt
  expressions_are_short scope (T.ExprThen e es) = (
    most_words (expr_tokens e),
    (
      104 * further_tokens es,
      ((omega arith, expression_is_short scope e), (expressions_are_short scope es, omega arith)),
    ),
  )

-- ---- the laws

pub expressions_short : ExpressionsShort
expressions_short = expression_is_short

pub references_short : ReferencesShort
references_short = reference_is_short
