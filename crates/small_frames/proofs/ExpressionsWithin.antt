-- What an expression comes to takes no more words than its source weighs.
use Rattle.std.proofs.Common.{◌≡◌, ℕ, suc, ◌+◌, ◌*◌, ◌≤◌, Bool, true, false, not, ◌&&◌, List, [], ◌∷◌, ◌++◌}
use Rattle.std.proofs.Common.{map, length, Option, Some, None, if◌then◌else◌, refl, sym, ap, subst, arith}
use Rattle.std.proofs.Common.{mul-le-mul_right}
use Rattle.std.proofs.lemmas.List.{length-append}
use Rattle.std.specs.Prelude.{◌==◌, is_some}
use Rattle.std.specs.List.{list_any}
use Rattle.pli_language.specs.declared.expr.Place.{Place}
use Rattle.pli_language.specs.declared.scope.Found.{Found}
use Rattle.pli_language.specs.declared.scope.Found.TheVariants as F
use Rattle.pli_language.specs.declared.fault.SourceKind.TheVariants.{Undeclared}
use Rattle.pli_language.specs.Tree as T
use Rattle.pli_language.specs.Declarations.{Held, Block, What, Variable', Label, ProcedureName}
use Rattle.pli_language.specs.Declaring.{has, own_attributes, class_attributes}
use Rattle.pli_language.specs.Means.{names_mean}
use Rattle.pli_typing.specs.TypedTree as Y
use Rattle.pli_typing.specs.Judging.{Scope, fine, broken}
use Rattle.pli_typing.specs.Variables.{locator_name, name_means, what_at, variable_meant}
use Rattle.pli_typing.specs.Calls.{Callee, part_designated, result_type, copied, offset_argument, scalar_argument}
use Rattle.pli_typing.specs.Calls.{argument_by_copy, referent_argument, arguments_judged, procedure_called, callee_of}
use Rattle.pli_typing.specs.Calls.{leaves_pass}
use Rattle.pli_typing.specs.Converting.{Designated, Referent, Designates, Gives, GivesUnknown, GivesEmptyArea}
use Rattle.pli_typing.specs.Converting.{GivesNothing, NotKnown, Operand, scalar_type, value_with_type}
use Rattle.pli_typing.specs.Converting.{operand_value, pointer_operand}
use Rattle.pli_typing.specs.Operators.{prefixed, infixed}
use Rattle.pli_typing.specs.Builtins.{number_list, builtin_called}
use Rattle.pli_typing.specs.References.{Named, locates, locator_value, locator_if, locator_in, locator_found}
use Rattle.pli_typing.specs.References.{declared_locator, based_locator, written_locator, locator_of, listed, is_listed}
use Rattle.pli_typing.specs.References.{all_operands, variable_referent}
use Rattle.pli_typing.specs.References.{not_located, function_answer, procedure_referent}
use Rattle.pli_typing.specs.References.{builtin_referent, what_referent}
use Rattle.pli_typing.specs.References.{is_builtin_name, found_referent, names_referent, operand_from, reference_from}
use Rattle.pli_typing.specs.References.{given, expression, reference, qualified, arguments, expressions}
use Rattle.pli_coding.specs.Expressions as C
use Rattle.pli_coding.specs.Locating.{is_found_first}
use Rattle.temporary_bounds.specs.WordBounds.{located_words, pointer_words, reference_words, call_words}
use Rattle.temporary_bounds.specs.WordBounds.{locator_value_words, subscripts_words, arguments_words, argument_words}
use Rattle.well_formed_trees.specs.Every.{Every}
use Rattle.well_formed_trees.proofs.Lists.{every_first, every_second, HoldsIf}
use Rattle.small_frames.specs.Weights.{listed_count, argument_count, qualified_count, weight}
use Rattle.small_frames.specs.Weights.{reference_weight, heaviest, heaviest_in, heaviest_of}
use Rattle.small_frames.specs.Within.{ValueWithin, Within, IsCounted, AreCounted, ExpressionsWithin, ReferencesWithin}
use Rattle.small_frames.proofs.ValuesWithin.{within_more, typed_within, operand_within}
use Rattle.small_frames.proofs.ValuesWithin.{number_operand_within, pointer_operand_within, pointer_within}
use Rattle.small_frames.proofs.ValuesWithin.{stored_within, prefixed_within, infixed_within}
use Rattle.small_frames.proofs.BuiltinsWithin.{AllWithin, builtin_within}

-- ---- operands in lists

pub all_more : (w x : ℕ) → w ≤ x → (os : List Operand) → AllWithin w os → AllWithin x os
all_more w x l [] h = tt
all_more w x l (o ∷ os) h =
    let s = h.0.0 in
    ((omega (arith, s, l), within_more w x l o.referent h.0.1), all_more w x l os h.1)

both_within : (w : ℕ) (xs ys : List Operand) → AllWithin w xs → AllWithin w ys → AllWithin w (xs ++ ys)
both_within w [] ys h k = k
both_within w (x ∷ xs) ys h k = (h.0, both_within w xs ys h.1 k)

abbrev AllNamedWithin : (words : ℕ) → List Named → Type 0
AllNamedWithin w ns = Every (λ n. AllWithin w (listed n.arguments)) ns

named_more : (w x : ℕ) → w ≤ x → (ns : List Named) → AllNamedWithin w ns → AllNamedWithin x ns
named_more w x l [] h = tt
named_more w x l (n ∷ ns) h = (all_more w x l (listed n.arguments) h.0, named_more w x l ns h.1)

operands_within : (w : ℕ) (ns : List Named) → AllNamedWithin w ns → AllWithin w (all_operands ns)
operands_within w [] h = tt
operands_within w (n ∷ ns) h =
    both_within w (listed n.arguments) (all_operands ns) h.0 (operands_within w ns h.1)

-- ---- calls

copied_within : (w : ℕ) → 5 ≤ w → (t : Y.LeafType) (place : Place) (v : Y.Value) → ValueWithin w v
    → argument_words (copied t place v).value ≤ w
copied_within w s t place v h = stored_within w s t place (Some v) h

offset_within : (w : ℕ) → 5 ≤ w → (callee : Callee) (area : Y.Variable) (class : Y.StorageClass) (place : Place)
    (p : Y.Pointer) → pointer_words p ≤ w → argument_words (offset_argument callee area class place p).value ≤ w
offset_within w s callee area Y.ParameterClass place p h = h
offset_within w s callee area Y.AutomaticClass place p h = h
offset_within w s callee area Y.StaticClass place p h =
    copied_within w s (Y.OffsetLeaf (Some area)) place (Y.PointerValue p) h
offset_within w s callee area Y.BasedClass place p h =
    copied_within w s (Y.OffsetLeaf (Some area)) place (Y.PointerValue p) h
offset_within w s callee area Y.ControlledClass place p h =
    copied_within w s (Y.OffsetLeaf (Some area)) place (Y.PointerValue p) h

located_within : (w : ℕ) → 5 ≤ w → (callee : Callee) (area : Y.Variable) (place : Place) (v : Y.Value)
    → ValueWithin w v → argument_words (scalar_argument callee (Some (Y.OffsetLeaf (Some area))) place v).value ≤ w
located_within w s callee area place (Y.PointerValue p) h = by (area.block == callee.block) where
  by : (b : Bool) → argument_words (if b then offset_argument callee area area.class place p
      else copied (Y.OffsetLeaf (Some area)) place (Y.PointerValue p)).value ≤ w
  by true = offset_within w s callee area area.class place p h
  by false = copied_within w s (Y.OffsetLeaf (Some area)) place (Y.PointerValue p) h
located_within w s callee area place (Y.NumberValue p n) h =
    copied_within w s (Y.OffsetLeaf (Some area)) place (Y.NumberValue p n) h
located_within w s callee area place (Y.TextValue t) h =
    copied_within w s (Y.OffsetLeaf (Some area)) place (Y.TextValue t) h
located_within w s callee area place (Y.BitValue b) h =
    copied_within w s (Y.OffsetLeaf (Some area)) place (Y.BitValue b) h
located_within w s callee area place (Y.OffsetValue other o) h =
    copied_within w s (Y.OffsetLeaf (Some area)) place (Y.OffsetValue other o) h
located_within w s callee area place Y.NullValue h =
    copied_within w s (Y.OffsetLeaf (Some area)) place Y.NullValue h

scalar_within : (w : ℕ) → 5 ≤ w → (callee : Callee) (t : Option Y.LeafType) (place : Place) (v : Y.Value)
    → ValueWithin w v → argument_words (scalar_argument callee t place v).value ≤ w
scalar_within w s callee None place v h = omega arith
scalar_within w s callee (Some (Y.OffsetLeaf (Some area))) place v h = located_within w s callee area place v h
scalar_within w s callee (Some (Y.OffsetLeaf None)) place v h = copied_within w s (Y.OffsetLeaf None) place v h
scalar_within w s callee (Some (Y.FixedLeaf p)) place v h = copied_within w s (Y.FixedLeaf p) place v h
scalar_within w s callee (Some (Y.CharacterLeaf n)) place v h = copied_within w s (Y.CharacterLeaf n) place v h
scalar_within w s callee (Some (Y.VaryingLeaf n)) place v h = copied_within w s (Y.VaryingLeaf n) place v h
scalar_within w s callee (Some Y.BitLeaf) place v h = copied_within w s Y.BitLeaf place v h
scalar_within w s callee (Some Y.PointerLeaf) place v h = copied_within w s Y.PointerLeaf place v h
scalar_within w s callee (Some (Y.AreaLeaf n)) place v h = copied_within w s (Y.AreaLeaf n) place v h

copy_within : (w : ℕ) → 5 ≤ w → (callee : Callee) (d : Designated) (place : Place) (v : Option Y.Value)
    → HoldsIf (ValueWithin w) v → argument_words (argument_by_copy callee d place v).value ≤ w
copy_within w s callee d place None h = omega arith
copy_within w s callee d place (Some v) h = scalar_within w s callee (scalar_type d) place v h

argument_within : (w : ℕ) → 5 ≤ w → (callee : Callee) (p : Designated) (place : Place) (r : Referent) → Within w r
    → argument_words (referent_argument callee p place r).value ≤ w
argument_within w s callee p place (Designates d) h = by (d.is_whole && leaves_pass p.leaves d.leaves) where
  by : (b : Bool) → argument_words (if b then fine (Y.ByReference d.reference)
      else argument_by_copy callee p place (value_with_type d.reference (scalar_type d))).value ≤ w
  by true = h
  by false =
      copy_within w s callee p place (value_with_type d.reference (scalar_type d))
      (typed_within w s d.reference (scalar_type d) h)
argument_within w s callee p place (Gives v) h = scalar_within w s callee (scalar_type p) place v h
argument_within w s callee p place GivesUnknown h = omega arith
argument_within w s callee p place GivesEmptyArea h = omega arith
argument_within w s callee p place GivesNothing h = omega arith
argument_within w s callee p place NotKnown h = omega arith

arguments_most : (w : ℕ) (callee : Callee) (ps : List Designated) (os : List Operand) → AllWithin w os
    → arguments_words (arguments_judged callee ps os).value ≤ w
arguments_most w callee [] [] h = omega arith
arguments_most w callee [] (o ∷ os) h = omega arith
arguments_most w callee (p ∷ ps) [] h = omega arith
arguments_most w callee (p ∷ ps) (o ∷ os) h =
    let one = argument_within w h.0.0 callee p o.place o.referent h.0.1 in
    let more = arguments_most w callee ps os h.1 in
    omega (arith, one, more)

count_most : (callee : Callee) (ps : List Designated) (os : List Operand)
    → C.argument_count (arguments_judged callee ps os).value ≤ length os
count_most callee [] [] = omega arith
count_most callee [] (o ∷ os) = omega arith
count_most callee (p ∷ ps) [] = omega arith
count_most callee (p ∷ ps) (o ∷ os) = let more = count_most callee ps os in omega (arith, more)

pub call_within : (each w : ℕ) → 6 ≤ each → (blocks : List Block) (holder : ℕ) (head : T.ProcedureHead) (place : Place)
    (os : List Operand) → AllWithin w os
    → call_words (procedure_called blocks holder head place os).value ≤ each * length os + w
call_within each w s blocks holder head place os h =
    let callee = callee_of blocks head place in
    let words = arguments_most w callee callee.parameters os h in
    let count = count_most callee callee.parameters os in
    let more : 6 * length os ≤ each * length os = mul-le-mul_right (length os) s in
    omega (arith, words, count, more)

-- ---- locators

-- what a declaration names takes the words of a name that is found first, at most
abbrev IsPlain : Designated → Type 0
IsPlain d = reference_words d.reference ≤ 5

pub located_most : (v : Y.Variable) → located_words v ≤ 5
located_most v = by (is_found_first v.class) where
  by : (b : Bool) → (if b then 5 else 0) ≤ 5
  by true = omega arith
  by false = omega arith

plain_part : (blocks : List Block) (n : ℕ) (h : Held)
    → IsPlain (part_designated blocks n h Y.NotLocated false Y.NoNumber)
plain_part blocks n h = let own = located_most (variable_meant blocks n h) in omega (arith, own)

plain_if : (d : Designated) (x : Bool) → IsPlain d → HoldsIf IsPlain (locator_if d x)
plain_if d true h = h
plain_if d false h = tt

plain_in : (blocks : List Block) (n : ℕ) (w : Option What) → HoldsIf IsPlain (locator_in blocks n w)
plain_in blocks n None = tt
plain_in blocks n (Some Label) = tt
plain_in blocks n (Some (ProcedureName head)) = tt
plain_in blocks n (Some (Variable' h)) =
    let d = part_designated blocks n h Y.NotLocated false Y.NoNumber in
    plain_if d (not (has 11 (class_attributes h)) && locates (locator_value d)) (plain_part blocks n h)

pub plain_found : (blocks : List Block) (f : Found) → HoldsIf IsPlain (locator_found blocks f)
plain_found blocks (F.One at) = plain_in blocks at.block (what_at blocks at)
plain_found blocks F.None = tt
plain_found blocks F.Ambiguous = tt

declared_within : (place : Place) (o : Option Designated) → HoldsIf IsPlain o
    → locator_value_words (declared_locator place o).value ≤ 5
declared_within place None h = omega arith
declared_within place (Some d) h =
    pointer_within 5 (omega arith) place (locator_value d)
    (typed_within 5 (omega arith) d.reference (scalar_type d) h)

based_within : (blocks : List Block) (n : ℕ) (place : Place) (name : Option T.Name)
    → locator_value_words (based_locator blocks n place name).value ≤ 5
based_within blocks n place None = omega arith
based_within blocks n place (Some name) =
    let f = name_means blocks n name in
    declared_within place (locator_found blocks f) (plain_found blocks f)

locator_within : (x : ℕ) → 5 ≤ x → (blocks : List Block) (n : ℕ) (h : Held) (based : Bool) (place : Place)
    (l : Y.Locator) → locator_value_words l ≤ x
    → locator_value_words (locator_of blocks n h based place l).value ≤ x
locator_within x s blocks n h true place Y.NotLocated k =
    let own = based_within blocks n place (locator_name (class_attributes h)) in
    omega (arith, s, own)
locator_within x s blocks n h true place (Y.LocatedBy p) k = k
locator_within x s blocks n h false place Y.NotLocated k = k
locator_within x s blocks n h false place (Y.LocatedBy p) k = omega arith

-- ---- what names mean

subscripts_most : (w : ℕ) (os : List Operand) → AllWithin w os
    → subscripts_words (number_list os).value ≤ length os + w
subscripts_most w [] h = omega arith
subscripts_most w (o ∷ os) h =
    let one = number_operand_within w o h.0 in
    let more = subscripts_most w os h.1 in
    omega (arith, one, more)

-- so many words for names with these arguments, of which each may take so many, and the heaviest w
abbrev HasRoom : (each w x : ℕ) → List Operand → Type 0
HasRoom each w x os = 5 + (each * length os + w) ≤ x

part_within : (w x : ℕ) (blocks : List Block) (n : ℕ) (h : Held) (l : Y.Locator) (is_element : Bool)
    (os : List Operand) → AllWithin w os → locator_value_words l ≤ x → 5 + (length os + w) ≤ x
    → reference_words (part_designated blocks n h l is_element (number_list os).value).reference ≤ x
part_within w x blocks n h l is_element os a k r =
    let own = located_most (variable_meant blocks n h) in
    let most = subscripts_most w os a in
    omega (arith, own, most, k, r)

variable_within : (each w x : ℕ) → 1 ≤ each → (blocks : List Block) (n : ℕ) (h : Held) (place : Place)
    (l : Y.Locator) (ns : List Named) → locator_value_words l ≤ x → HasRoom each w x (all_operands ns)
    → AllNamedWithin w ns → Within x (variable_referent blocks n h place l ns).value
variable_within each w x s blocks n h place l ns k r a =
    let os = all_operands ns in
    let based = has 11 (class_attributes h) in
    let more : 1 * length os ≤ each * length os = mul-le-mul_right (length os) s in
    part_within w x blocks n h (locator_of blocks n h based place l).value (list_any is_listed ns) os
    (operands_within w ns a) (locator_within x (omega (arith, r)) blocks n h based place l k) (omega (arith, r, more))

answer_within : (x : ℕ) → 5 ≤ x → (t : Option Y.LeafType) (c : Y.Call) → call_words c ≤ x
    → Within x (function_answer t c)
answer_within x s None c h = tt
answer_within x s (Some (Y.FixedLeaf p)) c h = h
answer_within x s (Some (Y.CharacterLeaf n)) c h = h
answer_within x s (Some (Y.VaryingLeaf n)) c h = h
answer_within x s (Some Y.BitLeaf) c h = h
answer_within x s (Some Y.PointerLeaf) c h = omega (arith, s, h)
answer_within x s (Some (Y.OffsetLeaf area)) c h = h
answer_within x s (Some (Y.AreaLeaf n)) c h = tt

procedure_within : (each w x : ℕ) (blocks : List Block) (n : ℕ) (head : T.ProcedureHead) (returns : Bool)
    (place : Place) (os : List Operand) → HasRoom each w x os → AllWithin w os
    → AreCounted each (procedure_referent blocks n head returns place os).mentions
    → Within x (procedure_referent blocks n head returns place os).value
procedure_within each w x blocks n head true place os r a m =
    let most = call_within each w m.0 blocks n head place os a in
    answer_within x (omega (arith, r)) (result_type blocks n head) (procedure_called blocks n head place os).value
    (omega (arith, most, r))
procedure_within each w x blocks n head false place os r a m = tt

builtin_named_within : (each w x : ℕ) (place : Place) (word : _) (l : Y.Locator) (ns : List Named)
    → HasRoom each w x (all_operands ns) → AllNamedWithin w ns
    → Within x (builtin_referent place word l ns).value
builtin_named_within each w x place word l ns r a =
    within_more (5 + w) x (omega (arith, r)) (builtin_called place word (all_operands ns)).value
    (builtin_within w place word (all_operands ns) (operands_within w ns a))

what_within : (each w x : ℕ) → 1 ≤ each → (blocks : List Block) (n : ℕ) (o : Option What) (place : Place)
    (l : Y.Locator) (ns : List Named) → locator_value_words l ≤ x → HasRoom each w x (all_operands ns)
    → AllNamedWithin w ns → AreCounted each (what_referent blocks n o place l ns).mentions
    → Within x (what_referent blocks n o place l ns).value
what_within each w x s blocks n None place l ns k r a m = tt
what_within each w x s blocks n (Some Label) place l ns k r a m = tt
what_within each w x s blocks n (Some (ProcedureName head)) place l ns k r a m =
    let returns = is_some (result_type blocks n head) in
    procedure_within each w x blocks n head returns place (all_operands ns) r (operands_within w ns a)
    (every_second (IsCounted each) (not_located place l).mentions
    (procedure_referent blocks n head returns place (all_operands ns)).mentions m)
what_within each w x s blocks n (Some (Variable' h)) place l ns k r a m = by (has 13 (own_attributes h)) where
  by : (b : Bool) → Within x (if b then builtin_referent place h.variable.declared.name.word l ns
      else variable_referent blocks n h place l ns).value
  by true = builtin_named_within each w x place h.variable.declared.name.word l ns r a
  by false = variable_within each w x s blocks n h place l ns k r a

found_within : (each w x : ℕ) → 1 ≤ each → (scope : Scope) (first : T.Name) (f : Found) (l : Y.Locator)
    (ns : List Named) → locator_value_words l ≤ x → HasRoom each w x (all_operands ns)
    → AllNamedWithin w ns → AreCounted each (found_referent scope first f l ns).mentions
    → Within x (found_referent scope first f l ns).value
found_within each w x s scope first (F.One at) l ns k r a m =
    what_within each w x s scope.blocks at.block (what_at scope.blocks at) first.place l ns k r a m
found_within each w x s scope first F.None l ns k r a m = by (is_builtin_name ns) where
  by : (b : Bool) → Within x (if b then builtin_referent first.place first.word l ns
      else broken first.place Undeclared NotKnown).value
  by true = builtin_named_within each w x first.place first.word l ns r a
  by false = tt
found_within each w x s scope first F.Ambiguous l ns k r a m = tt

names_within : (each w x : ℕ) → 1 ≤ each → (scope : Scope) (l : Y.Locator) (ns : List Named)
    → locator_value_words l ≤ x → HasRoom each w x (all_operands ns) → AllNamedWithin w ns
    → AreCounted each (names_referent scope l ns).mentions → Within x (names_referent scope l ns).value
names_within each w x s scope l [] k r a m = tt
names_within each w x s scope l (n ∷ ns) k r a m =
    found_within each w x s scope n.name
    (names_mean scope.blocks scope.block (map (λ (m : Named). m.name.letters) (n ∷ ns))) l (n ∷ ns) k r a m

-- ---- as many operands as arguments

mutual
  unfolding expressions

  listed_same : (scope : Scope) (es : T.Exprs) → length (expressions scope es).value ≡ listed_count es
  listed_same scope T.NoExpr = refl
  listed_same scope (T.ExprThen e es) = ap suc (listed_same scope es)

mutual
  unfolding arguments

  pub arguments_same : (scope : Scope) (a : T.Arguments) → length (listed (arguments scope a).value) ≡ argument_count a
  arguments_same scope T.Absent = refl
  arguments_same scope (T.Listed es) = listed_same scope es

mutual
  unfolding qualified

  qualified_same : (scope : Scope) (q : T.Qualified)
      → length (all_operands (qualified scope q).value) ≡ qualified_count q
  qualified_same scope (T.Last n a) =
      let own = arguments_same scope a in
      let all = length-append (listed (arguments scope a).value) [] in
      let none : length (all_operands []) ≡ 0 = refl in
      omega (arith, own, all, none)
  qualified_same scope (T.Of n a q) =
      let own = arguments_same scope a in
      let more = qualified_same scope q in
      let all = length-append (listed (arguments scope a).value) (all_operands (qualified scope q).value) in
      omega (arith, own, more, all)

-- ---- expressions

mutual
  pub weight_least : (each : ℕ) (e : T.Expr) → 5 ≤ weight each e
  weight_least each (T.Number n place) = omega arith
  weight_least each (T.Text t place) = omega arith
  weight_least each (T.Bit b place) = omega arith
  weight_least each (T.Parenthesized e place) = weight_least each e
  weight_least each (T.Prefix op e place) = weight_least each e
  weight_least each (T.Infix op l r) = let h = weight_least each l in omega (arith, h)
  weight_least each (T.Refers r) = reference_least each r

  pub reference_least : (each : ℕ) (r : T.Reference) → 5 ≤ reference_weight each r
  reference_least each (T.Plain q) = omega arith
  reference_least each (T.Located l q) = omega arith

given_within : (w : ℕ) (v : Option Y.Value) → HoldsIf (ValueWithin w) v → Within w (given v)
given_within w None h = tt
given_within w (Some v) h = h

room_in : (each w x : ℕ) (ns : List Named) (k : ℕ) → length (all_operands ns) ≡ k → 5 + (each * k + w) ≤ x
    → HasRoom each w x (all_operands ns)
room_in each w x ns k e h = subst (λ n. 5 + (each * n + w) ≤ x) (sym e) h

mutual
  unfolding expression reference qualified arguments expressions

  expression_is_within : (each : ℕ) → 1 ≤ each → (scope : Scope) (e : T.Expr)
      → AreCounted each (expression scope e).mentions → Within (weight each e) (expression scope e).value
  expression_is_within each s scope (T.Number n place) m = omega arith
  expression_is_within each s scope (T.Text t place) m = omega arith
  expression_is_within each s scope (T.Bit x place) m = omega arith
  expression_is_within each s scope (T.Parenthesized e place) m =
      let j = (expression scope e).mentions in
      let o = (operand_from e (expression scope e)).value in
      let v = (operand_value o).mentions in
      given_within (weight each e) (operand_value o).value (operand_within (weight each e) o (
        weight_least each e,
        expression_is_within each s scope e
            (every_first (IsCounted each) j [] (every_first (IsCounted each) (j ++ []) (v ++ []) m)),
      ))
  expression_is_within each s scope (T.Prefix op e place) m =
      let j = (expression scope e).mentions in
      let o = (operand_from e (expression scope e)).value in
      let v = (prefixed op o).mentions in
      prefixed_within (weight each e) op o (
        weight_least each e,
        expression_is_within each s scope e
            (every_first (IsCounted each) j [] (every_first (IsCounted each) (j ++ []) v m)),
      )
  expression_is_within each s scope (T.Infix op l r) m =
      let j = (expression scope l).mentions in
      let k = (expression scope r).mentions in
      let x = (operand_from l (expression scope l)).value in
      let y = (operand_from r (expression scope r)).value in
      let v = (infixed op x y).mentions in
      let more = every_second (IsCounted each) (j ++ []) ((k ++ []) ++ v) m in
      infixed_within (weight each l) (weight each r) op x y (
        weight_least each l,
        expression_is_within each s scope l
            (every_first (IsCounted each) j [] (every_first (IsCounted each) (j ++ []) ((k ++ []) ++ v) m)),
      ) (
        weight_least each r,
        expression_is_within each s scope r
            (every_first (IsCounted each) k [] (every_first (IsCounted each) (k ++ []) v more)),
      )
  expression_is_within each s scope (T.Refers q) m = reference_is_within each s scope q m

  reference_is_within : (each : ℕ) → 1 ≤ each → (scope : Scope) (r : T.Reference)
      → AreCounted each (reference scope r).mentions → Within (reference_weight each r) (reference scope r).value
  reference_is_within each s scope (T.Plain q) m =
      let a = (qualified scope q).mentions in
      let v = (names_referent scope Y.NotLocated (qualified scope q).value).mentions in
      names_within each (heaviest each q) (reference_weight each (T.Plain q)) s scope Y.NotLocated
      (qualified scope q).value (omega arith)
      (room_in each (heaviest each q) (reference_weight each (T.Plain q)) (qualified scope q).value (qualified_count q)
      (qualified_same scope q) (omega arith))
      (qualified_within each s scope q (every_first (IsCounted each) a v m)) (every_second (IsCounted each) a v m)
  reference_is_within each s scope (T.Located l q) m =
      let j = (reference scope l).mentions in
      let o = (reference_from l (reference scope l)).value in
      let p = (pointer_operand o).mentions in
      let a = (qualified scope q).mentions in
      let located = (written_locator o).value in
      let v = (names_referent scope located (qualified scope q).value).mentions in
      let one = every_second (IsCounted each) (j ++ []) ((p ++ []) ++ (a ++ v)) m in
      let two = every_second (IsCounted each) (p ++ []) (a ++ v) one in
      let own = pointer_operand_within (reference_weight each l) o (
        reference_least each l,
        reference_is_within each s scope l (every_first (IsCounted each) j []
            (every_first (IsCounted each) (j ++ []) ((p ++ []) ++ (a ++ v)) m)),
      ) in
      names_within each (heaviest each q) (reference_weight each (T.Located l q)) s scope located
      (qualified scope q).value (omega (arith, own))
      (room_in each (heaviest each q) (reference_weight each (T.Located l q)) (qualified scope q).value
      (qualified_count q) (qualified_same scope q) (omega arith))
      (qualified_within each s scope q (every_first (IsCounted each) a v two)) (every_second (IsCounted each) a v two)

  qualified_within : (each : ℕ) → 1 ≤ each → (scope : Scope) (q : T.Qualified)
      → AreCounted each (qualified scope q).mentions → AllNamedWithin (heaviest each q) (qualified scope q).value
  qualified_within each s scope (T.Last n a) m =
      (arguments_are_within each s scope a (every_first (IsCounted each) (arguments scope a).mentions [] m), tt)
  qualified_within each s scope (T.Of n a q) m =
      let x = (arguments scope a).mentions in
      let y = (qualified scope q).mentions in (
        all_more (heaviest_in each a) (heaviest each (T.Of n a q)) (omega arith) (listed (arguments scope a).value)
            (arguments_are_within each s scope a (every_first (IsCounted each) x (y ++ []) m)),
        named_more (heaviest each q) (heaviest each (T.Of n a q)) (omega arith) (qualified scope q).value
            (qualified_within each s scope q
            (every_first (IsCounted each) y [] (every_second (IsCounted each) x (y ++ []) m))),
      )

  pub arguments_are_within : (each : ℕ) → 1 ≤ each → (scope : Scope) (a : T.Arguments)
      → AreCounted each (arguments scope a).mentions
      → AllWithin (heaviest_in each a) (listed (arguments scope a).value)
  arguments_are_within each s scope T.Absent m = tt
  arguments_are_within each s scope (T.Listed es) m =
      expressions_are_within each s scope es (every_first (IsCounted each) (expressions scope es).mentions [] m)

  pub expressions_are_within : (each : ℕ) → 1 ≤ each → (scope : Scope) (es : T.Exprs)
      → AreCounted each (expressions scope es).mentions
      → AllWithin (heaviest_of each es) (expressions scope es).value
  expressions_are_within each s scope T.NoExpr m = tt
  expressions_are_within each s scope (T.ExprThen e es) m =
      let j = (expression scope e).mentions in
      let k = (expressions scope es).mentions in
      let least = weight_least each e in (
        (
          omega (arith, least),
          within_more (weight each e) (heaviest_of each (T.ExprThen e es)) (omega arith) (expression scope e).value
              (expression_is_within each s scope e
              (every_first (IsCounted each) j [] (every_first (IsCounted each) (j ++ []) (k ++ []) m))),
        ),
        all_more (heaviest_of each es) (heaviest_of each (T.ExprThen e es)) (omega arith)
            (expressions scope es).value
            (expressions_are_within each s scope es
            (every_first (IsCounted each) k [] (every_second (IsCounted each) (j ++ []) (k ++ []) m))),
      )

pub expressions_within : ExpressionsWithin
expressions_within = expression_is_within

pub references_within : ReferencesWithin
references_within = reference_is_within
