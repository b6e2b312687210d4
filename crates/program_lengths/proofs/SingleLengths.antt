-- What a statement that holds none comes to has no more words than its tokens allow.
use Rattle.std.proofs.Common.{ℕ, ◌+◌, ◌-◌, ◌*◌, ◌≤◌, Bool, true, false, List, Option, Some, None}
use Rattle.std.proofs.Common.{if◌then◌else◌, arith}
use Rattle.std.specs.Prelude.{is_some}
use Rattle.pli_language.specs.declared.expr.Place.{Place}
use Rattle.pli_language.specs.declared.scope.Found.{Found}
use Rattle.pli_language.specs.declared.scope.Found.TheVariants as F
use Rattle.pli_language.specs.declared.fault.SourceKind.TheVariants.{Undeclared, TypeMismatch}
use Rattle.pli_language.specs.Tree as T
use Rattle.pli_language.specs.Declarations.{Block, What, Variable', Label, ProcedureName}
use Rattle.pli_language.specs.Declaring.{is_builtin}
use Rattle.pli_typing.specs.TypedTree as Y
use Rattle.pli_typing.specs.Judging.{Scope, fine, broken}
use Rattle.pli_typing.specs.Variables.{what_at, name_means}
use Rattle.pli_typing.specs.Calls.{result_type}
use Rattle.pli_typing.specs.Converting.{Designated, Referent, Designates, Gives, GivesUnknown, GivesEmptyArea}
use Rattle.pli_typing.specs.Converting.{GivesNothing, NotKnown, Operand, is_area, is_aggregate, element_type}
use Rattle.pli_typing.specs.Converting.{scalar_type, variable_of, operand_value, operand_stored}
use Rattle.pli_typing.specs.Assigning.{leaves_match, assigned_scalar, assigned_area, assigned_elements}
use Rattle.pli_typing.specs.Assigning.{assigned_each, assigned_matching, assigned_aggregate, assigned_to}
use Rattle.pli_typing.specs.Assigning.{assigned_referent, nothing_done, computational, computational_operand}
use Rattle.pli_typing.specs.Assigning.{Scalar, scalar_if, scalar_referent, scalar_operand, counter_of}
use Rattle.pli_typing.specs.Generations.{judged_if}
use Rattle.pli_typing.specs.References.{listed, arguments, operand, referred}
use Rattle.pli_typing.specs.SingleStatements.{Context, Turns, OneTurn, CountedTurns, jump, jump_found}
use Rattle.pli_typing.specs.SingleStatements.{goto_statement, not_called, called_procedure, called_what}
use Rattle.pli_typing.specs.SingleStatements.{called_found, call_statement, returned, not_returned, return_statement}
use Rattle.pli_typing.specs.SingleStatements.{result_around, condition, number_at, step_or_one, turns_of, turns_with}
use Rattle.pli_typing.specs.SingleStatements.{turns, assign_statement}
use Rattle.code_sizes.specs.ExpressionSizes.{number_size, bit_size, reference_size, stored_size}
use Rattle.code_sizes.specs.StoringSizes.{record_size, put_size, assignment_size}
use Rattle.code_sizes.specs.StreamSizes.{value_size}
use Rattle.code_sizes.specs.StatementSizes.{stmt_size, condition_size, limit_size, counter_size, turns_size}
use Rattle.tree_tokens.specs.TreeTokens.{expr_tokens, reference_tokens, arguments_tokens, tokens_if, counting_tokens}
use Rattle.well_formed_trees.proofs.Lists.{HoldsIf}
use Rattle.source_sizes.specs.Short.{ValueShort, Short, most_words}
use Rattle.source_sizes.proofs.Values.{OperandShort, operand_short, number_operand_short, own_bit_operand_short}
use Rattle.source_sizes.proofs.Values.{stored_short}
use Rattle.source_sizes.proofs.Builtins.{AllShort}
use Rattle.source_sizes.proofs.Expressions.{expressions_short, references_short, arguments_short, call_short}
use Rattle.program_lengths.specs.StatementLengths.{counter_beside}

-- ---- operands

pub spelled_operand : (scope : Scope) (e : T.Expr) → OperandShort (most_words (expr_tokens e)) (operand scope e).value
spelled_operand scope e = (omega arith, expressions_short scope e)

pub spelled_reference : (scope : Scope) (r : T.Reference)
    → OperandShort (most_words (reference_tokens r)) (referred scope r).value
spelled_reference scope r = (omega arith, references_short scope r)

pub operand_stored_short : (w : ℕ) (t : Y.LeafType) (o : Operand) → OperandShort w o
    → stored_size (operand_stored t o).value ≤ w + 20
operand_stored_short w t o h = stored_short w h.0 t o.place (operand_value o).value (operand_short w o h)

-- ---- statements

abbrev pub IsWithin : (p : Y.Program) (words : ℕ) → Y.Stmt → Type 0
IsWithin p w s = stmt_size p s ≤ w

pub record_most : (r : Y.Reference) → record_size r ≤ reference_size r + 22
record_most (Y.Referring v locator part subscripts) = omega arith

pub put_most : (s : Y.Stored) → put_size s ≤ 24
put_most (Y.StoredNumber precision x) = omega arith
put_most (Y.StoredText x) = omega arith
put_most (Y.StoredBit x) = omega arith
put_most (Y.StoredPointer x) = omega arith
put_most (Y.StoredOffset x) = omega arith

-- ---- assignments, with 46 words beside what is assigned and its target

elements_within : (p : Y.Program) (w x : ℕ) (place : Place) (r : Y.Reference) (t : Option Y.LeafType)
    (source_place : Place) (v : Option Y.Value) → 53 ≤ x → reference_size r + 16 ≤ w → HoldsIf (ValueShort x) v
    → IsWithin p (w + (x + 46)) (assigned_elements place r t source_place v).value
elements_within p w x place r t source_place None s h k = omega arith
elements_within p w x place r None source_place (Some v) s h k = omega arith
elements_within p w x place r (Some t) source_place (Some v) s h k =
    let stored = stored_short x s t source_place (Some v) k in
    let filled = record_most r in
    omega (arith, h, stored, filled)

each_within : (p : Y.Program) (w x : ℕ) (place : Place) (d : Designated) (source : Operand)
    → reference_size d.reference + 16 ≤ w → OperandShort x source
    → IsWithin p (w + (x + 46)) (assigned_each place d source).value
each_within p w x place d source h k =
    elements_within p w x place d.reference (element_type d) source.place (operand_value source).value k.0 h
    (operand_short x source k)

matching_within : (p : Y.Program) (w x : ℕ) (place : Place) (d e : Designated)
    → reference_size d.reference + 16 ≤ w → reference_size e.reference + 16 ≤ x
    → IsWithin p (w + (x + 46)) (assigned_matching place d e).value
matching_within p w x place d e h k = by (leaves_match d.leaves e.leaves) where
  by : (b : Bool) → IsWithin p (w + (x + 46))
      (if b then fine (Y.AssignAggregate d.reference e.reference place.line)
      else broken place TypeMismatch (nothing_done place)).value
  by true =
      let one = record_most d.reference in
      let other = record_most e.reference in
      omega (arith, h, k, one, other)
  by false = omega arith

aggregate_within : (p : Y.Program) (w x : ℕ) (place : Place) (d : Designated) (source : Operand) (r : Referent)
    → reference_size d.reference + 16 ≤ w → OperandShort x source → Short x r
    → IsWithin p (w + (x + 46)) (assigned_aggregate place d source r).value
aggregate_within p w x place d source (Designates e) h k l = by (is_aggregate e) where
  by : (b : Bool) → IsWithin p (w + (x + 46))
      (if b then assigned_matching place d e else assigned_each place d source).value
  by true = matching_within p w x place d e h l
  by false = each_within p w x place d source h k
aggregate_within p w x place d source (Gives v) h k l = each_within p w x place d source h k
aggregate_within p w x place d source GivesUnknown h k l = each_within p w x place d source h k
aggregate_within p w x place d source GivesEmptyArea h k l = each_within p w x place d source h k
aggregate_within p w x place d source GivesNothing h k l = each_within p w x place d source h k
aggregate_within p w x place d source NotKnown h k l = each_within p w x place d source h k

area_within : (p : Y.Program) (w : ℕ) → 26 ≤ w → (place : Place) (v : Y.Variable) (source_place : Place)
    (r : Referent) → IsWithin p w (assigned_area place v source_place r).value
area_within p w l place v source_place (Designates d) = by (is_area d) where
  by : (b : Bool) → IsWithin p w (if b then fine (Y.AssignArea v (variable_of d.reference) place.line)
      else broken source_place TypeMismatch (nothing_done place)).value
  by true = omega (arith, l)
  by false = omega (arith, l)
area_within p w l place v source_place (Gives x) = omega (arith, l)
area_within p w l place v source_place GivesUnknown = omega (arith, l)
area_within p w l place v source_place GivesEmptyArea = omega (arith, l)
area_within p w l place v source_place GivesNothing = omega (arith, l)
area_within p w l place v source_place NotKnown = omega (arith, l)

value_within : (p : Y.Program) (w x : ℕ) (place : Place) (r : Y.Reference) (t : Y.LeafType) (source : Operand)
    → reference_size r + 16 ≤ w → OperandShort x source
    → IsWithin p (w + (x + 46)) (assigned_scalar place r t source).value
value_within p w x place r t source h k =
    let stored = operand_stored_short x t source k in
    let put = put_most (operand_stored t source).value in
    omega (arith, h, stored, put)

assigned_within : (p : Y.Program) (w x : ℕ) (place : Place) (d : Designated) (t : Option Y.LeafType)
    (source : Operand) → reference_size d.reference + 16 ≤ w → OperandShort x source
    → IsWithin p (w + (x + 46)) (assigned_to place d t source).value
assigned_within p w x place d None source h k = aggregate_within p w x place d source source.referent h k k.1
assigned_within p w x place d (Some (Y.AreaLeaf n)) source h k =
    area_within p (w + (x + 46)) (omega arith) place (variable_of d.reference) source.place source.referent
assigned_within p w x place d (Some (Y.FixedLeaf q)) source h k =
    value_within p w x place d.reference (Y.FixedLeaf q) source h k
assigned_within p w x place d (Some (Y.CharacterLeaf n)) source h k =
    value_within p w x place d.reference (Y.CharacterLeaf n) source h k
assigned_within p w x place d (Some (Y.VaryingLeaf n)) source h k =
    value_within p w x place d.reference (Y.VaryingLeaf n) source h k
assigned_within p w x place d (Some Y.BitLeaf) source h k = value_within p w x place d.reference Y.BitLeaf source h k
assigned_within p w x place d (Some Y.PointerLeaf) source h k =
    value_within p w x place d.reference Y.PointerLeaf source h k
assigned_within p w x place d (Some (Y.OffsetLeaf area)) source h k =
    value_within p w x place d.reference (Y.OffsetLeaf area) source h k

target_within : (p : Y.Program) (w x : ℕ) (place target_place : Place) (r : Referent) (source : Operand) → Short w r
    → OperandShort x source → IsWithin p (w + (x + 46)) (assigned_referent place target_place r source).value
target_within p w x place target_place (Designates d) source h k =
    assigned_within p w x place d (scalar_type d) source h k
target_within p w x place target_place (Gives v) source h k = omega arith
target_within p w x place target_place GivesUnknown source h k = omega arith
target_within p w x place target_place GivesEmptyArea source h k = omega arith
target_within p w x place target_place GivesNothing source h k = omega arith
target_within p w x place target_place NotKnown source h k = omega arith

pub assign_within : (p : Y.Program) (scope : Scope) (target : T.Reference) (source : T.Expr) (place : Place)
    → IsWithin p (104 * (reference_tokens target + (2 + expr_tokens source)))
    (assign_statement scope target source place).value
assign_within p scope target source place =
    let t = (referred scope target).value in
    let words = target_within p (most_words (reference_tokens target)) (most_words (expr_tokens source)) place t.place
    t.referent (operand scope source).value (references_short scope target) (spelled_operand scope source) in
    omega (arith, words)

-- ---- CALL, RETURN and GOTO

called_within : (p : Y.Program) (w : ℕ) (blocks : List Block) (b : ℕ) (o : Option What) (name : T.Name)
    (place : Place) (os : List Operand) → AllShort w os
    → IsWithin p (w + 16) (called_what blocks b o name place os).value
called_within p w blocks b None name place os h = omega arith
called_within p w blocks b (Some Label) name place os h = omega arith
called_within p w blocks b (Some (Variable' v)) name place os h = omega arith
called_within p w blocks b (Some (ProcedureName head)) name place os h =
    by (is_some (result_type blocks b head)) where
      by : (s : Bool) → IsWithin p (w + 16)
          (if s then not_called place else called_procedure blocks b head name place os).value
      by true = omega arith
      by false = let words = call_short w blocks b head name.place os h in omega (arith, words)

call_found_within : (p : Y.Program) (w : ℕ) (blocks : List Block) (f : Found) (name : T.Name) (place : Place)
    (os : List Operand) → AllShort w os → IsWithin p (w + 16) (called_found blocks f name place os).value
call_found_within p w blocks (F.One at) name place os h =
    called_within p w blocks at.block (what_at blocks at) name place os h
call_found_within p w blocks F.None name place os h = by (is_builtin name.word) where
  by : (b : Bool) → IsWithin p (w + 16)
      (if b then not_called place else broken name.place Undeclared (Y.Null place.line)).value
  by true = omega arith
  by false = omega arith
call_found_within p w blocks F.Ambiguous name place os h = omega arith

pub call_within : (p : Y.Program) (scope : Scope) (name : T.Name) (a : T.Arguments) (place : Place)
    → IsWithin p (104 * (3 + arguments_tokens a)) (call_statement scope name a place).value
call_within p scope name a place =
    let words = call_found_within p (104 * arguments_tokens a) scope.blocks (name_means scope.blocks scope.block name)
    name place (listed (arguments scope a).value) (arguments_short scope a) in
    omega (arith, words)

return_without : (p : Y.Program) (w : ℕ) → 14 ≤ w → (place : Place) (t : Option Y.LeafType)
    → IsWithin p w (not_returned place t).value
return_without p w l place None = omega (arith, l)
return_without p w l place (Some t) = omega (arith, l)

return_with : (p : Y.Program) (w : ℕ) (place : Place) (t : Option Y.LeafType) (o : Operand) → OperandShort w o
    → IsWithin p (w + 61) (returned place t o).value
return_with p w place None o h = omega arith
return_with p w place (Some t) o h = let stored = operand_stored_short w t o h in omega (arith, stored)

pub return_within : (p : Y.Program) (c : Context) (e : Option T.Expr) (place : Place)
    → IsWithin p (104 * (2 + tokens_if (λ e. 2 + expr_tokens e) e)) (return_statement c e place).value
return_within p c None place =
    return_without p (104 * 2) (omega arith) place (result_around c.scope.blocks c.around)
return_within p c (Some e) place =
    let words = return_with p (most_words (expr_tokens e)) place (result_around c.scope.blocks c.around)
    (operand c.scope e).value (spelled_operand c.scope e) in
    omega (arith, words)

jump_within : (p : Y.Program) (c : Context) (name : T.Name) (place : Place) (block : ℕ) (b : Bool)
    → IsWithin p (104 * 3) (jump c name place block b).value
jump_within p c name place block true = omega arith
jump_within p c name place block false = omega arith

jump_found_within : (p : Y.Program) (c : Context) (name : T.Name) (place : Place) (f : Found)
    → IsWithin p (104 * 3) (jump_found c name place f).value
jump_found_within p c name place (F.One at) = jump_within p c name place at.block _
jump_found_within p c name place F.None = jump_within p c name place 0 false
jump_found_within p c name place F.Ambiguous = omega arith

pub goto_within : (p : Y.Program) (c : Context) (label : T.Name) (place : Place)
    → IsWithin p (104 * 3) (goto_statement c label place).value
goto_within p c label place = jump_found_within p c label place (name_means c.scope.blocks c.scope.block label)

-- ---- conditions, and what DO says

pub condition_within : (scope : Scope) (e : T.Expr)
    → bit_size (condition scope e).value ≤ 104 * expr_tokens e + 53
condition_within scope e =
    own_bit_operand_short (most_words (expr_tokens e)) (operand scope e).value (spelled_operand scope e)

pub number_within : (scope : Scope) (e : T.Expr) → number_size (number_at scope e).value ≤ 104 * expr_tokens e + 59
number_within scope e =
    let words = number_operand_short (most_words (expr_tokens e)) (operand scope e).value (spelled_operand scope e) in
    omega (arith, words)

limit_within : (counter : ℕ) (scope : Scope) (e : Option T.Expr)
    → limit_size counter (judged_if (number_at scope) e).value
    ≤ 104 * tokens_if (λ e. 1 + expr_tokens e) e + (counter - 12)
limit_within counter scope None = omega arith
limit_within counter scope (Some e) = let words = number_within scope e in omega (arith, words)

step_within : (scope : Scope) (e : Option T.Expr)
    → number_size (step_or_one (judged_if (number_at scope) e).value)
    ≤ 104 * tokens_if (λ e. 1 + expr_tokens e) e + 2
step_within scope None = omega arith
step_within scope (Some e) = let words = number_within scope e in omega (arith, words)

met_within : (scope : Scope) (e : Option T.Expr)
    → condition_size (judged_if (condition scope) e).value ≤ 104 * tokens_if (λ e. 3 + expr_tokens e) e
met_within scope None = omega arith
met_within scope (Some e) = let words = condition_within scope e in omega (arith, words)

pub computed_within : (w : ℕ) (place : Place) (v : Option Y.Value) → HoldsIf (ValueShort w) v
    → value_size (computational place v).value ≤ w
computed_within w place (Some (Y.NumberValue p n)) h = h
computed_within w place (Some (Y.TextValue t)) h = h
computed_within w place (Some (Y.BitValue b)) h = h
computed_within w place (Some (Y.PointerValue p)) h = omega arith
computed_within w place (Some (Y.OffsetValue area o)) h = omega arith
computed_within w place (Some Y.NullValue) h = omega arith
computed_within w place None h = omega arith

counter_within : (w : ℕ) (place : Place) (r : Y.Reference) (t : Y.LeafType) → reference_size r + 16 ≤ w
    → counter_size (counter_of place r t).value + 16 ≤ w
counter_within w place r (Y.FixedLeaf p) h = h
counter_within w place r (Y.CharacterLeaf n) h = h
counter_within w place r (Y.VaryingLeaf n) h = h
counter_within w place r Y.BitLeaf h = h
counter_within w place r Y.PointerLeaf h = h
counter_within w place r (Y.OffsetLeaf area) h = h
counter_within w place r (Y.AreaLeaf n) h = h

-- what stands before the body, within words for the counter, the start, and what limit, step and condition take
abbrev pub TurnsWithin : (words : ℕ) → Turns → Type 0
TurnsWithin n (OneTurn r s b) = assignment_size r s + (condition_size b + 5) ≤ n
TurnsWithin n (CountedTurns counter start limit step b) =
    turns_size counter start limit step b ≤ n + counter_beside counter

abbrev ScalarWithin : (words : ℕ) → Scalar → Type 0
ScalarWithin w v = reference_size v.reference + 16 ≤ w

counted_within : (w x l m n : ℕ) (place : Place) (v : Scalar) (start : Operand) (limit step : Option Y.Number)
    (b : Option Y.Bit) → ScalarWithin w v → OperandShort x start
    → ((counter : ℕ) → limit_size counter limit ≤ l + (counter - 12)) → number_size (step_or_one step) ≤ m + 2
    → condition_size b ≤ n
    → TurnsWithin (w + (x + (l + (m + (n + 414)))))
    (CountedTurns (counter_of place v.reference v.type).value (computational_operand start).value limit
    (step_or_one step) b)
counted_within w x l m n place v start limit step b h k last by met =
    let from = computed_within x start.place (operand_value start).value (operand_short x start k) in
    let counter = counter_within w place v.reference v.type h in
    let to = last (counter_size (counter_of place v.reference v.type).value) in
    omega (arith, from, counter, to, by, met)

turns_of_within : (w x l m n : ℕ) (place : Place) (v : Scalar) (start : Operand) (limit step : Option Y.Number)
    (b : Option Y.Bit) → ScalarWithin w v → OperandShort x start
    → ((counter : ℕ) → limit_size counter limit ≤ l + (counter - 12)) → number_size (step_or_one step) ≤ m + 2
    → condition_size b ≤ n
    → TurnsWithin (w + (x + (l + (m + (n + 414))))) (turns_of place v start limit step b).value
turns_of_within w x l m n place v start None None b h k last by met =
    let stored = operand_stored_short x v.type start k in
    let put = put_most (operand_stored v.type start).value in
    omega (arith, stored, put, h, met)
turns_of_within w x l m n place v start None (Some y) b h k last by met =
    counted_within w x l m n place v start None (Some y) b h k last by met
turns_of_within w x l m n place v start (Some y) step b h k last by met =
    counted_within w x l m n place v start (Some y) step b h k last by met

turns_with_within : (w x l m n : ℕ) (place : Place) (v : Option Scalar) (start : Operand)
    (limit step : Option Y.Number) (b : Option Y.Bit) → HoldsIf (ScalarWithin w) v → OperandShort x start
    → ((counter : ℕ) → limit_size counter limit ≤ l + (counter - 12)) → number_size (step_or_one step) ≤ m + 2
    → condition_size b ≤ n
    → TurnsWithin (w + (x + (l + (m + (n + 414))))) (turns_with place v start limit step b).value
turns_with_within w x l m n place None start limit step b h k last by met = omega arith
turns_with_within w x l m n place (Some v) start limit step b h k last by met =
    turns_of_within w x l m n place v start limit step b h k last by met

scalar_if_within : (w : ℕ) (place : Place) (r : Y.Reference) (t : Option Y.LeafType) → reference_size r + 16 ≤ w
    → HoldsIf (ScalarWithin w) (scalar_if place r t).value
scalar_if_within w place r None h = tt
scalar_if_within w place r (Some (Y.AreaLeaf n)) h = tt
scalar_if_within w place r (Some (Y.FixedLeaf p)) h = h
scalar_if_within w place r (Some (Y.CharacterLeaf n)) h = h
scalar_if_within w place r (Some (Y.VaryingLeaf n)) h = h
scalar_if_within w place r (Some Y.BitLeaf) h = h
scalar_if_within w place r (Some Y.PointerLeaf) h = h
scalar_if_within w place r (Some (Y.OffsetLeaf area)) h = h

scalar_within : (w : ℕ) (place : Place) (r : Referent) → Short w r
    → HoldsIf (ScalarWithin w) (scalar_referent place r).value
scalar_within w place (Designates d) h = scalar_if_within w place d.reference (scalar_type d) h
scalar_within w place (Gives v) h = tt
scalar_within w place GivesUnknown h = tt
scalar_within w place GivesEmptyArea h = tt
scalar_within w place GivesNothing h = tt
scalar_within w place NotKnown h = tt

more_within : (m n : ℕ) → m ≤ n → (t : Turns) → TurnsWithin m t → TurnsWithin n t
more_within m n l (OneTurn r s b) h = omega (arith, l, h)
more_within m n l (CountedTurns counter start limit step b) h = omega (arith, l, h)

pub turns_within : (scope : Scope) (c : T.Counting)
    → TurnsWithin (104 * (4 + counting_tokens c)) (turns scope c).value
turns_within scope c =
    let o = (referred scope c.variable).value in
    let w = most_words (reference_tokens c.variable) in
    let x = most_words (expr_tokens c.start) in
    let l = 104 * tokens_if (λ e. 1 + expr_tokens e) c.limit in
    let m = 104 * tokens_if (λ e. 1 + expr_tokens e) c.step in
    let n = 104 * tokens_if (λ e. 3 + expr_tokens e) c.condition in
    more_within (w + (x + (l + (m + (n + 414))))) (104 * (4 + counting_tokens c)) (omega arith) (turns scope c).value
    (turns_with_within w x l m n o.place (scalar_operand o).value (operand scope c.start).value
    (judged_if (number_at scope) c.limit).value (judged_if (number_at scope) c.step).value
    (judged_if (condition scope) c.condition).value
    (scalar_within w o.place o.referent (references_short scope c.variable)) (spelled_operand scope c.start)
    (λ counter. limit_within counter scope c.limit) (step_within scope c.step) (met_within scope c.condition))
