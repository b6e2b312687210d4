-- What a statement that holds none takes: no more words than its heaviest expression, and eight.
use Rattle.std.proofs.Common.{◌≡◌, ℕ, suc, ◌+◌, ◌*◌, ◌≤◌, max, Bool, true, false, List, [], ◌∷◌, Option, Some, None}
use Rattle.std.proofs.Common.{if◌then◌else◌, refl, arith}
use Rattle.std.specs.Prelude.{is_some, length}
use Rattle.pli_language.specs.declared.expr.Place.{Place}
use Rattle.pli_language.specs.declared.scope.Found.{Found}
use Rattle.pli_language.specs.declared.scope.Found.TheVariants as F
use Rattle.pli_language.specs.declared.fault.SourceKind.TheVariants.{Undeclared, TypeMismatch}
use Rattle.pli_language.specs.Tree as T
use Rattle.pli_language.specs.Declarations.{Block, What, Variable', Label, ProcedureName}
use Rattle.pli_language.specs.Declaring.{is_builtin}
use Rattle.pli_typing.specs.TypedTree as Y
use Rattle.pli_typing.specs.Judging.{Scope, Mention, MentionsFunction, MentionsVariable, fine, broken}
use Rattle.pli_typing.specs.Variables.{what_at, name_means}
use Rattle.pli_typing.specs.Calls.{result_type}
use Rattle.pli_typing.specs.Converting.{Designated, Referent, Designates, Gives, GivesUnknown, GivesEmptyArea}
use Rattle.pli_typing.specs.Converting.{GivesNothing, NotKnown, Operand, is_area, is_aggregate, element_type}
use Rattle.pli_typing.specs.Converting.{scalar_type, variable_of, operand_value}
use Rattle.pli_typing.specs.Assigning.{leaves_match, assigned_scalar, assigned_area, assigned_elements}
use Rattle.pli_typing.specs.Assigning.{assigned_each, assigned_matching, assigned_aggregate, assigned_to}
use Rattle.pli_typing.specs.Assigning.{assigned_referent, nothing_done, computational, computational_operand}
use Rattle.pli_typing.specs.Assigning.{Scalar, scalar_if, scalar_referent, scalar_operand, counter_of}
use Rattle.pli_typing.specs.Generations.{judged_if}
use Rattle.pli_typing.specs.References.{listed, expression, reference, arguments, operand}
use Rattle.pli_typing.specs.References.{referred}
use Rattle.pli_typing.specs.SingleStatements.{Context, Turns, OneTurn, CountedTurns, jump, jump_found}
use Rattle.pli_typing.specs.SingleStatements.{goto_statement, not_called, called_procedure, called_what}
use Rattle.pli_typing.specs.SingleStatements.{called_found, call_statement, returned, not_returned, return_statement}
use Rattle.pli_typing.specs.SingleStatements.{result_around, condition, number_at, step_or_one, turns_of, turns_with}
use Rattle.pli_typing.specs.SingleStatements.{turns, assign_statement}
use Rattle.temporary_bounds.specs.WordBounds.{stmt_words, number_words, bit_words, reference_words}
use Rattle.temporary_bounds.specs.WordBounds as W
use Rattle.pli_frames.specs.Blocks.{blocks_in}
use Rattle.well_formed_trees.specs.Spelled.{RangedIf}
use Rattle.well_formed_trees.proofs.Lists.{HoldsIf}
use Rattle.small_frames.specs.Weights.{weight, reference_weight, argument_count, heaviest_in}
use Rattle.small_frames.specs.Within.{ValueWithin, Within, IsCounted, AreCounted}
use Rattle.small_frames.proofs.ValuesWithin.{within_more, OperandWithin, operand_within, own_bit_operand_within}
use Rattle.small_frames.proofs.ValuesWithin.{number_operand_within, operand_stored_within, stored_within}
use Rattle.small_frames.proofs.BuiltinsWithin.{AllWithin}
use Rattle.small_frames.proofs.ExpressionsWithin.{call_within, weight_least}
use Rattle.small_frames.proofs.ExpressionsWithin.{reference_least, expressions_within, references_within}
use Rattle.small_frames.proofs.ExpressionsWithin.{arguments_are_within, arguments_same}

-- ---- operands, which may call functions

counted : (m : Mention) → IsCounted 6 m
counted MentionsFunction = omega arith
counted (MentionsVariable v) = tt

pub all_counted : (ms : List Mention) → AreCounted 6 ms
all_counted [] = tt
all_counted (m ∷ ms) = (counted m, all_counted ms)

pub operand_light : (w : ℕ) (scope : Scope) (e : T.Expr) → weight 6 e ≤ w → OperandWithin w (operand scope e).value
operand_light w scope e h =
    let least = weight_least 6 e in (
      omega (arith, least, h),
      within_more (weight 6 e) w h (expression scope e).value
          (expressions_within 6 (omega arith) scope e (all_counted (expression scope e).mentions)),
    )

pub referred_light : (w : ℕ) (scope : Scope) (r : T.Reference) → reference_weight 6 r ≤ w
    → OperandWithin w (referred scope r).value
referred_light w scope r h =
    let least = reference_least 6 r in (
      omega (arith, least, h),
      within_more (reference_weight 6 r) w h (reference scope r).value
          (references_within 6 (omega arith) scope r (all_counted (reference scope r).mentions)),
    )

-- ---- statements without blocks

-- eight words stand beside an expression: a record of an aggregate, with what is found or saved behind it
abbrev pub SingleWithin : (words : ℕ) → Y.Stmt → Type 0
SingleWithin w s = (stmt_words s ≤ w + 8) × (blocks_in s ≡ [])

nothing_within : (w : ℕ) (place : Place) → SingleWithin w (nothing_done place)
nothing_within w place = (omega arith, refl)

-- ---- assignments

elements_within : (w : ℕ) (place : Place) (r : Y.Reference) (t : Option Y.LeafType) (source_place : Place)
    (v : Option Y.Value) → 5 ≤ w → reference_words r ≤ w → HoldsIf (ValueWithin w) v
    → SingleWithin w (assigned_elements place r t source_place v).value
elements_within w place r t source_place None s h k = nothing_within w place
elements_within w place r None source_place (Some v) s h k = nothing_within w place
elements_within w place r (Some t) source_place (Some v) s h k =
    let stored = stored_within w s t source_place (Some v) k in
    (omega (arith, h, stored), refl)

each_within : (w : ℕ) (place : Place) (d : Designated) (source : Operand) → reference_words d.reference ≤ w
    → OperandWithin w source → SingleWithin w (assigned_each place d source).value
each_within w place d source h k =
    elements_within w place d.reference (element_type d) source.place (operand_value source).value k.0 h
    (operand_within w source k)

matching_within : (w : ℕ) (place : Place) (d e : Designated) → reference_words d.reference ≤ w
    → reference_words e.reference ≤ w → SingleWithin w (assigned_matching place d e).value
matching_within w place d e h k = by (leaves_match d.leaves e.leaves) where
  by : (b : Bool) → SingleWithin w (if b then fine (Y.AssignAggregate d.reference e.reference place.line)
      else broken place TypeMismatch (nothing_done place)).value
  by true = (omega (arith, h, k), refl)
  by false = nothing_within w place

aggregate_within : (w : ℕ) (place : Place) (d : Designated) (source : Operand) (r : Referent)
    → reference_words d.reference ≤ w → OperandWithin w source → Within w r
    → SingleWithin w (assigned_aggregate place d source r).value
aggregate_within w place d source (Designates e) h k l = by (is_aggregate e) where
  by : (b : Bool)
      → SingleWithin w (if b then assigned_matching place d e else assigned_each place d source).value
  by true = matching_within w place d e h l
  by false = each_within w place d source h k
aggregate_within w place d source (Gives v) h k l = each_within w place d source h k
aggregate_within w place d source GivesUnknown h k l = each_within w place d source h k
aggregate_within w place d source GivesEmptyArea h k l = each_within w place d source h k
aggregate_within w place d source GivesNothing h k l = each_within w place d source h k
aggregate_within w place d source NotKnown h k l = each_within w place d source h k

area_within : (w : ℕ) (place : Place) (v : Y.Variable) (source_place : Place) (r : Referent)
    → SingleWithin w (assigned_area place v source_place r).value
area_within w place v source_place (Designates d) = by (is_area d) where
  by : (b : Bool) → SingleWithin w (if b then fine (Y.AssignArea v (variable_of d.reference) place.line)
      else broken source_place TypeMismatch (nothing_done place)).value
  by true = (omega arith, refl)
  by false = nothing_within w place
area_within w place v source_place (Gives x) = nothing_within w place
area_within w place v source_place GivesUnknown = nothing_within w place
area_within w place v source_place GivesEmptyArea = (omega arith, refl)
area_within w place v source_place GivesNothing = nothing_within w place
area_within w place v source_place NotKnown = nothing_within w place

value_within : (w : ℕ) (place : Place) (r : Y.Reference) (t : Y.LeafType) (source : Operand) → reference_words r ≤ w
    → OperandWithin w source → SingleWithin w (assigned_scalar place r t source).value
value_within w place r t source h k =
    let stored = operand_stored_within w t source k in
    (omega (arith, h, stored), refl)

assigned_within : (w : ℕ) (place : Place) (d : Designated) (t : Option Y.LeafType) (source : Operand)
    → reference_words d.reference ≤ w → OperandWithin w source
    → SingleWithin w (assigned_to place d t source).value
assigned_within w place d None source h k = aggregate_within w place d source source.referent h k k.1
assigned_within w place d (Some (Y.AreaLeaf n)) source h k =
    area_within w place (variable_of d.reference) source.place source.referent
assigned_within w place d (Some (Y.FixedLeaf p)) source h k =
    value_within w place d.reference (Y.FixedLeaf p) source h k
assigned_within w place d (Some (Y.CharacterLeaf n)) source h k =
    value_within w place d.reference (Y.CharacterLeaf n) source h k
assigned_within w place d (Some (Y.VaryingLeaf n)) source h k =
    value_within w place d.reference (Y.VaryingLeaf n) source h k
assigned_within w place d (Some Y.BitLeaf) source h k = value_within w place d.reference Y.BitLeaf source h k
assigned_within w place d (Some Y.PointerLeaf) source h k = value_within w place d.reference Y.PointerLeaf source h k
assigned_within w place d (Some (Y.OffsetLeaf area)) source h k =
    value_within w place d.reference (Y.OffsetLeaf area) source h k

target_within : (w : ℕ) (place target_place : Place) (r : Referent) (source : Operand) → Within w r
    → OperandWithin w source → SingleWithin w (assigned_referent place target_place r source).value
target_within w place target_place (Designates d) source h k =
    assigned_within w place d (scalar_type d) source h k
target_within w place target_place (Gives v) source h k = nothing_within w place
target_within w place target_place GivesUnknown source h k = nothing_within w place
target_within w place target_place GivesEmptyArea source h k = nothing_within w place
target_within w place target_place GivesNothing source h k = nothing_within w place
target_within w place target_place NotKnown source h k = nothing_within w place

pub assign_within : (w : ℕ) (scope : Scope) (target : T.Reference) (source : T.Expr) (place : Place)
    → reference_weight 6 target ≤ w → weight 6 source ≤ w
    → SingleWithin w (assign_statement scope target source place).value
assign_within w scope target source place h k =
    let t = (referred scope target).value in
    target_within w place t.place t.referent (operand scope source).value (referred_light w scope target h).1
    (operand_light w scope source k)

-- ---- CALL, RETURN and GOTO

called_within : (w : ℕ) (blocks : List Block) (b : ℕ) (o : Option What) (name : T.Name) (place : Place)
    (os : List Operand) (x : ℕ) → AllWithin x os → 6 * length os + x ≤ w
    → SingleWithin w (called_what blocks b o name place os).value
called_within w blocks b None name place os x h r = (omega arith, refl)
called_within w blocks b (Some Label) name place os x h r = (omega arith, refl)
called_within w blocks b (Some (Variable' v)) name place os x h r = (omega arith, refl)
called_within w blocks b (Some (ProcedureName head)) name place os x h r =
    by (is_some (result_type blocks b head)) where
      by : (s : Bool) → SingleWithin w
          (if s then not_called place else called_procedure blocks b head name place os).value
      by true = (omega arith, refl)
      by false =
          let words = call_within 6 x (omega arith) blocks b head name.place os h in
          (omega (arith, words, r), refl)

call_found_within : (w : ℕ) (blocks : List Block) (f : Found) (name : T.Name) (place : Place) (os : List Operand)
    (x : ℕ) → AllWithin x os → 6 * length os + x ≤ w → SingleWithin w (called_found blocks f name place os).value
call_found_within w blocks (F.One at) name place os x h r =
    called_within w blocks at.block (what_at blocks at) name place os x h r
call_found_within w blocks F.None name place os x h r = by (is_builtin name.word) where
  by : (b : Bool) → SingleWithin w
      (if b then not_called place else broken name.place Undeclared (Y.Null place.line)).value
  by true = (omega arith, refl)
  by false = (omega arith, refl)
call_found_within w blocks F.Ambiguous name place os x h r = (omega arith, refl)

pub call_light : (w : ℕ) (scope : Scope) (name : T.Name) (a : T.Arguments) (place : Place)
    → 6 * argument_count a + heaviest_in 6 a ≤ w → SingleWithin w (call_statement scope name a place).value
call_light w scope name a place h =
    let os = listed (arguments scope a).value in
    let count = arguments_same scope a in
    call_found_within w scope.blocks (name_means scope.blocks scope.block name) name place os (heaviest_in 6 a)
    (arguments_are_within 6 (omega arith) scope a (all_counted (arguments scope a).mentions)) (omega (arith, count, h))

return_without : (w : ℕ) (place : Place) (t : Option Y.LeafType) → SingleWithin w (not_returned place t).value
return_without w place None = (omega arith, refl)
return_without w place (Some t) = (omega arith, refl)

return_with : (w : ℕ) (place : Place) (t : Option Y.LeafType) (o : Operand) → OperandWithin w o
    → SingleWithin w (returned place t o).value
return_with w place None o h = (omega arith, refl)
return_with w place (Some t) o h = let stored = operand_stored_within w t o h in (omega (arith, stored), refl)

pub return_light : (w : ℕ) (c : Context) (e : Option T.Expr) (place : Place) → RangedIf (λ e. weight 6 e ≤ w) e
    → SingleWithin w (return_statement c e place).value
return_light w c None place h = return_without w place (result_around c.scope.blocks c.around)
return_light w c (Some e) place h =
    return_with w place (result_around c.scope.blocks c.around) (operand c.scope e).value (operand_light w c.scope e h)

jump_within : (w : ℕ) (c : Context) (name : T.Name) (place : Place) (block : ℕ) (b : Bool)
    → SingleWithin w (jump c name place block b).value
jump_within w c name place block true = (omega arith, refl)
jump_within w c name place block false = (omega arith, refl)

jump_found_within : (w : ℕ) (c : Context) (name : T.Name) (place : Place) (f : Found)
    → SingleWithin w (jump_found c name place f).value
jump_found_within w c name place (F.One at) = jump_within w c name place at.block _
jump_found_within w c name place F.None = jump_within w c name place 0 false
jump_found_within w c name place F.Ambiguous = (omega arith, refl)

pub goto_within : (w : ℕ) (c : Context) (label : T.Name) (place : Place)
    → SingleWithin w (goto_statement c label place).value
goto_within w c label place = jump_found_within w c label place (name_means c.scope.blocks c.scope.block label)

-- ---- conditions, and what DO says

pub condition_light : (w : ℕ) (scope : Scope) (e : T.Expr) → weight 6 e ≤ w
    → bit_words (condition scope e).value ≤ w
condition_light w scope e h = own_bit_operand_within w (operand scope e).value (operand_light w scope e h)

abbrev pub TurnsWithin : (words : ℕ) → Turns → Type 0
TurnsWithin w (OneTurn r s b) = (W.assigned_words r s ≤ w + 4) × (W.bit_if b ≤ w)
TurnsWithin w (CountedTurns counter start limit step b) =
    (max (W.value_words start) (max (W.number_if limit) (number_words step)) ≤ w)
    × ((W.counter_words counter ≤ suc w) × (W.bit_if b ≤ w))

number_light : (w : ℕ) (scope : Scope) (e : T.Expr) → weight 6 e ≤ w → number_words (number_at scope e).value ≤ w
number_light w scope e h = number_operand_within w (operand scope e).value (operand_light w scope e h)

number_if_light : (w : ℕ) (scope : Scope) (e : Option T.Expr) → RangedIf (λ e. weight 6 e ≤ w) e
    → W.number_if (judged_if (number_at scope) e).value ≤ w
number_if_light w scope None h = omega arith
number_if_light w scope (Some e) h = number_light w scope e h

bit_if_light : (w : ℕ) (scope : Scope) (e : Option T.Expr) → RangedIf (λ e. weight 6 e ≤ w) e
    → W.bit_if (judged_if (condition scope) e).value ≤ w
bit_if_light w scope None h = omega arith
bit_if_light w scope (Some e) h = condition_light w scope e h

step_within : (w : ℕ) (n : Option Y.Number) → W.number_if n ≤ w → number_words (step_or_one n) ≤ w
step_within w None h = omega arith
step_within w (Some n) h = h

pub computed_within : (w : ℕ) → 5 ≤ w → (place : Place) (v : Option Y.Value) → HoldsIf (ValueWithin w) v
    → W.value_words (computational place v).value ≤ w
computed_within w s place (Some (Y.NumberValue p n)) h = omega (arith, s, h)
computed_within w s place (Some (Y.TextValue t)) h = h
computed_within w s place (Some (Y.BitValue b)) h = omega (arith, s, h)
computed_within w s place (Some (Y.PointerValue p)) h = omega arith
computed_within w s place (Some (Y.OffsetValue area o)) h = omega arith
computed_within w s place (Some Y.NullValue) h = omega arith
computed_within w s place None h = omega arith

counter_within : (w : ℕ) (place : Place) (r : Y.Reference) (t : Y.LeafType) → reference_words r ≤ w
    → W.counter_words (counter_of place r t).value ≤ suc w
counter_within w place r (Y.FixedLeaf p) h = omega (arith, h)
counter_within w place r (Y.CharacterLeaf n) h = omega (arith, h)
counter_within w place r (Y.VaryingLeaf n) h = omega (arith, h)
counter_within w place r Y.BitLeaf h = omega (arith, h)
counter_within w place r Y.PointerLeaf h = omega (arith, h)
counter_within w place r (Y.OffsetLeaf area) h = omega (arith, h)
counter_within w place r (Y.AreaLeaf n) h = omega (arith, h)

abbrev ScalarWithin : (words : ℕ) → Scalar → Type 0
ScalarWithin w v = reference_words v.reference ≤ w

counted_within : (w : ℕ) (place : Place) (v : Scalar) (start : Operand) (limit step : Option Y.Number)
    (b : Option Y.Bit) → ScalarWithin w v → OperandWithin w start → W.number_if limit ≤ w → W.number_if step ≤ w
    → W.bit_if b ≤ w
    → TurnsWithin w
    (CountedTurns (counter_of place v.reference v.type).value (computational_operand start).value limit
    (step_or_one step) b)
counted_within w place v start limit step b h k l m n =
    let from = computed_within w k.0 start.place (operand_value start).value (operand_within w start k) in
    let by = step_within w step m in
    (omega (arith, from, l, by), (counter_within w place v.reference v.type h, n))

turns_of_within : (w : ℕ) (place : Place) (v : Scalar) (start : Operand) (limit step : Option Y.Number)
    (b : Option Y.Bit) → ScalarWithin w v → OperandWithin w start → W.number_if limit ≤ w → W.number_if step ≤ w
    → W.bit_if b ≤ w → TurnsWithin w (turns_of place v start limit step b).value
turns_of_within w place v start None None b h k l m n =
    let stored = operand_stored_within w v.type start k in
    (omega (arith, stored, h), n)
turns_of_within w place v start None (Some x) b h k l m n = counted_within w place v start None (Some x) b h k l m n
turns_of_within w place v start (Some x) step b h k l m n = counted_within w place v start (Some x) step b h k l m n

turns_with_within : (w : ℕ) (place : Place) (v : Option Scalar) (start : Operand) (limit step : Option Y.Number)
    (b : Option Y.Bit) → HoldsIf (ScalarWithin w) v → OperandWithin w start → W.number_if limit ≤ w
    → W.number_if step ≤ w → W.bit_if b ≤ w → TurnsWithin w (turns_with place v start limit step b).value
turns_with_within w place None start limit step b h k l m n = (omega arith, omega arith)
turns_with_within w place (Some v) start limit step b h k l m n = turns_of_within w place v start limit step b h k l m n

scalar_if_within : (w : ℕ) (place : Place) (r : Y.Reference) (t : Option Y.LeafType) → reference_words r ≤ w
    → HoldsIf (ScalarWithin w) (scalar_if place r t).value
scalar_if_within w place r None h = tt
scalar_if_within w place r (Some (Y.AreaLeaf n)) h = tt
scalar_if_within w place r (Some (Y.FixedLeaf p)) h = h
scalar_if_within w place r (Some (Y.CharacterLeaf n)) h = h
scalar_if_within w place r (Some (Y.VaryingLeaf n)) h = h
scalar_if_within w place r (Some Y.BitLeaf) h = h
scalar_if_within w place r (Some Y.PointerLeaf) h = h
scalar_if_within w place r (Some (Y.OffsetLeaf area)) h = h

scalar_within : (w : ℕ) (place : Place) (r : Referent) → Within w r
    → HoldsIf (ScalarWithin w) (scalar_referent place r).value
scalar_within w place (Designates d) h = scalar_if_within w place d.reference (scalar_type d) h
scalar_within w place (Gives v) h = tt
scalar_within w place GivesUnknown h = tt
scalar_within w place GivesEmptyArea h = tt
scalar_within w place GivesNothing h = tt
scalar_within w place NotKnown h = tt

pub turns_light : (w : ℕ) (scope : Scope) (c : T.Counting) → reference_weight 6 c.variable ≤ w → weight 6 c.start ≤ w
    → RangedIf (λ e. weight 6 e ≤ w) c.limit → RangedIf (λ e. weight 6 e ≤ w) c.step
    → RangedIf (λ e. weight 6 e ≤ w) c.condition → TurnsWithin w (turns scope c).value
turns_light w scope c h k l m n =
    let o = (referred scope c.variable).value in
    turns_with_within w o.place (scalar_operand o).value (operand scope c.start).value
    (judged_if (number_at scope) c.limit).value (judged_if (number_at scope) c.step).value
    (judged_if (condition scope) c.condition).value
    (scalar_within w o.place o.referent (referred_light w scope c.variable h).1) (operand_light w scope c.start k)
    (number_if_light w scope c.limit l) (number_if_light w scope c.step m) (bit_if_light w scope c.condition n)
