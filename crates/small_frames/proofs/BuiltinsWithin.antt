-- What a built-in function gives takes no more words than its arguments, and what waits beside them.
use Rattle.std.proofs.Common.{ℕ, suc, ◌+◌, ◌≤◌, max, Bool, true, false, not, ◌&&◌, List, [], ◌∷◌, Option, Some, None}
use Rattle.std.proofs.Common.{if◌then◌else◌, ℤ, arith}
use Rattle.pli_language.specs.declared.expr.Place.{Place}
use Rattle.pli_language.specs.declared.token.Word.{Word}
use Rattle.pli_language.specs.declared.token.Word.TheVariants as W
use Rattle.pli_language.specs.Declaring.{most_dimensions}
use Rattle.pli_typing.specs.TypedTree as Y
use Rattle.pli_typing.specs.Judging.{fine}
use Rattle.pli_typing.specs.Converting.{Referent, Designates, Gives, GivesUnknown, GivesEmptyArea, GivesNothing}
use Rattle.pli_typing.specs.Converting.{NotKnown, Operand, operator_digits, is_area, variable_of, no_reference}
use Rattle.pli_typing.specs.Converting.{operand_value}
use Rattle.pli_typing.specs.Builtins.{bad_number, of_number, of_numbers, number_list, of_many, of_text, of_texts}
use Rattle.pli_typing.specs.Builtins.{substring, constant_within, is_zero, divided, quotient, dimension_of, of_array}
use Rattle.pli_typing.specs.Builtins.{of_dimension, is_controlled, allocations_of, of_controlled, has_name}
use Rattle.pli_typing.specs.Builtins.{bad_pointer, address_of, address, own_offset, pointer_into, offset_into}
use Rattle.pli_typing.specs.Builtins.{without_arguments, builtin_called}
use Rattle.well_formed_trees.specs.Every.{Every}
use Rattle.well_formed_trees.proofs.Lists.{HoldsIf}
use Rattle.small_frames.specs.Within.{ValueWithin, Within}
use Rattle.small_frames.proofs.ValuesWithin.{OperandWithin, operand_within, wanted_within, number_operand_within}
use Rattle.small_frames.proofs.ValuesWithin.{text_operand_within, pointer_operand_within}
use Rattle.temporary_bounds.specs.WordBounds.{number_words, numbers_words, text_words, pointer_words, offset_words}
use Rattle.temporary_bounds.specs.WordBounds.{reference_words}

abbrev pub AllWithin : (words : ℕ) → List Operand → Type 0
AllWithin w os = Every (OperandWithin w) os

-- ---- numbers and texts

none_more : (w : ℕ) → 0 ≤ 5 + w
none_more w = omega arith

pub numbers_most : (w : ℕ) (os : List Operand) → AllWithin w os → numbers_words (number_list os).value ≤ w
numbers_most w [] h = omega arith
numbers_most w (o ∷ os) h =
    let one = number_operand_within w o h.0 in
    let more = numbers_most w os h.1 in
    omega (arith, one, more)

one_within : (w : ℕ) (place : Place) (build : Y.Number → Y.Number)
    → ((n : Y.Number) → number_words n ≤ w → number_words (build n) ≤ 5 + w) → (os : List Operand) → AllWithin w os
    → number_words (of_number place build os).value ≤ 5 + w
one_within w place build k [] h = none_more w
one_within w place build k (x ∷ []) h = k _ (number_operand_within w x h.0)
one_within w place build k (x ∷ y ∷ more) h = none_more w

signed_within : (w n : ℕ) → n ≤ w → max 1 n ≤ 5 + w
signed_within w n h = omega (arith, h)

same_within : (w n : ℕ) → n ≤ w → n ≤ 5 + w
same_within w n h = omega (arith, h)

waiting_within : (w n m : ℕ) → n ≤ w → m ≤ w → max n (suc m) ≤ 5 + w
waiting_within w n m h k = omega (arith, h, k)

either_within : (w n m : ℕ) → n ≤ w → m ≤ w → max n m ≤ 5 + w
either_within w n m h k = omega (arith, h, k)

three_within : (w s n m : ℕ) → s ≤ w → n ≤ w → m ≤ w → max s (max n (suc m)) ≤ 5 + w
three_within w s n m h k l = omega (arith, h, k, l)

name_within : (w n : ℕ) → n ≤ w → max 4 n ≤ 5 + w
name_within w n h = omega (arith, h)

least_name : (w : ℕ) → 4 ≤ 5 + w
least_name w = omega arith

two_within : (w : ℕ) (place : Place) (build : Y.Number → Y.Number → Y.Number)
    → ((n m : Y.Number) → number_words n ≤ w → number_words m ≤ w → number_words (build n m) ≤ 5 + w)
    → (os : List Operand) → AllWithin w os → number_words (of_numbers place build os).value ≤ 5 + w
two_within w place build k [] h = none_more w
two_within w place build k (x ∷ []) h = none_more w
two_within w place build k (x ∷ y ∷ []) h =
    k _ _ (number_operand_within w x h.0) (number_operand_within w y h.1.0)
two_within w place build k (x ∷ y ∷ z ∷ more) h = none_more w

many_within : (w : ℕ) (place : Place) (which : Y.Extremum) (os : List Operand) → AllWithin w os
    → number_words (of_many place which os).value ≤ 5 + w
many_within w place which [] h = none_more w
many_within w place which (x ∷ []) h = none_more w
many_within w place which (x ∷ y ∷ more) h =
    waiting_within w _ _ (number_operand_within w x h.0) (numbers_most w (y ∷ more) h.1)

length_within : (w : ℕ) (place : Place) (os : List Operand) → AllWithin w os
    → number_words (of_text place os).value ≤ 5 + w
length_within w place [] h = none_more w
length_within w place (x ∷ []) h = same_within w _ (text_operand_within w x h.0)
length_within w place (x ∷ y ∷ more) h = none_more w

texts_within : (w : ℕ) (place : Place) (build : Y.Text → Y.Text → Y.Number)
    → ((s t : Y.Text) → text_words s ≤ w → text_words t ≤ w → number_words (build s t) ≤ 5 + w) → (os : List Operand)
    → AllWithin w os → number_words (of_texts place build os).value ≤ 5 + w
texts_within w place build k [] h = none_more w
texts_within w place build k (x ∷ []) h = none_more w
texts_within w place build k (x ∷ y ∷ []) h = k _ _ (text_operand_within w x h.0) (text_operand_within w y h.1.0)
texts_within w place build k (x ∷ y ∷ z ∷ more) h = none_more w

substring_within : (w : ℕ) (place : Place) (os : List Operand) → AllWithin w os
    → text_words (substring place os).value ≤ 5 + w
substring_within w place [] h = none_more w
substring_within w place (s ∷ []) h = none_more w
substring_within w place (s ∷ x ∷ []) h =
    either_within w _ _ (text_operand_within w s h.0) (number_operand_within w x h.1.0)
substring_within w place (s ∷ x ∷ y ∷ []) h =
    three_within w _ _ _ (text_operand_within w s h.0) (number_operand_within w x h.1.0)
    (number_operand_within w y h.1.1.0)
substring_within w place (s ∷ x ∷ y ∷ z ∷ more) h = none_more w

divided_within : (w : ℕ) (place : Place) (p : Option ℕ) (x y : Operand) → OperandWithin w x → OperandWithin w y
    → number_words (divided place p x y).value ≤ 5 + w
divided_within w place None x y h k = none_more w
divided_within w place (Some p) x y h k =
    waiting_within w _ _ (number_operand_within w x h) (number_operand_within w y k)

quotient_within : (w : ℕ) (place : Place) (os : List Operand) → AllWithin w os
    → number_words (quotient place os).value ≤ 5 + w
quotient_within w place [] h = none_more w
quotient_within w place (x ∷ []) h = none_more w
quotient_within w place (x ∷ y ∷ []) h = none_more w
quotient_within w place (x ∷ y ∷ p ∷ []) h =
    divided_within w place (constant_within operator_digits p.constant) x y h.0 h.1.0
quotient_within w place (x ∷ y ∷ p ∷ q ∷ []) h = by (is_zero q.constant) where
  by : (z : Bool) → number_words
      (if z then divided place (constant_within operator_digits p.constant) x y else bad_number place).value ≤ 5 + w
  by true = divided_within w place (constant_within operator_digits p.constant) x y h.0 h.1.0
  by false = none_more w
quotient_within w place (x ∷ y ∷ p ∷ q ∷ r ∷ more) h = none_more w

-- ---- arguments that aren't evaluated

dimension_within : (w : ℕ) (place : Place) (build : Y.Reference → ℕ → Y.Number) (r : Y.Reference) (n : Option ℕ)
    → ((n : ℕ) → number_words (build r n) ≤ 5 + w) → number_words (dimension_of place build r n).value ≤ 5 + w
dimension_within w place build r None k = none_more w
dimension_within w place build r (Some n) k = k n

array_within : (w : ℕ) (place : Place) (build : Y.Reference → ℕ → Y.Number)
    → ((r : Y.Reference) (n : ℕ) → reference_words r ≤ w → number_words (build r n) ≤ 5 + w) → (r : Referent)
    (n : Option ℤ) → Within w r → number_words (of_array place build r n).value ≤ 5 + w
array_within w place build k (Designates d) n h =
    dimension_within w place build d.reference (constant_within d.dimensions n) (λ m. k d.reference m h)
array_within w place build k (Gives v) n h = none_more w
array_within w place build k GivesUnknown n h = none_more w
array_within w place build k GivesEmptyArea n h = none_more w
array_within w place build k GivesNothing n h = none_more w
array_within w place build k NotKnown n h =
    dimension_within w place (λ r m. Y.NumberConstant 0) no_reference (constant_within most_dimensions n)
    (λ m. none_more w)

dimensions_within : (w : ℕ) (place : Place) (build : Y.Reference → ℕ → Y.Number)
    → ((r : Y.Reference) (n : ℕ) → reference_words r ≤ w → number_words (build r n) ≤ 5 + w) → (os : List Operand)
    → AllWithin w os → number_words (of_dimension place build os).value ≤ 5 + w
dimensions_within w place build k [] h = none_more w
dimensions_within w place build k (x ∷ []) h = none_more w
dimensions_within w place build k (x ∷ y ∷ []) h = array_within w place build k x.referent y.constant h.0.1
dimensions_within w place build k (x ∷ y ∷ z ∷ more) h = none_more w

allocations_within : (w : ℕ) (place : Place) (r : Referent) → number_words (allocations_of place r).value ≤ 5 + w
allocations_within w place (Designates d) = by d.is_whole (is_controlled (variable_of d.reference).class) where
  by : (x y : Bool) → number_words
      (if x && y then fine (Y.AllocationsOf (variable_of d.reference)) else bad_number place).value ≤ 5 + w
  by true true = none_more w
  by true false = none_more w
  by false y = none_more w
allocations_within w place (Gives v) = none_more w
allocations_within w place GivesUnknown = none_more w
allocations_within w place GivesEmptyArea = none_more w
allocations_within w place GivesNothing = none_more w
allocations_within w place NotKnown = none_more w

controlled_within : (w : ℕ) (place : Place) (os : List Operand) → number_words (of_controlled place os).value ≤ 5 + w
controlled_within w place [] = none_more w
controlled_within w place (x ∷ []) = allocations_within w place x.referent
controlled_within w place (x ∷ y ∷ more) = none_more w

address_within : (w : ℕ) (place : Place) (r : Referent) → Within w r
    → pointer_words (address_of place r).value ≤ 5 + w
address_within w place (Designates d) h =
    by d.is_whole (has_name (variable_of d.reference).class) (is_area d) where
      by : (x y z : Bool) → pointer_words
          (if x && y && not z then fine (Y.AddressOf d.reference) else bad_pointer place).value ≤ 5 + w
      by true true false = name_within w _ h
      by true true true = least_name w
      by true false z = least_name w
      by false y z = least_name w
address_within w place (Gives v) h = least_name w
address_within w place GivesUnknown h = least_name w
address_within w place GivesEmptyArea h = least_name w
address_within w place GivesNothing h = least_name w
address_within w place NotKnown h = least_name w

addr_within : (w : ℕ) (place : Place) (os : List Operand) → AllWithin w os
    → pointer_words (address place os).value ≤ 5 + w
addr_within w place [] h = least_name w
addr_within w place (x ∷ []) h = address_within w place x.referent h.0.1
addr_within w place (x ∷ y ∷ more) h = least_name w

-- ---- locators

own_offset_within : (w : ℕ) (v : Y.Value) → ValueWithin w v → HoldsIf (λ o. offset_words o ≤ w) (own_offset v)
own_offset_within w (Y.OffsetValue area o) h = h
own_offset_within w Y.NullValue h = omega arith
own_offset_within w _ h = tt

into_within : (w : ℕ) (place : Place) (os : List Operand) → AllWithin w os
    → pointer_words (pointer_into place os).value ≤ 5 + w
into_within w place [] h = least_name w
into_within w place (o ∷ []) h = least_name w
into_within w place (o ∷ a ∷ []) h =
    name_within w _ (wanted_within w (λ o. offset_words o ≤ w) own_offset Y.NullOffset o.place (operand_value o).value
    (omega arith) (own_offset_within w) (operand_within w o h.0))
into_within w place (o ∷ a ∷ c ∷ more) h = least_name w

offset_into_within : (w : ℕ) (place : Place) (os : List Operand) → AllWithin w os
    → Within (5 + w) (offset_into place os).value
offset_into_within w place [] h = none_more w
offset_into_within w place (p ∷ []) h = none_more w
offset_into_within w place (p ∷ a ∷ []) h = same_within w _ (pointer_operand_within w p h.0)
offset_into_within w place (p ∷ a ∷ c ∷ more) h = none_more w

-- ---- all

plain_within : (w : ℕ) (place : Place) (r : Referent) (os : List Operand) → Within w r
    → Within w (without_arguments place r os).value
plain_within w place r [] h = h
plain_within w place r (x ∷ xs) h = h

pub builtin_within : (w : ℕ) (place : Place) (word : Word) (os : List Operand) → AllWithin w os
    → Within (5 + w) (builtin_called place word os).value
builtin_within w place W.Abs os h = one_within w place Y.Absolute (λ n k. signed_within w _ k) os h
builtin_within w place W.Sign os h = one_within w place Y.SignOf (λ n k. same_within w _ k) os h
builtin_within w place W.Max os h = many_within w place Y.Greatest os h
builtin_within w place W.Min os h = many_within w place Y.Least os h
builtin_within w place W.Mod os h = two_within w place Y.Modulo (λ n m k l. waiting_within w _ _ k l) os h
builtin_within w place W.Divide os h = quotient_within w place os h
builtin_within w place W.Length os h = length_within w place os h
builtin_within w place W.Substr os h = substring_within w place os h
builtin_within w place W.Index os h = texts_within w place Y.IndexOf (λ s t k l. either_within w _ _ k l) os h
builtin_within w place W.Verify os h = texts_within w place Y.VerifyOf (λ s t k l. either_within w _ _ k l) os h
builtin_within w place W.Lbound os h = dimensions_within w place Y.LowerBound (λ r n k. same_within w _ k) os h
builtin_within w place W.Hbound os h = dimensions_within w place Y.UpperBound (λ r n k. same_within w _ k) os h
builtin_within w place W.Dim os h = dimensions_within w place Y.ElementsOf (λ r n k. signed_within w _ k) os h
builtin_within w place W.Allocation os h = controlled_within w place os
builtin_within w place W.Addr os h = addr_within w place os h
builtin_within w place W.Null os h = plain_within (5 + w) place (Gives Y.NullValue) os tt
builtin_within w place W.Empty os h = plain_within (5 + w) place GivesEmptyArea os tt
builtin_within w place W.Pointer os h = into_within w place os h
builtin_within w place W.Offset os h = offset_into_within w place os h
builtin_within w place W.Oncode os h =
    plain_within (5 + w) place (Gives (Y.NumberValue operator_digits Y.OnCode)) os (none_more w)
builtin_within w place _ os h = tt
