-- What a built-in function gives is early where its arguments are.
use Rattle.std.proofs.Common.{ℕ, ◌≤◌, Bool, true, false, not, ◌&&◌, List, [], ◌∷◌, ◌++◌, Option, Some, None}
use Rattle.std.proofs.Common.{if◌then◌else◌, ℤ}
use Rattle.pli_language.specs.declared.expr.Place.{Place}
use Rattle.pli_language.specs.declared.token.Word.{Word}
use Rattle.pli_language.specs.declared.token.Word.TheVariants as W
use Rattle.pli_language.specs.Declaring.{most_dimensions}
use Rattle.pli_typing.specs.TypedTree as Y
use Rattle.pli_typing.specs.Judging.{fine}
use Rattle.pli_typing.specs.Converting.{Referent, Designates, Gives, GivesUnknown, GivesEmptyArea, GivesNothing}
use Rattle.pli_typing.specs.Converting.{NotKnown, Operand, operator_digits, is_area, variable_of, no_reference}
use Rattle.pli_typing.specs.Converting.{operand_value, pointer_operand, area_operand}
use Rattle.pli_typing.specs.Builtins.{bad_number, of_number, of_numbers, number_list, of_many, of_text, of_texts}
use Rattle.pli_typing.specs.Builtins.{substring, constant_within, is_zero, divided, quotient, dimension_of, of_array}
use Rattle.pli_typing.specs.Builtins.{of_dimension, is_controlled, allocations_of, of_controlled, has_name}
use Rattle.pli_typing.specs.Builtins.{bad_pointer, address_of, address, own_offset, pointer_into, offset_into}
use Rattle.pli_typing.specs.Builtins.{without_arguments, builtin_called}
use Rattle.well_formed_trees.specs.Every.{Every}
use Rattle.well_formed_trees.specs.EarlyNumbers.{Early, EarlyNumbers, EarlyText, EarlyPointer, EarlyOffset}
use Rattle.well_formed_trees.specs.EarlyNumbers.{EarlyReference}
use Rattle.well_formed_trees.proofs.Lists.{every_first, HoldsIf}
use Rattle.well_formed_trees.proofs.EarlyValues.{IsAllowed, AreAllowed, EarlyValue, EarlyReferent}
use Rattle.well_formed_trees.proofs.EarlyValues.{operand_early, wanted_early, number_operand_early}
use Rattle.well_formed_trees.proofs.EarlyValues.{text_operand_early, pointer_operand_early, area_operand_early}

abbrev pub AllEarly : (block index : ℕ) → List Operand → Type 0
AllEarly b i os = Every (λ o. EarlyReferent b i o.referent) os

-- ---- numbers and texts

pub numbers_early : (b i : ℕ) (os : List Operand) → AllEarly b i os → EarlyNumbers b i (number_list os).value
numbers_early b i [] h = tt
numbers_early b i (o ∷ os) h = (number_operand_early b i o h.0, numbers_early b i os h.1)

one_early : (b i : ℕ) (place : Place) (build : Y.Number → Y.Number)
    → ((n : Y.Number) → Early b i n → Early b i (build n)) → (os : List Operand) → AllEarly b i os
    → Early b i (of_number place build os).value
one_early b i place build k [] h = tt
one_early b i place build k (x ∷ []) h = k _ (number_operand_early b i x h.0)
one_early b i place build k (x ∷ y ∷ more) h = tt

two_early : (b i : ℕ) (place : Place) (build : Y.Number → Y.Number → Y.Number)
    → ((n m : Y.Number) → Early b i n → Early b i m → Early b i (build n m)) → (os : List Operand) → AllEarly b i os
    → Early b i (of_numbers place build os).value
two_early b i place build k [] h = tt
two_early b i place build k (x ∷ []) h = tt
two_early b i place build k (x ∷ y ∷ []) h =
    k _ _ (number_operand_early b i x h.0) (number_operand_early b i y h.1.0)
two_early b i place build k (x ∷ y ∷ z ∷ more) h = tt

many_early : (b i : ℕ) (place : Place) (which : Y.Extremum) (os : List Operand) → AllEarly b i os
    → Early b i (of_many place which os).value
many_early b i place which [] h = tt
many_early b i place which (x ∷ []) h = tt
many_early b i place which (x ∷ y ∷ more) h = (number_operand_early b i x h.0, numbers_early b i (y ∷ more) h.1)

length_early : (b i : ℕ) (place : Place) (os : List Operand) → AllEarly b i os → Early b i (of_text place os).value
length_early b i place [] h = tt
length_early b i place (x ∷ []) h = text_operand_early b i x h.0
length_early b i place (x ∷ y ∷ more) h = tt

texts_early : (b i : ℕ) (place : Place) (build : Y.Text → Y.Text → Y.Number)
    → ((s t : Y.Text) → EarlyText b i s → EarlyText b i t → Early b i (build s t)) → (os : List Operand)
    → AllEarly b i os → Early b i (of_texts place build os).value
texts_early b i place build k [] h = tt
texts_early b i place build k (x ∷ []) h = tt
texts_early b i place build k (x ∷ y ∷ []) h = k _ _ (text_operand_early b i x h.0) (text_operand_early b i y h.1.0)
texts_early b i place build k (x ∷ y ∷ z ∷ more) h = tt

substring_early : (b i : ℕ) (place : Place) (os : List Operand) → AllEarly b i os
    → EarlyText b i (substring place os).value
substring_early b i place [] h = tt
substring_early b i place (s ∷ []) h = tt
substring_early b i place (s ∷ x ∷ []) h = (text_operand_early b i s h.0, number_operand_early b i x h.1.0)
substring_early b i place (s ∷ x ∷ y ∷ []) h = (
  text_operand_early b i s h.0,
  (number_operand_early b i x h.1.0, number_operand_early b i y h.1.1.0),
)
substring_early b i place (s ∷ x ∷ y ∷ z ∷ more) h = tt

divided_early : (b i : ℕ) (place : Place) (p : Option ℕ) (x y : Operand) → EarlyReferent b i x.referent
    → EarlyReferent b i y.referent → Early b i (divided place p x y).value
divided_early b i place None x y h k = tt
divided_early b i place (Some p) x y h k = (number_operand_early b i x h, number_operand_early b i y k)

quotient_early : (b i : ℕ) (place : Place) (os : List Operand) → AllEarly b i os
    → Early b i (quotient place os).value
quotient_early b i place [] h = tt
quotient_early b i place (x ∷ []) h = tt
quotient_early b i place (x ∷ y ∷ []) h = tt
quotient_early b i place (x ∷ y ∷ p ∷ []) h =
    divided_early b i place (constant_within operator_digits p.constant) x y h.0 h.1.0
quotient_early b i place (x ∷ y ∷ p ∷ q ∷ []) h = by (is_zero q.constant) where
  by : (z : Bool) → Early b i
      (if z then divided place (constant_within operator_digits p.constant) x y else bad_number place).value
  by true = divided_early b i place (constant_within operator_digits p.constant) x y h.0 h.1.0
  by false = tt
quotient_early b i place (x ∷ y ∷ p ∷ q ∷ r ∷ more) h = tt

-- ---- arguments that aren't evaluated

dimension_early : (b i : ℕ) (place : Place) (build : Y.Reference → ℕ → Y.Number) (r : Y.Reference) (n : Option ℕ)
    → ((n : ℕ) → Early b i (build r n)) → Early b i (dimension_of place build r n).value
dimension_early b i place build r None k = tt
dimension_early b i place build r (Some n) k = k n

array_early : (b i : ℕ) (place : Place) (build : Y.Reference → ℕ → Y.Number)
    → ((r : Y.Reference) (n : ℕ) → EarlyReference b i r → Early b i (build r n)) → (r : Referent) (n : Option ℤ)
    → EarlyReferent b i r → Early b i (of_array place build r n).value
array_early b i place build k (Designates d) n h =
    dimension_early b i place build d.reference (constant_within d.dimensions n) (λ m. k d.reference m h)
array_early b i place build k (Gives v) n h = tt
array_early b i place build k GivesUnknown n h = tt
array_early b i place build k GivesEmptyArea n h = tt
array_early b i place build k GivesNothing n h = tt
array_early b i place build k NotKnown n h =
    dimension_early b i place (λ r m. Y.NumberConstant 0) no_reference (constant_within most_dimensions n) (λ m. tt)

dimensions_early : (b i : ℕ) (place : Place) (build : Y.Reference → ℕ → Y.Number)
    → ((r : Y.Reference) (n : ℕ) → EarlyReference b i r → Early b i (build r n)) → (os : List Operand)
    → AllEarly b i os → Early b i (of_dimension place build os).value
dimensions_early b i place build k [] h = tt
dimensions_early b i place build k (x ∷ []) h = tt
dimensions_early b i place build k (x ∷ y ∷ []) h = array_early b i place build k x.referent y.constant h.0
dimensions_early b i place build k (x ∷ y ∷ z ∷ more) h = tt

allocations_early : (b i : ℕ) (place : Place) (r : Referent) → Early b i (allocations_of place r).value
allocations_early b i place (Designates d) = by d.is_whole (is_controlled (variable_of d.reference).class) where
  by : (x y : Bool)
      → Early b i (if x && y then fine (Y.AllocationsOf (variable_of d.reference)) else bad_number place).value
  by true true = tt
  by true false = tt
  by false y = tt
allocations_early b i place (Gives v) = tt
allocations_early b i place GivesUnknown = tt
allocations_early b i place GivesEmptyArea = tt
allocations_early b i place GivesNothing = tt
allocations_early b i place NotKnown = tt

controlled_early : (b i : ℕ) (place : Place) (os : List Operand) → Early b i (of_controlled place os).value
controlled_early b i place [] = tt
controlled_early b i place (x ∷ []) = allocations_early b i place x.referent
controlled_early b i place (x ∷ y ∷ more) = tt

address_early : (b i : ℕ) (place : Place) (r : Referent) → EarlyReferent b i r
    → EarlyPointer b i (address_of place r).value
address_early b i place (Designates d) h =
    by d.is_whole (has_name (variable_of d.reference).class) (is_area d) where
      by : (x y z : Bool)
          → EarlyPointer b i (if x && y && not z then fine (Y.AddressOf d.reference) else bad_pointer place).value
      by true true false = h
      by true true true = tt
      by true false z = tt
      by false y z = tt
address_early b i place (Gives v) h = tt
address_early b i place GivesUnknown h = tt
address_early b i place GivesEmptyArea h = tt
address_early b i place GivesNothing h = tt
address_early b i place NotKnown h = tt

addr_early : (b i : ℕ) (place : Place) (os : List Operand) → AllEarly b i os → EarlyPointer b i (address place os).value
addr_early b i place [] h = tt
addr_early b i place (x ∷ []) h = address_early b i place x.referent h.0
addr_early b i place (x ∷ y ∷ more) h = tt

-- ---- locators

own_offset_early : (b i : ℕ) (v : Y.Value) → EarlyValue b i v → HoldsIf (EarlyOffset b i) (own_offset v)
own_offset_early b i (Y.OffsetValue area o) h = h
own_offset_early b i _ h = tt

into_early : (b i : ℕ) → 1 ≤ b → (place : Place) (os : List Operand) → AllEarly b i os
    → EarlyPointer b i (pointer_into place os).value
into_early b i s place [] h = tt
into_early b i s place (o ∷ []) h = tt
into_early b i s place (o ∷ a ∷ []) h = (
  wanted_early b i (EarlyOffset b i) own_offset Y.NullOffset o.place (operand_value o).value tt (own_offset_early b i)
      (operand_early b i o h.0),
  area_operand_early b i s a h.1.0,
)
into_early b i s place (o ∷ a ∷ c ∷ more) h = tt

offset_early : (b i : ℕ) → 1 ≤ b → (place : Place) (os : List Operand) → AllEarly b i os
    → AreAllowed b i (offset_into place os).mentions → EarlyReferent b i (offset_into place os).value
offset_early b i s place [] h m = tt
offset_early b i s place (p ∷ []) h m = tt
offset_early b i s place (p ∷ a ∷ []) h m = (
  pointer_operand_early b i p h.0
      (every_first (IsAllowed b i) (pointer_operand p).mentions ((area_operand a).mentions ++ []) m),
  area_operand_early b i s a h.1.0,
)
offset_early b i s place (p ∷ a ∷ c ∷ more) h m = tt

-- ---- all

plain_early : (b i : ℕ) (place : Place) (r : Referent) (os : List Operand) → EarlyReferent b i r
    → EarlyReferent b i (without_arguments place r os).value
plain_early b i place r [] h = h
plain_early b i place r (x ∷ xs) h = h

pub builtin_early : (b i : ℕ) → 1 ≤ b → (place : Place) (word : Word) (os : List Operand) → AllEarly b i os
    → AreAllowed b i (builtin_called place word os).mentions → EarlyReferent b i (builtin_called place word os).value
builtin_early b i s place W.Abs os h m = one_early b i place Y.Absolute (λ n k. k) os h
builtin_early b i s place W.Sign os h m = one_early b i place Y.SignOf (λ n k. k) os h
builtin_early b i s place W.Max os h m = many_early b i place Y.Greatest os h
builtin_early b i s place W.Min os h m = many_early b i place Y.Least os h
builtin_early b i s place W.Mod os h m = two_early b i place Y.Modulo (λ n m k l. (k, l)) os h
builtin_early b i s place W.Divide os h m = quotient_early b i place os h
builtin_early b i s place W.Length os h m = length_early b i place os h
builtin_early b i s place W.Substr os h m = substring_early b i place os h
builtin_early b i s place W.Index os h m = texts_early b i place Y.IndexOf (λ s t k l. (k, l)) os h
builtin_early b i s place W.Verify os h m = texts_early b i place Y.VerifyOf (λ s t k l. (k, l)) os h
builtin_early b i s place W.Lbound os h m = dimensions_early b i place Y.LowerBound (λ r n k. k) os h
builtin_early b i s place W.Hbound os h m = dimensions_early b i place Y.UpperBound (λ r n k. k) os h
builtin_early b i s place W.Dim os h m = dimensions_early b i place Y.ElementsOf (λ r n k. k) os h
builtin_early b i s place W.Allocation os h m = controlled_early b i place os
builtin_early b i s place W.Addr os h m = addr_early b i place os h
builtin_early b i s place W.Null os h m = plain_early b i place (Gives Y.NullValue) os tt
builtin_early b i s place W.Empty os h m = plain_early b i place GivesEmptyArea os tt
builtin_early b i s place W.Pointer os h m = into_early b i s place os h
builtin_early b i s place W.Offset os h m = offset_early b i s place os h m
builtin_early b i s place W.Oncode os h m =
    plain_early b i place (Gives (Y.NumberValue operator_digits Y.OnCode)) os tt
builtin_early b i s place _ os h m = tt
