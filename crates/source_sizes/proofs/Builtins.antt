-- What a built-in function gives takes no more words than its arguments, each with what stands beside it, and 100.
use Rattle.std.proofs.Common.{ℕ, suc, ◌+◌, ◌*◌, ◌≤◌, Bool, true, false, not, ◌&&◌, List, [], ◌∷◌, ◌++◌, Option, Some}
use Rattle.std.proofs.Common.{None, if◌then◌else◌, ℤ, arith}
use Rattle.std.specs.Prelude.{⊤}
use Rattle.pli_language.specs.declared.expr.Place.{Place}
use Rattle.pli_language.specs.declared.token.Word.{Word}
use Rattle.pli_language.specs.declared.token.Word.TheVariants as W
use Rattle.pli_language.specs.Declaring.{most_dimensions}
use Rattle.pli_typing.specs.TypedTree as Y
use Rattle.pli_typing.specs.Judging.{fine}
use Rattle.pli_typing.specs.Converting.{Referent, Designates, Gives, GivesUnknown, GivesEmptyArea, GivesNothing}
use Rattle.pli_typing.specs.Converting.{NotKnown, Operand, operator_digits, is_area, variable_of, no_reference}
use Rattle.pli_typing.specs.Converting.{operand_value, number_operand, text_operand}
use Rattle.pli_typing.specs.Builtins.{bad_number, of_number, of_numbers, number_list, of_many, of_text, of_texts}
use Rattle.pli_typing.specs.Builtins.{substring, constant_within, is_zero, divided, quotient, dimension_of, of_array}
use Rattle.pli_typing.specs.Builtins.{of_dimension, is_controlled, allocations_of, of_controlled, has_name}
use Rattle.pli_typing.specs.Builtins.{bad_pointer, address_of, address, own_offset, pointer_into, offset_into}
use Rattle.pli_typing.specs.Builtins.{without_arguments, builtin_called}
use Rattle.code_sizes.specs.ExpressionSizes.{number_size, numbers_size, text_size, pointer_size, offset_size}
use Rattle.code_sizes.specs.ExpressionSizes.{reference_size, locator_size, named_size, asked_size, subscripts_size}
use Rattle.well_formed_trees.proofs.Lists.{HoldsIf}
use Rattle.source_sizes.specs.Short.{ValueShort, Short}
use Rattle.source_sizes.proofs.Values.{OperandShort, operand_short, wanted_short, number_operand_short}
use Rattle.source_sizes.proofs.Values.{text_operand_short}
use Rattle.source_sizes.proofs.Values.{pointer_operand_short}

-- operands, each with 51 words beside it, in so many words
abbrev pub AllShort : ℕ → List Operand → Type 0
AllShort w [] = ⊤
AllShort w (o ∷ os) = (b : ℕ) × ((rest : ℕ) × (OperandShort b o × (AllShort rest os × (b + 51 + rest ≤ w))))

pub all_more : (w x : ℕ) → w ≤ x → (os : List Operand) → AllShort w os → AllShort x os
all_more w x l [] h = tt
all_more w x l (o ∷ os) h = let most = h.1.1.1.1 in (h.0, (h.1.0, (h.1.1.0, (h.1.1.1.0, omega (arith, most, l)))))

pub both_short : (w x : ℕ) (xs ys : List Operand) → AllShort w xs → AllShort x ys → AllShort (w + x) (xs ++ ys)
both_short w x [] ys h k = all_more x (w + x) (omega arith) ys k
both_short w x (o ∷ os) ys h k =
    let most = h.1.1.1.1 in
    (h.0, (h.1.0 + x, (h.1.1.0, (both_short h.1.0 x os ys h.1.1.1.0 k, omega (arith, most)))))

-- ---- numbers and texts

none_more : (w : ℕ) → 2 ≤ w + 100
none_more w = omega arith

pub numbers_most : (w : ℕ) (os : List Operand) → AllShort w os → numbers_size (number_list os).value ≤ w
numbers_most w [] h = omega arith
numbers_most w (o ∷ os) q =
    let b = q.0 in
    let rest = q.1.0 in
    let h = q.1.1.0 in
    let most = q.1.1.1.1 in
    let more = q.1.1.1.0 in
    let one = number_operand_short b o h in
    let all = numbers_most rest os more in
    omega (arith, one, all, most)

pub subscripts_most : (w : ℕ) (os : List Operand) → AllShort w os → subscripts_size (number_list os).value ≤ w
subscripts_most w [] h = omega arith
subscripts_most w (o ∷ os) q =
    let b = q.0 in
    let rest = q.1.0 in
    let h = q.1.1.0 in
    let most = q.1.1.1.1 in
    let more = q.1.1.1.0 in
    let one = number_operand_short b o h in
    let all = subscripts_most rest os more in
    omega (arith, one, all, most)

one_short : (w : ℕ) (place : Place) (build : Y.Number → Y.Number)
    → ((n : Y.Number) → number_size (build n) ≤ number_size n + 15) → (os : List Operand) → AllShort w os
    → number_size (of_number place build os).value ≤ w + 100
one_short w place build k [] h = none_more w
one_short w place build k (x ∷ []) q =
    let b = q.0 in
    let h = q.1.1.0 in
    let most = q.1.1.1.1 in
    let n = number_operand_short b x h in
    let m = k (number_operand x).value in
    omega (arith, n, m, most)
one_short w place build k (x ∷ y ∷ more) h = none_more w

two_short : (w : ℕ) (place : Place) (build : Y.Number → Y.Number → Y.Number)
    → ((n m : Y.Number) → number_size (build n m) ≤ number_size n + (number_size m + 31)) → (os : List Operand)
    → AllShort w os → number_size (of_numbers place build os).value ≤ w + 100
two_short w place build k [] h = none_more w
two_short w place build k (x ∷ []) h = none_more w
two_short w place build k (x ∷ y ∷ []) q =
    let b = q.0 in
    let h = q.1.1.0 in
    let m = q.1.1.1.1 in
    let c = q.1.1.1.0.0 in
    let i = q.1.1.1.0.1.1.0 in
    let n = q.1.1.1.0.1.1.1.1 in
    let l = number_operand_short b x h in
    let r = number_operand_short c y i in
    let e = k (number_operand x).value (number_operand y).value in
    omega (arith, l, r, e, n, m)
two_short w place build k (x ∷ y ∷ z ∷ more) h = none_more w

many_short : (w : ℕ) (place : Place) (which : Y.Extremum) (os : List Operand) → AllShort w os
    → number_size (of_many place which os).value ≤ w + 100
many_short w place which [] h = none_more w
many_short w place which (x ∷ []) h = none_more w
many_short w place which (x ∷ y ∷ os) q =
    let b = q.0 in
    let rest = q.1.0 in
    let h = q.1.1.0 in
    let most = q.1.1.1.1 in
    let more = q.1.1.1.0 in
    let n = number_operand_short b x h in
    let all = numbers_most rest (y ∷ os) more in
    omega (arith, n, all, most)

length_short : (w : ℕ) (place : Place) (os : List Operand) → AllShort w os
    → number_size (of_text place os).value ≤ w + 100
length_short w place [] h = none_more w
length_short w place (x ∷ []) q =
    let b = q.0 in
    let h = q.1.1.0 in
    let most = q.1.1.1.1 in
    let t = text_operand_short b x h in
    omega (arith, t, most)
length_short w place (x ∷ y ∷ more) h = none_more w

texts_short : (w : ℕ) (place : Place) (build : Y.Text → Y.Text → Y.Number)
    → ((s t : Y.Text) → number_size (build s t) ≤ text_size s + (text_size t + 3)) → (os : List Operand)
    → AllShort w os → number_size (of_texts place build os).value ≤ w + 100
texts_short w place build k [] h = none_more w
texts_short w place build k (x ∷ []) h = none_more w
texts_short w place build k (x ∷ y ∷ []) q =
    let b = q.0 in
    let h = q.1.1.0 in
    let m = q.1.1.1.1 in
    let c = q.1.1.1.0.0 in
    let i = q.1.1.1.0.1.1.0 in
    let n = q.1.1.1.0.1.1.1.1 in
    let l = text_operand_short b x h in
    let r = text_operand_short c y i in
    let e = k (text_operand x).value (text_operand y).value in
    omega (arith, l, r, e, n, m)
texts_short w place build k (x ∷ y ∷ z ∷ more) h = none_more w

substring_short : (w : ℕ) (place : Place) (os : List Operand) → AllShort w os
    → text_size (substring place os).value ≤ w + 100
substring_short w place [] h = omega arith
substring_short w place (s ∷ []) h = omega arith
substring_short w place (s ∷ x ∷ []) q =
    let b = q.0 in
    let h = q.1.1.0 in
    let m = q.1.1.1.1 in
    let c = q.1.1.1.0.0 in
    let i = q.1.1.1.0.1.1.0 in
    let n = q.1.1.1.0.1.1.1.1 in
    let l = text_operand_short b s h in
    let r = number_operand_short c x i in
    omega (arith, l, r, n, m)
substring_short w place (s ∷ x ∷ y ∷ [])
    q =
    let b = q.0 in
    let h = q.1.1.0 in
    let m = q.1.1.1.1 in
    let c = q.1.1.1.0.0 in
    let i = q.1.1.1.0.1.1.0 in
    let n = q.1.1.1.0.1.1.1.1 in
    let d = q.1.1.1.0.1.1.1.0.0 in
    let j = q.1.1.1.0.1.1.1.0.1.1.0 in
    let o = q.1.1.1.0.1.1.1.0.1.1.1.1 in
    let l = text_operand_short b s h in
    let r = number_operand_short c x i in
    let q = number_operand_short d y j in
    omega (arith, l, r, q, n, m, o)
substring_short w place (s ∷ x ∷ y ∷ z ∷ more) h = omega arith

divided_short : (w b c rest last : ℕ) (place : Place) (p : Option ℕ) (x y : Operand) → OperandShort b x
    → OperandShort c y → b + 51 + rest ≤ w → c + 51 + last ≤ rest → number_size (divided place p x y).value ≤ w + 100
divided_short w b c rest last place None x y h k m n = none_more w
divided_short w b c rest last place (Some p) x y h k m n =
    let l = number_operand_short b x h in
    let r = number_operand_short c y k in
    omega (arith, l, r, m, n)

quotient_short : (w : ℕ) (place : Place) (os : List Operand) → AllShort w os
    → number_size (quotient place os).value ≤ w + 100
quotient_short w place [] h = none_more w
quotient_short w place (x ∷ []) h = none_more w
quotient_short w place (x ∷ y ∷ []) h = none_more w
quotient_short w place (x ∷ y ∷ p ∷ []) q =
    let more = q.1.1.1.0 in
    divided_short w q.0 more.0 q.1.0 more.1.0 place (constant_within operator_digits p.constant) x y q.1.1.0
    more.1.1.0 q.1.1.1.1 more.1.1.1.1
quotient_short w place (x ∷ y ∷ p ∷ z ∷ []) q = by (is_zero z.constant)
  where
    by : (b : Bool)
        → number_size
        (if b then divided place (constant_within operator_digits p.constant) x y else bad_number place).value
        ≤ w + 100
    by true =
        let more = q.1.1.1.0 in
        divided_short w q.0 more.0 q.1.0 more.1.0 place (constant_within operator_digits p.constant) x y q.1.1.0
        more.1.1.0 q.1.1.1.1 more.1.1.1.1
    by false = none_more w
quotient_short w place (x ∷ y ∷ p ∷ z ∷ r ∷ more) h = none_more w

-- ---- arguments that aren't evaluated

dimension_short : (w : ℕ) (place : Place) (build : Y.Reference → ℕ → Y.Number) (r : Y.Reference) (n : Option ℕ)
    → ((n : ℕ) → number_size (build r n) ≤ w + 100) → number_size (dimension_of place build r n).value ≤ w + 100
dimension_short w place build r None k = none_more w
dimension_short w place build r (Some n) k = k n

-- what is asked of a reference takes no more than 16 more
asked_most : (r : Y.Reference) → asked_size r ≤ reference_size r + 16
asked_most (Y.Referring v locator part subscripts) = omega arith

pub named_most : (r : Y.Reference) → named_size r ≤ reference_size r
named_most (Y.Referring v locator part subscripts) = omega arith

array_short : (w b : ℕ) (place : Place) (build : Y.Reference → ℕ → Y.Number)
    → ((r : Y.Reference) (n : ℕ) → number_size (build r n) ≤ asked_size r) → (r : Referent)
    (n : Option ℤ) → Short b r → b ≤ w → number_size (of_array place build r n).value ≤ w + 100
array_short w b place build k (Designates d) n h l =
    dimension_short w place build d.reference (constant_within d.dimensions n)
    (λ m. let e = k d.reference m in let a = asked_most d.reference in omega (arith, e, a, h, l))
array_short w b place build k (Gives v) n h l = none_more w
array_short w b place build k GivesUnknown n h l = none_more w
array_short w b place build k GivesEmptyArea n h l = none_more w
array_short w b place build k GivesNothing n h l = none_more w
array_short w b place build k NotKnown n h l =
    dimension_short w place (λ r m. Y.NumberConstant 0) no_reference (constant_within most_dimensions n)
    (λ m. none_more w)

dimensions_short : (w : ℕ) (place : Place) (build : Y.Reference → ℕ → Y.Number)
    → ((r : Y.Reference) (n : ℕ) → number_size (build r n) ≤ asked_size r) → (os : List Operand)
    → AllShort w os → number_size (of_dimension place build os).value ≤ w + 100
dimensions_short w place build k [] h = none_more w
dimensions_short w place build k (x ∷ []) h = none_more w
dimensions_short w place build k (x ∷ y ∷ []) q =
    let b = q.0 in
    let h = q.1.1.0 in
    let most = q.1.1.1.1 in
    array_short w b place build k x.referent y.constant h.1 (omega (arith, most))
dimensions_short w place build k (x ∷ y ∷ z ∷ more) h = none_more w

allocations_short : (w : ℕ) (place : Place) (r : Referent) → number_size (allocations_of place r).value ≤ w + 100
allocations_short w place (Designates d) = by d.is_whole (is_controlled (variable_of d.reference).class) where
  by : (x y : Bool) → number_size
      (if x && y then fine (Y.AllocationsOf (variable_of d.reference)) else bad_number place).value ≤ w + 100
  by true true = omega arith
  by true false = none_more w
  by false y = none_more w
allocations_short w place (Gives v) = none_more w
allocations_short w place GivesUnknown = none_more w
allocations_short w place GivesEmptyArea = none_more w
allocations_short w place GivesNothing = none_more w
allocations_short w place NotKnown = none_more w

controlled_short : (w : ℕ) (place : Place) (os : List Operand) → number_size (of_controlled place os).value ≤ w + 100
controlled_short w place [] = none_more w
controlled_short w place (x ∷ []) = allocations_short w place x.referent
controlled_short w place (x ∷ y ∷ more) = none_more w

address_short : (w b : ℕ) (place : Place) (r : Referent) → Short b r → b ≤ w
    → pointer_size (address_of place r).value ≤ w + 100
address_short w b place (Designates d) h l =
    by d.is_whole (has_name (variable_of d.reference).class) (is_area d) where
      by : (x y z : Bool) → pointer_size
          (if x && y && not z then fine (Y.AddressOf d.reference) else bad_pointer place).value ≤ w + 100
      by true true false = let n = named_most d.reference in omega (arith, n, h, l)
      by true true true = omega arith
      by true false z = omega arith
      by false y z = omega arith
address_short w b place (Gives v) h l = omega arith
address_short w b place GivesUnknown h l = omega arith
address_short w b place GivesEmptyArea h l = omega arith
address_short w b place GivesNothing h l = omega arith
address_short w b place NotKnown h l = omega arith

addr_short : (w : ℕ) (place : Place) (os : List Operand) → AllShort w os
    → pointer_size (address place os).value ≤ w + 100
addr_short w place [] h = omega arith
addr_short w place (x ∷ []) q =
    let b = q.0 in
    let h = q.1.1.0 in
    let most = q.1.1.1.1 in
    address_short w b place x.referent h.1 (omega (arith, most))
addr_short w place (x ∷ y ∷ more) h = omega arith

-- ---- locators

own_offset_short : (w : ℕ) (v : Y.Value) → ValueShort w v → HoldsIf (λ o. offset_size o ≤ w + 2) (own_offset v)
own_offset_short w (Y.OffsetValue area o) h = omega (arith, h)
own_offset_short w Y.NullValue h = omega arith
own_offset_short w _ h = tt

into_short : (w : ℕ) (place : Place) (os : List Operand) → AllShort w os
    → pointer_size (pointer_into place os).value ≤ w + 100
into_short w place [] h = omega arith
into_short w place (o ∷ []) h = omega arith
into_short w place (o ∷ a ∷ []) q =
    let b = q.0 in
    let h = q.1.1.0 in
    let most = q.1.1.1.1 in
    let x = wanted_short b (λ o. offset_size o ≤ b + 2) own_offset Y.NullOffset o.place (operand_value o).value
    (omega arith) (own_offset_short b) (operand_short b o h) in
    omega (arith, x, most)
into_short w place (o ∷ a ∷ c ∷ more) h = omega arith

offset_into_short : (w : ℕ) (place : Place) (os : List Operand) → AllShort w os
    → Short (w + 100) (offset_into place os).value
offset_into_short w place [] h = omega arith
offset_into_short w place (p ∷ []) h = omega arith
offset_into_short w place (p ∷ a ∷ []) q =
    let b = q.0 in
    let h = q.1.1.0 in
    let most = q.1.1.1.1 in
    let x = pointer_operand_short b p h in
    omega (arith, x, most)
offset_into_short w place (p ∷ a ∷ c ∷ more) h = omega arith

-- ---- all

plain_short : (w : ℕ) (place : Place) (r : Referent) (os : List Operand) → Short w r
    → Short w (without_arguments place r os).value
plain_short w place r [] h = h
plain_short w place r (x ∷ xs) h = h

pub builtin_short : (w : ℕ) (place : Place) (word : Word) (os : List Operand) → AllShort w os
    → Short (w + 100) (builtin_called place word os).value
builtin_short w place W.Abs os h = one_short w place Y.Absolute (λ n. omega arith) os h
builtin_short w place W.Sign os h = one_short w place Y.SignOf (λ n. omega arith) os h
builtin_short w place W.Max os h = many_short w place Y.Greatest os h
builtin_short w place W.Min os h = many_short w place Y.Least os h
builtin_short w place W.Mod os h = two_short w place Y.Modulo (λ n m. omega arith) os h
builtin_short w place W.Divide os h = quotient_short w place os h
builtin_short w place W.Length os h = length_short w place os h
builtin_short w place W.Substr os h = substring_short w place os h
builtin_short w place W.Index os h = texts_short w place Y.IndexOf (λ s t. omega arith) os h
builtin_short w place W.Verify os h = texts_short w place Y.VerifyOf (λ s t. omega arith) os h
builtin_short w place W.Lbound os h = dimensions_short w place Y.LowerBound (λ r n. omega arith) os h
builtin_short w place W.Hbound os h = dimensions_short w place Y.UpperBound (λ r n. omega arith) os h
builtin_short w place W.Dim os h = dimensions_short w place Y.ElementsOf (λ r n. omega arith) os h
builtin_short w place W.Allocation os h = controlled_short w place os
builtin_short w place W.Addr os h = addr_short w place os h
builtin_short w place W.Null os h = plain_short (w + 100) place (Gives Y.NullValue) os tt
builtin_short w place W.Empty os h = plain_short (w + 100) place GivesEmptyArea os tt
builtin_short w place W.Pointer os h = into_short w place os h
builtin_short w place W.Offset os h = offset_into_short w place os h
builtin_short w place W.Oncode os h =
    plain_short (w + 100) place (Gives (Y.NumberValue operator_digits Y.OnCode)) os (none_more w)
builtin_short w place _ os h = tt
